-- Items come out in one order, whatever order they stood in before, where only equal items tie.
use Rattle.std.proofs.Common.{◌≡◌, List, [], ◌∷◌, ◌++◌, refl, ap, sym, ◌∙◌, Bool, true, false, append_assoc, append-nil}
use Rattle.std.specs.Prelude.{fold, flat_map}
use Rattle.std.specs.Cmp.{IsTotalOrder, upto}
use Rattle.std.specs.List.{AllByRecursion}
use Rattle.std.specs.declared.cmp.Ordering.{Ordering}
use Rattle.std.specs.declared.cmp.Ordering.TheVariants.{Less, Equal, Greater}
use Rattle.std.specs.Ordering.{is_gt, ordering_reverse, match_ordering}
use Rattle.std.proofs.lemmas.Bool.{true≢false}
use Rattle.std.proofs.lemmas.List.Sums.{fold-append}
use Rattle.ds_base.specs.Sorting.{insert_by, sorted_by}

module _ {X : Type 0} {R : X → X → Ordering} (o : IsTotalOrder R) where
  -- ---- one item

  front : (d : X) (ds : List X) (x : X) → is_gt (R x d) ≡ false → insert_by R (d ∷ ds) x ≡ x ∷ d ∷ ds
  front d ds x below = by (R x d) below where
    by : (r : Ordering) → is_gt r ≡ false → match_ordering r (x ∷ d ∷ ds) (x ∷ d ∷ ds) (d ∷ insert_by R ds x) ≡ x ∷ d ∷ ds
    by Less below = refl
    by Equal below = refl
    by Greater below = absurd (true≢false below)

  behind : (d : X) (ds : List X) (x : X) → is_gt (R x d) ≡ true → insert_by R (d ∷ ds) x ≡ d ∷ insert_by R ds x
  behind d ds x above = by (R x d) above where
    by : (r : Ordering) → is_gt r ≡ true → match_ordering r (x ∷ d ∷ ds) (x ∷ d ∷ ds) (d ∷ insert_by R ds x) ≡ d ∷ insert_by R ds x
    by Less above = absurd (true≢false (sym above))
    by Equal above = absurd (true≢false (sym above))
    by Greater above = refl

  -- x isn't behind d, and y is: then y is behind x
  crossed : (d x y : X) → is_gt (R x d) ≡ false → is_gt (R y d) ≡ true → is_gt (R y x) ≡ true
  crossed d x y below above = by (is_gt (R y x)) refl where
    by : (b : Bool) → is_gt (R y x) ≡ b → b ≡ true
    by true is = refl
    by false is = absurd (true≢false (sym above ∙ upto o y x d is below))

  -- two that stand in front of all
  both : (zs : List X) (x y : X) → (R x y ≡ Equal → x ≡ y) → insert_by R zs x ≡ x ∷ zs → insert_by R zs y ≡ y ∷ zs
      → insert_by R (x ∷ zs) y ≡ insert_by R (y ∷ zs) x
  both zs x y tie at_x at_y = by (R x y) refl where
    turned : R y x ≡ ordering_reverse (R x y)
    turned = o.antisymm y x

    by : (r : Ordering) → R x y ≡ r → insert_by R (x ∷ zs) y ≡ insert_by R (y ∷ zs) x
    by Less is = behind x zs y (ap is_gt (turned ∙ ap ordering_reverse is)) ∙ ap (λ ws. x ∷ ws) at_y ∙ sym (front y zs x (ap is_gt is))
    by Equal is =
        front x zs y (ap is_gt (turned ∙ ap ordering_reverse is)) ∙ ap (λ z. y ∷ z ∷ zs) (tie is)
        ∙ ap (λ z. z ∷ y ∷ zs) (sym (tie is)) ∙ sym (front y zs x (ap is_gt is))
    by Greater is =
        front x zs y (ap is_gt (turned ∙ ap ordering_reverse is)) ∙ ap (λ ws. y ∷ ws) (sym at_x) ∙ sym (behind y zs x (ap is_gt is))

  pub inserts_swapped : (done : List X) (x y : X) → (R x y ≡ Equal → x ≡ y)
      → insert_by R (insert_by R done x) y ≡ insert_by R (insert_by R done y) x
  inserts_swapped [] x y tie = both [] x y tie refl refl
  inserts_swapped (d ∷ ds) x y tie = by (inserts_swapped ds x y tie) (is_gt (R x d)) refl (is_gt (R y d)) refl where
    by : insert_by R (insert_by R ds x) y ≡ insert_by R (insert_by R ds y) x → (a : Bool) → is_gt (R x d) ≡ a → (b : Bool)
        → is_gt (R y d) ≡ b
        → insert_by R (insert_by R (d ∷ ds) x) y ≡ insert_by R (insert_by R (d ∷ ds) y) x
    by later false ex false ey =
        ap (λ zs. insert_by R zs y) (front d ds x ex) ∙ both (d ∷ ds) x y tie (front d ds x ex) (front d ds y ey)
        ∙ ap (λ zs. insert_by R zs x) (sym (front d ds y ey))
    by later false ex true ey =
        ap (λ zs. insert_by R zs y) (front d ds x ex) ∙ behind x (d ∷ ds) y (crossed d x y ex ey) ∙ ap (λ zs. x ∷ zs) (behind d ds y ey)
        ∙ sym (ap (λ zs. insert_by R zs x) (behind d ds y ey) ∙ front d (insert_by R ds y) x ex)
    by later true ex false ey =
        ap (λ zs. insert_by R zs y) (behind d ds x ex) ∙ front d (insert_by R ds x) y ey
        ∙ sym (ap (λ zs. insert_by R zs x) (front d ds y ey) ∙ behind y (d ∷ ds) x (crossed d y x ey ex) ∙ ap (λ zs. y ∷ zs)
        (behind d ds x ex))
    by later true ex true ey =
        ap (λ zs. insert_by R zs y) (behind d ds x ex) ∙ behind d (insert_by R ds x) y ey ∙ ap (λ zs. d ∷ zs) later
        ∙ sym (ap (λ zs. insert_by R zs x) (behind d ds y ey) ∙ behind d (insert_by R ds y) x ex)

  -- ---- lists, of items of which only equal ones tie

  module _ (P : X → Type 0) (tie : (x y : X) → P x → P y → R x y ≡ Equal → x ≡ y) where
    abbrev put : List X → List X → List X
    put done xs = fold (insert_by R) done xs

    last_first : (done ys : List X) (x : X) → P x → AllByRecursion P ys → put (insert_by R done x) ys ≡ insert_by R (put done ys) x
    last_first done [] x p all = refl
    last_first done (y ∷ ys) x p all =
        ap (λ d. put d ys) (inserts_swapped done x y (tie x y p all.0)) ∙ last_first (insert_by R done y) ys x p all.1

    -- two lists can be put in either order
    pub put-turned : (done xs ys : List X) → AllByRecursion P xs → AllByRecursion P ys → put done (xs ++ ys) ≡ put done (ys ++ xs)
    put-turned done [] ys p q = ap (put done) (sym (append-nil ys))
    put-turned done (x ∷ xs) ys p q =
        put-turned (insert_by R done x) xs ys p.1 q
        ∙ fold-append (insert_by R) (insert_by R done x) ys xs
        ∙ ap (λ d. put d xs) (last_first done ys x p.0 q)
        ∙ sym (fold-append (insert_by R) done ys (x ∷ xs))

    all_joined : (xs ys : List X) → AllByRecursion P xs → AllByRecursion P ys → AllByRecursion P (xs ++ ys)
    all_joined [] ys p q = q
    all_joined (x ∷ xs) ys p q = (p.0, all_joined xs ys p.1 q)

    -- ---- what items give

    module _ {Y : Type 0} (cmp : Y → Y → Ordering) (f : Y → List X) where
      abbrev pub Gives : Y → Type 0
      Gives e = AllByRecursion P (f e)

      given : (es : List Y) → AllByRecursion Gives es → AllByRecursion P (flat_map f es)
      given [] p = tt
      given (e ∷ es) p = all_joined (f e) (flat_map f es) p.0 (given es p.1)

      given_inserted : (es : List Y) (e : Y) → Gives e → AllByRecursion Gives es → AllByRecursion Gives (insert_by cmp es e)
      given_inserted [] e p q = (p, tt)
      given_inserted (y ∷ ys) e p q = by (given_inserted ys e p q.1) (cmp e y) where
        by : AllByRecursion Gives (insert_by cmp ys e) → (r : Ordering)
            → AllByRecursion Gives (match_ordering r (e ∷ y ∷ ys) (e ∷ y ∷ ys) (y ∷ insert_by cmp ys e))
        by later Less = (p, q)
        by later Equal = (p, q)
        by later Greater = (q.0, later)

      put-inserted : (done : List X) (es : List Y) (e : Y) → Gives e → AllByRecursion Gives es
          → put done (flat_map f (insert_by cmp es e)) ≡ put done (f e ++ flat_map f es)
      put-inserted done [] e p q = refl
      put-inserted done (y ∷ ys) e p q = by (put-inserted (put done (f y)) ys e p q.1) (cmp e y) where
        by : put (put done (f y)) (flat_map f (insert_by cmp ys e)) ≡ put (put done (f y)) (f e ++ flat_map f ys) → (r : Ordering)
            → put done (flat_map f (match_ordering r (e ∷ y ∷ ys) (e ∷ y ∷ ys) (y ∷ insert_by cmp ys e)))
            ≡ put done (f e ++ (f y ++ flat_map f ys))
        by later Less = refl
        by later Equal = refl
        by later Greater =
            fold-append (insert_by R) done (f y) (flat_map f (insert_by cmp ys e)) ∙ later
            ∙ sym (fold-append (insert_by R) done (f y) (f e ++ flat_map f ys))
            ∙ ap (put done) (sym (append_assoc (f y) (f e) (flat_map f ys)))
            ∙ fold-append (insert_by R) done (f y ++ f e) (flat_map f ys)
            ∙ ap (λ d. put d (flat_map f ys)) (put-turned done (f y) (f e) q.0 p)
            ∙ sym (fold-append (insert_by R) done (f e ++ f y) (flat_map f ys))
            ∙ ap (put done) (append_assoc (f e) (f y) (flat_map f ys))

      put-folded : (done : List X) (before es : List Y) → AllByRecursion Gives before → AllByRecursion Gives es
          → put done (flat_map f (fold (insert_by cmp) before es)) ≡ put done (flat_map f before ++ flat_map f es)
      put-folded done before [] p q = ap (put done) (sym (append-nil (flat_map f before)))
      put-folded done before (e ∷ es) p q =
          put-folded done (insert_by cmp before e) es (given_inserted before e q.0 p) q.1
          ∙ fold-append (insert_by R) done (flat_map f (insert_by cmp before e)) (flat_map f es)
          ∙ ap (λ d. put d (flat_map f es))
          (put-inserted done before e q.0 p ∙ put-turned done (f e) (flat_map f before) q.0 (given before p))
          ∙ sym (fold-append (insert_by R) done (flat_map f before ++ f e) (flat_map f es))
          ∙ ap (put done) (append_assoc (flat_map f before) (f e) (flat_map f es))

      -- what items give comes out the same where the items are sorted first, by whatever comparison
      pub put-sorted : (done : List X) (es : List Y) → AllByRecursion Gives es
          → put done (flat_map f (sorted_by cmp es)) ≡ put done (flat_map f es)
      put-sorted done es q = put-folded done [] es tt q
