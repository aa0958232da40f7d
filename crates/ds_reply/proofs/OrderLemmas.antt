-- Places in the order of their names: one more is put where its name stands.
use Rattle.std.proofs.Common.{◌≡◌, ℕ, zero, suc, ◌+◌, ◌-◌, ◌<◌, ◌≤◌, List, [], ◌∷◌, ◌++◌, length, take, drop, get_or, set, map, insert}
use Rattle.std.proofs.Common.{refl, sym, ap, ◌∙◌, subst, arith, inl, inr, ◌⊎◌}
use Rattle.std.specs.List.{refill}
use Rattle.std.specs.declared.cmp.Ordering.{Ordering}
use Rattle.std.specs.declared.cmp.Ordering.TheVariants.{Less, Equal, Greater}
use Rattle.std.specs.Ordering.{nat_cmp, ordering_reverse}
use Rattle.std.specs.Cmp.Lexicographic.{slice_cmp, nat_list_cmp_total}
use Rattle.std.proofs.Math.ListN.{get_or-map}
use Rattle.std.proofs.lemmas.Bool.{cases_lt}
use Rattle.std.proofs.lemmas.List.{get_or-map as get_or-map-within, drop_all, take_all, append-nil, take_more, get_or-set_same}
use Rattle.std.proofs.lemmas.List.{get_or-set_other, length-set, length-map}
use Rattle.std.proofs.lemmas.List.Edits.{get_or-insert_at, get_or-insert_below, get_or-insert_above, length-insert}
use Rattle.std.proofs.lemmas.Map.Lookups.{exact_bytes}
use Rattle.serde_json.specs.Data.{Data, null, Members, no_members, member, put}
use Rattle.ds_json_printing.specs.Objects.{Named, named, put_each, by_name}
use Rattle.ds_reply.specs.Orders.{members_at, name_at, IsBefore, OrdersByName}

abbrev pub C : List ℕ → List ℕ → Ordering
C = slice_cmp nat_cmp

pub IsBefore-trans : (k l m : List ℕ) → IsBefore k l → IsBefore l m → IsBefore k m
IsBefore-trans k l m a b = nat_list_cmp_total.trans k l m a b

-- a name that stands before the other is less, and the other greater
pub behind : (n l : List ℕ) → IsBefore l n → C n l ≡ Greater
behind n l h = nat_list_cmp_total.antisymm n l ∙ ap ordering_reverse h

pub turned : (n l : List ℕ) → C l n ≡ Greater → IsBefore n l
turned n l h = nat_list_cmp_total.antisymm n l ∙ ap ordering_reverse h

-- the name of a thing at its place
pub named-at : {X : Type 0} (text : X → List ℕ) (items : List X) (p : ℕ) (x : X) → p < length items → x ≡ get_or items p x
    → get_or (map text items) p [] ≡ text x
named-at text items p x lt is = get_or-map-within text items p x [] lt ∙ ap text (sym is)

own-reverse : (o : Ordering) → o ≡ ordering_reverse o → o ≡ Equal
own-reverse Less e = cc
own-reverse Equal e = refl
own-reverse Greater e = cc

pub C-self : (n : List ℕ) → C n n ≡ Equal
C-self n = own-reverse (C n n) (nat_list_cmp_total.antisymm n n)

same-reverse : (n l : List ℕ) → C l n ≡ Equal → C n l ≡ Equal
same-reverse n l h = nat_list_cmp_total.antisymm n l ∙ ap ordering_reverse h

-- ---- members at places, with one more put among them

abbrev pub at_place : List Named → ℕ → Named
at_place ms p = get_or ms p (named [] null)

pub members_at-insert : (ms : List Named) (i : ℕ) (ps : List ℕ) (at : ℕ) → at ≤ length ps
    → ((k : ℕ) → k < at → IsBefore (at_place ms (get_or ps k 0)).name (at_place ms i).name)
    → (at < length ps → IsBefore (at_place ms i).name (at_place ms (get_or ps at 0)).name)
    → members_at ms (take at ps ++ i ∷ drop at ps) ≡ put (at_place ms i).name (at_place ms i).shown (members_at ms ps)
members_at-insert ms i [] zero le lower upper = refl
members_at-insert ms i [] (suc at) le lower upper = absurd (omega arith)
members_at-insert ms i (p ∷ ps) zero le lower upper =
    let less : C (at_place ms i).name (at_place ms p).name ≡ Less = upper (omega arith) in
    rw less refl
members_at-insert ms i (p ∷ ps) (suc at) le lower upper =
    let greater : C (at_place ms i).name (at_place ms p).name ≡ Greater = behind (at_place ms i).name (at_place ms p).name (lower 0 (omega arith)) in
    let rest = members_at-insert ms i ps at (omega arith) (λ k lt. lower (suc k) (omega arith)) (λ lt. upper (omega arith)) in
    rw greater (ap (λ (r : Members). member (at_place ms p).name (at_place ms p).shown r) rest)

pub members_at-set : (ms : List Named) (i : ℕ) (ps : List ℕ) (at : ℕ) → at < length ps
    → ((k : ℕ) → k < at → IsBefore (at_place ms (get_or ps k 0)).name (at_place ms i).name)
    → C (at_place ms (get_or ps at 0)).name (at_place ms i).name ≡ Equal
    → members_at ms (set ps at i) ≡ put (at_place ms i).name (at_place ms i).shown (members_at ms ps)
members_at-set ms i [] at lt lower same = absurd (omega arith)
members_at-set ms i (p ∷ ps) zero lt lower same =
    let equal : C (at_place ms i).name (at_place ms p).name ≡ Equal = same-reverse (at_place ms i).name (at_place ms p).name same in
    let name : (at_place ms i).name ≡ (at_place ms p).name = exact_bytes (at_place ms i).name (at_place ms p).name equal in
    rw equal (ap (λ (n : List ℕ). member n (at_place ms i).shown (members_at ms ps)) name)
members_at-set ms i (p ∷ ps) (suc at) lt lower same =
    let greater : C (at_place ms i).name (at_place ms p).name ≡ Greater = behind (at_place ms i).name (at_place ms p).name (lower 0 (omega arith)) in
    let rest = members_at-set ms i ps at (omega arith) (λ k l. lower (suc k) (omega arith)) same in
    rw greater (ap (λ (r : Members). member (at_place ms p).name (at_place ms p).shown r) rest)

-- ---- one more is put by its name

put_each-append : (ns ms : List Named) (rest : Members) → put_each (ns ++ ms) rest ≡ put_each ms (put_each ns rest)
put_each-append [] ms rest = refl
put_each-append (n ∷ ns) ms rest = put_each-append ns ms (put n.name n.shown rest)

pub by_name-more : (ms : List Named) (i : ℕ) → i < length ms → by_name (take (i + 1) ms) ≡ put (at_place ms i).name (at_place ms i).shown (by_name (take i ms))
by_name-more ms i lt = rw (take_more ms i (named [] null) lt) (put_each-append (take i ms) (at_place ms i ∷ []) no_members)

name-is : (ms : List Named) (ns : List (List ℕ)) (p : ℕ) → map (λ (m : Named). m.name) ms ≡ ns → (at_place ms p).name ≡ get_or ns p []
name-is ms ns p e = sym (get_or-map (λ (m : Named). m.name) ms p (named [] null)) ∙ ap (λ (l : List (List ℕ)). get_or l p []) e

name-before : (ms : List Named) (ns : List (List ℕ)) (p q : ℕ) → map (λ (m : Named). m.name) ms ≡ ns → IsBefore (get_or ns p []) (get_or ns q [])
    → IsBefore (at_place ms p).name (at_place ms q).name
name-before ms ns p q e h = rw (name-is ms ns p e, name-is ms ns q e) h

names-length : (ms : List Named) (ns : List (List ℕ)) → map (λ (m : Named). m.name) ms ≡ ns → length ms ≡ length ns
names-length ms ns e = sym (length-map ms (λ (m : Named). m.name)) ∙ ap (λ (l : List (List ℕ)). length l) e

-- ---- the places with one more

-- what stands at a place of a list with one more
record Below (ps : List ℕ) (at i k : ℕ) : Type 0 where
  pub lt : k < at
  pub is : get_or (insert ps at i) k 0 ≡ get_or ps k 0

record There (ps : List ℕ) (at i k : ℕ) : Type 0 where
  pub same : k ≡ at
  pub is : get_or (insert ps at i) k 0 ≡ i

record Above (ps : List ℕ) (at i k : ℕ) : Type 0 where
  pub j : ℕ
  pub le : at ≤ j
  pub within : j < length ps
  pub next : k ≡ j + 1
  pub is : get_or (insert ps at i) k 0 ≡ get_or ps j 0

seen : (ps : List ℕ) (at i k : ℕ) → at ≤ length ps → k < length ps + 1 → Below ps at i k ⊎ (There ps at i k ⊎ Above ps at i k)
seen ps at i k le lt = elim (cases_lt k at) [
  | inl b ↦ inl (record { lt = b; is = get_or-insert_below ps at i 0 k b le })
  | inr ge ↦ elim (cases_lt at k) [
    | inl a ↦ inr (inr (above a))
    | inr same ↦ inr (inl (there (omega arith)))
  ]
] where
  there : k ≡ at → There ps at i k
  there e = record { same = e; is = subst (λ (x : ℕ). get_or (insert ps at i) x 0 ≡ i) (sym e) (get_or-insert_at ps at i 0 le) }

  above : at < k → Above ps at i k
  above a =
      let e : k ≡ (k - 1) + 1 = omega arith in
      let b : at ≤ k - 1 = omega arith in
      record {
        j = k - 1;
        le = b;
        within = omega arith;
        next = e;
        is = subst (λ (x : ℕ). get_or (insert ps at i) x 0 ≡ get_or ps (k - 1) 0) (sym e) (get_or-insert_above ps at i 0 (k - 1) b le);
      }

module _ (ns : List (List ℕ)) (i : ℕ) (ps : List ℕ) (at : ℕ) (lt : i < length ns) (old : OrdersByName ns i ps) where
  lower : at ≤ length ps → (0 < at → IsBefore (name_at ns ps (at - 1)) (get_or ns i [])) → (k : ℕ) → k < at → IsBefore (name_at ns ps k) (get_or ns i [])
  lower le first k b = elim (cases_lt k (at - 1)) [
    | inl less ↦ IsBefore-trans (name_at ns ps k) (name_at ns ps (at - 1)) (get_or ns i []) (old.ascend k (at - 1) less (omega arith)) (first (omega arith))
    | inr ge ↦ last (omega arith)
  ] where
    last : at - 1 ≡ k → IsBefore (name_at ns ps k) (get_or ns i [])
    last e = subst (λ (x : ℕ). IsBefore (name_at ns ps x) (get_or ns i [])) e (first (omega arith))

  upper : (at < length ps → IsBefore (get_or ns i []) (name_at ns ps at)) → (k : ℕ) → at ≤ k → k < length ps → IsBefore (get_or ns i []) (name_at ns ps k)
  upper next k le within = elim (cases_lt at k) [
    | inl less ↦ IsBefore-trans (get_or ns i []) (name_at ns ps at) (name_at ns ps k) (next (omega arith)) (old.ascend at k less within)
    | inr ge ↦ first (omega arith)
  ] where
    first : at ≡ k → IsBefore (get_or ns i []) (name_at ns ps k)
    first e = subst (λ (x : ℕ). IsBefore (get_or ns i []) (name_at ns ps x)) e (next (omega arith))

  pub ordered-insert : at ≤ length ps → (0 < at → IsBefore (name_at ns ps (at - 1)) (get_or ns i [])) → (at < length ps → IsBefore (get_or ns i []) (name_at ns ps at))
      → OrdersByName ns (i + 1) (insert ps at i)
  ordered-insert le first next = record {
    few = omega (arith, new, old.few);
    below = λ k b. below k (omega (arith, new));
    ascend = λ j k b within. ascend j k b (omega (arith, new));
    written = λ ms e.
        let whole = members_at-insert ms i ps at le (λ k b. name-before ms ns (get_or ps k 0) i e (low k b)) (λ b. name-before ms ns i (get_or ps at 0) e (next b)) in
        let more = by_name-more ms i (omega (arith, names-length ms ns e)) in
        whole ∙ ap (λ (r : Members). put (at_place ms i).name (at_place ms i).shown r) (old.written ms e) ∙ sym more;
  } where
    new : length (insert ps at i) ≡ length ps + 1
    new = length-insert ps at i le

    low : (k : ℕ) → k < at → IsBefore (name_at ns ps k) (get_or ns i [])
    low = lower le first

    high : (k : ℕ) → at ≤ k → k < length ps → IsBefore (get_or ns i []) (name_at ns ps k)
    high = upper next

    below : (k : ℕ) → k < length ps + 1 → get_or (insert ps at i) k 0 < i + 1
    below k b = elim (seen ps at i k le b) [
      | inl s ↦ omega (arith, s.is, old.below k (omega (arith, s.lt)))
      | inr r ↦ elim r [
        | inl s ↦ omega (arith, s.is)
        | inr s ↦ omega (arith, s.is, old.below s.j s.within)
      ]
    ]

    names : (j k x y : ℕ) → get_or (insert ps at i) j 0 ≡ x → get_or (insert ps at i) k 0 ≡ y → IsBefore (get_or ns x []) (get_or ns y [])
        → IsBefore (name_at ns (insert ps at i) j) (name_at ns (insert ps at i) k)
    names j k x y e f h = subst (λ (p : ℕ). IsBefore (get_or ns p []) (name_at ns (insert ps at i) k)) (sym e) (subst (λ (q : ℕ). IsBefore (get_or ns x []) (get_or ns q [])) (sym f) h)

    ascend : (j k : ℕ) → j < k → k < length ps + 1 → IsBefore (name_at ns (insert ps at i) j) (name_at ns (insert ps at i) k)
    ascend j k b within = elim (seen ps at i j le (omega arith)) [
      | inl s ↦ elim (seen ps at i k le within) [
        | inl t ↦ names j k (get_or ps j 0) (get_or ps k 0) s.is t.is (old.ascend j k b (omega (arith, t.lt)))
        | inr r ↦ elim r [
          | inl t ↦ names j k (get_or ps j 0) i s.is t.is (low j s.lt)
          | inr t ↦ names j k (get_or ps j 0) (get_or ps t.j 0) s.is t.is (old.ascend j t.j (omega (arith, s.lt, t.le)) t.within)
        ]
      ]
      | inr q ↦ elim (seen ps at i k le within) [
        | inl t ↦ absurd (after q t)
        | inr r ↦ elim r [
          | inl t ↦ absurd (beyond q t)
          | inr t ↦ elim q [
            | inl s ↦ names j k i (get_or ps t.j 0) s.is t.is (high t.j t.le t.within)
            | inr s ↦ names j k (get_or ps s.j 0) (get_or ps t.j 0) s.is t.is (old.ascend s.j t.j (omega (arith, s.next, t.next)) t.within)
          ]
        ]
      ]
    ] where
      after : There ps at i j ⊎ Above ps at i j → Below ps at i k → ⊥
      after (inl s) t = omega (arith, s.same, t.lt)
      after (inr s) t = omega (arith, s.next, s.le, t.lt)

      beyond : There ps at i j ⊎ Above ps at i j → There ps at i k → ⊥
      beyond (inl s) t = omega (arith, s.same, t.same)
      beyond (inr s) t = omega (arith, s.next, s.le, t.same)

  pub ordered-set : at < length ps → C (name_at ns ps at) (get_or ns i []) ≡ Equal → OrdersByName ns (i + 1) (set ps at i)
  ordered-set b equal = record {
    few = omega (arith, old.few, length-set {A = ℕ});
    below = λ k within. below k (omega (arith, length-set {A = ℕ}));
    ascend = λ j k less within.
        let l : k < length ps = omega (arith, length-set {A = ℕ}) in
        subst (λ (n : List ℕ). IsBefore n (name_at ns (set ps at i) k)) (sym (name j (omega arith))) (subst (λ (n : List ℕ). IsBefore (name_at ns ps j) n) (sym (name k l)) (old.ascend j k less l));
    written = λ ms e.
        let whole = members_at-set ms i ps at b (λ k less. name-before ms ns (get_or ps k 0) i e (low k less)) (rw (name-is ms ns (get_or ps at 0) e, name-is ms ns i e) equal) in
        let more = by_name-more ms i (omega (arith, names-length ms ns e)) in
        whole ∙ ap (λ (r : Members). put (at_place ms i).name (at_place ms i).shown r) (old.written ms e) ∙ sym more;
  } where
    same : name_at ns ps at ≡ get_or ns i []
    same = exact_bytes (name_at ns ps at) (get_or ns i []) equal

    name : (k : ℕ) → k < length ps → name_at ns (set ps at i) k ≡ name_at ns ps k
    name k within = elim (cases_lt k at) [
      | inl less ↦ ap (λ (p : ℕ). get_or ns p []) (get_or-set_other ps at k i 0 (λ e. omega arith))
      | inr ge ↦ elim (cases_lt at k) [
        | inl more ↦ ap (λ (p : ℕ). get_or ns p []) (get_or-set_other ps at k i 0 (λ e. omega arith))
        | inr le ↦ there (omega arith)
      ]
    ] where
      there : at ≡ k → name_at ns (set ps at i) k ≡ name_at ns ps k
      there e = subst (λ (x : ℕ). name_at ns (set ps at i) x ≡ name_at ns ps x) e (ap (λ (p : ℕ). get_or ns p []) (get_or-set_same ps at i 0 b) ∙ sym same)

    below : (k : ℕ) → k < length ps → get_or (set ps at i) k 0 < i + 1
    below k within = elim (cases_lt k at) [
      | inl less ↦ omega (arith, get_or-set_other ps at k i 0 (λ e. omega arith), old.below k within)
      | inr ge ↦ elim (cases_lt at k) [
        | inl more ↦ omega (arith, get_or-set_other ps at k i 0 (λ e. omega arith), old.below k within)
        | inr le ↦ there (omega arith)
      ]
    ] where
      there : at ≡ k → get_or (set ps at i) k 0 < i + 1
      there e = subst (λ (x : ℕ). get_or (set ps at i) x 0 < i + 1) e (omega (arith, get_or-set_same ps at i 0 b))

    low : (k : ℕ) → k < at → IsBefore (name_at ns ps k) (get_or ns i [])
    low k less = subst (λ (n : List ℕ). IsBefore (name_at ns ps k) n) same (old.ascend k at less b)

-- a list filled up with as many elements
pub refill-whole : (xs ws : List ℕ) → length ws ≡ length xs → refill (length xs) xs ws ≡ ws
refill-whole xs ws e =
    let none : drop (length ws) xs ≡ [] = drop_all (length ws) xs (omega arith) in
    rw (none, append-nil) (take_all (length xs) ws (omega arith))
