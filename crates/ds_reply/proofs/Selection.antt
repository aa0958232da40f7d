-- Members put by name, and how the least name that isn't written is the next of them.
use Rattle.std.proofs.Common.{◌≡◌, ℕ, zero, suc, ◌+◌, ◌<◌, ◌≤◌, min, Bool, true, false, cond, List, [], ◌∷◌, ◌++◌, length, take, get_or}
use Rattle.std.proofs.Common.{refl, sym, ap, ◌∙◌, subst, arith, inl, inr, Some, None}
use Rattle.std.proofs.lemmas.List.{take_more, length-take-le}
use Rattle.std.proofs.lemmas.Map.Lookups.{exact_bytes}
use Rattle.std.proofs.lemmas.Bool.{cases_lt}
use Rattle.std.specs.declared.cmp.Ordering.{Ordering}
use Rattle.std.specs.declared.cmp.Ordering.TheVariants.{Less, Equal, Greater}
use Rattle.std.specs.Ordering.{is_lt, nat_cmp, match_ordering, ordering_reverse}
use Rattle.std.specs.Cmp.Lexicographic.{slice_cmp, nat_list_cmp_total}
use Rattle.serde_json.specs.Data.{Data, Members, no_members, member, put}
use Rattle.ds_base.specs.declared.index_value.IndexValue.{IndexValue}
use Rattle.ds_base.specs.declared.index_value.IndexValue.TheVariants as index
use Rattle.ds_json_printing.specs.Printing.{index_value_data}
use Rattle.ds_reply.specs.Projections.{projected_members, before, is_past, past, IsNextPlace}

abbrev C : List ℕ → List ℕ → Ordering
C = slice_cmp nat_cmp

-- ---- the order of names

is_lt-less : (o : Ordering) → is_lt o ≡ true → o ≡ Less
is_lt-less Less e = refl
is_lt-less Equal e = cc
is_lt-less Greater e = cc

pub less-before : (k l : List ℕ) → before k l ≡ true → C k l ≡ Less
less-before k l e = is_lt-less (C k l) e

before-less : (k l : List ℕ) → Less ≡ C k l → before k l ≡ true
before-less k l e = ap is_lt (sym e)

before-trans : (k l m : List ℕ) → before k l ≡ true → before l m ≡ true → before k m ≡ true
before-trans k l m a b = before-less k m (sym (nat_list_cmp_total.trans k l m (less-before k l a) (less-before l m b)))

before-greater : (n l : List ℕ) → Greater ≡ C n l → before l n ≡ true
before-greater n l e = before-less l n (sym (nat_list_cmp_total.antisymm l n ∙ ap ordering_reverse (sym e)))

not_before-less : (n l : List ℕ) → Less ≡ C n l → before l n ≡ false
not_before-less n l e = ap is_lt (nat_list_cmp_total.antisymm l n ∙ ap ordering_reverse (sym e))

own-reverse : (o : Ordering) → o ≡ ordering_reverse o → is_lt o ≡ false
own-reverse Less e = cc
own-reverse Equal e = refl
own-reverse Greater e = refl

before-self : (n : List ℕ) → before n n ≡ false
before-self n = own-reverse (C n n) (nat_list_cmp_total.antisymm n n)

not_before-after : (l n : List ℕ) → before l n ≡ true → before n l ≡ false
not_before-after l n e = not_before-less l n (sym (less-before l n e))

is_past-more : (later : Bool) (k n m : List ℕ) → is_past later k n ≡ true → before n m ≡ true → is_past later k m ≡ true
is_past-more false k n m p b = refl
is_past-more true k n m p b = before-trans k n m p b

-- ---- a member that is put, seen from behind a name

apart : {A : Type 0} (b : Bool) → b ≡ true → b ≡ false → A
apart true t f = absurd cc
apart false t f = absurd cc

-- a name that was passed changes nothing
pub past-put_passed : (later : Bool) (k n : List ℕ) (d : Data) (ms : Members) → is_past later k n ≡ false → past later k (put n d ms) ≡ past later k ms
past-put_passed later k n d no_members f = rw f refl
past-put_passed later k n d (member l e ms) f = at (C n l) refl (past-put_passed later k n d ms f) where
  under : (b : Bool) → b ≡ is_past later k l → Greater ≡ C n l → past later k (put n d ms) ≡ past later k ms → cond b (member l e (put n d ms)) (past later k (put n d ms)) ≡ cond b (member l e ms) (past later k ms)
  under true p g rec = apart (is_past later k n) (is_past-more later k l n (sym p) (before-greater n l g)) f
  under false p g rec = rec

  at : (o : Ordering) → o ≡ C n l → past later k (put n d ms) ≡ past later k ms → past later k (match_ordering o (member n d (member l e ms)) (member l d ms) (member l e (put n d ms))) ≡ past later k (member l e ms)
  at Less o rec = rw f refl
  at Equal o rec =
      let same : n ≡ l = exact_bytes n l (sym o) in
      let g : is_past later k l ≡ false = ap (λ (x : List ℕ). is_past later k x) (sym same) ∙ f in
      rw g refl
  at Greater o rec = under (is_past later k l) refl o rec

-- what the first of the members left is
pub record Begins (n : List ℕ) (d : Data) (ms : Members) : Type 0 where
  pub rest : Members
  pub is : ms ≡ member n d rest

-- it becomes the first, where none was left
pub past-put_only : (later : Bool) (k n : List ℕ) (d : Data) (ms : Members) → is_past later k n ≡ true → past later k ms ≡ no_members → Begins n d (past later k (put n d ms))
past-put_only later k n d no_members t none = record { rest = no_members; is = rw t refl }
past-put_only later k n d (member l e ms) t none = at (C n l) refl (λ empty. past-put_only later k n d ms t empty) where
  under : (b : Bool) → b ≡ is_past later k l → (past later k ms ≡ no_members → Begins n d (past later k (put n d ms))) → cond b (member l e ms) (past later k ms) ≡ no_members → Begins n d (cond b (member l e (put n d ms)) (past later k (put n d ms)))
  under true p rec empty = absurd (cc empty)
  under false p rec empty = rec empty

  at : (o : Ordering) → o ≡ C n l → (past later k ms ≡ no_members → Begins n d (past later k (put n d ms))) → Begins n d (past later k (match_ordering o (member n d (member l e ms)) (member l d ms) (member l e (put n d ms))))
  at Less o rec = record { rest = member l e ms; is = rw t refl }
  at Equal o rec =
      let same : n ≡ l = exact_bytes n l (sym o) in
      let g : is_past later k l ≡ true = ap (λ (x : List ℕ). is_past later k x) (sym same) ∙ t in
      record { rest = ms; is = rw (g, same) refl }
  at Greater o rec = under (is_past later k l) refl rec none

-- it becomes the first, where the first doesn't come before it
pub past-put_first : (later : Bool) (k n m : List ℕ) (d e : Data) (ms : Members) → is_past later k n ≡ true → before m n ≡ false → Begins m e (past later k ms) → Begins n d (past later k (put n d ms))
past-put_first later k n m d e no_members t b f = record { rest = no_members; is = rw t refl }
past-put_first later k n m d e (member l x ms) t b f = at (C n l) refl (λ h. past-put_first later k n m d e ms t b h) where
  under : (c : Bool) → c ≡ is_past later k l → Greater ≡ C n l → (Begins m e (past later k ms) → Begins n d (past later k (put n d ms))) → Begins m e (cond c (member l x ms) (past later k ms)) → Begins n d (cond c (member l x (put n d ms)) (past later k (put n d ms)))
  under true p g rec h =
      let same : l ≡ m = cc (h.is) in
      apart (before m n) (subst (λ (y : List ℕ). before y n ≡ true) same (before-greater n l g)) b
  under false p g rec h = rec h

  at : (o : Ordering) → o ≡ C n l → (Begins m e (past later k ms) → Begins n d (past later k (put n d ms))) → Begins n d (past later k (match_ordering o (member n d (member l x ms)) (member l d ms) (member l x (put n d ms))))
  at Less o rec = record { rest = member l x ms; is = rw t refl }
  at Equal o rec =
      let same : n ≡ l = exact_bytes n l (sym o) in
      let g : is_past later k l ≡ true = ap (λ (y : List ℕ). is_past later k y) (sym same) ∙ t in
      record { rest = ms; is = rw (g, same) refl }
  at Greater o rec = under (is_past later k l) refl o rec f

-- the first stays, where it comes before it
pub past-put_behind : (later : Bool) (k n m : List ℕ) (d e : Data) (ms : Members) → is_past later k n ≡ true → before m n ≡ true → Begins m e (past later k ms) → Begins m e (past later k (put n d ms))
past-put_behind later k n m d e no_members t b f = absurd (cc (f.is))
past-put_behind later k n m d e (member l x ms) t b f = at (C n l) refl (λ h. past-put_behind later k n m d e ms t b h) where
  under : (c : Bool) → c ≡ is_past later k l → (Begins m e (past later k ms) → Begins m e (past later k (put n d ms))) → Begins m e (cond c (member l x ms) (past later k ms)) → Begins m e (cond c (member l x (put n d ms)) (past later k (put n d ms)))
  under true p rec h =
      let same : l ≡ m = cc (h.is) in
      let data-same : x ≡ e = cc (h.is) in
      record { rest = put n d ms; is = rw (same, data-same) refl }
  under false p rec h = rec h

  first_is : is_past later k l ≡ true → Begins m e (past later k (member l x ms)) → l ≡ m
  first_is g h = let is : member l x ms ≡ member m e h.rest = (rw g at h.is) in cc is

  at : (o : Ordering) → o ≡ C n l → (Begins m e (past later k ms) → Begins m e (past later k (put n d ms))) → Begins m e (past later k (match_ordering o (member n d (member l x ms)) (member l d ms) (member l x (put n d ms))))
  at Less o rec =
      let g : is_past later k l ≡ true = is_past-more later k n l t (before-less n l o) in
      let same : l ≡ m = first_is g f in
      apart (before m n) b (subst (λ (y : List ℕ). before y n ≡ false) same (not_before-less n l o))
  at Equal o rec =
      let same : n ≡ l = exact_bytes n l (sym o) in
      let g : is_past later k l ≡ true = ap (λ (y : List ℕ). is_past later k y) (sym same) ∙ t in
      let first : l ≡ m = first_is g f in
      apart (before m n) b (subst (λ (y : List ℕ). before y n ≡ false) (same ∙ first) (before-self n))
  at Greater o rec = under (is_past later k l) refl rec f

-- ---- members in order

abbrev Above : List ℕ → Members → Type 0
Above l no_members = Unit {0}
Above l (member m d ms) = before l m ≡ true

abbrev Sorted : Members → Type 0
Sorted no_members = Unit {0}
Sorted (member l d ms) = Above l ms × Sorted ms

Above-put : (l n : List ℕ) (d : Data) (ms : Members) → before l n ≡ true → Above l ms → Above l (put n d ms)
Above-put l n d no_members b a = b
Above-put l n d (member m e ms) b a = at (C n m) where
  at : (o : Ordering) → Above l (match_ordering o (member n d (member m e ms)) (member m d ms) (member m e (put n d ms)))
  at Less = b
  at Equal = a
  at Greater = a

Sorted-put : (n : List ℕ) (d : Data) (ms : Members) → Sorted ms → Sorted (put n d ms)
Sorted-put n d no_members s = (tt, tt)
Sorted-put n d (member l e ms) s = at (C n l) refl (Sorted-put n d ms s.1) where
  at : (o : Ordering) → o ≡ C n l → Sorted (put n d ms) → Sorted (match_ordering o (member n d (member l e ms)) (member l d ms) (member l e (put n d ms)))
  at Less o rec = (before-less n l o, s)
  at Equal o rec = s
  at Greater o rec = (Above-put l n d ms (before-greater n l o) s.0, rec)

Sorted-projected : (ns : List (List ℕ)) (vs : List IndexValue) (ms : Members) → Sorted ms → Sorted (projected_members ns vs ms)
Sorted-projected [] vs ms s = s
Sorted-projected (n ∷ ns) [] ms s = s
Sorted-projected (n ∷ ns) (v ∷ vs) ms s = Sorted-projected ns vs (put n (index_value_data v) ms) (Sorted-put n (index_value_data v) ms s)

past-above : (l : List ℕ) (ms : Members) → Above l ms → past true l ms ≡ ms
past-above l no_members a = refl
past-above l (member m d ms) a = rw a refl

above-left : (later : Bool) (k l n : List ℕ) (d : Data) (ms : Members) → Above l ms → Sorted ms → Begins n d (past later k ms) → before l n ≡ true
above-left later k l n d no_members a s f = absurd (cc (f.is))
above-left later k l n d (member m e ms) a s f = under (is_past later k m) (λ h. above-left later k m n d ms s.0 s.1 h) f where
  under : (c : Bool) → (Begins n d (past later k ms) → before m n ≡ true) → Begins n d (cond c (member m e ms) (past later k ms)) → before l n ≡ true
  under true rec h = let same : m ≡ n = cc (h.is) in subst (λ (y : List ℕ). before l y ≡ true) same a
  under false rec h = before-trans l m n a (rec h)

-- what follows the first of the members left
past-rest : (later : Bool) (k n : List ℕ) (d : Data) (ms : Members) → Sorted ms → (f : Begins n d (past later k ms)) → f.rest ≡ past true n ms
past-rest later k n d no_members s f = absurd (cc (f.is))
past-rest later k n d (member l e ms) s f = under (is_past later k l) (λ h. past-rest later k n d ms s.1 h) f where
  under : (c : Bool) (rec : (h : Begins n d (past later k ms)) → h.rest ≡ past true n ms) (h : Begins n d (cond c (member l e ms) (past later k ms))) → h.rest ≡ past true n (member l e ms)
  under true rec h =
      let same : n ≡ l = cc (h.is) in
      let tail : h.rest ≡ ms = cc (h.is) in
      let b : before n l ≡ false = subst (λ (y : List ℕ). before y l ≡ false) (sym same) (before-self l) in
      let all : past true n ms ≡ ms = ap (λ (y : List ℕ). past true y ms) same ∙ past-above l ms s.0 in
      rw b (tail ∙ sym all)
  under false rec h =
      let b : before n l ≡ false = not_before-after l n (above-left later k l n d ms s.0 s.1 h) in
      rw b (rec h)

-- ---- the members of a projection

abbrev pub projected : List (List ℕ) → List IndexValue → ℕ → Members
projected ns vs i = projected_members (take i ns) (take i vs) no_members

projected-more : (ns : List (List ℕ)) (vs : List IndexValue) (n : List ℕ) (v : IndexValue) (ms : Members) → length ns ≡ length vs
    → projected_members (ns ++ n ∷ []) (vs ++ v ∷ []) ms ≡ put n (index_value_data v) (projected_members ns vs ms)
projected-more [] [] n v ms e = refl
projected-more [] (w ∷ vs) n v ms e = absurd (omega arith)
projected-more (m ∷ ns) [] n v ms e = absurd (omega arith)
projected-more (m ∷ ns) (w ∷ vs) n v ms e = projected-more ns vs n v (put m (index_value_data w) ms) (omega arith)

pub projected-step : (ns : List (List ℕ)) (vs : List IndexValue) (i : ℕ) (n : List ℕ) (v : IndexValue) → i < length ns → i < length vs
    → projected ns vs (i + 1) ≡ put (get_or ns i n) (index_value_data (get_or vs i v)) (projected ns vs i)
projected-step ns vs i n v a b =
    let same : length (take i ns) ≡ length (take i vs) = length-take-le i ns (omega arith) ∙ sym (length-take-le i vs (omega arith)) in
    rw (take_more ns i n a, take_more vs i v b) (projected-more (take i ns) (take i vs) (get_or ns i n) (get_or vs i v) no_members same)

projected-cut : (ns : List (List ℕ)) (vs : List IndexValue) (ms : Members) (i : ℕ) → i ≡ min (length ns) (length vs)
    → projected_members (take i ns) (take i vs) ms ≡ projected_members ns vs ms
projected-cut [] vs ms i e = let z : i ≡ 0 = omega arith in rw z refl
projected-cut (n ∷ ns) [] ms i e = let z : i ≡ 0 = omega arith in rw z refl
projected-cut (n ∷ ns) (v ∷ vs) ms zero e = absurd (omega arith)
projected-cut (n ∷ ns) (v ∷ vs) ms (suc i) e = projected-cut ns vs (put n (index_value_data v) ms) i (omega arith)

pub projected-whole : (ns : List (List ℕ)) (vs : List IndexValue) (i : ℕ) → i ≡ min (length ns) (length vs) → projected ns vs i ≡ projected_members ns vs no_members
projected-whole ns vs i e = projected-cut ns vs no_members i e

pub begins-whole : (later : Bool) (k n : List ℕ) (d : Data) (ns : List (List ℕ)) (vs : List IndexValue)
    → Begins n d (past later k (projected_members ns vs no_members))
    → past later k (projected_members ns vs no_members) ≡ member n d (past true n (projected_members ns vs no_members))
begins-whole later k n d ns vs f =
    f.is ∙ ap (λ (r : Members). member n d r) (past-rest later k n d (projected_members ns vs no_members) (Sorted-projected ns vs no_members tt) f)

-- nothing was written yet
pub past-none : (k : List ℕ) (ms : Members) → past false k ms ≡ ms
past-none k no_members = refl
past-none k (member l d ms) = refl

-- ---- the search for the next name, among the first i

pub record Found (ns : List (List ℕ)) (vs : List IndexValue) (later : Bool) (k : List ℕ) (i best count : ℕ) : Type 0 where
  pub none : count ≤ best → past later k (projected ns vs i) ≡ no_members
  pub some : best < count → (best < i) × Begins (get_or ns best []) (index_value_data (get_or vs best index.Null)) (past later k (projected ns vs i))

pub found-start : (ns : List (List ℕ)) (vs : List IndexValue) (later : Bool) (k : List ℕ) (count : ℕ) → Found ns vs later k 0 count count
found-start ns vs later k count = record { none = λ h. refl; some = λ h. absurd (omega arith) }

pub found-passed : (ns : List (List ℕ)) (vs : List IndexValue) (later : Bool) (k : List ℕ) (i best count : ℕ) → i < length ns → i < length vs
    → is_past later k (get_or ns i []) ≡ false → Found ns vs later k i best count → Found ns vs later k (i + 1) best count
found-passed ns vs later k i best count a b f found =
    let step = projected-step ns vs i [] index.Null a b in
    let same : past later k (projected ns vs (i + 1)) ≡ past later k (projected ns vs i) =
    ap (past later k) step ∙ past-put_passed later k (get_or ns i []) (index_value_data (get_or vs i index.Null)) (projected ns vs i) f in
    record {
      none = λ h. same ∙ found.none h;
      some = λ h. let old = found.some h in (omega (arith, old.0), record { rest = old.1.rest; is = same ∙ old.1.is });
    }

pub found-better : (ns : List (List ℕ)) (vs : List IndexValue) (later : Bool) (k : List ℕ) (i best count : ℕ) → i < length ns → i < length vs → i < count
    → is_past later k (get_or ns i []) ≡ true → (best < count → before (get_or ns best []) (get_or ns i []) ≡ false)
    → Found ns vs later k i best count → Found ns vs later k (i + 1) i count
found-better ns vs later k i best count a b lt t worse found = record {
  none = λ h. absurd (omega arith);
  some = λ h. (omega arith, subst (λ (ms : Members). Begins n d (past later k ms)) (sym (projected-step ns vs i [] index.Null a b)) first);
} where
  n : List ℕ
  n = get_or ns i []

  d : Data
  d = index_value_data (get_or vs i index.Null)

  first : Begins n d (past later k (put n d (projected ns vs i)))
  first = elim (cases_lt best count) [
    | inl lt ↦ past-put_first later k n (get_or ns best []) d (index_value_data (get_or vs best index.Null)) (projected ns vs i) t (worse lt) ((found.some lt).1)
    | inr ge ↦ past-put_only later k n d (projected ns vs i) t (found.none ge)
  ]

pub found-behind : (ns : List (List ℕ)) (vs : List IndexValue) (later : Bool) (k : List ℕ) (i best count : ℕ) → i < length ns → i < length vs
    → is_past later k (get_or ns i []) ≡ true → best < count → before (get_or ns best []) (get_or ns i []) ≡ true
    → Found ns vs later k i best count → Found ns vs later k (i + 1) best count
found-behind ns vs later k i best count a b t lt less found =
    let old = found.some lt in
    let n : List ℕ = get_or ns i [] in
    let d : Data = index_value_data (get_or vs i index.Null) in
    let now = past-put_behind later k n (get_or ns best []) d (index_value_data (get_or vs best index.Null)) (projected ns vs i) t less old.1 in
    record {
      none = λ h. absurd (omega arith);
      some = λ h. (omega (arith, old.0), subst (λ (ms : Members). Begins (get_or ns best []) (index_value_data (get_or vs best index.Null)) (past later k ms)) (sym (projected-step ns vs i [] index.Null a b)) now);
    }

-- the search at its end
pub found-none : (ns : List (List ℕ)) (vs : List IndexValue) (later : Bool) (k : List ℕ) (best count : ℕ) → count ≡ min (length ns) (length vs)
    → Found ns vs later k count best count → count ≤ best → IsNextPlace ns vs later k None
found-none ns vs later k best count e found h = ap (past later k) (sym (projected-whole ns vs count e)) ∙ found.none h

pub found-some : (ns : List (List ℕ)) (vs : List IndexValue) (later : Bool) (k : List ℕ) (best count : ℕ) → count ≡ min (length ns) (length vs)
    → Found ns vs later k count best count → best < count → IsNextPlace ns vs later k (Some best)
found-some ns vs later k best count e found h =
    let old = (found.some h).1 in
    let n : List ℕ = get_or ns best [] in
    let d : Data = index_value_data (get_or vs best index.Null) in
    let whole : Begins n d (past later k (projected_members ns vs no_members)) = subst (λ (ms : Members). Begins n d (past later k ms)) (projected-whole ns vs count e) old in
    (omega arith, omega arith, begins-whole later k n d ns vs whole)
