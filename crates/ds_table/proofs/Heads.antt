-- That heads compare as the rows do, and what becomes of them where the rows change.
use Rattle.std.proofs.Common.{◌≡◌, ◌≢◌, ℕ, zero, suc, ◌+◌, ◌*◌, ◌<◌, ◌≤◌, Bool, true, false, List, [], ◌∷◌, ◌++◌, length, take, drop}
use Rattle.std.proofs.Common.{get_or, refl, ap, sym, ◌∙◌, arith, subst}
use Rattle.std.specs.Prelude.{not, nat_lt}
use Rattle.std.proofs.lemmas.Bool.Decides.{nat_tests}
use Rattle.std.specs.List.{insert, remove}
use Rattle.std.proofs.Math.ListN.{set}
use Rattle.std.proofs.lemmas.List.{take-take, take_all, drop_all, length-take, length-take-le}
use Rattle.std.specs.declared.cmp.Ordering.{Ordering}
use Rattle.std.specs.declared.cmp.Ordering.TheVariants.{Less, Equal, Greater}
use Rattle.std.specs.Ordering.{is_lt, nat_cmp, ordering_then, ordering_reverse}
use Rattle.std.specs.Cmp.Lexicographic.{nat_list_cmp_total}
use Rattle.std.proofs.lemmas.Cmp.{tied_itself, ranked}
use Rattle.ds_base.specs.KeyOrder.{bytes_cmp}
use Rattle.std.specs.List.{AllByRecursion as Each}
use Rattle.ds_table.specs.Versions.{is_below}
use Rattle.ds_table.specs.Places.{row_before, IsPlace}
use Rattle.ds_table.specs.Heads.{number_behind, head_of, heads_of, Shares, IsAlike}
use Rattle.ds_table.proofs.Lists.{all_then}
use Rattle.ds_table.proofs.Order.{below_back}

-- ---- the order of rows, part by part

then_then : (a b c : Ordering) → ordering_then a (ordering_then b c) ≡ ordering_then (ordering_then a b) c
then_then Less b c = refl
then_then Equal b c = refl
then_then Greater b c = refl

-- the first bytes decide, and then the rest
pub parts_cmp : (s : ℕ) (x y : List ℕ) → bytes_cmp x y ≡ ordering_then (bytes_cmp (take s x) (take s y)) (bytes_cmp (drop s x) (drop s y))
parts_cmp zero x y = refl
parts_cmp (suc s) [] [] = refl
parts_cmp (suc s) [] (c ∷ y) = refl
parts_cmp (suc s) (b ∷ x) [] = refl
parts_cmp (suc s) (b ∷ x) (c ∷ y) =
    ap (ordering_then (nat_cmp b c)) (parts_cmp s x y)
    ∙ then_then (nat_cmp b c) (bytes_cmp (take s x) (take s y)) (bytes_cmp (drop s x) (drop s y))

-- ---- numbers of bytes

abbrev pub AreAllBytes : List ℕ → Type 0
AreAllBytes xs = Each (λ b. b < 256) xs

pub bytes_each : (xs : List ℕ) → ((i : ℕ) → get_or xs i 0 < 256) → AreAllBytes xs
bytes_each [] h = tt
bytes_each (x ∷ xs) h = (h 0, bytes_each xs (λ i. h (suc i)))

pub bytes_dropped : (s : ℕ) (xs : List ℕ) → AreAllBytes xs → AreAllBytes (drop s xs)
bytes_dropped zero xs h = h
bytes_dropped (suc s) [] h = tt
bytes_dropped (suc s) (x ∷ xs) h = bytes_dropped s xs h.1

-- a greater number stays greater
number_above : (k m n : ℕ) (x y : List ℕ) → m < n → AreAllBytes x → number_behind m k x < number_behind n k y
number_above zero m n x y l h = l
number_above (suc k) m n [] [] l h = number_above k (m * 256 + 0) (n * 256 + 0) [] [] (omega (arith, l)) tt
number_above (suc k) m n [] (c ∷ y) l h = number_above k (m * 256 + 0) (n * 256 + c) [] y (omega (arith, l)) tt
number_above (suc k) m n (b ∷ x) [] l h = number_above k (m * 256 + b) (n * 256 + 0) x [] (omega (arith, l, h.0)) h.1
number_above (suc k) m n (b ∷ x) (c ∷ y) l h = number_above k (m * 256 + b) (n * 256 + c) x y (omega (arith, l, h.0)) h.1

-- zeros give the least number
number_least : (k m n : ℕ) (x : List ℕ) → m ≤ n → number_behind m k [] ≤ number_behind n k x
number_least zero m n x l = l
number_least (suc k) m n [] l = number_least k (m * 256 + 0) (n * 256 + 0) [] (omega (arith, l))
number_least (suc k) m n (b ∷ x) l = number_least k (m * 256 + 0) (n * 256 + b) x (omega (arith, l))

-- a lower number is that of a lower row
number_less : (k m : ℕ) (x y : List ℕ) → AreAllBytes y → number_behind m k x < number_behind m k y → bytes_cmp x y ≡ Less
number_less zero m x y h l = absurd (omega (arith, l))
number_less (suc k) m [] [] h l = absurd (omega (arith, l))
number_less (suc k) m [] (c ∷ y) h l = refl
number_less (suc k) m (b ∷ x) [] h l = absurd (omega (arith, l, number_least k (m * 256 + 0) (m * 256 + b) x (omega arith)))
number_less (suc k) m (b ∷ x) (c ∷ y) h l =
    by (nat_cmp b c) refl (λ q. number_less k (m * 256 + c) x y h.1 (subst (λ d. number_behind (m * 256 + d) k x < number_behind (m * 256 + c) k y) q l))
  where
    by : (r : Ordering) → r ≡ nat_cmp b c → (b ≡ c → bytes_cmp x y ≡ Less) → ordering_then (nat_cmp b c) (bytes_cmp x y) ≡ Less
    by Less e i = rw (← e) refl
    by Equal e i = rw (← e) (i (ranked b c Equal e))
    by Greater e i = absurd (omega (arith, l, number_above k (m * 256 + c) (m * 256 + b) y x (omega (arith, ranked b c Greater e)) h.1))

-- the row with the lower head is below
pub head_below : (s : ℕ) (x y : List ℕ) → AreAllBytes y → take s x ≡ take s y → head_of s x < head_of s y → is_below x y ≡ true
head_below s x y h e l =
    let p : bytes_cmp (take s x) (take s y) ≡ Equal = rw e (tied_itself nat_list_cmp_total (take s y)) in
    let q : bytes_cmp (drop s x) (drop s y) ≡ Less = number_less 8 0 (drop s x) (drop s y) (bytes_dropped s y h) l in
    let z : bytes_cmp x y ≡ Less = parts_cmp s x y ∙ rw (p, q) refl in
    ap is_lt z

pub head_before : (s : ℕ) (o r : List ℕ) (same_too : Bool) → AreAllBytes o → take s r ≡ take s o → head_of s r < head_of s o → row_before o same_too r ≡ true
head_before s o r true h e l = ap not (below_back r o (head_below s r o h e l))
head_before s o r false h e l = head_below s r o h e l

pub head_behind : (s : ℕ) (o r : List ℕ) (same_too : Bool) → AreAllBytes r → take s r ≡ take s o → head_of s o < head_of s r → row_before o same_too r ≡ false
head_behind s o r true h e l = ap not (head_below s o r h (sym e) l)
head_behind s o r false h e l = below_back o r (head_below s o r h (sym e) l)

-- heads that aren't the same decide
pub head_decides : (s : ℕ) (o r : List ℕ) (same_too : Bool) (m n : ℕ) → AreAllBytes o → AreAllBytes r → take s r ≡ take s o → m ≡ head_of s r → n ≡ head_of s o → m ≢ n
    → nat_lt m n ≡ row_before o same_too r
head_decides s o r same_too m n ho hr e a b d = by (nat_lt m n) refl
  where
    by : (x : Bool) → x ≡ nat_lt m n → nat_lt m n ≡ row_before o same_too r
    by true x =
        let q : m < n = grind (arith, nat_tests) in
        sym x ∙ sym (head_before s o r same_too ho e (subst (λ k. k < head_of s o) a (subst (λ k. m < k) b q)))
    by false x =
        let q : n ≤ m = grind (arith, nat_tests) in
        let p : n < m = omega (arith, q, d) in
        sym x ∙ sym (head_behind s o r same_too hr e (subst (λ k. k < head_of s r) b (subst (λ k. n < k) a p)))

-- ---- where the shared bytes decide

pub start_below : (s : ℕ) (o f r : List ℕ) (same_too : Bool) → Shares s f r → bytes_cmp (take s o) (take s f) ≡ Less → row_before o same_too r ≡ false
start_below s o f r same_too h e =
    let p : bytes_cmp (take s o) (take s r) ≡ Less = rw h.same e in
    let z : bytes_cmp o r ≡ Less = parts_cmp s o r ∙ rw p refl in
    by same_too (ap is_lt z)
  where
    by : (b : Bool) → is_below o r ≡ true → row_before o b r ≡ false
    by true q = ap not q
    by false q = below_back o r q

pub start_above : (s : ℕ) (o f r : List ℕ) (same_too : Bool) → Shares s f r → bytes_cmp (take s o) (take s f) ≡ Greater → row_before o same_too r ≡ true
start_above s o f r same_too h e =
    let p : bytes_cmp (take s r) (take s o) ≡ Less = rw h.same (nat_list_cmp_total.antisymm (take s f) (take s o) ∙ ap ordering_reverse e) in
    let z : bytes_cmp r o ≡ Less = parts_cmp s r o ∙ rw p refl in
    by same_too (ap is_lt z)
  where
    by : (b : Bool) → is_below r o ≡ true → row_before o b r ≡ true
    by true q = ap not (below_back r o q)
    by false q = q

-- ---- rows that begin alike

pub alike_by : (s : ℕ) (p : List ℕ) (rs : List (List ℕ)) → Each (Shares s p) rs → IsAlike s rs
alike_by s p [] h = tt
alike_by s p (r ∷ rs) h = all_then (Shares s p) (Shares s r) (λ q g. record { long = g.long; same = g.same ∙ sym h.0.same }) (r ∷ rs) h

pub alike_first : (s : ℕ) (rs : List (List ℕ)) → IsAlike s rs → Each (Shares s (get_or rs 0 [])) rs
alike_first s [] h = tt
alike_first s (r ∷ rs) h = h

pub alike_long : (s : ℕ) (rs : List (List ℕ)) → IsAlike s rs → Each (λ r. s ≤ length r) rs
alike_long s rs h = all_then (Shares s (get_or rs 0 [])) (λ r. s ≤ length r) (λ r g. g.long) rs (alike_first s rs h)

-- of fewer bytes, which another row shares, too
pub all_fewer : (n s : ℕ) (p q : List ℕ) → n ≤ s → take n p ≡ take n q → (rs : List (List ℕ)) → Each (Shares s p) rs → Each (Shares n q) rs
all_fewer n s p q l e rs h = all_then (Shares s p) (Shares n q) fewer rs h
  where
    fewer : (r : List ℕ) → Shares s p r → Shares n q r
    fewer r g = record {
      long = omega (arith, l, g.long);
      same = sym (take-take n s r l) ∙ (ap (take n) g.same ∙ (take-take n s p l ∙ e));
    }

-- a row that begins as one does that has so many bytes
pub long_too : (s : ℕ) (o f : List ℕ) → s ≤ length f → take s o ≡ take s f → s ≤ length o
long_too s o f l e =
    let n = ap length e in
    let m = length-take-le s f l in
    let k = length-take s o in
    omega (arith, n, m, k)

-- ---- heads, where the rows change

pub heads_long : (s : ℕ) (rs : List (List ℕ)) → length (heads_of s rs) ≡ length rs
heads_long s [] = refl
heads_long s (r ∷ rs) = ap suc (heads_long s rs)

pub heads_at : (s i : ℕ) (rs : List (List ℕ)) (d : ℕ) → i < length rs → get_or (heads_of s rs) i d ≡ head_of s (get_or rs i [])
heads_at s i [] d l = absurd (omega (arith, l))
heads_at s zero (r ∷ rs) d l = refl
heads_at s (suc i) (r ∷ rs) d l = heads_at s i rs d (omega (arith, l))

pub heads_insert : (s i : ℕ) (rs : List (List ℕ)) (r : List ℕ) → heads_of s (insert rs i r) ≡ insert (heads_of s rs) i (head_of s r)
heads_insert s zero rs r = refl
heads_insert s (suc i) [] r = refl
heads_insert s (suc i) (q ∷ rs) r = ap (λ l. head_of s q ∷ l) (heads_insert s i rs r)

pub heads_remove : (s i : ℕ) (rs : List (List ℕ)) → heads_of s (remove rs i) ≡ remove (heads_of s rs) i
heads_remove s zero [] = refl
heads_remove s (suc i) [] = refl
heads_remove s zero (q ∷ rs) = refl
heads_remove s (suc i) (q ∷ rs) = ap (λ l. head_of s q ∷ l) (heads_remove s i rs)

pub heads_take : (s i : ℕ) (rs : List (List ℕ)) → heads_of s (take i rs) ≡ take i (heads_of s rs)
heads_take s zero rs = refl
heads_take s (suc i) [] = refl
heads_take s (suc i) (q ∷ rs) = ap (λ l. head_of s q ∷ l) (heads_take s i rs)

pub heads_drop : (s i : ℕ) (rs : List (List ℕ)) → heads_of s (drop i rs) ≡ drop i (heads_of s rs)
heads_drop s zero rs = refl
heads_drop s (suc i) [] = refl
heads_drop s (suc i) (q ∷ rs) = heads_drop s i rs

-- one more element is written over
pub written_next : (i : ℕ) (ys xs : List ℕ) (y : ℕ) → length xs ≡ length ys → i < length ys → y ≡ get_or ys i 0
    → set (take i ys ++ drop i xs) i y ≡ take (suc i) ys ++ drop (suc i) xs
written_next i [] xs y n l e = absurd (omega (arith, l))
written_next i (z ∷ ys) [] y n l e = absurd (omega (arith, n))
written_next zero (z ∷ ys) (x ∷ xs) y n l e = ap (λ w. w ∷ xs) e
written_next (suc i) (z ∷ ys) (x ∷ xs) y n l e = ap (λ w. z ∷ w) (written_next i ys xs y (omega (arith, n)) (omega (arith, l)) e)

-- no row has a place
pub place_of_none : (test : List ℕ → Bool) (rs : List (List ℕ)) → length rs ≡ 0 → IsPlace test rs 0
place_of_none test [] n = record { within = omega arith; before = tt; after = tt }
place_of_none test (r ∷ rs) n = absurd (omega (arith, n))

pub place_first : (test : List ℕ → Bool) (rs : List (List ℕ)) → Each (λ r. test r ≡ false) rs → IsPlace test rs 0
place_first test rs h = record { within = omega arith; before = tt; after = h }

pub place_last : (test : List ℕ → Bool) (rs : List (List ℕ)) → Each (λ r. test r ≡ true) rs → IsPlace test rs (length rs)
place_last test rs h = record {
  within = omega arith;
  before = rw (take_all (length rs) rs (omega arith)) h;
  after = rw (drop_all (length rs) rs (omega arith)) tt;
}

-- the next byte goes behind the number
pub number_next : (k m i : ℕ) (xs : List ℕ) → number_behind m (suc k) (drop i xs) ≡ number_behind (m * 256 + get_or xs i 0) k (drop (suc i) xs)
number_next k m i [] = none i
  where
    none : (i : ℕ) → number_behind m (suc k) (drop i []) ≡ number_behind (m * 256 + get_or [] i 0) k (drop (suc i) [])
    none zero = refl
    none (suc i) = refl
number_next k m zero (x ∷ xs) = refl
number_next k m (suc i) (x ∷ xs) = number_next k m i xs

-- the greatest number that so many bytes behind a number give, and that none gives a lesser one
abbrev pub filled_behind : ℕ → ℕ → ℕ
filled_behind m zero = m
filled_behind m (suc k) = filled_behind (m * 256 + 255) k

pub filled_more : (k m n : ℕ) → m ≤ n → filled_behind m k ≤ filled_behind n k
filled_more zero m n l = l
filled_more (suc k) m n l = filled_more k (m * 256 + 255) (n * 256 + 255) (omega (arith, l))

pub filled_least : (k m : ℕ) → m ≤ filled_behind m k
filled_least zero m = omega arith
filled_least (suc k) m = let i = filled_least k (m * 256 + 255) in omega (arith, i)

-- what holds of the first elements, and of the next one
pub each_take_next : {X : Type 0} (P : X → Type 0) (k : ℕ) (xs : List X) (d : X) → k < length xs → Each P (take k xs) → P (get_or xs k d) → Each P (take (suc k) xs)
each_take_next P k [] d l h p = absurd (omega (arith, l))
each_take_next P zero (x ∷ xs) d l h p = (p, tt)
each_take_next P (suc k) (x ∷ xs) d l h p = (h.0, each_take_next P k xs d (omega (arith, l)) h.1 p)
