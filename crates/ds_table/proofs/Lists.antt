-- What holds of each element of a list.
use Rattle.std.proofs.Common.{◌≡◌, ℕ, zero, suc, ◌<◌, ◌≤◌, Bool, true, false, List, [], ◌∷◌, ◌++◌, length, take, drop, get_or, map, refl}
use Rattle.std.proofs.Common.{ap, sym, arith}
use Rattle.std.specs.Prelude.{filter, not}
use Rattle.std.proofs.Math.ListN.{set}
use Rattle.std.specs.List.{insert, remove}
use Rattle.std.specs.List.{AllByRecursion as Each}

pub not_both : (b : Bool) → b ≡ true → b ≡ false → ⊥
not_both b t f = cc

pub true_unless : (b : Bool) → (b ≡ false → ⊥) → b ≡ true
true_unless true h = refl
true_unless false h = absurd (h refl)

pub false_unless : (b : Bool) → (b ≡ true → ⊥) → b ≡ false
false_unless true h = absurd (h refl)
false_unless false h = refl

pub was_false : (b : Bool) → not b ≡ true → b ≡ false
was_false true e = sym e
was_false false e = refl

pub was_true : (b : Bool) → not b ≡ false → b ≡ true
was_true true e = refl
was_true false e = sym e

pub all_then : {X : Type 0} (P Q : X → Type 0) → ((x : X) → P x → Q x) → (xs : List X) → Each P xs → Each Q xs
all_then P Q f [] h = tt
all_then P Q f (x ∷ xs) h = (f x h.0, all_then P Q f xs h.1)

pub all_both : {X : Type 0} (P Q R : X → Type 0) → ((x : X) → P x → Q x → R x) → (xs : List X) → Each P xs → Each Q xs → Each R xs
all_both P Q R f [] h g = tt
all_both P Q R f (x ∷ xs) h g = (f x h.0 g.0, all_both P Q R f xs h.1 g.1)

pub all_each : {X : Type 0} (P : X → Type 0) → ((x : X) → P x) → (xs : List X) → Each P xs
all_each P f [] = tt
all_each P f (x ∷ xs) = (f x, all_each P f xs)

pub all_left : {X : Type 0} (P : X → Type 0) (xs ys : List X) → Each P (xs ++ ys) → Each P xs
all_left P [] ys h = tt
all_left P (x ∷ xs) ys h = (h.0, all_left P xs ys h.1)

pub all_right : {X : Type 0} (P : X → Type 0) (xs ys : List X) → Each P (xs ++ ys) → Each P ys
all_right P [] ys h = h
all_right P (x ∷ xs) ys h = all_right P xs ys h.1

pub all_mapped : {X Y : Type 0} (P : Y → Type 0) (f : X → Y) (xs : List X) → Each P (map f xs) → Each (λ x. P (f x)) xs
all_mapped P f [] h = tt
all_mapped P f (x ∷ xs) h = (h.0, all_mapped P f xs h.1)

pub all_taken : {X Y : Type 0} (P : Y → Type 0) (f : X → Y) (n : ℕ) (xs : List X) → Each P (take n (map f xs)) → Each (λ x. P (f x)) (take n xs)
all_taken P f zero xs h = tt
all_taken P f (suc n) [] h = tt
all_taken P f (suc n) (x ∷ xs) h = (h.0, all_taken P f n xs h.1)

pub all_dropped : {X Y : Type 0} (P : Y → Type 0) (f : X → Y) (n : ℕ) (xs : List X) → Each P (drop n (map f xs)) → Each (λ x. P (f x)) (drop n xs)
all_dropped P f zero xs h = all_mapped P f xs h
all_dropped P f (suc n) [] h = tt
all_dropped P f (suc n) (x ∷ xs) h = all_dropped P f n xs h

pub take_fewer : {X : Type 0} (P : X → Type 0) (m n : ℕ) (xs : List X) → m ≤ n → Each P (take n xs) → Each P (take m xs)
take_fewer P zero n xs l h = tt
take_fewer P (suc m) zero xs l h = absurd (omega (arith, l))
take_fewer P (suc m) (suc n) [] l h = tt
take_fewer P (suc m) (suc n) (x ∷ xs) l h = (h.0, take_fewer P m n xs (omega (arith, l)) h.1)

pub drop_further : {X : Type 0} (P : X → Type 0) (m n : ℕ) (xs : List X) → m ≤ n → Each P (drop m xs) → Each P (drop n xs)
drop_further P zero zero xs l h = h
drop_further P zero (suc n) [] l h = tt
drop_further P zero (suc n) (x ∷ xs) l h = drop_further P zero n xs (omega arith) h.1
drop_further P (suc m) zero xs l h = absurd (omega (arith, l))
drop_further P (suc m) (suc n) [] l h = tt
drop_further P (suc m) (suc n) (x ∷ xs) l h = drop_further P m n xs (omega (arith, l)) h

pub filter_none : {X : Type 0} (p : X → Bool) (xs : List X) → Each (λ x. p x ≡ false) xs → filter p xs ≡ []
filter_none p [] h = refl
filter_none p (x ∷ xs) h = rw h.0 (filter_none p xs h.1)

pub filter_each : {X : Type 0} (p : X → Bool) (xs : List X) → Each (λ x. p x ≡ true) xs → filter p xs ≡ xs
filter_each p [] h = refl
filter_each p (x ∷ xs) h = rw h.0 (ap (λ l. x ∷ l) (filter_each p xs h.1))

pub each_append : {X : Type 0} (P : X → Type 0) (xs ys : List X) → Each P xs → Each P ys → Each P (xs ++ ys)
each_append P [] ys h g = g
each_append P (x ∷ xs) ys h g = (h.0, each_append P xs ys h.1 g)

pub each_at : {X : Type 0} (P : X → Type 0) (xs : List X) (i : ℕ) (d : X) → i < length xs → Each P xs → P (get_or xs i d)
each_at P [] i d l h = absurd (omega (arith, l))
each_at P (x ∷ xs) zero d l h = h.0
each_at P (x ∷ xs) (suc i) d l h = each_at P xs i d (omega (arith, l)) h.1

-- ---- where a list changes

pub each_insert : {X : Type 0} (P : X → Type 0) (i : ℕ) (xs : List X) (x : X) → P x → Each P xs → Each P (insert xs i x)
each_insert P zero xs x p h = (p, h)
each_insert P (suc i) [] x p h = (p, tt)
each_insert P (suc i) (y ∷ xs) x p h = (h.0, each_insert P i xs x p h.1)

pub each_set : {X : Type 0} (P : X → Type 0) (i : ℕ) (xs : List X) (x : X) → P x → Each P xs → Each P (set xs i x)
each_set P i [] x p h = tt
each_set P zero (y ∷ xs) x p h = (p, h.1)
each_set P (suc i) (y ∷ xs) x p h = (h.0, each_set P i xs x p h.1)

pub each_remove : {X : Type 0} (P : X → Type 0) (i : ℕ) (xs : List X) → Each P xs → Each P (remove xs i)
each_remove P zero [] h = tt
each_remove P (suc i) [] h = tt
each_remove P zero (y ∷ xs) h = h.1
each_remove P (suc i) (y ∷ xs) h = (h.0, each_remove P i xs h.1)

pub each_take : {X : Type 0} (P : X → Type 0) (i : ℕ) (xs : List X) → Each P xs → Each P (take i xs)
each_take P zero xs h = tt
each_take P (suc i) [] h = tt
each_take P (suc i) (y ∷ xs) h = (h.0, each_take P i xs h.1)

pub each_drop : {X : Type 0} (P : X → Type 0) (i : ℕ) (xs : List X) → Each P xs → Each P (drop i xs)
each_drop P zero xs h = h
each_drop P (suc i) [] h = tt
each_drop P (suc i) (y ∷ xs) h = each_drop P i xs h.1
