-- Sessions meet by the greatest of what each has seen.
use Rattle.ds_protocol.proofs.Words.{◌≡◌, ℕ, zero, suc, ◌<◌, ◌≤◌, List, [], ◌∷◌, length, map, refl, ap, sym, ◌∙◌, arith, get_or, fold, max}
use Rattle.ds_protocol.proofs.Words.{replicate, Session, greater_counts}
use Rattle.std.proofs.lemmas.List.{length-replicate}
use Rattle.ds_model.specs.Sessions.{greatest_counts, greatest_place, greatest_next, raised_to, met}
use Rattle.ds_protocol.specs.Watermarks.{HaveCounts, greatest_of, nothing_seen, raised_by}

-- ---- counts

pub greater-length : (xs ys : List ℕ) → length (greater_counts xs ys) ≡ length xs
greater-length [] ys = refl
greater-length (x ∷ xs) ys = grind (arith, greater-length xs)

greater-assoc : (xs ys zs : List ℕ) → length xs ≡ length ys
    → greater_counts xs (greater_counts ys zs) ≡ greater_counts (greater_counts xs ys) zs
greater-assoc [] ys zs same = refl
greater-assoc (x ∷ xs) ys zs same = grind (arith, greater-assoc xs)

greater-zeros : (xs : List ℕ) (n : ℕ) → length xs ≡ n → greater_counts xs (replicate n 0) ≡ xs
greater-zeros [] n same = refl
greater-zeros (x ∷ xs) zero same = refl
greater-zeros (x ∷ xs) (suc n) same = grind (arith, greater-zeros xs n)

-- the greatest counts may be taken first
greatest-first : (xs ys : List ℕ) (all : List Session) → length xs ≡ length ys
    → greater_counts xs (greatest_counts ys all) ≡ greatest_counts (greater_counts xs ys) all
greatest-first xs ys [] same = refl
greatest-first xs ys (s ∷ all) same =
    greatest-first xs (greater_counts ys s.counts) all (omega (arith, same, greater-length ys s.counts))
    ∙ ap (λ counts. greatest_counts counts all) (greater-assoc xs ys s.counts same)

-- ---- places and id counters

abbrev most : (Session → ℕ) → ℕ → List Session → ℕ
most f = fold (λ m s. max m (f s))

most-first : (f : Session → ℕ) (m : ℕ) (all : List Session) → m ≤ most f m all
most-first f m [] = omega arith
most-first f m (s ∷ all) = omega (arith, most-first f (max m (f s)) all)

most-each : (f : Session → ℕ) (m : ℕ) (all : List Session) (k : ℕ) (d : Session) → k < length all → f (get_or all k d) ≤ most f m all
most-each f m [] k d below = absurd (omega arith)
most-each f m (s ∷ all) zero d below = omega (arith, most-first f (max m (f s)) all)
most-each f m (s ∷ all) (suc k) d below = most-each f (max m (f s)) all k d (omega arith)

-- ---- all of it

-- what all have seen, taken into one
abbrev greatest_from : Session → List Session → Session
greatest_from g all = record {
  place = most (λ s. s.place) g.place all;
  counts = greatest_counts g.counts all;
  next_id = most (λ s. s.next_id) g.next_id all;
  transaction = g.transaction;
}

greatest-is : (g : Session) (all : List Session) → fold (λ seen s. raised_by s seen) g all ≡ greatest_from g all
greatest-is g [] = refl
greatest-is g (s ∷ all) = greatest-is (raised_by s g) all

map-same : {A B : Type 0} (f g : A → B) (xs : List A) → ((k : ℕ) (d : A) → k < length xs → f (get_or xs k d) ≡ g (get_or xs k d))
    → map f xs ≡ map g xs
map-same f g [] same = refl
map-same f g (x ∷ xs) same = rw (same zero x (omega arith), map-same f g xs (λ k d below. same (suc k) d (omega arith)))

-- the greatest of all is taken into each
pub all_met : (n : ℕ) (all : List Session) → HaveCounts n all → map (raised_by (greatest_of n all)) all ≡ met all
all_met n all have =
    map-same (raised_by (greatest_of n all)) (raised_to all) all (λ k d below.
    ap (λ g. raised_by g (get_or all k d)) (greatest-is (nothing_seen n) all)
    ∙ each (get_or all k d) (have k d below) (most-each (λ s. s.place) 0 all k d below) (most-each (λ s. s.next_id) 0 all k d below))
  where
    each : (s : Session) → length s.counts ≡ n → s.place ≤ greatest_place all → s.next_id ≤ greatest_next all
        → raised_by (greatest_from (nothing_seen n) all) s ≡ raised_to all s
    each s so_many place next =
        let top : max s.place (greatest_place all) ≡ greatest_place all = omega arith in
        let id : max s.next_id (greatest_next all) ≡ greatest_next all = omega arith in
        let first = greatest-first s.counts (replicate n 0) all (so_many ∙ sym (length-replicate n 0)) in
        cc (top, id, first, greater-zeros s.counts n so_many)
