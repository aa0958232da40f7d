-- Counts that are met, one after another.
use Rattle.std.proofs.Common.{◌≡◌, ℕ, zero, suc, ◌+◌, ◌<◌, ◌≤◌, List, [], ◌∷◌, length, map, get_or, arith, below_more}
use Rattle.ds_hub.specs.Growing.{AreLonger}
use Rattle.ds_log.specs.declared.Entry.{Entry}
use Rattle.ds_model.specs.Sessions.{count_of, list_of}
use Rattle.ds_store_passes.specs.Answered.{AreAtLeast}
use Rattle.ds_store_passes.proofs.Growing.{begins_no_longer}
use Rattle.ds_store_passes.proofs.SlotLists.{count_there, longer_there}

-- no count falls
pub count_rises : (xs ys : List (List Entry)) (k : ℕ) → AreLonger xs ys → count_of (map length xs) k ≤ count_of (map length ys) k
count_rises xs ys k h =
    omega (arith, count_there xs k, count_there ys k, begins_no_longer (list_of xs k) (list_of ys k) (longer_there xs ys k h))

-- what was met stays met, and one more is
pub met_more : (counts : List ℕ) (xs ys : List (List Entry)) (done : ℕ)
    → ((k : ℕ) → k < done → get_or counts k 0 ≤ count_of (map length xs) k)
    → AreLonger xs ys → get_or counts done 0 ≤ count_of (map length ys) done
    → (k : ℕ) → k < done + 1 → get_or counts k 0 ≤ count_of (map length ys) k
met_more counts xs ys done met longer here =
    below_more (λ k. get_or counts k 0 ≤ count_of (map length ys) k) done (λ k lt. omega (arith, met k lt, count_rises xs ys k longer)) here

-- the same, whatever the counts are of
pub met_more_of : (want : ℕ → ℕ) (xs ys : List (List Entry)) (done : ℕ) → ((k : ℕ) → k < done → want k ≤ count_of (map length xs) k)
    → AreLonger xs ys → want done ≤ count_of (map length ys) done → (k : ℕ) → k < done + 1 → want k ≤ count_of (map length ys) k
met_more_of want xs ys done met longer here =
    below_more (λ k. want k ≤ count_of (map length ys) k) done (λ k lt. omega (arith, met k lt, count_rises xs ys k longer)) here

-- all of them
pub met_all : (counts have : List ℕ) → length counts ≡ length have → ((k : ℕ) → k < length counts → get_or counts k 0 ≤ count_of have k)
    → AreAtLeast counts have
met_all [] [] same met = tt
met_all [] (h ∷ hs) same met = absurd (omega (arith, same))
met_all (c ∷ cs) [] same met = absurd (omega (arith, same))
met_all (c ∷ cs) (h ∷ hs) same met =
    (met zero (omega arith), met_all cs hs (omega (arith, same)) (λ k lt. met (suc k) (omega (arith, lt))))
