-- Which scans stand at the target, where they are sought in turn and the last so many of them agreed.
use Rattle.std.proofs.Common.{◌≡◌, ◌≢◌, ℕ, ◌+◌, ◌<◌, ◌≤◌, Bool, true, false, cond, arith}
use Rattle.std.specs.Prelude.{nat_lt, nat_le}
use Rattle.std.proofs.lemmas.Bool.Decides.{nat_tests}

-- The scan at j stands at the target: it is one of the last that were sought, and these agreed. They are those before
-- the next turn, and going on from the last scan backwards.
pub stands : ℕ → ℕ → ℕ → ℕ → Bool
stands n turn agreed j = cond (nat_lt j turn) (nat_le turn (j + agreed)) (nat_le (turn + n) (j + agreed))

-- the scan at j was sought in this round, which counts a round more for it
pub lag : ℕ → ℕ → ℕ → ℕ
lag n turn j = cond (nat_lt j turn) n 0

pub stands-start : (n j : ℕ) → j < n → stands n 0 0 j ≡ false
unfolding stands
stands-start n j h = grind (arith, nat_tests)

pub stands-again : (n agreed j : ℕ) → j < n → stands n n agreed j ≡ stands n 0 agreed j
unfolding stands
stands-again n agreed j h = grind (arith, nat_tests)

pub stands-turn : (n turn agreed : ℕ) → agreed < n → stands n turn agreed turn ≡ false
unfolding stands
stands-turn n turn agreed h = grind (arith, nat_tests)

pub stands-sought : (n turn agreed : ℕ) → stands n (turn + 1) (agreed + 1) turn ≡ true
unfolding stands
stands-sought n turn agreed = grind (arith, nat_tests)

pub stands-others : (n turn agreed j : ℕ) → j ≢ turn → stands n (turn + 1) (agreed + 1) j ≡ stands n turn agreed j
unfolding stands
stands-others n turn agreed j h = grind (arith, nat_tests)

pub stands-alone : (n turn j : ℕ) → j ≢ turn → j < n → stands n (turn + 1) 1 j ≡ false
unfolding stands
stands-alone n turn j h b = grind (arith, nat_tests)

pub stands-all : (n turn j : ℕ) → turn ≤ n → stands n turn n j ≡ true
unfolding stands
stands-all n turn j h = grind (arith, nat_tests)

pub lag-start : (n j : ℕ) → lag n 0 j ≡ 0
unfolding lag
lag-start n j = grind (arith, nat_tests)

pub lag-end : (n j : ℕ) → j < n → lag n n j ≡ n
unfolding lag
lag-end n j h = grind (arith, nat_tests)

pub lag-turn : (n turn : ℕ) → lag n turn turn ≡ 0
unfolding lag
lag-turn n turn = grind (arith, nat_tests)

pub lag-sought : (n turn : ℕ) → lag n (turn + 1) turn ≡ n
unfolding lag
lag-sought n turn = grind (arith, nat_tests)

pub lag-others : (n turn j : ℕ) → j ≢ turn → lag n (turn + 1) j ≡ lag n turn j
unfolding lag
lag-others n turn j h = grind (arith, nat_tests)
