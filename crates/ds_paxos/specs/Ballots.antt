-- Ballots: whose each is, which comes next, and what a majority is.
use Rattle.std.specs.Prelude.{ℕ, Bool, ◌+◌, ◌-◌, ◌*◌, ◌%◌, ◌<◌, ◌≤◌, ◌≡◌, nat_lt}

-- The member whose ballot this is, of n members: a ballot has one proposer.
abbrev pub proposer_of : ℕ → ℕ → ℕ
proposer_of n ballot = ballot % n

-- The first ballot of a member that is above this one: as far behind the next number as that one's proposer is before the member, in the
-- round of the n members.
abbrev pub next_ballot : ℕ → ℕ → ℕ → ℕ
next_ballot n member above = (above + 1) + ((member + n) - (above + 1) % n) % n

-- more than half of n members
abbrev pub is_majority : ℕ → ℕ → Bool
is_majority n count = nat_lt n (2 * count)

-- It is the least ballot of this member that is above another.
abbrev pub IsNextBallot : ℕ → ℕ → ℕ → ℕ → Type 0
IsNextBallot n member above ballot = (above < ballot) × (proposer_of n ballot ≡ member)
    × ((other : ℕ) → above < other → proposer_of n other ≡ member → ballot ≤ other)
