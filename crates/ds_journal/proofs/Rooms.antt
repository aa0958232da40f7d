-- What the room for a commit is made of.
use Rattle.std.proofs.Common.{◌≡◌, ℕ, ◌+◌, ◌<◌, ◌≤◌, Bool, true, false, ◌&&◌, cond, refl, arith}
use Rattle.std.specs.Prelude.{nat_lt}
use Rattle.std.proofs.lemmas.Bool.{ltb-true}
use Rattle.ds_base.specs.Limits.{most_commits}
use Rattle.ds_journal.specs.Books.{room_for_commit}

pub record HasRoom (commits capacity groups n : ℕ) : Type 0 where
  pub place : commits < capacity
  pub number : commits < most_commits
  pub heads : n ≤ groups

pub room : (commits capacity groups n : ℕ) → n < room_for_commit commits capacity groups → HasRoom commits capacity groups n
room commits capacity groups n below = by (nat_lt commits capacity) (nat_lt commits most_commits) refl refl below where
  by : (a b : Bool) → nat_lt commits capacity ≡ a → nat_lt commits most_commits ≡ b → n < cond (a && b) (groups + 1) 0
      → HasRoom commits capacity groups n
  by true true p q h = record { place = ltb-true commits capacity p; number = ltb-true commits most_commits q; heads = omega arith }
  by true false p q h = absurd (omega arith)
  by false b p q h = absurd (omega arith)
