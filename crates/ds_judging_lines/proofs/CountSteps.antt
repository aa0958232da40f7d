-- What is known at the steps of judging counts.
use Rattle.std.proofs.Common.{◌≡◌, ℕ, ◌≤◌, length, Bool, Option, Some, None, refl, subst}
use Rattle.ds_model.specs.Answers.{AppliedCount, ApplyAnswers}
use Rattle.ds_model.specs.Groups.{IsSeenPlace}
use Rattle.ds_model.specs.Sessions.{Session, count_of, list_of, saw_place, saw_shard_count}
use Rattle.ds_model.specs.Worlds.{World, entries_up_to}

pub at_none : {A : Type 0} (Q : Option A → Type 0) (o : Option A) → ((x : A) → o ≡ Some x → ⊥) → Q o → Q None
at_none Q None never h = h
at_none Q (Some x) never h = absurd (never x refl)

pub fits_same : (applied : Bool) (a b c d count : ℕ) → a ≡ b → c ≡ d → AppliedCount applied a c count → AppliedCount applied b d count
fits_same applied a b c d count first second h =
    subst (λ k. AppliedCount applied b k count) second (subst (λ k. AppliedCount applied k c count) first h)

-- an apply that fits is an answer
pub apply_answers : (w : World) (s : Session) (shard count m seen up_to : ℕ) (applied : Bool) → seen ≡ count_of s.counts shard
    → up_to ≡ entries_up_to w m shard → IsSeenPlace w.journal s m → AppliedCount applied seen up_to count
    → count ≤ length (list_of w.lists shard) → ApplyAnswers w s shard applied count m (saw_shard_count w.lists shard count (saw_place m s))
apply_answers w s shard count m seen up_to applied is so_many place fits within = record {
  place = place;
  counted = fits_same applied seen (count_of s.counts shard) up_to (entries_up_to w m shard) count is so_many fits;
  within = within;
  seen = refl;
}
