-- Sessions that meet: what a client has seen then, its pass has seen too.
use Rattle.std.proofs.Common.{◌≤◌, arith}
use Rattle.ds_model.specs.Sessions.{Session}
use Rattle.ds_protocol.specs.Watermarks.{raised_by}
use Rattle.ds_store.specs.Answered.{AreAtLeast}
use Rattle.ds_store.specs.Passes.{PassParts, HasRead, counts_of}
use Rattle.ds_session_state.specs.Sessions.{IsWithin}
use Rattle.ds_session_state.proofs.GrowthLaws.{grown_by_reading}
use Rattle.ds_session_state.proofs.SeeingLaws.{least_greater, within_later}

-- what the pass has seen is no less than the greatest of all
pub record HasReached (greatest : Session) (q : PassParts) : Type 0 where
  pub place : greatest.place ≤ q.place
  pub counts : AreAtLeast greatest.counts (counts_of q)
  pub next : greatest.next_id ≤ q.next

pub within_raised : (s greatest : Session) (p q : PassParts) → IsWithin s p → HasRead p q → HasReached greatest q
    → IsWithin (raised_by greatest s) q
within_raised s greatest p q within h reached =
    let later = within_later s p q (grown_by_reading p q h) within in record {
      place = omega (arith, later.place, reached.place);
      counts = least_greater s.counts greatest.counts (counts_of q) later.counts reached.counts;
      next = omega (arith, later.next, reached.next);
      transaction = later.transaction;
    }
