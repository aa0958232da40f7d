-- A client stays within a pass that has seen no less.
use Rattle.std.proofs.Common.{◌≤◌, Option, None, Some, arith, length}
use Rattle.std.proofs.lemmas.List.Elements.{All-weaker}
use Rattle.ds_log.specs.JournalLaws.{AreIssued-rises}
use Rattle.ds_model.specs.Sessions.{Session, Transaction}
use Rattle.ds_store.specs.Lower.{IsNoLower}
use Rattle.ds_store.specs.Passes.{PassParts, counts_of}
use Rattle.ds_session_state.specs.Sessions.{HasTransaction, IsWithin}
use Rattle.ds_session_state.proofs.SeeingLaws.{least_through}

-- an open transaction goes on
has-moved : (old new : PassParts) (t : Option Transaction) → IsNoLower old new → HasTransaction old t → HasTransaction new t
has-moved old new None lower has = tt
has-moved old new (Some t) lower has = (
  All-weaker (λ touch. (touch.place ≤ length old.journal) × (touch.place ≤ old.place))
      (λ touch. (touch.place ≤ length new.journal) × (touch.place ≤ new.place))
      (λ touch h. (omega (arith, h.1, lower.journal), omega (arith, h.1, lower.place))) t.touched has.0,
  AreIssued-rises old.next new.next t.writes lower.next has.1,
)

pub within_moved : (s : Session) (old new : PassParts) → IsNoLower old new → IsWithin s old → IsWithin s new
within_moved s old new lower within = record {
  place = omega (arith, within.place, lower.place);
  counts = least_through s.counts (counts_of old) (counts_of new) within.counts lower.counts;
  next = omega (arith, within.next, lower.next);
  transaction = has-moved old new s.transaction lower within.transaction;
}
