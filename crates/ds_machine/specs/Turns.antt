-- A client's open request at a step: what is known of it, and what it comes to.
use Rattle.std.specs.Prelude.{◌≡◌, [], None, Some, IfSome, IsTrue, length}
use Rattle.ds_log.specs.declared.Write.{Write}
use Rattle.ds_log.specs.Ids.{first_unissued}
use Rattle.ds_log.specs.Logs.{group_of}
use Rattle.ds_request.specs.declared.call.Call.{Call}
use Rattle.ds_txn.specs.Transactions.{TxnParts}
use Rattle.ds_model.specs.Asked.{has_shard}
use Rattle.ds_model.specs.Groups.{IsSeenPlace}
use Rattle.ds_model.specs.Refusals.{refusal_of}
use Rattle.ds_protocol.specs.declared.operations.Operation.{Operation}
use Rattle.ds_protocol.specs.Operations.{IsLawfulOperation, call_of, written_path}
use Rattle.ds_protocol.specs.Transactions.{transaction_of}
use Rattle.ds_applied.specs.AppliedLists.{AreCounts}
use Rattle.ds_model.specs.Sessions.{counted_place}
use Rattle.ds_protocol.specs.declared.seen.CountsSeen.{CountsSeen}
use Rattle.ds_effects.specs.declared.effect.Due.{Due}
use Rattle.ds_effects.specs.declared.effect.Plan.{Plan}
use Rattle.ds_effects.specs.declared.gathered.Step.TheVariants as steps
use Rattle.ds_machine.specs.declared.due.Turn.{Turn}
use Rattle.ds_machine.specs.Due.{IsDueFor, IsDuePlan, IsGathered}
use Rattle.ds_machine.specs.Missing.{IfReply, IsNext, missing, missing_write, shown}
use Rattle.ds_machine.specs.Reads.{IsPulled}
use Rattle.ds_machine.specs.States.{AreUpTo, StateParts, IsSession}
use Rattle.ds_machine.specs.Told.{AreViewsOf, IsTold}
use Rattle.ds_machine.specs.WritePlans.{IsWritable}

-- The request asks this: nothing refuses it but what a step may find, each commit of the journal was looked at, and what its client has
-- seen and what it has gathered is there.
pub record IsTurn (st : StateParts) (t : Turn) (o : Operation) : Type 0 where
  pub lawful : IsLawfulOperation o
  pub shard : IsTrue (has_shard st.store.shards (call_of o))
  pub unrefused : refusal_of st.store.definitions t.session.now (call_of o) ≡ None
  pub issued : first_unissued st.store.next (written_path o) ≡ None
  pub pulled : IsPulled st
  pub seen : IsSession st t.session.now
  pub gathered : IsGathered st t.session.now (call_of o) t.gathered.now
  pub views : length t.gathered.now.views ≡ st.store.shards

-- what is said and changed is told by what was gathered
abbrev pub IsToldIn : StateParts → Turn → Plan → Type 0
IsToldIn st t p = IsTold st t.session.now t.gathered.now t.taken p.body p.effect

-- what is said and changed is due to the call, which draws no ids
abbrev pub IsDueIn : StateParts → Turn → Call → Plan → Type 0
IsDueIn st t c p = IsDuePlan st t.session.now t.client c [] p.body p.effect

-- it comes to the reply that is due as soon as nothing is missing, told by what was gathered, and else to the missing step
pub record ComesTo (st : StateParts) (t : Turn) (o : Operation) (d : Due) : Type 0 where
  pub plan : IfReply d (λ p. IsDueFor st t.session.now t.client o t.gathered.now p.body p.effect)
  pub told : IfReply d (IsToldIn st t)
  pub next : IsNext (missing (shown st) t.session.now o t.gathered.now t.taken) d

-- a write that nothing refuses, and that misses nothing
pub record IsWriteDue (st : StateParts) (t : Turn) (w : Write) : Type 0 where
  pub writable : IsWritable st t.session.now w
  pub seen : IsSession st t.session.now
  pub place : IfSome t.gathered.now.place (IsSeenPlace st.store.journal t.session.now)
  pub due : missing_write t.session.now t.gathered.now (group_of w) t.taken ≡ None

-- the client's transaction is committed by the step
pub record IsCommitting (st : StateParts) (t : Turn) (txn : TxnParts) : Type 0 where
  pub seen : IsSession st t.session.now
  pub inside : t.session.now.transaction ≡ Some (transaction_of txn)
  pub by_step : t.taken ≡ steps.Commit

-- the counts that the request viewed, one for each shard, none of them below the seen one or above what is applied, and the last commit
-- that they count
pub record AreSeenIn (st : StateParts) (t : Turn) (c : CountsSeen) : Type 0 where
  pub viewed : AreViewsOf t.gathered.now c.counts
  pub risen : AreUpTo t.session.now.counts c.counts
  pub within : AreUpTo c.counts st.applied.counts
  pub listed : AreCounts st.applied.lists c.counts
  pub commit : c.commit ≡ counted_place st.applied.lists c.counts
