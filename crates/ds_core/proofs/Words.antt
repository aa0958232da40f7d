-- What several proofs name of std, of the crates below and of this crate's definitions, handed on.
pub use Rattle.std.proofs.Common.{◌≡◌, ◌≢◌, ◌⊎◌, inl, inr, ℕ, ◌+◌, ◌≤◌, Bool, false, List, [], ◌++◌, length, refl, ap, sym, ◌∙◌, subst}
pub use Rattle.std.proofs.Common.{arith, Option, Some, None, get_or, ◌-◌, true, cond, ◌∷◌, map, append_assoc, zero, suc, ◌<◌}
pub use Rattle.std.proofs.Common.{length-append, take, rules}
pub use Rattle.std.proofs.lemmas.Bool.{cases_eq}
pub use Rattle.std.proofs.lemmas.Grind.{flat_map-append}
pub use Rattle.std.proofs.lemmas.List.{append-nil, get_or-set_same, set-get_or, get_or-set_other}
pub use Rattle.std.proofs.lemmas.List.Elements.{All-append, All-nil}
pub use Rattle.std.proofs.lemmas.List.FromFn.{length-range_with_len}
pub use Rattle.std.specs.List.{range_with_len}
pub use Rattle.std.specs.Option.{option_map}
pub use Rattle.std.specs.Prelude.{Ok, IfSome, IsPermutation, is_some, replicate, slice_set, flat_map, slice_get, All}
pub use Rattle.ds_base.specs.Limits.{greatest_client, first_drawn_id}
pub use Rattle.ds_core.specs.Happenings.{Said, moment_of, Moment, Happening, Happens, none_open, event_of}
pub use Rattle.ds_core.specs.Machines.{MachineParts, IsDueNow, IsLegal, IsOpen, IsSameRun, closing, held, held_by, just_opened, noted}
pub use Rattle.ds_core.specs.Machines.{open_in, performed, session_in, IsLawfulEvent, parts}
pub use Rattle.ds_core.specs.Rounds.{AreAnswered, IsLegalRound}
pub use Rattle.ds_core.specs.Steps.{with_gathered, IsSteppable}
pub use Rattle.ds_core.specs.Takings.{Begun, Comes, Ends, WaitsFor, nothing_gathered, open_of, session_of, shown_at, open_then, shown_then}
pub use Rattle.ds_core.specs.Takings.{IsTaken, AreWaiting, IsQuiet, Takes}
pub use Rattle.ds_core.specs.Timelines.{IsTimely, Moves, IsApply, IsIssue, IsTouch, IsView, Occurs, IsCheck, IsCommit}
pub use Rattle.ds_core.specs.Witnesses.{Advances, Course, OfShard, StandsOn, course_of, gathered_of, SteppedTo, stepped, GoesOn, HappensAt}
pub use Rattle.ds_core.specs.Witnesses.{IsPast, TakesAt, AreWitnessed, IsGatheredThen, IsOpenThen, IsTouchedThen}
pub use Rattle.ds_core.specs.declared.event.Transcript.{Transcript}
pub use Rattle.ds_core.specs.declared.opened.Open.{Open}
pub use Rattle.ds_effects.specs.Gathered.{GatheredParts}
pub use Rattle.ds_effects.specs.declared.effect.Effect.{Effect}
pub use Rattle.ds_effects.specs.declared.effect.Plan.{Plan}
pub use Rattle.ds_effects.specs.declared.gathered.Step.{Step}
pub use Rattle.ds_indexdef.specs.declared.IndexDef.{IndexDef}
pub use Rattle.ds_log.specs.declared.Commit.{Commit}
pub use Rattle.ds_machine.proofs.Growing.{looked-shown}
pub use Rattle.ds_machine.proofs.OperationPlans.{gathered_there}
pub use Rattle.ds_machine.proofs.Stepped.{none_ids, draws-parts}
pub use Rattle.ds_machine.specs.Due.{IsDue, ids_of, IsGathered, ids_from}
pub use Rattle.ds_machine.specs.Effects.{store_after, session_after}
pub use Rattle.ds_machine.specs.Gathering.{draws, gathered_by, counts_by, shown_by}
pub use Rattle.ds_machine.specs.Missing.{Shown, missing, shown}
pub use Rattle.ds_machine.specs.States.{StateParts, StoreParts, world, Grows, IsSession}
pub use Rattle.ds_machine.specs.Told.{AreNumbersOf, ToldAlways}
pub use Rattle.ds_machine.specs.declared.opening.Work.{Work}
pub use Rattle.ds_model.specs.Answers.{BodyAnswers}
pub use Rattle.ds_model.specs.Asked.{Reading, client_of}
pub use Rattle.ds_model.specs.Legal.{acknowledged, drawn_by_call, acknowledged_in}
pub use Rattle.ds_model.specs.Sessions.{Session, first_session, first_sessions, count_of}
pub use Rattle.ds_model.specs.Worlds.{World}
pub use Rattle.ds_protocol.specs.Operations.{IsOperationOf, call_of, ids_asked}
pub use Rattle.ds_protocol.specs.declared.operations.Operation.{Operation}
pub use Rattle.ds_reply.specs.declared.reply.Body.{Body}
pub use Rattle.ds_reply.specs.declared.reply.Reply.{Reply}
pub use Rattle.ds_request.specs.declared.call.Call.{Call}
pub use Rattle.ds_request.specs.declared.call.Request.{Request}
pub use Rattle.ds_rounds.specs.Lines.{TooLong}
