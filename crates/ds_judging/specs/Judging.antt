-- The answers to a request by the parts in which replies to it are judged.
use Rattle.std.specs.Prelude.{ℕ}
use Rattle.ds_reply.specs.declared.reply.Body.{Body}
use Rattle.ds_model.specs.Answers.{CallAnswers, UnlessRefused}
use Rattle.ds_model.specs.Refusals.{refusal_of}
use Rattle.ds_model.specs.Sessions.{Session}
use Rattle.ds_model.specs.Worlds.{World}
use Rattle.ds_protocol.specs.declared.operations.Operation.{Operation}
use Rattle.ds_protocol.specs.declared.operations.Operation.TheVariants as operation
use Rattle.ds_protocol.specs.Operations.{call_of}
use Rattle.ds_judging_reads.specs.Reading.{IsSearched}

-- the answers to an operation: those to each request that stands for it
abbrev pub IsOperated : World → ℕ → Session → Operation → Body → Session → Type 0
IsOperated w client s (operation.Find search) said after = IsSearched w s search said after
IsOperated w client s o said after =
    UnlessRefused (refusal_of w.definitions s (call_of o)) s said after (CallAnswers w client s (call_of o) said after)
