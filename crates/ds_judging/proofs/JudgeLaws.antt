-- A line is answered by what its request is answered, or by lack of memory, which no other reply's line says.
use Rattle.std.proofs.Common.{◌≡◌, ℕ, refl, sym, ◌∙◌, subst, Option, Some, None}
use Rattle.std.specs.Prelude.{Result, Ok, Err}
use Rattle.ds_request.specs.declared.call.Request.{Request}
use Rattle.ds_reply.specs.declared.reply.Body.{Body}
use Rattle.ds_reply.specs.declared.reply.Body.TheVariants as body
use Rattle.ds_model.specs.Answers.{AskedAnswers, BodyAnswers, RequestAnswers}
use Rattle.ds_model.specs.Asked.{search_of}
use Rattle.ds_model.specs.Sessions.{Session}
use Rattle.ds_model.specs.Worlds.{World}
use Rattle.ds_protocol.specs.Quiet.{IsQuiet}
use Rattle.ds_judging_lines.specs.Deciding.{DecidesTurn, HasCounter, SaidIs, world_in}
use Rattle.ds_reply_lines.specs.ReplyLines.{IsSaid}
use Rattle.ds_judging_lines.specs.declared.turn.Turn.{Turn}
use Rattle.ds_judging_lines.proofs.Decisions.{decides_as}
use Rattle.ds_judging.proofs.MemoryReplies.{memory_alone}
use Rattle.ds_judging.proofs.OperationLaws.{alone_decided}
use Rattle.ds_judging_lines.proofs.Saying.{quiet_counter, says_same}

module _ (turn : Turn) (s : Session) where
  abbrev w : World
  w = world_in turn

  abbrev bodies : Result Request (ℕ × Body) → Body → Session → Type 0
  bodies line said after = BodyAnswers w s line said after

  -- lack of memory is told
  pub memory_decided : (line : Result Request (ℕ × Body)) (b : Body) → SaidIs turn body.NoMemory (Some b)
      → DecidesTurn turn (bodies line) (Some b) s
  memory_decided line b says = record {
    counter = subst HasCounter (sym says.0) tt;
    is_said = says.1;
    is_answer = subst (λ x. bodies line x s) (sym says.0) refl;
    only = λ other later counter said answers.
        let told = subst (IsSaid turn.client turn.number turn.line.now) says.0 says.1 in
        let same : other ≡ body.NoMemory = memory_alone turn.client turn.number other (said ∙ sym told) in
        (same ∙ sym says.0, subst (λ x. bodies line x later) same answers);
  }

  -- where it isn't, the line is answered as what was read from it
  pub asked_decided : (line : Result Request (ℕ × Body)) (found : Option Body) (after : Session) → SaidIs turn body.NoMemory None
      → DecidesTurn turn (λ said t. AskedAnswers w s line said t) found after → DecidesTurn turn (bodies line) found after
  asked_decided line found after free = decides_as (λ said t. AskedAnswers w s line said t) turn (bodies line) after found there back where
    there : (b : Body) (t : Session) → HasCounter b → IsSaid turn.client turn.number turn.line.now b → AskedAnswers w s line b t
        → bodies line b t
    there body.NoMemory t counter said answers = absurd (free said)
    there _ t counter said answers = answers

    back : (b : Body) (t : Session) → HasCounter b → IsSaid turn.client turn.number turn.line.now b → bodies line b t
        → AskedAnswers w s line b t
    back body.NoMemory t counter said answers = absurd (free said)
    back _ t counter said answers = answers

  pub request_read : (r : Request) (found : Option Body) (after : Session) → r.client ≡ turn.client
      → DecidesTurn turn (λ said t. RequestAnswers w turn.client s r.call (search_of r.call) said t) found after
      → DecidesTurn turn (λ said t. AskedAnswers w s (Ok r) said t) found after
  request_read r found after own decided =
      subst (λ client. DecidesTurn turn (λ said t. RequestAnswers w client s r.call (search_of r.call) said t) found after)
      (sym own) decided

  pub refusal_read : (b : Body) (found : Option Body) → IsQuiet b → SaidIs turn b found
      → DecidesTurn turn (λ said t. AskedAnswers w s (Err (turn.client, b)) said t) found s
  refusal_read b found quiet says =
      alone_decided turn s (λ said t. AskedAnswers w s (Err (turn.client, b)) said t) b found s (λ other later answers. answers)
      (refl, refl) (quiet_counter b quiet) (says_same turn b s found says)
