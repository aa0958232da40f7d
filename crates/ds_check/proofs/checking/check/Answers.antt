use Rattle.std.proofs.Common.{◌≡◌, List, Some, None, ◌∙◌, length, map, ap, subst, sym, rules, All}
use Rattle.std.specs.Prelude.{option_map, ◌↔◌}
use Rattle.std.proofs.lemmas.Result.{IfOk-weaker}
use Rattle.std.proofs.lemmas.List.{length-map}
use Rattle.ds_history.specs.Histories.{HistoryParts}
use Rattle.ds_model.specs.Sessions.{first_sessions}
use Rattle.ds_model.specs.Worlds.{world_of}
use Rattle.ds_reply_lines.specs.ReplyLines.{whole_lines}
use Rattle.ds_rounds.specs.Rounds.{rounds_of_input}
use Rattle.ds_check.specs.Verdicts.{IsLegalText, IsVerdict}
use Rattle.ds_check.specs.Walks.{IsJudged, MayBeTaken, asks}
use Rattle.ds_check.specs.declared.checking.Verdict.TheVariants as verdict
use Rattle.ds_check.specs.declared.steps.Step.{Step}
use Rattle.ds_check.proofs.AskedSteps.{may_be_taken}
use Rattle.ds_check.proofs.VerdictLaws.{found_judged, found_none, found_other}
use Rattle.ds_check.proofs.checking.check.Goals as goal

none : (c : goal.After-drop-steps-in_default) → None ≡ whole_lines c.args.replies.now
none c = sym (ap (option_map (λ lines. map (λ line. line.now) lines.items)) c.in_default.is) ∙ c.in_ok-lines.ensures

pub returns-in_default-clause-verdict : goal.returns-in_default-clause-verdict
returns-in_default-clause-verdict c =
    (found_none c.args.defs.now c.args.shards c.args.window (rounds_of_input c.args.input.now) c.args.journal.now c.args.replies.now
    c.in_ok-asked_of_input.field-0.items c.in_ok-steps.steps.items c.in_ok-steps.ensures c.in_ok-asked_of_input.ensures (none c)).0

pub returns-in_default-clause-legal : goal.returns-in_default-clause-legal
returns-in_default-clause-legal c =
    (found_none c.args.defs.now c.args.shards c.args.window (rounds_of_input c.args.input.now) c.args.journal.now c.args.replies.now
    c.in_ok-asked_of_input.field-0.items c.in_ok-steps.steps.items c.in_ok-steps.ensures c.in_ok-asked_of_input.ensures (none c)).1

pub returns-then-len-asks-clause-verdict : goal.returns-then-len-asks-clause-verdict
returns-then-len-asks-clause-verdict c =
    let whole = sym (ap (option_map (λ lines. map (λ line. line.now) lines.items)) c.in-Some.is) ∙ c.in_ok-lines.ensures in
    let many : c.len.result ≡ length c.in-Some.lines.items = search rules in
    let asked : c.asks.result ≡ asks c.in_ok-steps.steps.items = search rules in
    (found_other c.args.defs.now c.args.shards c.args.window (rounds_of_input c.args.input.now) c.args.journal.now c.args.replies.now
    c.in_ok-asked_of_input.field-0.items c.in_ok-steps.steps.items c.in_ok-steps.ensures c.in_ok-asked_of_input.ensures
    (map (λ line. line.now) c.in-Some.lines.items) whole
    (λ counted. c.if-len-asks.true (many ∙ sym (length-map c.in-Some.lines.items (λ line. line.now)) ∙ counted ∙ sym asked))).0

pub returns-then-len-asks-clause-legal : goal.returns-then-len-asks-clause-legal
returns-then-len-asks-clause-legal c =
    let whole = sym (ap (option_map (λ lines. map (λ line. line.now) lines.items)) c.in-Some.is) ∙ c.in_ok-lines.ensures in
    let many : c.len.result ≡ length c.in-Some.lines.items = search rules in
    let asked : c.asks.result ≡ asks c.in_ok-steps.steps.items = search rules in
    (found_other c.args.defs.now c.args.shards c.args.window (rounds_of_input c.args.input.now) c.args.journal.now c.args.replies.now
    c.in_ok-asked_of_input.field-0.items c.in_ok-steps.steps.items c.in_ok-steps.ensures c.in_ok-asked_of_input.ensures
    (map (λ line. line.now) c.in-Some.lines.items) whole
    (λ counted. c.if-len-asks.true (many ∙ sym (length-map c.in-Some.lines.items (λ line. line.now)) ∙ counted ∙ sym asked))).1

pub judged-requires-clause-each : goal.judged-requires-clause-each
judged-requires-clause-each c =
    let steps = c.in_ok-steps.steps.items in
    subst (λ (h : HistoryParts). All (MayBeTaken h.shards) steps) (sym c.in_ok-make.ensures)
    (subst (λ (xs : List Step). All (MayBeTaken c.args.shards) xs) (sym c.in_ok-steps.ensures)
    (may_be_taken c.args.shards (rounds_of_input c.args.input.now) c.in_ok-asked_of_input.field-0.items c.in_ok-asked_of_input.ensures))

pub returns-clause-verdict : goal.returns-clause-verdict
returns-clause-verdict c =
    let h = c.in_ok-make.field-0 in
    let steps = c.in_ok-steps.steps.items in
    let lines = map (λ line. line.now) c.as_slice-2.result.now in
    let whole = ap (λ lines. Some (map (λ line. line.now) lines)) c.as_slice-2.ensures.value
    ∙ sym (ap (option_map (λ lines. map (λ line. line.now) lines.items)) c.in-Some.is) ∙ c.in_ok-lines.ensures in
    let many : c.len.result ≡ length c.as_slice-2.result.now = search rules in
    let asked : c.asks.result ≡ asks steps = search rules in
    let counted : length lines ≡ asks steps = length-map c.as_slice-2.result.now (λ line. line.now) ∙ sym many ∙ c.if-len-asks.false
    ∙ asked in
    IfOk-weaker c.judged.result
    (IsJudged (world_of c.args.defs.now h.shards (Some c.args.window) h.journal) (first_sessions h.shards) steps lines (length h.journal))
    (IsVerdict c.args.defs.now c.args.shards c.args.window (rounds_of_input c.args.input.now) c.args.journal.now c.args.replies.now)
    (λ v judged. (found_judged c.args.defs.now c.args.shards c.args.window (rounds_of_input c.args.input.now) c.args.journal.now
    c.args.replies.now
    c.in_ok-asked_of_input.field-0.items steps c.in_ok-steps.ensures c.in_ok-asked_of_input.ensures lines h v c.in_ok-make.ensures whole
    counted judged).0)
    c.judged.ensures

pub returns-clause-legal : goal.returns-clause-legal
returns-clause-legal c =
    let h = c.in_ok-make.field-0 in
    let steps = c.in_ok-steps.steps.items in
    let lines = map (λ line. line.now) c.as_slice-2.result.now in
    let whole = ap (λ lines. Some (map (λ line. line.now) lines)) c.as_slice-2.ensures.value
    ∙ sym (ap (option_map (λ lines. map (λ line. line.now) lines.items)) c.in-Some.is) ∙ c.in_ok-lines.ensures in
    let many : c.len.result ≡ length c.as_slice-2.result.now = search rules in
    let asked : c.asks.result ≡ asks steps = search rules in
    let counted : length lines ≡ asks steps = length-map c.as_slice-2.result.now (λ line. line.now) ∙ sym many ∙ c.if-len-asks.false
    ∙ asked in
    IfOk-weaker c.judged.result
    (IsJudged (world_of c.args.defs.now h.shards (Some c.args.window) h.journal) (first_sessions h.shards) steps lines (length h.journal))
    (λ v. (v ≡ verdict.Legal) ↔ IsLegalText c.args.defs.now c.args.shards c.args.window (rounds_of_input c.args.input.now)
    c.args.journal.now
    c.args.replies.now)
    (λ v judged. (found_judged c.args.defs.now c.args.shards c.args.window (rounds_of_input c.args.input.now) c.args.journal.now
    c.args.replies.now
    c.in_ok-asked_of_input.field-0.items steps c.in_ok-steps.ensures c.in_ok-asked_of_input.ensures lines h v c.in_ok-make.ensures whole
    counted judged).1)
    c.judged.ensures
