use Rattle.std.proofs.Common.{◌≡◌, subst}
use Rattle.ds_reply.specs.declared.reply.Body.TheVariants as body
use Rattle.ds_protocol.specs.Preparing.{IsRefused}
use Rattle.ds_protocol.specs.Searches.{search_parts}
use Rattle.ds_judging_lines.specs.Deciding.{DecidesTurn, SaidIs, world_in}
use Rattle.ds_judging_reads.specs.Reading.{IsSearched}
use Rattle.ds_judging_lines.proofs.Saying.{not_memory, ok_two, quiet_counter, says_same}
use Rattle.ds_judging_reads.proofs.SearchLaws.{form_decided}
use Rattle.ds_judging_reads.proofs.reads.judge_search.Goals as goal

pub returns-in-Err-clause-decided : goal.returns-in-Err-clause-decided
returns-in-Err-clause-decided c =
    let turn = c.args.turn.now in
    let s = c.args.session.now in
    let b = c.in-Err.body in
    ok_two c.say_refusal.result (SaidIs turn b) (λ found. b ≡ body.NoMemory → ⊥)
    (λ found. DecidesTurn turn (λ said after. IsSearched (world_in turn) s c.args.search said after) found s)
    (λ found says other.
    form_decided turn c.requires.session.turn s c.args.search b found s
    (subst (λ inside. IsRefused turn.run.now.defs.now inside (search_parts c.args.search) b) c.in_transaction-inside.ensures
    (not_memory b (IsRefused turn.run.now.defs.now c.in_transaction-inside.result (search_parts c.args.search) b) other
    c.in-Err.ensures.refused))
    (quiet_counter b c.in-Err.ensures.quiet) (says_same turn b s found says))
    c.say_refusal.ensures.said c.say_refusal.ensures.memory
