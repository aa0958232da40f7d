use Rattle.std.proofs.Common.{◌≡◌, Some}
use Rattle.ds_reply.specs.declared.reply.Body.TheVariants as body
use Rattle.ds_model.specs.Groups.{group_refusal}
use Rattle.ds_judging_lines.specs.Deciding.{DecidesTurn, SaidIs, world_in}
use Rattle.ds_judging_reads.specs.Reading.{IsSearched}
use Rattle.ds_judging_lines.proofs.Saying.{ok_two, says_same, silent_counter, told_refusal}
use Rattle.ds_judging_reads.proofs.SearchLaws.{ancestor_of, group_decided, refused_in}
use Rattle.ds_judging_reads.proofs.reads.judge_under.Goals as goal

pub returns-in-Some-clause-decided : goal.returns-in-Some-clause-decided
returns-in-Some-clause-decided c =
    let turn = c.args.turn.now in
    let s = c.args.session.now in
    let b = c.in-Some.body in
    let a = ancestor_of c.args.search.now c.args.group c.requires.group c.key_is_lawful.ensures in
    ok_two c.say_refusal.result (SaidIs turn b) (λ found. b ≡ body.NoMemory → ⊥)
    (λ found. DecidesTurn turn (λ said after. IsSearched (world_in turn) s c.args.search.now said after) found s)
    (λ found says other.
    group_decided turn c.requires.session.turn s c.args.search.now c.args.ready.now.normal c.args.ready.now.window
    c.requires.ready b found s
    (refused_in s c.args.search.now c.args.group b a
    (told_refusal (group_refusal s.transaction (Some c.args.group)) b c.in-Some.ensures.told other))
    (silent_counter b c.in-Some.ensures.quiet) (says_same turn b s found says))
    c.say_refusal.ensures.said c.say_refusal.ensures.memory
