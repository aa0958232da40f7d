use Rattle.std.proofs.Common.{[], arith}
use Rattle.std.proofs.lemmas.Grind.{common_steps}
use Rattle.ds_query.proofs.RepeatLemmas.{repeats-start, repeats-more}
use Rattle.ds_query.proofs.reasons.repeats.Goals as goal

pub loop-name-init : goal.loop-name-init
loop-name-init c = rw c.new-seen.ensures (repeats-start c.args.names.now)

pub loop-name-preserved : goal.loop-name-preserved
loop-name-preserved c =
    repeats-more c.args.names.now c.loop-name.seen c.insert.new.self c.loop-name.name-index c.text.result.now [] c.in_ok-insert.field-0 c.loop-name-test.true (grind (arith, common_steps)) c.in_ok-insert.ensures.new c.if-not-branch.false c.in_ok-insert.ensures.ok c.loop-name.invariant
