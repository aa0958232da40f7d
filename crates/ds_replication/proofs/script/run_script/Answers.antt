use Rattle.std.proofs.Common.{◌≡◌, ℕ, ◌+◌, ◌<◌, List, length, Some, sym, ap, ◌∙◌, subst, arith}
use Rattle.std.proofs.lemmas.Bool.Decides.{nat_tests}
use Rattle.std.specs.List.{before_first}
use Rattle.ds_replication.specs.Lines.{is_newline, lines_of}
use Rattle.ds_replication.specs.Scripts.{IsStopped, next_world, run_lines, run_script}
use Rattle.ds_replication.proofs.Cuts.{shorter}
use Rattle.ds_replication.proofs.Scripted.{run_more, run_stopped}
use Rattle.ds_replication.proofs.script.run_script.Goals as goal

pub loop-rest-preserved : goal.loop-rest-preserved
loop-rest-preserved c =
    let some : 0 < length c.loop-rest.rest.now = grind (arith, nat_tests) in
    let taken : next_world c.loop-rest.world (before_first is_newline c.loop-rest.rest.now) ≡ Some c.take_step.new.world =
    ap (next_world c.loop-rest.world) (sym c.cut_at.ensures.front) ∙ c.in-Ok.ensures.taken in
    let more = run_more c.loop-rest.number c.loop-rest.rest.now c.loop-rest.world c.take_step.new.world some taken in (
      ap (λ (l : List ℕ). run_lines (c.loop-rest.number + 1) (lines_of l) c.take_step.new.world) c.cut_at.ensures.rest ∙ sym more ∙ c.loop-rest.invariant.0,
      (let short = shorter is_newline c.loop-rest.rest.now some in let e = ap length c.cut_at.ensures.rest in let b = c.loop-rest.invariant.1 in omega arith),
    )

pub returns-in-Err-clause-refused : goal.returns-in-Err-clause-refused
returns-in-Err-clause-refused c =
    run_stopped c.loop-rest.number c.loop-rest.rest.now c.loop-rest.world (run_script c.args.members c.args.text.now) c.in-Err.status
    (grind (arith, nat_tests))
    (subst (λ (l : List ℕ). IsStopped (next_world c.loop-rest.world l) c.loop-rest.number c.in-Err.status) c.cut_at.ensures.front c.in-Err.ensures.stopped)
    c.loop-rest.invariant.0
