use Rattle.std.proofs.Common.{◌≡◌, ◌∙◌, All, List, [], ap, arith, length, refl, subst, sym}
use Rattle.std.proofs.lemmas.List.{length-replicate}
use Rattle.std.proofs.lemmas.List.Elements.{All-replicate}
use Rattle.ds_base.specs.Limits.{first_drawn_id}
use Rattle.ds_store.specs.Passes.{PassParts, nothing_seen}
use Rattle.ds_cutting.specs.CutSteps.{asked_of}
use Rattle.ds_serve_cut.proofs.NoneRun.{nothing_ran}
use Rattle.ds_serve_cut.proofs.running.run_made.Goals as goal

pub begin-requires-clause-enough : goal.begin-requires-clause-enough
begin-requires-clause-enough g c =
    let plan = c.args.plan.now in
    let many = ap (λ (ps : List PassParts). length ps) c.requires.new ∙ length-replicate plan.passes (nothing_seen plan.shards) in
    omega (arith, many, c.requires.passes)

pub begin-requires-clause-new : goal.begin-requires-clause-new
begin-requires-clause-new g c =
    let plan = c.args.plan.now in
    subst (λ (ps : List PassParts). All (λ p. p ≡ nothing_seen plan.shards) ps) (sym c.requires.new)
    (All-replicate (λ p. p ≡ nothing_seen plan.shards) plan.passes (nothing_seen plan.shards) refl)

pub run_begun-requires-clause-first : goal.run_begun-requires-clause-first
run_begun-requires-clause-first g c κs within =
    let first = c.requires.first in (first.0, first.1, first.2, first.3)

pub run_begun-requires-clause-others : goal.run_begun-requires-clause-others
run_begun-requires-clause-others g c κs within =
    let plan = c.args.plan.now in
    let many = ap (λ (ps : List PassParts). length ps) c.requires.new ∙ length-replicate plan.passes (nothing_seen plan.shards) in
    (c.in-Ok.ensures.appliers, omega (arith, many, c.in-Ok.ensures.all, c.requires.passes))

pub run_begun-requires-clause-all : goal.run_begun-requires-clause-all
run_begun-requires-clause-all g c κs within =
    let plan = c.args.plan.now in
    c.in-Ok.ensures.all ∙ ap (λ (ps : List PassParts). length ps) c.requires.new
    ∙ length-replicate plan.passes (nothing_seen plan.shards) ∙ sym c.requires.first.4

pub run_begun-requires-clause-room : goal.run_begun-requires-clause-room
run_begun-requires-clause-room g c κs within =
    let plan = c.args.plan.now in
    let many = ap (λ (ps : List PassParts). length ps) c.requires.new ∙ length-replicate plan.passes (nothing_seen plan.shards) in
    omega (arith, many, c.in-Ok.ensures.room, c.requires.first.4)

pub run_begun-requires-clause-unfed : goal.run_begun-requires-clause-unfed
run_begun-requires-clause-unfed g c κs within =
    let many = sym c.requires.first.4 in
    c.requires.unfed ∙ (λ i. record { shards = c.args.plan.now.shards; passes = many i; journal = []; next = first_drawn_id })

pub returns-in-Err : goal.returns-in-Err
returns-in-Err g c =
    let plan = c.args.plan.now in
    nothing_ran (asked_of plan.shards plan.window plan.first.now) plan.second.now plan.after (g.I.Source.left c.args.input.now)
    (g.O.Sink.held c.args.output.now) (g.I.Source.faults c.args.input.now) (g.O.Sink.faults c.args.output.now) c.nothing_run.result
    c.nothing_run.ensures.status c.nothing_run.ensures.cut c.nothing_run.ensures.journal c.nothing_run.ensures.unsent
