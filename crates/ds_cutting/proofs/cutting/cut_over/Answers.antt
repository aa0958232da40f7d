use Rattle.std.proofs.Common.{◌∙◌, List, [], ◌∷◌, ◌++◌, ℕ, ap, arith, subst, sym}
use Rattle.std.proofs.lemmas.List.Elements.{All-append, All-cons, All-nil}
use Rattle.ds_protocol.specs.Watermarks.{HaveCounts}
use Rattle.ds_clients.specs.Runs.{IsIdle, passes_of, seen_of}
use Rattle.ds_indexdef.specs.declared.IndexDef.{IndexDef}
use Rattle.ds_store.specs.Passes.{StoreParts}
use Rattle.ds_cutting.specs.CutSteps.{EndsUncut, IsCutTo, IsRefused, asked_of}
use Rattle.ds_cutting.specs.declared.outcome.CutStatus.{CutStatus}
use Rattle.ds_cutting.proofs.Outcomes.{refused_ends}
use Rattle.ds_cutting.proofs.CutEnds.{ends_at_cut}
use Rattle.ds_cutting.proofs.Going.{cut_to, feeding_later, idle_later, met_later, refused_so}
use Rattle.ds_cutting.proofs.cutting.cut_over.Goals as goal

pub finish-finished-requires-clause-begins : goal.finish-finished-requires-clause-begins
finish-finished-requires-clause-begins g c =
    let at = c.args.at in
    (feeding_later g.K.Names.definitions at.store.shards at.store.passes at.reindex at.feeder c.met_by.new.pass c.requires.fed
    c.met_by.ensures.read).begins

pub finish-finished-requires-clause-place : goal.finish-finished-requires-clause-place
finish-finished-requires-clause-place g c = omega (arith, c.requires.fed.place, c.met_by.ensures.read.place)

pub finish-finished-requires-clause-shards : goal.finish-finished-requires-clause-shards
finish-finished-requires-clause-shards g c =
    c.requires.fed.shards_are ∙ c.requires.first.0 ∙ sym c.requires.first.1 ∙ sym c.slots-slots.ensures.1 ∙ c.slots-slots.ensures.0

pub move_over-requires-clause-first : goal.move_over-requires-clause-first
move_over-requires-clause-first g c κs within = (
  ap (λ (s : StoreParts). s.shards) c.finish-finished.ensures.same ∙ c.requires.first.0,
  c.requires.first.2,
  c.requires.first.3,
)

pub move_over-requires-clause-idle : goal.move_over-requires-clause-idle
move_over-requires-clause-idle g c κs within = (
  idle_later c.met_by.new.pass c.finish-finished.new.pass c.finish-finished.ensures.read
      (idle_later c.args.at.feeder c.met_by.new.pass c.met_by.ensures.read c.requires.idle.0),
  c.requires.idle.1,
)

pub move_over-requires-clause-all : goal.move_over-requires-clause-all
move_over-requires-clause-all g c κs within = c.requires.all ∙ sym (ap (λ (s : StoreParts). s.passes) c.finish-finished.ensures.same)

pub move_over-requires-clause-room : goal.move_over-requires-clause-room
move_over-requires-clause-room g c κs within =
    omega (arith, c.requires.room, ap (λ (s : StoreParts). s.passes) c.finish-finished.ensures.same)

pub move_over-requires-clause-cut : goal.move_over-requires-clause-cut
move_over-requires-clause-cut g c κs within =
    let at = c.args.at in
    let met = c.met_by.new.pass in
    let later = c.finish-finished.new.pass in
    let cut = c.in-Ok.cut in
    subst (λ (s : StoreParts). IsCutTo c.args.plan.now.second.now s.shards s.passes later cut.store cut.passes cut.place)
    (sym c.finish-finished.ensures.same)
    (subst (λ (ds : List IndexDef). IsCutTo ds at.store.shards at.store.passes later cut.store cut.passes cut.place) c.requires.second.0
    (cut_to g.K.Names.definitions at.store.shards at.store.passes at.reindex met later cut.store cut.passes cut.place
    (feeding_later g.K.Names.definitions at.store.shards at.store.passes at.reindex at.feeder met c.requires.fed c.met_by.ensures.read)
    c.finish-finished.ensures.read c.in-Ok.ensures.cut))

pub move_over-requires-clause-met : goal.move_over-requires-clause-met
move_over-requires-clause-met g c κs within =
    met_later c.met_by.new.pass c.finish-finished.new.pass c.args.at.sessions c.finish-finished.ensures.read c.met_by.ensures.met

pub move_over-requires-clause-counts : goal.move_over-requires-clause-counts
move_over-requires-clause-counts g c κs within =
    subst (λ (s : StoreParts). HaveCounts s.shards (seen_of c.args.at.sessions)) (sym c.finish-finished.ensures.same) c.requires.counts

pub end_with-requires-clause-all : goal.end_with-requires-clause-all
end_with-requires-clause-all g c = c.requires.all ∙ sym (ap (λ (s : StoreParts). s.passes) c.finish-finished.ensures.same)

pub end_with-requires-clause-room : goal.end_with-requires-clause-room
end_with-requires-clause-room g c =
    omega (arith, c.requires.room, ap (λ (s : StoreParts). s.passes) c.finish-finished.ensures.same)

pub returns-in-Ok-clause-legal : goal.returns-in-Ok-clause-legal
returns-in-Ok-clause-legal g c = λ left held served. c.move_over.ensures.legal left held served

pub returns-in-Ok-clause-ends : goal.returns-in-Ok-clause-ends
returns-in-Ok-clause-ends g c = c.move_over.ensures.ends

pub returns-in-Err-clause-legal : goal.returns-in-Err-clause-legal
returns-in-Err-clause-legal g c = λ left held served.
    let at = c.args.at in
    let plan = c.args.plan.now in
    let met = c.met_by.new.pass in
    let later = c.finish-finished.new.pass in
    let all = (at.passes.items ++ later ∷ []) ++ passes_of at.sessions in
    let run = c.end_with.result in
    ends_at_cut (asked_of plan.shards plan.window plan.first.now) plan.second.now plan.after c.in-Err.refused later at.passes.items run
    (subst (λ (ds : List IndexDef). IsRefused ds later c.in-Err.refused) c.requires.second.0
    (refused_so g.K.Names.definitions at.store.shards at.store.passes at.reindex met later c.in-Err.refused
    (feeding_later g.K.Names.definitions at.store.shards at.store.passes at.reindex at.feeder met c.requires.fed c.met_by.ensures.read)
    c.in-Err.ensures.refused)) served
    (All-append IsIdle at.passes.items (later ∷ []) c.requires.idle.1 (All-cons IsIdle later []
    (idle_later met later c.finish-finished.ensures.read (idle_later at.feeder met c.met_by.ensures.read c.requires.idle.0))
    (All-nil IsIdle)))
    (subst (λ (how : CutStatus). EndsUncut plan.shards all how [] run) c.of_refused.ensures
    (subst (λ (u : List ℕ). EndsUncut plan.shards all c.of_refused.result u run) c.none.ensures
    (subst (λ (n : ℕ). EndsUncut n all c.of_refused.result c.none.result run)
    (ap (λ (s : StoreParts). s.shards) c.finish-finished.ensures.same ∙ c.requires.first.0) c.end_with.ensures)))

pub returns-in-Err-clause-ends : goal.returns-in-Err-clause-ends
returns-in-Err-clause-ends g c =
    let all = (c.args.at.passes.items ++ c.finish-finished.new.pass ∷ []) ++ passes_of c.args.at.sessions in
    let shards = c.finish-finished.new.old.shards in
    refused_ends c.in-Err.refused c.end_with.result
    (subst (λ (how : CutStatus). EndsUncut shards all how [] c.end_with.result) c.of_refused.ensures
    (subst (λ (u : List ℕ). EndsUncut shards all c.of_refused.result u c.end_with.result) c.none.ensures c.end_with.ensures))
