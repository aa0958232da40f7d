use Rattle.std.proofs.Common.{◌∙◌, All, List, [], ◌∷◌, ◌++◌, ℕ, ap, arith, refl, subst, sym}
use Rattle.std.proofs.lemmas.List.Elements.{All-append, All-head, All-take}
use Rattle.ds_protocol.specs.Watermarks.{HaveCounts}
use Rattle.ds_rounds.specs.Reading.{ReaderParts}
use Rattle.ds_clients.specs.Runs.{AreWritten, IsIdle, passes_of, seen_of}
use Rattle.ds_clients.specs.Sessions.{SessionParts}
use Rattle.ds_serving.specs.declared.settings.Setting.{Setting}
use Rattle.ds_serving.proofs.Alike.{all_drop}
use Rattle.ds_serve.proofs.Ends.{counts_new}
use Rattle.ds_store.specs.Loads.{LoadingParts}
use Rattle.ds_store.specs.Passes.{PassParts, StoreParts}
use Rattle.ds_cutting.specs.CutSteps.{EndsUncut, IsFeeding, asked_of}
use Rattle.ds_cutting.specs.declared.outcome.CutStatus.TheVariants as cut
use Rattle.ds_serve_cut.proofs.Beginning.{served_run, stopped_run}
use Rattle.ds_cutting.proofs.CutLaws.{back_of, front_of}
use Rattle.ds_cutting.proofs.Going.{feeding_first}
use Rattle.ds_serve_cut.proofs.running.run_begun.Goals as goal

pub serve_fed-outcome-requires-clause-fed : goal.serve_fed-outcome-requires-clause-fed
serve_fed-outcome-requires-clause-fed g c κs within =
    let stores = c.args.stores in
    let begun = c.args.begun in
    let definitions = g.K.Names.definitions in
    let feeder = c.take_last-feeder.result in
    subst (λ (n : ℕ). IsFeeding definitions n stores.reindex.passes stores.reindex feeder)
    (sym (ap (λ (s : Setting). s.shards) c.new-serving.ensures ∙ c.requires.first.0))
    (subst (λ (n : ℕ). IsFeeding definitions c.args.plan.now.shards n stores.reindex feeder)
    (sym (ap (λ (p : LoadingParts). p.passes) c.requires.unfed))
    (feeding_first definitions c.args.plan.now.shards stores.store.passes stores.reindex feeder c.requires.unfed
    c.next-least.ensures.least))

pub serve_fed-outcome-requires-clause-feeder : goal.serve_fed-outcome-requires-clause-feeder
serve_fed-outcome-requires-clause-feeder g c κs within =
    let feeder = c.take_last-feeder.result in
    All-head IsIdle feeder [] (back_of IsIdle c.take_last-feeder.new.self.items (feeder ∷ [])
    (subst (All IsIdle) c.take_last-feeder.ensures.items c.requires.others.0))

pub serve_fed-outcome-requires-clause-idle : goal.serve_fed-outcome-requires-clause-idle
serve_fed-outcome-requires-clause-idle g c κs within =
    subst (All IsIdle) (sym c.as_mut_slice.ensures.value)
    (front_of IsIdle c.take_last-feeder.new.self.items (c.take_last-feeder.result ∷ [])
    (subst (All IsIdle) c.take_last-feeder.ensures.items c.requires.others.0))

pub serve_fed-outcome-requires-clause-reader : goal.serve_fed-outcome-requires-clause-reader
serve_fed-outcome-requires-clause-reader g c κs within = omega (arith, ap (λ (r : ReaderParts). r.number) c.requires.rounds)

pub serve_fed-outcome-requires-clause-counts : goal.serve_fed-outcome-requires-clause-counts
serve_fed-outcome-requires-clause-counts g c κs within =
    subst (λ (n : ℕ). HaveCounts n (seen_of c.args.begun.sessions))
    (sym (ap (λ (s : Setting). s.shards) c.new-serving.ensures ∙ c.requires.first.0))
    (counts_new c.args.plan.now.shards c.args.begun.sessions c.requires.sessions)

pub serve_fed-outcome-requires-clause-written : goal.serve_fed-outcome-requires-clause-written
serve_fed-outcome-requires-clause-written g c κs within = c.requires.sessions.written

pub cut_over-requires-clause-first : goal.cut_over-requires-clause-first
cut_over-requires-clause-first g c κs within = (
  ap (λ (s : StoreParts). s.shards) c.at_cut-at.ensures.store ∙ c.requires.first.0,
  c.requires.first.1,
  c.requires.first.2,
  c.requires.first.3,
)

pub cut_over-requires-clause-idle : goal.cut_over-requires-clause-idle
cut_over-requires-clause-idle g c κs within = (
  subst IsIdle (sym c.at_cut-at.ensures.feeder) c.serve_fed-outcome.ensures.feeder,
  subst (All IsIdle) (sym c.at_cut-at.ensures.others)
      (All-take IsIdle _ _ (All-append IsIdle _ _ c.serve_fed-outcome.ensures.idle (all_drop IsIdle _ _
      (front_of IsIdle c.take_last-feeder.new.self.items (c.take_last-feeder.result ∷ [])
      (subst (All IsIdle) c.take_last-feeder.ensures.items c.requires.others.0))))),
)

pub cut_over-requires-clause-fed : goal.cut_over-requires-clause-fed
cut_over-requires-clause-fed g c κs within =
    let at = c.at_cut-at in
    let after = c.serve_fed-outcome.new.fed in
    let definitions = g.K.Names.definitions in
    let many = c.args.stores.reindex.passes in
    subst (λ (p : PassParts). IsFeeding definitions at.result.store.shards at.result.store.passes at.result.reindex p)
    (sym at.ensures.feeder)
    (subst (λ (p : LoadingParts). IsFeeding definitions at.result.store.shards at.result.store.passes p after.feeder) (sym
    at.ensures.reindex)
    (subst (λ (n : ℕ). IsFeeding definitions at.result.store.shards n after.reindex after.feeder)
    (ap (λ (p : LoadingParts). p.passes) c.requires.unfed ∙ sym (ap (λ (s : StoreParts). s.passes) at.ensures.store))
    (subst (λ (n : ℕ). IsFeeding definitions n many after.reindex after.feeder)
    (ap (λ (s : Setting). s.shards) c.new-serving.ensures ∙ sym (ap (λ (s : StoreParts). s.shards) at.ensures.store))
    c.serve_fed-outcome.ensures.fed)))

pub cut_over-requires-clause-reader : goal.cut_over-requires-clause-reader
cut_over-requires-clause-reader g c κs within =
    omega (arith, ap (λ (r : ReaderParts). r.number) c.at_cut-at.ensures.rounds, c.in-Served.ensures.served.within refl)

pub cut_over-requires-clause-counts : goal.cut_over-requires-clause-counts
cut_over-requires-clause-counts g c κs within =
    let at = c.at_cut-at in
    subst (λ (ss : List SessionParts). HaveCounts at.result.store.shards (seen_of ss)) (sym at.ensures.sessions)
    (subst (λ (n : ℕ). HaveCounts n (seen_of c.serve_fed-outcome.new.sessions))
    (ap (λ (s : Setting). s.shards) c.new-serving.ensures ∙ sym (ap (λ (s : StoreParts). s.shards) at.ensures.store))
    c.serve_fed-outcome.ensures.served.counts)

pub cut_over-requires-clause-written : goal.cut_over-requires-clause-written
cut_over-requires-clause-written g c κs within =
    subst AreWritten (sym c.at_cut-at.ensures.sessions) c.serve_fed-outcome.ensures.served.written

pub returns-in-Stopped : goal.returns-in-Stopped
returns-in-Stopped g c =
    let plan = c.args.plan.now in
    let stores = c.args.stores in
    let begun = c.args.begun in
    let first = c.requires.first in
    let after = c.serve_fed-outcome.new in
    let at = c.at_cut-at in
    let stopped = c.in-Stopped.stopped in
    stopped_run (asked_of plan.shards plan.window plan.first.now) c.new-serving.result plan.second.now plan.after begun.rounds
    after.rounds at.result.rounds begun.sessions after.sessions at.result.sessions stopped at.result.passes.items at.result.feeder
    c.end_uncut.result (c.new-serving.ensures ∙ (λ i. record { shards = first.0 i; window = first.3 i; defs = first.2 i }))
    c.requires.rounds
    c.requires.sessions at.ensures.rounds at.ensures.sessions c.in-Stopped.ensures.served
    (subst (All IsIdle) (sym at.ensures.others)
    (All-take IsIdle _ _ (All-append IsIdle _ _ c.serve_fed-outcome.ensures.idle (all_drop IsIdle _ _
    (front_of IsIdle c.take_last-feeder.new.self.items (c.take_last-feeder.result ∷ [])
    (subst (All IsIdle) c.take_last-feeder.ensures.items c.requires.others.0))))))
    (subst IsIdle (sym at.ensures.feeder) c.serve_fed-outcome.ensures.feeder)
    (subst (λ (n : ℕ). EndsUncut n ((at.result.passes.items ++ at.result.feeder ∷ []) ++ passes_of at.result.sessions)
    (cut.Served stopped.status) stopped.unsent c.end_uncut.result) (ap (λ (s : StoreParts). s.shards) at.ensures.store ∙ first.0)
    c.end_uncut.ensures)

pub returns-in-Served : goal.returns-in-Served
returns-in-Served g c =
    let plan = c.args.plan.now in
    let stores = c.args.stores in
    let begun = c.args.begun in
    let first = c.requires.first in
    let after = c.serve_fed-outcome.new in
    let at = c.at_cut-at in
    served_run (asked_of plan.shards plan.window plan.first.now) c.new-serving.result plan.second.now plan.after begun.rounds
    after.rounds at.result.rounds begun.sessions after.sessions at.result.sessions c.cut_over.result
    (c.new-serving.ensures ∙ (λ i. record { shards = first.0 i; window = first.3 i; defs = first.2 i })) c.requires.rounds
    c.requires.sessions at.ensures.rounds at.ensures.sessions c.in-Served.ensures.served
    (λ before. c.cut_over.ensures.legal (g.I.Source.left c.args.input.now) (g.O.Sink.held c.args.output.now) before)
    c.cut_over.ensures.ends
