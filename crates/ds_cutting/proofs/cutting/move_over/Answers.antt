use Rattle.std.proofs.Common.{◌≡◌, ◌∙◌, ◌-◌, ◌≤◌, All, List, [], ◌∷◌, ◌++◌, None}
use Rattle.std.proofs.Common.{Some, ℕ, ap, arith, length, length-append, refl, subst, sym}
use Rattle.std.specs.Vec.{vec_items}
use Rattle.std.proofs.lemmas.List.{length-take}
use Rattle.std.proofs.lemmas.List.Elements.{All-append, All-cons, All-nil, All-take}
use Rattle.ds_protocol.specs.Watermarks.{HaveCounts}
use Rattle.ds_clients.specs.Runs.{IsIdle, passes_of, seen_of}
use Rattle.ds_model.specs.Sessions.{Session}
use Rattle.ds_rounds.specs.Rounds.{NumberedLine}
use Rattle.ds_clients.specs.Sessions.{SessionParts}
use Rattle.ds_serving.specs.Rounds.{HasServed}
use Rattle.ds_serving.specs.declared.settings.Setting.{Setting}
use Rattle.ds_serve.specs.RunSteps.{RanBehind}
use Rattle.ds_store.specs.Ending.{HaveEnded}
use Rattle.ds_store.specs.Passes.{PassParts}
use Rattle.ds_cutting.specs.CutSteps.{EndsLater, IsCutTo, asked_of}
use Rattle.ds_feeding.specs.declared.refused.ReindexRefused.TheVariants as refused
use Rattle.ds_words.specs.declared.status.Status.TheVariants as status
use Rattle.ds_cutting.specs.declared.outcome.CutRun.{CutRun}
use Rattle.ds_cutting.specs.declared.outcome.CutStatus.TheVariants as ending
use Rattle.ds_cutting.proofs.Outcomes.{refused_memory}
use Rattle.ds_cutting.proofs.CutEnds.{ends_at_cut}
use Rattle.ds_cutting.proofs.Crossing.{as_many, crossed, front_idle, front_lower, front_many}
use Rattle.ds_cutting.proofs.Going.{counts_moved}
use Rattle.ds_cutting.proofs.cutting.move_over.Goals as goal

pub take_last-loader-requires : goal.take_last-loader-requires
take_last-loader-requires g c =
    let up = c.requires.cut.over.caught_up in
    let same = ap (λ (ps : List PassParts). length ps) c.into_vec-later.ensures in
    let long = ap (λ (ps : List PassParts). length ps) up.all in
    omega (arith, same, long, length-append up.front (up.last ∷ []))

pub moved-requires-clause-many : goal.moved-requires-clause-many
moved-requires-clause-many g c =
    let cut = c.args.gone.cut in
    let many = front_many c.args.plan.now.second.now c.args.old.store.shards c.args.old.store.passes cut.place c.args.old.feeder cut.store
    cut.passes c.take_last-loader.new.self.items c.take_last-loader.result c.requires.cut
    (sym c.into_vec-later.ensures ∙ c.take_last-loader.ensures.items) in
    omega (arith, many, c.requires.all)

pub moved-requires-clause-no_lower : goal.moved-requires-clause-no_lower
moved-requires-clause-no_lower g c =
    let cut = c.args.gone.cut in
    front_lower c.args.plan.now.second.now c.args.old.store.shards c.args.old.store.passes cut.place c.args.old.feeder cut.store cut.passes
    c.take_last-loader.new.self.items c.take_last-loader.result c.requires.cut
    (sym c.into_vec-later.ensures ∙ c.take_last-loader.ensures.items) c.args.gone.sessions c.requires.met

pub moved-requires-clause-idle : goal.moved-requires-clause-idle
moved-requires-clause-idle g c =
    let cut = c.args.gone.cut in
    front_idle c.args.plan.now.second.now c.args.old.store.shards c.args.old.store.passes cut.place c.args.old.feeder cut.store cut.passes
    c.take_last-loader.new.self.items c.take_last-loader.result c.requires.cut
    (sym c.into_vec-later.ensures ∙ c.take_last-loader.ensures.items)

pub close-closed-requires : goal.close-closed-requires
close-closed-requires g c =
    let gone = c.args.gone in
    let cut = gone.cut in
    let front = c.take_last-loader.new.self in
    let many = front_many c.args.plan.now.second.now c.args.old.store.shards c.args.old.store.passes cut.place c.args.old.feeder cut.store
    cut.passes front.items c.take_last-loader.result c.requires.cut (sym c.into_vec-later.ensures ∙ c.take_last-loader.ensures.items) in
    let enough : 16 ≤ front.len = omega (arith, many, front.ok.0, c.requires.all) in
    let clients = as_many front.items c.moved.new.passes.items gone.sessions c.in-Ok.sessions front.len c.in-Ok.ensures.taken
    c.in-Ok.ensures.left front.ok.0 enough c.in-Ok.ensures.moved in
    let all = ap (λ (ps : List PassParts). length ps) (c.from.ensures ∙ c.in-Ok.ensures.old) in
    omega (
      arith,
      all,
      length-append c.push_reserved.new.self.items (passes_of gone.sessions),
      clients,
      c.push_reserved.new.self.ok.0,
      c.push_reserved.ensures.len,
      c.requires.all,
    )

pub run_later-requires-clause-all : goal.run_later-requires-clause-all
run_later-requires-clause-all g c κs within =
    let cut = c.requires.cut in
    let front = c.take_last-loader.new.self in
    let many = front_many c.args.plan.now.second.now c.args.old.store.shards c.args.old.store.passes c.args.gone.cut.place c.args.old.feeder
    c.args.gone.cut.store c.args.gone.cut.passes front.items c.take_last-loader.result cut
    (sym c.into_vec-later.ensures ∙ c.take_last-loader.ensures.items) in
    let left = ap (λ (ps : List PassParts). length ps) c.in-Ok.ensures.left ∙ length-take (front.len - 16) front.items in
    omega (arith, left, many, front.ok.0, c.moved.new.passes.ok.0, cut.over.many, cut.feeding.1, c.requires.all)

pub run_later-requires-clause-idle : goal.run_later-requires-clause-idle
run_later-requires-clause-idle g c κs within =
    let cut = c.args.gone.cut in
    subst (All IsIdle) (sym c.in-Ok.ensures.left)
    (All-take IsIdle _ _ (front_idle c.args.plan.now.second.now c.args.old.store.shards c.args.old.store.passes cut.place c.args.old.feeder
    cut.store cut.passes c.take_last-loader.new.self.items c.take_last-loader.result c.requires.cut
    (sym c.into_vec-later.ensures ∙ c.take_last-loader.ensures.items)))

pub run_later-requires-clause-counts : goal.run_later-requires-clause-counts
run_later-requires-clause-counts g c κs within =
    let cut = c.requires.cut in
    subst (λ (n : ℕ). HaveCounts n (seen_of c.in-Ok.sessions)) (sym (cut.over.shards ∙ cut.feeding.0))
    (counts_moved c.args.old.store.shards c.args.gone.sessions c.in-Ok.sessions c.in-Ok.ensures.moved c.requires.counts)

pub run_later-requires-clause-written : goal.run_later-requires-clause-written
run_later-requires-clause-written g c κs within = c.in-Ok.ensures.moved.written c.requires.written

pub returns-in-Ok-clause-legal : goal.returns-in-Ok-clause-legal
returns-in-Ok-clause-legal g c = λ left held served.
    let plan = c.args.plan.now in
    let old = c.args.old in
    let gone = c.args.gone in
    let cut = gone.cut in
    let shards = c.requires.first.0 in
    let stores = c.requires.cut.over.shards ∙ c.requires.cut.feeding.0 ∙ shards in
    let run = c.run_later.result in
    let left_now = g.I.Source.left c.args.input.now in
    let held_now = g.O.Sink.held c.args.output.now in
    let same : asked_of cut.store.shards g.K.Names.window g.K.Names.definitions ≡ asked_of plan.shards plan.window plan.second.now =
    λ i. record { shards = stores i; window = c.requires.second.1 i; defs = c.requires.second.0 i } in
    crossed (asked_of plan.shards plan.window plan.first.now) plan.second.now plan.after old.store.passes cut.place old.feeder cut.store
    cut.passes c.take_last-loader.new.self.items c.take_last-loader.result run old.passes.items c.close-closed.result.journal
    c.close-closed.result.next
    (subst (λ (n : ℕ). IsCutTo plan.second.now n old.store.passes old.feeder cut.store cut.passes cut.place) shards c.requires.cut)
    (sym c.into_vec-later.ensures ∙ c.take_last-loader.ensures.items) c.requires.met c.requires.idle.0 c.requires.idle.1
    (subst (λ (n : ℕ). HaveEnded n ((old.passes.items ++ old.feeder ∷ []) ++ passes_of gone.sessions) c.close-closed.result.journal
    c.close-closed.result.next) shards
    (subst (λ (ps : List PassParts). HaveEnded old.store.shards ps c.close-closed.result.journal c.close-closed.result.next)
    (c.from.ensures ∙ c.in-Ok.ensures.old ∙ ap (λ (ps : List PassParts). ps ++ passes_of gone.sessions) c.push_reserved.ensures.items)
    c.close-closed.ensures)) c.in-Ok.ensures.moved served
    (subst (λ (s : Setting). (first : List Session) (earlier : List (List NumberedLine)) (said : List ℕ)
    → HasServed (RanBehind s first earlier said) left left_now held held_now gone.rounds c.in-Ok.sessions
    → EndsLater s cut.place c.take_last-loader.result first earlier said left (g.I.Source.left c.run_later.new.input) held
    (g.O.Sink.held c.run_later.new.output) run) same
    (λ first earlier said given. c.run_later.ensures.later first earlier said left held given))

pub returns-in-Ok-clause-ends : goal.returns-in-Ok-clause-ends
returns-in-Ok-clause-ends g c = c.run_later.ensures.ends

pub returns-in-Err-clause-legal : goal.returns-in-Err-clause-legal
returns-in-Err-clause-legal g c = λ left held served.
    let plan = c.args.plan.now in
    let old = c.args.old in
    let closed = c.close-journal.result in
    let others = old.passes.items in
    let all = (others ++ old.feeder ∷ []) ++ passes_of c.args.gone.sessions in
    let run : CutRun = record {
      status = ending.Served status.NoMemory;
      cut = None;
      journal = Some closed.journal;
      unsent = c.none.result;
    } in
    let passes : c.from-in-Err.result ≡ all =
    c.from-in-Err.ensures ∙ c.end.ensures.passes
    ∙ ap (λ (ps : List PassParts). ps ++ passes_of c.in-Err.sessions) (ap vec_items c.in-Err.ensures.kept.1 ∙ c.push_reserved.ensures.items)
    ∙ ap (λ (ss : List SessionParts). (others ++ old.feeder ∷ []) ++ passes_of ss) c.in-Err.ensures.back in
    ends_at_cut (asked_of plan.shards plan.window plan.first.now) plan.second.now plan.after refused.NoMemory old.feeder others run
    (refused_memory plan.second.now old.feeder) served
    (All-append IsIdle others (old.feeder ∷ []) c.requires.idle.1
    (All-cons IsIdle old.feeder [] c.requires.idle.0 (All-nil IsIdle)))
    (record {
      status_is = refl;
      cut_is = refl;
      unsent_is = c.none.ensures;
      journal = closed.journal;
      journal_is = refl;
      next = closed.next;
      ended = subst (λ (n : ℕ). HaveEnded n all closed.journal closed.next) c.requires.first.0
          (subst (λ (ps : List PassParts). HaveEnded old.store.shards ps closed.journal closed.next) passes c.close-journal.ensures);
    })
