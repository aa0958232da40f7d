use Rattle.std.proofs.Common.{◌≡◌, ◌+◌, ◌∙◌, ◌++◌, ◌∷◌, List, [], ap, map, subst, sym, take}
use Rattle.std.proofs.lemmas.List.{take_all, take_more}
use Rattle.std.proofs.lemmas.List.Elements.{All-nil}
use Rattle.ds_client.proofs.GrowthLaws.{read_itself, read_through}
use Rattle.ds_clients.specs.Moving.{HaveBeenMet, IsMetBy}
use Rattle.ds_clients.proofs.MovingLaws.{met_more}
use Rattle.ds_clients.proofs.moving.met_by_each.Goals as goal

pub loop-client-init : goal.loop-client-init
loop-client-init g c = record { read = read_itself c.args.pass.now; met = All-nil (IsMetBy c.args.pass.now) }

pub loop-client-preserved : goal.loop-client-preserved
loop-client-preserved g c =
    let clients = c.args.clients.now in
    let i = c.loop-client.client-index in
    let x = c.client-item.result in
    let one_more : take i clients ++ x ∷ [] ≡ take (i + 1) clients =
    ap (λ y. take i clients ++ y ∷ []) c.client-item.is ∙ sym (take_more clients i x c.loop-client-test.true) in
    record {
      read = read_through c.args.pass.now c.loop-client.pass c.meet_pass.new.pass c.loop-client.invariant.read c.meet_pass.ensures.read;
      met = subst (λ (xs : List _). HaveBeenMet c.meet_pass.new.pass (map (λ y. y.session) xs)) one_more
          (met_more (λ y. y.session) c.loop-client.pass c.meet_pass.new.pass c.pass-own.result.now (take i clients) x
          c.meet_pass.ensures.read c.loop-client.invariant.met c.pass-own.ensures c.meet_pass.ensures.place c.meet_pass.ensures.counts
          c.meet_pass.ensures.next c.shown-shown.ensures.commits c.shown-shown.ensures.draws);
    }

pub returns-clause-met : goal.returns-clause-met
returns-clause-met g c =
    subst (λ (xs : List _). HaveBeenMet c.loop-client.pass (map (λ y. y.session) xs))
    (take_all c.loop-client.client-index c.args.clients.now c.loop-client-test.false) c.loop-client.invariant.met
