use Rattle.std.proofs.Common.{◌+◌, ◌∙◌, Some, arith, map, subst, sym}
use Rattle.std.proofs.lemmas.List.{with_items_is}
use Rattle.ds_base.specs.Limits.{greatest_client}
use Rattle.ds_protocol.specs.Watermarks.{HaveCounts}
use Rattle.ds_rounds.specs.Rounds.{lines_of_round}
use Rattle.ds_clients.specs.Clients.{AreReady, EachOf, HasAnsweredOwn}
use Rattle.ds_clients.specs.Runs.{seen_of}
use Rattle.ds_clients.proofs.RunLaws.{counts_run, have_run, numbers_run, so_many}
use Rattle.ds_clients.proofs.answering.run_clients.Goals as goal

pub returns-in-Ok-clause-ok : goal.returns-in-Ok-clause-ok
returns-in-Ok-clause-ok g c =
    let v = c.args.clients.now in
    let met = c.ready_clients.new.clients in
    let is = with_items_is v met
    (omega (
      arith,
      so_many (λ x. x.session.client) (greatest_client + 1) met c.ready_clients.ensures.numbers,
      so_many (λ x. x.session.client) (greatest_client + 1) v.items c.requires.numbers,
      v.ok.0,
    )) in
    have_run (λ x. x.session) (λ x. x.own) g.J.Names.definitions (Some g.J.Names.window) g.N.RunNames.shards
    (lines_of_round c.args.round) (map (λ x. x.session) v.items) met c.run_round.new.clients.items c.ready_clients.ensures.numbers
    (subst (λ n. AreReady n (lines_of_round c.args.round) (map (λ x. x.session) v.items) (map (λ x. x.session) met)
    (map (λ x. x.own) met)) (c.shards.ensures.value ∙ c.handler.invariant.1)
    (subst (λ xs. AreReady c.shards.result (lines_of_round c.args.round) (map (λ x. x.session) xs)
    (map (λ x. x.session) met) (map (λ x. x.own) met)) c.deref_mut.ensures.value c.in-Ok.ensures.ok))
    (subst (λ xs. EachOf (λ x y. HasAnsweredOwn g.J.Names.definitions g.N.RunNames.shards (Some g.J.Names.window) x.session x.own
    y.session) xs c.run_round.new.clients.items) is c.run_round.ensures)

pub returns-in-Ok-clause-numbers : goal.returns-in-Ok-clause-numbers
returns-in-Ok-clause-numbers g c =
    let v = c.args.clients.now in
    let met = c.ready_clients.new.clients in
    let is = with_items_is v met
    (omega (
      arith,
      so_many (λ x. x.session.client) (greatest_client + 1) met c.ready_clients.ensures.numbers,
      so_many (λ x. x.session.client) (greatest_client + 1) v.items c.requires.numbers,
      v.ok.0,
    )) in
    numbers_run (λ x. x.session) (λ x. x.own) g.J.Names.definitions (Some g.J.Names.window) g.N.RunNames.shards met
    c.run_round.new.clients.items c.ready_clients.ensures.numbers
    (subst (λ xs. EachOf (λ x y. HasAnsweredOwn g.J.Names.definitions g.N.RunNames.shards (Some g.J.Names.window) x.session x.own
    y.session) xs c.run_round.new.clients.items) is c.run_round.ensures)

pub returns-in-Ok-clause-counts : goal.returns-in-Ok-clause-counts
returns-in-Ok-clause-counts g c =
    let v = c.args.clients.now in
    let met = c.ready_clients.new.clients in
    let is = with_items_is v met
    (omega (
      arith,
      so_many (λ x. x.session.client) (greatest_client + 1) met c.ready_clients.ensures.numbers,
      so_many (λ x. x.session.client) (greatest_client + 1) v.items c.requires.numbers,
      v.ok.0,
    )) in
    counts_run (λ x. x.session) (λ x. x.own) g.J.Names.definitions (Some g.J.Names.window) g.N.RunNames.shards met
    c.run_round.new.clients.items
    (subst (λ n. HaveCounts n (seen_of (map (λ x. x.session) met))) (c.shards.ensures.value ∙ c.handler.invariant.1)
    c.ready_clients.ensures.counts)
    (subst (λ xs. EachOf (λ x y. HasAnsweredOwn g.J.Names.definitions g.N.RunNames.shards (Some g.J.Names.window) x.session x.own
    y.session) xs c.run_round.new.clients.items) is c.run_round.ensures)

pub returns-in-Err-clause-counts : goal.returns-in-Err-clause-counts
returns-in-Err-clause-counts g c =
    let v = c.args.clients.now in
    let met = c.ready_clients.new.clients in
    let is = with_items_is v met
    (omega (
      arith,
      so_many (λ x. x.session.client) (greatest_client + 1) met c.ready_clients.ensures.numbers,
      so_many (λ x. x.session.client) (greatest_client + 1) v.items c.requires.numbers,
      v.ok.0,
    )) in
    subst (λ xs. HaveCounts g.N.RunNames.shards (seen_of (map (λ x. x.session) xs))) (sym is)
    (subst (λ n. HaveCounts n (seen_of (map (λ x. x.session) met))) (c.shards.ensures.value ∙ c.handler.invariant.1)
    c.ready_clients.ensures.counts)
