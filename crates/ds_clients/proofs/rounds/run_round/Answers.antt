use Rattle.std.proofs.Common.{Some, map, subst, sym}
use Rattle.std.specs.Prelude.{OnErr, OnOk}
use Rattle.ds_protocol.specs.Watermarks.{HaveCounts}
use Rattle.ds_rounds.specs.Rounds.{lines_of_round}
use Rattle.ds_clients.specs.Clients.{AreAlike}
use Rattle.ds_clients.specs.Runs.{AreWritten, HaveRun, seen_of}
use Rattle.ds_clients.proofs.rounds.run_round.Goals as goal

pub run_clients-requires-clause-counts : goal.run_clients-requires-clause-counts
run_clients-requires-clause-counts g c κs within =
    subst (λ ss. HaveCounts g.N.RunNames.shards (seen_of ss)) (sym c.sessions.view_is)
    (subst (λ n. HaveCounts n (seen_of c.args.sessions.now)) c.requires.shards c.requires.counts)

pub run_clients-requires-clause-written : goal.run_clients-requires-clause-written
run_clients-requires-clause-written g c κs within = subst AreWritten (sym c.sessions.view_is) c.requires.written

pub returns-clause-ok : goal.returns-clause-ok
returns-clause-ok g c =
    let last = map (λ x. x.session) c.run_clients.new.clients.items in
    subst (λ ss. OnOk c.run_clients.result (HaveRun g.J.Names.definitions c.args.store.now.shards (Some g.J.Names.window)
    (lines_of_round c.args.round) ss last)) c.sessions.view_is
    (subst (λ n. OnOk c.run_clients.result (HaveRun g.J.Names.definitions n (Some g.J.Names.window) (lines_of_round c.args.round)
    (map (λ x. x.session) c.sessions.inside.clients.items) last)) (sym c.requires.shards) c.run_clients.ensures.ok)

pub returns-clause-err : goal.returns-clause-err
returns-clause-err g c =
    let last = map (λ x. x.session) c.run_clients.new.clients.items in
    subst (λ ss. OnErr c.run_clients.result (AreAlike ss last × AreWritten last)) c.sessions.view_is c.run_clients.ensures.err

pub returns-clause-counts : goal.returns-clause-counts
returns-clause-counts g c =
    subst (λ n. HaveCounts n (seen_of (map (λ x. x.session) c.run_clients.new.clients.items))) (sym c.requires.shards)
    c.run_clients.ensures.counts
