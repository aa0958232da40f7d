use Rattle.std.proofs.Common.{◌∙◌, List, Some, ap, length, subst, sym}
use Rattle.ds_asked.specs.declared.lines.Asked.{Asked}
use Rattle.ds_protocol.proofs.Meetings.{greater-length}
use Rattle.ds_client.specs.Clients.{ClientParts, HasAnsweredOwn, taking}
use Rattle.ds_client.proofs.MissedLaws.{taken_answered}
use Rattle.ds_client.proofs.client.Client.run.Goals as goal

pub pass_on-requires-clause-shards : goal.pass_on-requires-clause-shards
pass_on-requires-clause-shards g c =
    let client = c.self.inside in
    c.self.invariant ∙ sym (greater-length client.session.seen.counts client.missed.counts)
    ∙ ap (λ (p : ClientParts). length p.session.seen.counts) c.self.view_is ∙ c.requires.starts.counts

pub returns : goal.returns
returns g c =
    let client = c.self.inside in
    let last = taking c.pass_on.new.self c.answer_own.new.session in
    subst (λ (p : ClientParts). HasAnsweredOwn g.J.Names.definitions c.args.store.now.shards (Some g.J.Names.window) p.session p.own last)
    c.self.view_is
    (taken_answered g.J.Names.definitions c.args.store.now.shards (Some g.J.Names.window) client.missed c.pass_on.new.self client.session
    c.pass_on.new.session c.answer_own.new.session client.own.items c.pass_on.ensures.taken
    (ap (λ (p : ClientParts). p.session.text) c.self.view_is ∙ c.requires.starts.written)
    (subst (λ (own : List Asked). HasAnsweredOwn g.J.Names.definitions c.args.store.now.shards (Some g.J.Names.window)
    c.pass_on.new.session own c.answer_own.new.session) (ap (λ v. v.items) c.replace-own.ensures.value) c.answer_own.ensures)
    (c.answer_own.ensures.counts ∙ c.pass_on.ensures.counts ∙ sym c.self.invariant) c.pass_on.ensures.nothing)
