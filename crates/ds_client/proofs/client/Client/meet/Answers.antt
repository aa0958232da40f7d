use Rattle.std.proofs.Common.{◌∙◌, ap, length, sym}
use Rattle.ds_model.specs.Sessions.{Session}
use Rattle.ds_protocol.proofs.Meetings.{greater-length}
use Rattle.ds_client.specs.Clients.{ClientParts}
use Rattle.ds_client.proofs.MissedLaws.{missed_more}
use Rattle.ds_client.proofs.client.Client.meet.Goals as goal

pub invariant_of-self : goal.invariant_of-self
invariant_of-self g c =
    ap (λ (s : Session). length s.counts) c.add.ensures
    ∙ greater-length c.self.inside.missed.counts c.args.greatest.now.counts ∙ c.self.invariant

pub returns-clause-taken : goal.returns-clause-taken
returns-clause-taken g c =
    let client = c.self.inside in
    missed_more c.args.greatest.now client.missed c.add.new.self client.session c.args.self.now.session
    (ap (λ (p : ClientParts). p.session) c.self.view_is) c.add.ensures c.self.invariant c.requires

pub returns-clause-counts : goal.returns-clause-counts
returns-clause-counts g c =
    let counts = c.self.inside.session.seen.counts in
    greater-length counts c.add.new.self.counts ∙ sym (greater-length counts c.self.inside.missed.counts)
    ∙ ap (λ (p : ClientParts). length p.session.seen.counts) c.self.view_is
