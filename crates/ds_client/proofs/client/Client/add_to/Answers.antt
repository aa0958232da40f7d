use Rattle.std.proofs.Common.{◌∙◌, ap}
use Rattle.ds_model.specs.Sessions.{Session}
use Rattle.ds_protocol.specs.Watermarks.{raised_by}
use Rattle.ds_client.specs.Clients.{ClientParts}
use Rattle.ds_client.proofs.MissedLaws.{both_added}
use Rattle.ds_client.proofs.client.Client.add_to.Goals as goal

pub returns : goal.returns
returns g c =
    let client = c.self.inside in
    c.add_to.ensures
    ∙ ap (λ (s : Session). raised_by client.missed s) c.raise.ensures
    ∙ ap (λ (s : Session). raised_by client.missed (raised_by s c.args.greatest.now)) c.seen.ensures
    ∙ both_added c.args.greatest.now client.missed client.session.seen c.self.invariant
    ∙ ap (λ (p : ClientParts). raised_by p.session.seen c.args.greatest.now) c.self.view_is
