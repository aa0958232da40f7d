use Rattle.std.proofs.Common.{◌∙◌, ap, length, sym}
use Rattle.ds_model.specs.Sessions.{Session}
use Rattle.ds_protocol.proofs.Meetings.{greater-length}
use Rattle.ds_client.proofs.missed.Missed.add.Goals as goal

pub invariant_of-self : goal.invariant_of-self
invariant_of-self c =
    c.self.invariant
    ∙ sym (ap (λ (s : Session). length s.counts) c.raise.ensures ∙ greater-length c.self.inside.seen.counts c.args.shown.now.counts)
