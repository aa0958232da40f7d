use Rattle.ds_client.proofs.MissedLaws.{taken_nothing}
use Rattle.std.proofs.Common.{length, refl}
use Rattle.ds_client.proofs.client.Client.new.Goals as goal

pub returns-clause-session : goal.returns-clause-session
returns-clause-session g c = taken_nothing c.args.missed c.args.session (length c.args.session.seen.counts) refl c.requires
