use Rattle.std.proofs.Common.{◌∙◌, sym}
use Rattle.ds_clients.proofs.RunLaws.{clients_mapped}
use Rattle.ds_clients.proofs.rounds.Sessions.make.Goals as goal

pub invariant_of-result : goal.invariant_of-result
invariant_of-result g c = sym (clients_mapped (λ x. x.session) (λ x. x.own) c.seated.result.items) ∙ c.seated.ensures.clients.clients
