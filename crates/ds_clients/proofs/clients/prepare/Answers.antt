use Rattle.std.proofs.Common.{◌∙◌}
use Rattle.ds_clients.proofs.RunLaws.{owned_after, roomed_after}
use Rattle.ds_clients.proofs.clients.prepare.Goals as goal

pub returns-in_err-make_rooms-clause-same : goal.returns-in_err-make_rooms-clause-same
returns-in_err-make_rooms-clause-same g c =
    roomed_after (λ x. x.session) (λ x. x.own) _ _ _ c.hand_out.ensures.sessions c.make_rooms.ensures.same

pub returns-in_err-greatest-clause-same : goal.returns-in_err-greatest-clause-same
returns-in_err-greatest-clause-same g c =
    roomed_after (λ x. x.session) (λ x. x.own) _ _ _ c.hand_out.ensures.sessions c.make_rooms.ensures.same

pub returns-clause-same : goal.returns-clause-same
returns-clause-same g c =
    roomed_after (λ x. x.session) (λ x. x.own) _ _ _ c.hand_out.ensures.sessions c.make_rooms.ensures.same

pub returns-clause-own : goal.returns-clause-own
returns-clause-own g c = owned_after (λ x. x.session) (λ x. x.own) _ _ c.make_rooms.ensures.same ∙ c.hand_out.ensures.own
