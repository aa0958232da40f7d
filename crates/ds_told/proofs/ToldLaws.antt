-- From the numbers that are noted to what a legal run says of them.
use Rattle.std.proofs.Common.{◌≡◌, ℕ, List, [], ◌∷◌, ◌++◌, Bool, true, false, refl}
use Rattle.ds_request.specs.declared.call.Call.{Call}
use Rattle.ds_request.specs.declared.call.Call.TheVariants as call
use Rattle.ds_reply.specs.declared.reply.Body.{Body}
use Rattle.ds_reply.specs.declared.reply.Body.TheVariants as body
use Rattle.ds_model.specs.Legal.{drawn_by_call}
use Rattle.ds_told.specs.Told.{drawn_told, draws_by}

-- the ids that a reply tells as drawn are those that are noted of it
pub told_drawn : (c : Call) (said : Body) → drawn_by_call c said ≡ drawn_told (draws_by c) said
told_drawn (call.Put key true properties) (body.Put printed place) = refl
told_drawn (call.Put key true properties) _ = refl
told_drawn (call.Put key false properties) said = refl
told_drawn (call.AllocateIds count) (body.AllocateIds first printed) = refl
told_drawn (call.AllocateIds count) _ = refl
told_drawn _ said = refl
