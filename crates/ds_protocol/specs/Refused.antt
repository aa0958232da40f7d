-- Refusals, and other answers that tell of no commit and of no id.
use Rattle.std.specs.Prelude.{◌≡◌, ◌⊎◌, Bool, true, false, Option, Some}
use Rattle.ds_query.specs.declared.field.Field.TheVariants as field
use Rattle.ds_reply.specs.declared.reply.Body.{Body}
use Rattle.ds_reply.specs.declared.reply.Body.TheVariants as body
use Rattle.ds_protocol.specs.declared.operations.OperationRefused.{OperationRefused}
use Rattle.ds_protocol.specs.declared.operations.OperationRefused.TheVariants as refused

-- this is told, or that there was no memory
abbrev pub IsRefusal : Option Body → Option Body → Type 0
IsRefusal refusal told = (told ≡ refusal) ⊎ (told ≡ Some body.NoMemory)

-- an answer that acknowledges no commit, tells no id, and prints no id counter
abbrev pub is_quiet : Body → Bool
is_quiet (body.Put key at) = false
is_quiet (body.Delete key at) = false
is_quiet (body.Commit n) = false
is_quiet (body.AllocateIds first count) = false
is_quiet (body.IdNotIssued id next) = false
is_quiet (body.IdsExhausted next) = false
is_quiet _ = true

-- the answers that tell no number of a step
abbrev pub tells_no_step : Body → Bool
tells_no_step (body.Put key written) = false
tells_no_step (body.Delete key written) = false
tells_no_step (body.Get entity m) = false
tells_no_step (body.Query select results looked cursor) = false
tells_no_step (body.Gql select results looked cursor) = false
tells_no_step (body.Commit n) = false
tells_no_step (body.Conflict commit group m) = false
tells_no_step (body.AllocateIds first count) = false
tells_no_step (body.Settle m counts) = false
tells_no_step (body.Apply applied count m shard) = false
tells_no_step _ = true

-- what the reply says of a call that asks nothing
abbrev pub operation_body : OperationRefused → Body
operation_body refused.BadKey = body.BadKey field.Entity
operation_body refused.BadValue = body.BadValue field.Entity
operation_body (refused.TooLarge size) = body.TooLarge size
operation_body (refused.BadGql place) = body.BadGql place
operation_body refused.NoMemory = body.NoMemory
