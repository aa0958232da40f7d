-- What the reply to a write says.
use Rattle.std.specs.Prelude.{Bool, true, false}
use Rattle.ds_base.specs.Keys.{KeyParts}
use Rattle.ds_log.specs.declared.Write.{Write}
use Rattle.ds_log.specs.declared.Write.TheVariants.{Put, Delete}
use Rattle.ds_reply.specs.declared.reply.WriteAt.{WriteAt}
use Rattle.ds_reply.specs.declared.reply.Body.{Body}
use Rattle.ds_reply.specs.declared.reply.Body.TheVariants as body

-- what the reply to a write says
abbrev pub written_body : Write → WriteAt → Body
written_body (Put e) = body.Put e.key
written_body (Delete k) = body.Delete k

-- the same of a key, which was deleted or put
abbrev pub body_with : Bool → KeyParts → WriteAt → Body
body_with true key = body.Delete key
body_with false key = body.Put key
