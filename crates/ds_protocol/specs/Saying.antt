-- Which reply is written where there is no room for another.
use Rattle.std.specs.Prelude.{ℕ}
use Rattle.ds_reply.specs.declared.reply.Body.TheVariants as body
use Rattle.ds_reply.specs.declared.reply.Reply.{Reply}

-- the reply of lack of memory
abbrev pub no_memory_reply : ℕ → ℕ → Reply
no_memory_reply client number = record { client = client; line = number; body = body.NoMemory }
