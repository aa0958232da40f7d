-- The longest reply that there was no memory.
use Rattle.std.proofs.Common.{◌<◌, ◌≤◌, ◌^◌, ℕ, length, length-append, arith}
use Rattle.std.proofs.lemmas.Fmt.{length-decimal-le}
use Rattle.json.specs.Print.{escape_byte}
use Rattle.ds_base.specs.Limits.{greatest_client}
use Rattle.ds_protocol.specs.Saying.{no_memory_reply}
use Rattle.ds_reply.specs.Replies.{reply_text}
use Rattle.ds_session.specs.Room.{most_no_memory}

pub longest_no_memory : (client number : ℕ) → client ≤ greatest_client → number < 2 ^ 64
    → length (reply_text (no_memory_reply client number)) ≤ most_no_memory
unfolding escape_byte
longest_no_memory client number low small =
    let own = length-decimal-le 2 client (omega arith) (omega (arith, low)) (omega (arith, low)) in
    let its = length-decimal-le 20 number (omega arith) (omega (arith, small)) small in
    let refusal = length-decimal-le 2 24 (omega arith) (omega arith) (omega arith) in
    simp length-append (omega (arith, own, its, refusal))
