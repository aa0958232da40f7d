-- Room for a reply that is told after what it tells can't be undone, by bounds on its length that no number in it exceeds.
use Rattle.std.specs.Prelude.{◌≡◌, ℕ, ◌+◌, ◌*◌, ◌^◌, ◌<◌, ◌≤◌, length}
use Rattle.std.specs.List.{sum_by}
use Rattle.ds_base.specs.declared.key.Ident.{Ident}
use Rattle.ds_base.specs.declared.key.Ident.TheVariants.{Id, Name}
use Rattle.ds_base.specs.declared.key.Elem.{Elem}
use Rattle.ds_base.specs.Keys.{KeyParts, renumbered}
use Rattle.ds_log.specs.declared.Write.{Write}
use Rattle.ds_log.specs.Logs.{key_of}
use Rattle.ds_output.specs.Writes.{written_body}
use Rattle.ds_reply.specs.Replies.{reply_text}
use Rattle.ds_reply.specs.declared.reply.Body.{Body}
use Rattle.ds_reply.specs.declared.reply.Body.TheVariants as body
use Rattle.ds_reply.specs.declared.reply.WriteAt.{WriteAt}
use Rattle.ds_reply.specs.declared.reply.WriteAt.TheVariants as at

-- ---- what fits

-- The reply that says this fits into so many bytes of room, whatever the client and the line, with so many bytes to keep beside it.
abbrev pub HasRoomToTell : Body → ℕ → ℕ → Type 0
HasRoomToTell said keep spare =
    (client number : ℕ) → client < 2 ^ 64 → number < 2 ^ 64
    → keep + length (reply_text (record { client = client; line = number; body = said })) ≤ spare

-- the number of a commit, or a place
abbrev pub number_at : WriteAt → ℕ
number_at (at.Commit n) = n
number_at (at.Place p) = p

-- so does the reply to each write of this key, whatever the number of its commit or its place
abbrev pub HasRoomForWrite : KeyParts → ℕ → ℕ → Type 0
HasRoomForWrite key keep spare =
    (w : Write) (p : WriteAt) → key_of w ≡ key → number_at p < 2 ^ 64 → HasRoomToTell (written_body w p) keep spare

-- so does the reply to a put of this key under another last id, whatever that is
abbrev pub HasRoomForNew : KeyParts → ℕ → ℕ → Type 0
HasRoomForNew key keep spare =
    (id : ℕ) (p : WriteAt) → id < 2 ^ 64 → number_at p < 2 ^ 64 → HasRoomToTell (body.Put (renumbered key id) p) keep spare

-- so does the reply to a commit, whatever its number
abbrev pub HasRoomForCommit : ℕ → ℕ → Type 0
HasRoomForCommit keep spare = (commit : ℕ) → commit < 2 ^ 64 → HasRoomToTell (body.Commit commit) keep spare

-- so does the reply that tells drawn ids, whatever the first and however many
abbrev pub HasRoomForIds : ℕ → ℕ → Type 0
HasRoomForIds keep spare =
    (first count : ℕ) → first < 2 ^ 64 → count < 2 ^ 64 → HasRoomToTell (body.AllocateIds first count) keep spare

-- ---- bounds, in bytes

-- Beside its texts, each byte of which takes six bytes at most, an element of a key has no more than its signs and a number.
abbrev pub most_of_ident : Ident → ℕ
most_of_ident (Id n) = 0
most_of_ident (Name name) = length name * 6

abbrev pub most_of_elem : Elem → ℕ
most_of_elem e = (length e.kind * 6 + most_of_ident e.ident) + 32

-- no reply to a write of this key is longer
abbrev pub most_of_reply : KeyParts → ℕ
most_of_reply k = (length k.namespace * 6 + 256) + sum_by most_of_elem k.elems

-- no reply to a commit is longer, and none that tells drawn ids
abbrev pub most_of_numbers : ℕ
most_of_numbers = 160
