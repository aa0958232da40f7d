-- The answers to writes and to requests for ids, in the parts in which replies to them are judged.
use Rattle.std.specs.Prelude.{◌≡◌, ℕ, Bool, true, None}
use Rattle.ds_base.specs.Keys.{KeyParts}
use Rattle.ds_log.specs.declared.Write.{Write}
use Rattle.ds_log.specs.declared.Write.TheVariants.{Put, Delete}
use Rattle.ds_log.specs.Ids.{first_unissued}
use Rattle.ds_reply.specs.declared.reply.Body.{Body}
use Rattle.ds_reply.specs.declared.reply.Body.TheVariants as body
use Rattle.ds_model.specs.Answers.{IdNotIssuedAnswers, IdsExhaustedAnswers, WriteAnswers}
use Rattle.ds_model.specs.Sessions.{Session}
use Rattle.ds_model.specs.Worlds.{World}

-- an id of the key wasn't issued
abbrev pub IsIdNotIssued : Session → KeyParts → Body → Session → Type 0
IsIdNotIssued s key (body.IdNotIssued id next) after = IdNotIssuedAnswers s key id next after
IsIdNotIssued s key _ after = ⊥

-- less than so many ids are left
abbrev pub IsIdsExhausted : Session → ℕ → Body → Session → Type 0
IsIdsExhausted s count (body.IdsExhausted next) after = IdsExhaustedAnswers s count next after
IsIdsExhausted s count _ after = ⊥

-- none is left for an incomplete put of a path whose other ids are issued
abbrev pub IsPutExhausted : Session → Bool → KeyParts → Body → Session → Type 0
IsPutExhausted s incomplete key (body.IdsExhausted next) after =
    (incomplete ≡ true) × (first_unissued next key.elems ≡ None) × IdsExhaustedAnswers s 1 next after
IsPutExhausted s incomplete key _ after = ⊥

-- this very write is done, and its key told
abbrev pub IsWritten : World → ℕ → Session → Write → Body → Session → Type 0
IsWritten w client s (Put e) (body.Put printed at) after = (printed ≡ e.key)
    × WriteAnswers w client s s.transaction (Put e) printed at after
IsWritten w client s (Delete k) (body.Delete printed at) after = (printed ≡ k)
    × WriteAnswers w client s s.transaction (Delete k) printed at after
IsWritten w client s write _ after = ⊥
