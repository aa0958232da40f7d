-- The journal of a legal round is one serial history, as that of a legal run is.
use Rattle.ds_core.proofs.Words.{◌≡◌, ℕ, ◌+◌, ◌-◌, ◌<◌, List, [], ◌∷◌, length, take, ap, sym, ◌∙◌, subst, arith, Some, None, refl, All, Ok}
use Rattle.ds_core.proofs.Words.{flat_map, slice_get, slice_set, All-append, All-nil, length-range_with_len, IndexDef, Request, Body}
use Rattle.ds_core.proofs.Words.{Reply, TooLong, BodyAnswers, Reading, client_of, acknowledged, acknowledged_in, Session, first_sessions}
use Rattle.ds_core.proofs.Words.{World, Transcript, AreAnswered, IsLegalRound}
use Rattle.std.proofs.lemmas.List.FromFn.{get_or-range_with_len}
use Rattle.std.proofs.lemmas.Option.{slice_get_within}
use Rattle.ds_log.specs.Conflicts.{IsCommitted, IsSerial}
use Rattle.ds_model.specs.Worlds.{world_of}
use Rattle.ds_model.proofs.SerialRuns.{IsHeld, reply_held}

-- the commits that a reply acknowledges are held by the journal
body-held : (w : World) (s later : Session) (r : Request) (b : Body) → BodyAnswers w s (Ok r) b later
    → All (IsHeld w.journal) (acknowledged_in b)
body-held w s later r b answers =
    let reading : Reading = λ content. Ok r in
    reply_held w s later reading (λ content. tt) (record { number = 0; content = TooLong })
    (record { client = client_of reading TooLong; line = 0; body = b }) (record { numbered = refl; addressed = refl; said = answers })

replies-held : (w : World) (sessions : List Session) (requests : List Request) (replies : List Reply) (after : List Session)
    → AreAnswered w sessions requests replies after → All (IsHeld w.journal) (flat_map acknowledged replies)
replies-held w sessions [] [] after are = All-nil (IsHeld w.journal)
replies-held w sessions (r ∷ requests) (p ∷ replies) after are =
    All-append (IsHeld w.journal) (acknowledged p) (flat_map acknowledged replies) (body-held w are.0 are.1 r p.body are.3)
    (replies-held w (slice_set sessions r.client are.1) requests replies after are.4)
replies-held w sessions _ _ after are = absurd are

-- The journal of a legal round is one serial history.
pub round-serial : (definitions : List IndexDef) (shards : ℕ) (t : Transcript) → IsLegalRound definitions shards t → IsSerial t.journal
round-serial definitions shards t legal i c is =
    let within : i < length t.journal = slice_get_within t.journal i c is in
    let all = subst (All (IsHeld t.journal)) legal.acknowledges
    (replies-held (world_of definitions shards None t.journal) (first_sessions shards) t.requests t.replies legal.after legal.answered) in
    let held : IsHeld t.journal (1 + i) = subst (IsHeld t.journal) (get_or-range_with_len 1 (length t.journal) i 0 within)
    (all i 0 (omega (arith, within, length-range_with_len 1 (length t.journal)))) in
    let same : 1 + i - 1 ≡ i = omega arith in
    let found : Some held.0 ≡ Some c = sym held.1 ∙ ap (slice_get t.journal) same ∙ is in
    let one : held.0 ≡ c = cc in
    subst (IsCommitted (take i t.journal)) one (subst (λ k. IsCommitted (take k t.journal) held.0) same held.2)
