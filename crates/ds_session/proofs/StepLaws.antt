-- The steps of an answered line, told of a session in place of its state, whose room is another.
use Rattle.std.proofs.Common.{◌≡◌, inl, inr, ℕ, List, ap, sym, ◌∙◌, subst, Option, Some, None}
use Rattle.std.specs.Prelude.{Ok, Err, Result}
use Rattle.ds_indexdef.specs.declared.IndexDef.{IndexDef}
use Rattle.ds_request.specs.declared.call.Request.{Request}
use Rattle.ds_reply.specs.declared.reply.Body.{Body}
use Rattle.ds_model.specs.Asked.{Search, search_of}
use Rattle.ds_asked.specs.declared.lines.Asked.{Asked}
use Rattle.ds_asked.specs.AskedLines.{IsLawful, was_read, read_as}
use Rattle.ds_session_state.specs.Replying.{request_of}
use Rattle.ds_session_state.specs.Sessions.{SessionParts}
use Rattle.ds_session_reads.specs.Steps.{IsWithinSteps, SearchSteps}

module _ (definitions : List IndexDef) (window shards number : ℕ) (before after : SessionParts) (old new room left : ℕ) where
  other-room : (read : Result Request (ℕ × Body)) → IsWithinSteps definitions window shards number read before after old new
      → IsWithinSteps definitions window shards number read (record before { room = room }) (record after { room = left }) old new
  other-room (Err e) h = h
  other-room (Ok r) h = by (search_of r.call) h where
    by : (o : Option (Result Search Body)) → SearchSteps definitions window shards number r.call o before after old new
        → SearchSteps definitions window shards number r.call o (record before { room = room }) (record after { room = left }) old new
    by None h = h
    by (Some (Err refusal)) h = h
    by (Some (Ok search)) (inl none) = inl none
    by (Some (Ok search)) (inr (inl f)) = inr (inl (record {
      places = f.places;
      read = f.read;
      entries = f.entries;
      told = f.told;
      within = f.within;
    }))
    by (Some (Ok search)) (inr (inr (inl f))) = inr (inr (inl (record {
      places = f.places;
      read = f.read;
      results = f.results;
      saw = f.saw;
      cursor = f.cursor;
      told = f.told;
      within = f.within;
    })))
    by (Some (Ok search)) (inr (inr (inr (inl f)))) = inr (inr (inr (inl (record {
      places = f.places;
      read = f.read;
      applied = f.applied;
      m = f.m;
      snapshot = f.snapshot;
      told = f.told;
      within = f.within;
    }))))
    by (Some (Ok search)) (inr (inr (inr (inr f)))) = inr (inr (inr (inr (record {
      places = f.places;
      read = f.read;
      everywhere = f.everywhere;
      wide = f.wide;
    }))))

  -- of the session that its state began with
  pub steps_from : (session : SessionParts) (read asked : Result Request (ℕ × Body)) → (record before { room = room }) ≡ session
      → asked ≡ read → IsWithinSteps definitions window shards number read before after old new
      → IsWithinSteps definitions window shards number asked session (record after { room = left }) old new
  steps_from session read asked is same h =
      subst (λ s. IsWithinSteps definitions window shards number asked s (record after { room = left }) old new) is
      (subst (λ r. IsWithinSteps definitions window shards number r (record before { room = room }) (record after { room = left }) old new)
      (sym same) (other-room read h))

-- ---- what was read from a line, by its parts

pub read_request : (shards : ℕ) (a : Asked) (r : Request) (client : ℕ) → a.request ≡ Ok r → IsLawful shards a.client a.request
    → a.client ≡ client → was_read a ≡ request_of client r.call
read_request shards a r client is lawful own =
    let parts : IsLawful shards a.client (Ok r) = subst (IsLawful shards a.client) is lawful in
    let same : r.client ≡ client = parts.0 ∙ own in
    ap (read_as a.client) is ∙ (λ i. Ok (record { client = same i; call = r.call }))

pub read_refused : (a : Asked) (b : Body) (client : ℕ) → a.request ≡ Err b → a.client ≡ client → was_read a ≡ Err (client, b)
read_refused a b client is own = ap (read_as a.client) is ∙ ap (λ n. Err (n, b)) own
