-- What the passes of all clients show.
use Rattle.std.specs.Prelude.{ℕ, List, fold, max}
use Rattle.ds_client.specs.Sessions.{SessionParts}

-- the greatest place of a pass
abbrev pub place_shown : List SessionParts → ℕ
place_shown = fold (λ greatest s. max greatest s.pass.place) 0

-- the greatest id counter of a pass
abbrev pub next_shown : List SessionParts → ℕ
next_shown = fold (λ greatest s. max greatest s.pass.next) 0
