-- The entries that members hold, in the order of member, log and position.
use Rattle.std.specs.Prelude.{ℕ, ◌+◌, List, [], ◌∷◌, ◌++◌, Option, Some, None}
use Rattle.ds_paxos.specs.declared.instance.Instance.{Instance}
use Rattle.ds_paxos.specs.declared.message.Place.{Place}
use Rattle.ds_paxos.specs.Worlds.{WorldParts}

-- an entry that a member holds
pub record Holding : Type 0 where
  pub member : ℕ
  pub log : ℕ
  pub position : ℕ
  pub entry : List ℕ

abbrev pub holding_of : ℕ → ℕ → ℕ → List ℕ → Holding
holding_of member log position entry = record { member = member; log = log; position = position; entry = entry }

abbrev pub holding : ℕ → Place → Option (List ℕ) → List Holding
holding member place None = []
holding member place (Some entry) = holding_of member place.log place.position entry ∷ []

-- what this member holds, of what it keeps
abbrev pub member_holdings : ℕ → List (Place × Instance) → List Holding
member_holdings member [] = []
member_holdings member (e ∷ es) = holding member e.0 e.1.held ++ member_holdings member es

-- what the members from this number on hold
abbrev pub holdings_from : ℕ → List (List (Place × Instance)) → List Holding
holdings_from member [] = []
holdings_from member (kept ∷ more) = member_holdings member kept ++ holdings_from (member + 1) more

abbrev pub holdings : WorldParts → List Holding
holdings w = holdings_from 0 w.members
