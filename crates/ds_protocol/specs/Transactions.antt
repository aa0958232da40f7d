-- An open transaction as the definitions of sessions see it.
use Rattle.std.specs.Prelude.{◌≡◌, ℕ, min, Option, Some, None}
use Rattle.ds_base.specs.Keys.{KeyParts}
use Rattle.ds_txn.specs.Transactions.{TxnParts}
use Rattle.ds_model.specs.Groups.{group_refusal, write_refusal}
use Rattle.ds_model.specs.Sessions.{Transaction}

-- how much room it has is nobody's concern
abbrev pub transaction_of : TxnParts → Transaction
transaction_of t = record { several_groups = t.several_groups; touched = t.touched; writes = t.writes }

-- a client's transaction, if it has one open, and how many touches with a write behind each it takes without memory
pub record OpenParts : Type 0 where
  pub transaction : Option Transaction
  pub room : ℕ

abbrev pub open_parts : Option TxnParts → OpenParts
open_parts None = record { transaction = None; room = 0 }
open_parts (Some t) = record { transaction = Some (transaction_of t); room = min t.touch_spare t.write_spare }

-- a transaction that may touch the group and has room for a write
abbrev pub MayWrite : Option Transaction → KeyParts → Type 0
MayWrite None group = ⊥
MayWrite (Some t) group = (group_refusal (Some t) (Some group) ≡ None) × (write_refusal (Some t) ≡ None)
