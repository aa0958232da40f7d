-- What a transaction is before its commit, and what it refuses (the Datastore's documentation on transactions: one entity
-- group, or up to 25 where several were asked for; at most 500 writes).
use Rattle.std.specs.Prelude.{◌≡◌, ◌⊎◌, ℕ, List, [], ◌∷◌, Bool, true, false, cond, nat_le, length, map, Option, Some, None}
use Rattle.ds_base.specs.Keys.{KeyParts}
use Rattle.ds_base.specs.Limits.{most_groups, most_writes}
use Rattle.ds_log.specs.declared.Touch.{Touch}
use Rattle.ds_log.specs.declared.Write.{Write}
use Rattle.ds_log.specs.Touches.{is_touched}
use Rattle.ds_txn.specs.declared.refusals.TxnRefused.{TxnRefused}
use Rattle.ds_txn.specs.declared.refusals.TxnRefused.TheVariants.{SecondGroup, TooManyGroups}
use Rattle.ds_txn.specs.declared.refusals.WriteCause.{WriteCause}
use Rattle.ds_txn.specs.declared.refusals.WriteCause.TheVariants.{TooManyWrites, NoMemory}

pub record TxnParts : Type 0 where
  -- may it touch several groups?
  pub several_groups : Bool
  -- the touched groups in touch order, each with the place of its first touch
  pub touched : List Touch
  -- its puts and deletes, in their order
  pub writes : List Write
  -- how many groups are touched, and how many writes taken, without memory
  pub touch_spare : ℕ
  pub write_spare : ℕ

-- the entries of a table as touches
abbrev pub touch_of : KeyParts × ℕ → Touch
touch_of e = record { group = e.0; place = e.1 }

abbrev pub touches_of : List (KeyParts × ℕ) → List Touch
touches_of = map touch_of

-- the most groups of a transaction
abbrev pub most_touched : Bool → ℕ
most_touched true = most_groups
most_touched false = 1

abbrev pub has_none : List Touch → Bool
has_none [] = true
has_none (t ∷ ts) = false

-- why a group that isn't touched yet may not be touched: a transaction of several groups has room for it below 25, another one
-- while it has none
abbrev pub new_group_refusal : TxnParts → Option TxnRefused
new_group_refusal t =
    cond t.several_groups
    (cond (nat_le most_groups (length t.touched)) (Some TooManyGroups) None)
    (cond (has_none t.touched) None (Some SecondGroup))

-- why a group may not be touched; none stands for a new group
abbrev pub touch_refusal : TxnParts → Option KeyParts → Option TxnRefused
touch_refusal t None = new_group_refusal t
touch_refusal t (Some g) = cond (is_touched g t.touched) None (new_group_refusal t)

-- why a write is not taken
abbrev pub write_refusal : TxnParts → Option WriteCause
write_refusal t = cond (nat_le most_writes (length t.writes)) (Some TooManyWrites) None

-- the answer to a write: that refusal, or where there is none lack of memory
abbrev pub IsWriteAnswer : Option WriteCause → Option WriteCause → Type 0
IsWriteAnswer refusal cause = (cause ≡ refusal) ⊎ ((refusal ≡ None) × (cause ≡ Some NoMemory))
