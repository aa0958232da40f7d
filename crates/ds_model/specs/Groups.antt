-- Transactions and entity groups: which groups a transaction may touch, and what touching and writing make of it.
use Rattle.std.specs.Prelude.{◌≡◌, ℕ, ◌≤◌, nat_le, List, [], ◌∷◌, ◌++◌, Bool, true, false, length, Option, Some, None, cond}
use Rattle.ds_base.specs.Keys.{KeyParts}
use Rattle.ds_base.specs.Limits.{most_groups, most_writes}
use Rattle.ds_log.specs.declared.Touch.{Touch}
use Rattle.ds_log.specs.declared.Write.{Write}
use Rattle.ds_log.specs.declared.Commit.{Commit}
use Rattle.ds_log.specs.Touches.{touch_place, with_touch}
use Rattle.ds_reply.specs.declared.reply.Body.{Body}
use Rattle.ds_reply.specs.declared.reply.Body.TheVariants as body
use Rattle.ds_model.specs.Sessions.{Session, Transaction}

-- ---- which groups may be touched

abbrev pub has_none : List Touch → Bool
has_none [] = true
has_none (t ∷ ts) = false

-- a group that isn't touched: without the flag for several groups a second one is refused, and with it a group beyond 25
abbrev pub new_group_refusal : Transaction → Option KeyParts → Option Body
new_group_refusal t g =
    cond t.several_groups
    (cond (nat_le most_groups (length t.touched)) (Some body.TooManyGroups) None)
    (cond (has_none t.touched) None (Some (body.SecondGroup g)))

abbrev pub unless_touched : Option ℕ → Option Body → Option Body
unless_touched (Some place) refusal = None
unless_touched None refusal = refusal

-- why the group of this root may not be touched: outside a transaction it always may. A new root, whose id isn't drawn yet, is none: it
-- counts as one that isn't touched, also where a read has touched the group of the id that will be drawn.
abbrev pub group_refusal : Option Transaction → Option KeyParts → Option Body
group_refusal None g = None
group_refusal (Some t) None = new_group_refusal t None
group_refusal (Some t) (Some g) = unless_touched (touch_place g t.touched) (new_group_refusal t (Some g))

-- a transaction has at most 500 writes
abbrev pub write_refusal : Option Transaction → Option Body
write_refusal None = None
write_refusal (Some t) = cond (nat_le most_writes (length t.writes)) (Some body.TooManyWrites) None

-- ---- what touching and writing make of a transaction

abbrev pub touching : KeyParts → ℕ → Transaction → Transaction
touching g m t = record t { touched = with_touch g m t.touched }

abbrev pub writing : Write → Transaction → Transaction
writing w t = record t { writes = t.writes ++ w ∷ [] }

-- a place that a client may be shown: no lower than what it has seen, and no higher than the journal is long
pub record IsSeenPlace (journal : List Commit) (s : Session) (m : ℕ) : Type 0 where
  pub seen : s.place ≤ m
  pub within : m ≤ length journal

-- where a group stands: at its touch place, which lies in the journal as every touch place does, or at the place of its first touch
abbrev pub StandsAt : List Commit → Session → Option ℕ → ℕ → Type 0
StandsAt journal s (Some place) m = (m ≡ place) × (m ≤ length journal)
StandsAt journal s None m = IsSeenPlace journal s m

abbrev pub place_in : Option Transaction → KeyParts → Option ℕ
place_in None g = None
place_in (Some t) g = touch_place g t.touched

-- where a strong read of a group stands: inside a transaction at the group's touch place, and outside at a place that the client
-- may be shown
abbrev pub ReadsAt : List Commit → Session → KeyParts → ℕ → Type 0
ReadsAt journal s g m = StandsAt journal s (place_in s.transaction g) m

-- a read inside a transaction touches its group
abbrev pub touching_if : KeyParts → ℕ → Option Transaction → Option Transaction
touching_if g m None = None
touching_if g m (Some t) = Some (touching g m t)

abbrev pub with_transaction : Option Transaction → Session → Session
with_transaction t s = record s { transaction = t }
