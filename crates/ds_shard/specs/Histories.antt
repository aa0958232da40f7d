-- Versions of entities as writes make them: by key, those of one key in the order of their stamps.
use Rattle.std.specs.Prelude.{◌≡◌, ℕ, ◌≤◌, Bool, true, false, ◌&&◌, not, ◌==◌, if◌then◌else◌, List, [], ◌∷◌, ◌++◌, Option, Some, None}
use Rattle.std.specs.Prelude.{IsTrue, filter, map}
use Rattle.std.specs.List.{AllByRecursion as Each, filter_map}
use Rattle.std.specs.List.Sorted.{IsStrictlySortedBy}
use Rattle.std.specs.Map.{keys_of}
use Rattle.std.specs.BTreeMap.{insert_entry}
use Rattle.std.specs.Ordering.{is_lt}
use Rattle.ds_base.specs.Keys.{KeyParts}
use Rattle.ds_base.specs.KeyOrder.{key_cmp, same_key}
use Rattle.ds_log.specs.declared.Write.{Write}
use Rattle.ds_log.specs.declared.Write.TheVariants.{Put, Delete}
use Rattle.ds_rows.specs.Versions.{Version, is_before}
use Rattle.ds_shard.specs.declared.version_list.Kept.{Kept}

-- ---- what a write makes of them

abbrev pub is_open : Option ℕ → Bool
is_open None = true
is_open (Some until) = false

-- the version of this key that nothing replaced or deleted
abbrev pub is_current : KeyParts → Version → Bool
is_current k v = same_key v.entity.key k && is_open v.until

abbrev pub until_stamp : Option ℕ → Version → Version
until_stamp until v = record { entity = v.entity; from = v.from; until = until }

-- the versions after the entity of this key, if there is one, was replaced or deleted at the stamp
abbrev pub ended : ℕ → KeyParts → List Version → List Version
ended stamp k = map (λ v. if is_current k v then until_stamp (Some stamp) v else v)

-- the versions with a new one among them, which comes after each whose key isn't above its key
abbrev pub with_version : Version → List Version → List Version
with_version v [] = v ∷ []
with_version v (w ∷ ws) = if is_lt (key_cmp v.entity.key w.entity.key) then v ∷ w ∷ ws else w ∷ with_version v ws

-- the versions after a write at the stamp: the version of its key ends there, and a put begins one
abbrev pub written : ℕ → List Version → Write → List Version
written stamp vs (Put e) = with_version (record { entity = e; from = stamp; until = None }) (ended stamp e.key vs)
written stamp vs (Delete k) = ended stamp k vs

-- ---- taking back, and taking out

abbrev pub ends_at : ℕ → Option ℕ → Bool
ends_at stamp None = false
ends_at stamp (Some until) = until == stamp

-- what a version was before the writes at the stamp: none if one of them began it, open if one of them ended it
abbrev pub before_stamp : ℕ → Version → Option Version
before_stamp stamp v = if v.from == stamp then None else (if ends_at stamp v.until then Some (until_stamp None v) else Some v)

-- the versions of this key before the writes at the stamp, and all others
abbrev pub undone : ℕ → KeyParts → List Version → List Version
undone stamp k = filter_map (λ v. if same_key v.entity.key k then before_stamp stamp v else Some v)

-- the version wasn't ended at or before the floor
abbrev pub outlives : ℕ → Version → Bool
outlives floor v = is_before v.until floor

-- the versions that weren't ended so
abbrev pub trimmed : ℕ → List Version → List Version
trimmed floor = filter (outlives floor)

-- those of this key that weren't ended so, and all others
abbrev pub trimmed_at : ℕ → KeyParts → List Version → List Version
trimmed_at floor k = filter (λ v. if same_key v.entity.key k then outlives floor v else true)

-- ---- the versions of one key

-- a version of the list, as contracts see it
abbrev pub version_of : Kept → Version
version_of k = record { entity = k.entity; from = k.from; until = k.until }

-- there is an end, and it is by the stamp
abbrev pub EndsBy : ℕ → Option ℕ → Type 0
EndsBy stamp None = ⊥
EndsBy stamp (Some until) = until ≤ stamp

-- the one ended before the other began, or with it
pub record Precedes (v w : Version) : Type 0 where
  pub rises : v.from ≤ w.from
  pub ends : EndsBy w.from v.until

-- the version began by the stamp
abbrev pub BeginsBy : ℕ → Version → Type 0
BeginsBy stamp v = v.from ≤ stamp

-- it ended by the stamp, if it ended
abbrev pub EndsWithin : ℕ → Option ℕ → Type 0
EndsWithin stamp None = Unit {0}
EndsWithin stamp (Some until) = until ≤ stamp

-- it began and ended by the stamp
abbrev pub IsOver : ℕ → Version → Type 0
IsOver stamp v = (v.from ≤ stamp) × EndsBy stamp v.until

-- it did, if it is of this key
abbrev pub IsOverAt : ℕ → KeyParts → Version → Type 0
IsOverAt stamp k v = IsTrue (same_key v.entity.key k) → IsOver stamp v

-- an end isn't before the stamp
abbrev pub EndsFrom : ℕ → Option ℕ → Type 0
EndsFrom stamp None = Unit {0}
EndsFrom stamp (Some until) = stamp ≤ until

-- no version ends before it began, and each precedes each one behind it
abbrev pub IsHistory : List Version → Type 0
IsHistory [] = Unit {0}
IsHistory (v ∷ vs) = EndsFrom v.from v.until × Each (Precedes v) vs × IsHistory vs

-- the last version, if there is one, began at the stamp
abbrev pub last_begins_at : ℕ → List Version → Bool
last_begins_at stamp [] = false
last_begins_at stamp (v ∷ []) = v.from == stamp
last_begins_at stamp (v ∷ w ∷ ws) = last_begins_at stamp (w ∷ ws)

-- the first version, if there is one, ended at or before the floor
abbrev pub first_is_over : ℕ → List Version → Bool
first_is_over floor [] = false
first_is_over floor (v ∷ vs) = not (outlives floor v)

-- ---- all keys

-- the entries of a map, in which no key stands twice, in the order of their keys
abbrev pub in_key_order : List (KeyParts × List Version) → List (KeyParts × List Version)
in_key_order [] = []
in_key_order (e ∷ es) = insert_entry key_cmp (in_key_order es) e.0 e.1

-- the versions of all keys
abbrev pub joined : List (KeyParts × List Version) → List Version
joined [] = []
joined (e ∷ es) = e.1 ++ joined es

-- each key has versions of its own entities, which are a history
abbrev pub AreOwn : List (KeyParts × List Version) → Type 0
AreOwn [] = Unit {0}
AreOwn (e ∷ es) = Each (λ (v : Version). v.entity.key ≡ e.0) e.1 × IsHistory e.1 × AreOwn es

-- there is a version
abbrev pub IsFilled : List Version → Type 0
IsFilled [] = ⊥
IsFilled (v ∷ vs) = Unit {0}

-- each key has a version
abbrev pub AreFilled : List (KeyParts × List Version) → Type 0
AreFilled [] = Unit {0}
AreFilled (e ∷ es) = IsFilled e.1 × AreFilled es

-- each key has one, but maybe this key
abbrev pub AreFilledBut : KeyParts → List (KeyParts × List Version) → Type 0
AreFilledBut k [] = Unit {0}
AreFilledBut k (e ∷ es) = (same_key k e.0 ≡ false → IsFilled e.1) × AreFilledBut k es

-- the keys ascend, and each has versions, which are its own
pub record AreByKey (es : List (KeyParts × List Version)) : Type 0 where
  pub own : AreOwn es
  pub ascend : IsStrictlySortedBy key_cmp (keys_of es)
  pub filled : AreFilled es

-- the same, but this key may have none
pub record AreByKeyBut (k : KeyParts) (es : List (KeyParts × List Version)) : Type 0 where
  pub own : AreOwn es
  pub ascend : IsStrictlySortedBy key_cmp (keys_of es)
  pub filled : AreFilledBut k es
