-- The ends of versions in the order in which they came: which versions they note, and what a floor and a stamp take out of them.
use Rattle.std.specs.Prelude.{ℕ, ◌<◌, ◌≤◌, Bool, false, ◌&&◌, not, ◌==◌, nat_le, List, [], ◌∷◌, Option, Some, None, IsTrue, filter}
use Rattle.std.specs.List.{list_any}
use Rattle.ds_base.specs.Keys.{KeyParts}
use Rattle.ds_base.specs.KeyOrder.{same_key}
use Rattle.ds_rows.specs.Versions.{Version}
use Rattle.ds_shard.specs.declared.expiring.Expiry.{Expiry}
use Rattle.std.specs.List.{AllByRecursion as Each}

-- each end is by the stamp
abbrev pub AreBy : ℕ → List Expiry → Type 0
AreBy stamp = Each (λ (e : Expiry). e.stamp ≤ stamp)

-- each end is after the stamp
abbrev pub AreAfter : ℕ → List Expiry → Type 0
AreAfter stamp = Each (λ (e : Expiry). stamp < e.stamp)

-- none stands behind a later one
abbrev pub DoNotFall : List Expiry → Type 0
DoNotFall [] = Unit {0}
DoNotFall (e ∷ es) = Each (λ (f : Expiry). e.stamp ≤ f.stamp) es × DoNotFall es

-- the first one, if there is one, is at or before the floor
abbrev pub first_is_due : ℕ → List Expiry → Bool
first_is_due floor [] = false
first_is_due floor (e ∷ es) = nat_le e.stamp floor

-- the last one, if there is one, is at the stamp
abbrev pub last_is_at : ℕ → List Expiry → Bool
last_is_at stamp [] = false
last_is_at stamp (e ∷ []) = e.stamp == stamp
last_is_at stamp (e ∷ f ∷ es) = last_is_at stamp (f ∷ es)

-- the ends that aren't at the stamp
abbrev pub others : ℕ → List Expiry → List Expiry
others stamp = filter (λ (e : Expiry). not (e.stamp == stamp))

-- it is the end of a version of this key at the stamp
abbrev pub is_end : KeyParts → ℕ → Expiry → Bool
is_end k stamp e = e.stamp == stamp && same_key k e.key

-- the end of a version of this key, if it ended, stands among them
abbrev pub IsNotedEnd : List Expiry → KeyParts → Option ℕ → Type 0
IsNotedEnd es k None = Unit {0}
IsNotedEnd es k (Some until) = IsTrue (list_any (is_end k until) es)

-- the end of each version that ended stands among them
abbrev pub AreNoted : List Expiry → List Version → Type 0
AreNoted es = Each (λ (v : Version). IsNotedEnd es v.entity.key v.until)
