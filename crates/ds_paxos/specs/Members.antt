-- What a member keeps: an instance of Paxos by log and position, in their order.
use Rattle.std.specs.Prelude.{◌≡◌, ◌⊎◌, ℕ, List, [], ◌∷◌, None, map, max, unwrap_or}
use Rattle.std.specs.BTreeMap.{insert_entry, is_at}
use Rattle.std.specs.List.{AllByRecursion}
use Rattle.std.specs.Map.{lookup}
use Rattle.std.specs.Ordering.{nat_cmp, ordering_then}
use Rattle.std.specs.declared.cmp.Ordering.{Ordering}
use Rattle.ds_paxos.specs.declared.instance.Instance.{Instance}
use Rattle.ds_paxos.specs.declared.message.Place.{Place}

-- by log, and then by position
abbrev pub place_order : Place → Place → Ordering
place_order p q = ordering_then (nat_cmp p.log q.log) (nat_cmp p.position q.position)

-- before the member heard of the instance
abbrev pub blank : Instance
blank = record { used = 0; promised = 0; accepted = None; held = None; attempt = None }

-- the instance of this place
abbrev pub instance_in : List (Place × Instance) → Place → Instance
instance_in kept place = unwrap_or (lookup (is_at (place_order place)) kept) blank

-- what is kept, with another instance at this place
abbrev pub with_instance : List (Place × Instance) → Place → Instance → List (Place × Instance)
with_instance kept place instance = insert_entry place_order kept place instance

-- the greatest ballot that the member used or promised
abbrev pub highest : Instance → ℕ
highest instance = max instance.used instance.promised

-- the instance without a running attempt
abbrev pub idle : Instance → Instance
idle instance = record instance { attempt = None }

-- A restart drops each running attempt. What the member used, promised, accepted and holds stays: it stands on disk.
abbrev pub restarted : List (Place × Instance) → List (Place × Instance)
restarted kept = map (λ e. (e.0, idle e.1)) kept

-- this place is one of these
abbrev pub IsOneOf : Place → List Place → Type 0
IsOneOf place [] = ⊥
IsOneOf place (p ∷ ps) = (place ≡ p) ⊎ IsOneOf place ps

-- Each attempt that runs is at one of these places.
abbrev pub AreListed : List Place → List (Place × Instance) → Type 0
AreListed places kept = AllByRecursion (λ e. (e.1.attempt ≡ None) ⊎ IsOneOf e.0 places) kept
