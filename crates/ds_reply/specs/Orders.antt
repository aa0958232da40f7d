-- Places in the order of their names, and the members that are written in that order.
use Rattle.std.specs.Prelude.{◌≡◌, ℕ, ◌-◌, ◌<◌, ◌≤◌, List, [], ◌∷◌, ◌++◌, map, length, take, slice_index, slice_index_or, ⊤}
use Rattle.std.specs.Ordering.{nat_cmp}
use Rattle.std.specs.declared.cmp.Ordering.TheVariants.{Less, Equal, Greater}
use Rattle.std.specs.Cmp.Lexicographic.{slice_cmp}
use Rattle.serde_json.specs.Data.{null, Members, no_members, member}
use Rattle.serde_json.specs.Written.{compact_text}
use Rattle.json.specs.Print.{quoted}
use Rattle.ds_reply.specs.declared.order.Rank.{Rank}
use Rattle.ds_reply.specs.declared.order.Rank.TheVariants as rank
use Rattle.ds_reply.specs.declared.projection.Order.{Order}
use Rattle.ds_reply.specs.declared.projection.Order.TheVariants as order
use Rattle.ds_json_printing.specs.Objects.{Named, named, by_name}

-- a member's text
abbrev pub member_text : Named → List ℕ
member_text m = quoted m.name ++ 58 ∷ compact_text m.shown

-- the members at these places, one after another
abbrev pub members_at : List Named → List ℕ → Members
members_at ms [] = no_members
members_at ms (p ∷ ps) = member (slice_index_or ms p (named [] null)).name (slice_index_or ms p (named [] null)).shown (members_at ms ps)

-- the name at the k-th of the places
abbrev pub name_at : List (List ℕ) → List ℕ → ℕ → List ℕ
name_at ns ps k = slice_index_or ns (slice_index ps k) []

-- the first name stands before the second in byte order
abbrev pub IsBefore : List ℕ → List ℕ → Type 0
IsBefore k l = slice_cmp nat_cmp k l ≡ Less

-- the places have the first n names in their order, each once, and of things with one name the last
pub record OrdersByName (ns : List (List ℕ)) (n : ℕ) (ps : List ℕ) : Type 0 where
  pub few : length ps ≤ n
  pub below : (k : ℕ) → k < length ps → slice_index ps k < n
  pub ascend : (j k : ℕ) → j < k → k < length ps → IsBefore (name_at ns ps j) (name_at ns ps k)
  pub written : (ms : List Named) → map (λ m. m.name) ms ≡ ns → members_at ms ps ≡ by_name (take n ms)

-- where a name stands among those of the places
abbrev pub Ranks : List (List ℕ) → List ℕ → List ℕ → Rank → Type 0
Ranks ns ps name (rank.Before at) =
    (at ≤ length ps) × (0 < at → IsBefore (name_at ns ps (at - 1)) name) × (at < length ps → IsBefore name (name_at ns ps at))
Ranks ns ps name (rank.At at) = (at < length ps) × (slice_cmp nat_cmp (name_at ns ps at) name ≡ Equal)

-- each name stands before the next
abbrev pub NamesAscend : List (List ℕ) → Type 0
NamesAscend ns = (k : ℕ) → k < length ns → 0 < k → IsBefore (slice_index_or ns (k - 1) []) (slice_index_or ns k [])

-- what is known of the names of a projection
abbrev pub IsOrder : List (List ℕ) → Order → Type 0
IsOrder ns order.AsGiven = NamesAscend ns
IsOrder ns (order.ByPlaces ps) = OrdersByName ns (length ns) ps.items
IsOrder ns order.Unknown = ⊤
