-- What is left to write of members that stand by name.
use Rattle.std.specs.Prelude.{◌≡◌, ◌<◌, ℕ, suc, Bool, true, false, List, [], cond, Option, Some, None, length, slice_index_or}
use Rattle.std.specs.Ordering.{is_lt, nat_cmp}
use Rattle.std.specs.Cmp.Lexicographic.{slice_cmp}
use Rattle.ds_base.specs.declared.index_value.IndexValue.{IndexValue}
use Rattle.ds_base.specs.declared.index_value.IndexValue.TheVariants as index
use Rattle.ds_json_printing.specs.Printing.{index_value_data}
use Rattle.ds_reply.specs.Results.{projected}
use Rattle.ds_json_printing.specs.Objects.{put_each}
use Rattle.serde_json.specs.Data.{Members, no_members, member}

-- the members with a projection's values put among them
abbrev pub projected_members : List (List ℕ) → List IndexValue → Members → Members
projected_members ns vs ms = put_each (projected ns vs) ms

-- does the first name come before the second, in byte order?
abbrev pub before : List ℕ → List ℕ → Bool
before k l = is_lt (slice_cmp nat_cmp k l)

-- every name, until one was written; then those behind it
abbrev pub is_past : Bool → List ℕ → List ℕ → Bool
is_past false k n = true
is_past true k n = before k n

-- the members from the first whose name isn't written
abbrev pub past : Bool → List ℕ → Members → Members
past later k no_members = no_members
past later k (member l d ms) = cond (is_past later k l) (member l d ms) (past later k ms)

abbrev pub members_count : Members → ℕ
members_count no_members = 0
members_count (member l d ms) = suc (members_count ms)

-- where the next value stands among the names and values of a projection; none, where all are written
abbrev pub IsNextPlace : List (List ℕ) → List IndexValue → Bool → List ℕ → Option ℕ → Type 0
IsNextPlace ns vs later last None = past later last (projected_members ns vs no_members) ≡ no_members
IsNextPlace ns vs later last (Some i) =
    (i < length ns) × (i < length vs)
    × (past later last (projected_members ns vs no_members)
    ≡ member (slice_index_or ns i []) (index_value_data (slice_index_or vs i index.Null))
    (past true (slice_index_or ns i []) (projected_members ns vs no_members)))
