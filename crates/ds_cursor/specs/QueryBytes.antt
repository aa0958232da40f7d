-- A branch as bytes, so that a cursor of one query is never taken for another's (own).
use Rattle.std.specs.Prelude.{ℕ, ◌/◌, ◌%◌, ◌^◌, List, [], ◌∷◌, ◌++◌, flat_map, Option, Some, None, cond}
use Rattle.ds_base.specs.declared.column.Column.{Column}
use Rattle.ds_bytes.specs.Encoding.{escaped, key_bytes, value_bytes}
use Rattle.ds_query.specs.declared.branch.Bound.{Bound}
use Rattle.ds_query.specs.declared.branch.Branch.{Branch}
use Rattle.ds_query.specs.declared.branch.Pair.{Pair}
use Rattle.ds_query.specs.declared.branch.Range.{Range}
use Rattle.ds_query.specs.declared.query.Select.{Select}
use Rattle.ds_query.specs.declared.query.Select.TheVariants as select

-- ---- parts

-- nothing, or something behind the byte 1
abbrev pub optional_bytes : {A : Type 0} → (A → List ℕ) → Option A → List ℕ
optional_bytes bytes None = 0x00 ∷ []
optional_bytes bytes (Some x) = 0x01 ∷ bytes x

-- each behind the byte 1, and then the end
abbrev pub listed_bytes : {A : Type 0} → (A → List ℕ) → List A → List ℕ
listed_bytes bytes xs = flat_map (λ x. 0x01 ∷ bytes x) xs ++ 0x00 ∷ []

abbrev pub pair_bytes : Pair → List ℕ
pair_bytes p = escaped p.property ++ value_bytes p.value

-- no bound; an exclusive one; an inclusive one
abbrev pub bound_bytes : Option Bound → List ℕ
bound_bytes None = 0x00 ∷ []
bound_bytes (Some b) = cond b.inclusive 0x02 0x01 ∷ value_bytes b.value

-- the name of the first column, which the range is on
abbrev pub first_name : List Column → List ℕ
first_name [] = []
first_name (c ∷ cs) = c.name

-- no bound at all, or the property of the range, its lower bound and its upper bound
abbrev pub bounds_bytes : List ℕ → Option Bound → Option Bound → List ℕ
bounds_bytes property None None = 0x00 ∷ []
bounds_bytes property lower upper = 0x01 ∷ escaped property ++ (bound_bytes lower ++ bound_bytes upper)

abbrev pub range_bytes : List Column → Range → List ℕ
range_bytes columns range = bounds_bytes (first_name columns) range.lower range.upper

abbrev pub column_bytes : Column → List ℕ
column_bytes c = escaped c.name ++ cond c.descending 0x01 0x00 ∷ []

abbrev pub select_bytes : Select → List ℕ
select_bytes select.Entities = 0x00 ∷ []
select_bytes select.Keys = 0x01 ∷ []
select_bytes (select.Projection names) = 0x02 ∷ listed_bytes escaped names

-- ---- the whole

-- a branch, without its namespace
abbrev pub branch_bytes : Branch → List ℕ
branch_bytes q =
    optional_bytes escaped q.kind ++ (optional_bytes key_bytes q.ancestor ++ (listed_bytes pair_bytes q.equal
    ++ (range_bytes q.columns q.range ++ (listed_bytes column_bytes q.columns ++ select_bytes q.select))))

-- a namespace other than the default stands in front
abbrev pub namespace_front : List ℕ → List ℕ
namespace_front [] = []
namespace_front (b ∷ bs) = escaped (b ∷ bs)

abbrev pub query_bytes : Branch → List ℕ
query_bytes q = namespace_front q.namespace ++ branch_bytes q

-- version 1 for the default namespace, and version 2 for another one
abbrev pub namespace_version : List ℕ → ℕ
namespace_version [] = 1
namespace_version (b ∷ bs) = 2

abbrev pub version_of : Branch → ℕ
version_of q = namespace_version q.namespace

-- a number below 2^32 as 4 bytes, highest first
abbrev pub four_bytes : ℕ → List ℕ
four_bytes n = n / 2 ^ 24 % 256 ∷ n / 2 ^ 16 % 256 ∷ n / 2 ^ 8 % 256 ∷ n % 256 ∷ []
