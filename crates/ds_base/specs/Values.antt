-- What of a value an index holds, and which values no entity may have.
use Rattle.std.specs.Prelude.{Option, Some, None, pos, Bool, false, ◌&&◌, nat_lt, length}
use Rattle.ds_base.specs.Limits.{greatest_rating, most_name_bytes}
use Rattle.ds_base.specs.declared.value.Value.{Value}
use Rattle.ds_base.specs.declared.value.Value.TheVariants as value
use Rattle.ds_base.specs.declared.index_value.IndexValue.{IndexValue}
use Rattle.ds_base.specs.declared.index_value.IndexValue.TheVariants as index

-- integers, dates and ratings are numbers; byte strings and strings are byte sequences; long texts and blobs are never
-- indexed
abbrev pub index_of : Value → Option IndexValue
index_of value.Null = Some index.Null
index_of (value.Int n) = Some (index.Num n)
index_of (value.Date n) = Some (index.Num n)
index_of (value.Rating n) = Some (index.Num (pos n))
index_of (value.Bool b) = Some (index.Bool b)
index_of (value.Bytes s) = Some (index.Bytes s)
index_of (value.Str s) = Some (index.Bytes s)
index_of (value.Text s) = None
index_of (value.Blob s) = None
index_of (value.Key k) = Some (index.Key k)

-- a rating above 100, or an indexed string or byte string of more than 1,500 bytes
abbrev pub is_faulty_value : Bool → Value → Bool
is_faulty_value indexed (value.Rating n) = nat_lt greatest_rating n
is_faulty_value indexed (value.Bytes s) = indexed && nat_lt most_name_bytes (length s)
is_faulty_value indexed (value.Str s) = indexed && nat_lt most_name_bytes (length s)
is_faulty_value indexed _ = false
