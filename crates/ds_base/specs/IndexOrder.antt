-- How index values compare: the order of every query's result.
use Rattle.std.specs.Prelude.{ℕ}
use Rattle.std.specs.declared.cmp.Ordering.{Ordering}
use Rattle.std.specs.declared.cmp.Ordering.TheVariants.{Equal}
use Rattle.std.specs.Ordering.{ordering_then, nat_cmp, int_cmp, bool_cmp}
use Rattle.ds_base.specs.KeyOrder.{bytes_cmp, key_cmp}
use Rattle.ds_base.specs.declared.index_value.IndexValue.{IndexValue}
use Rattle.ds_base.specs.declared.index_value.IndexValue.TheVariants as class

-- the classes of index values: null, numbers, truth values, byte sequences, keys
abbrev pub class_of : IndexValue → ℕ
class_of class.Null = 0
class_of (class.Num n) = 1
class_of (class.Bool b) = 2
class_of (class.Bytes s) = 3
class_of (class.Key k) = 4

-- inside a class: numbers numerically, false before true, byte sequences by bytes, keys by their order
abbrev pub within_class_cmp : IndexValue → IndexValue → Ordering
within_class_cmp (class.Num m) (class.Num n) = int_cmp m n
within_class_cmp (class.Bool b) (class.Bool c) = bool_cmp b c
within_class_cmp (class.Bytes s) (class.Bytes t) = bytes_cmp s t
within_class_cmp (class.Key k) (class.Key l) = key_cmp k l
within_class_cmp _ _ = Equal

-- values of different classes compare by class
abbrev pub index_value_cmp : IndexValue → IndexValue → Ordering
index_value_cmp v w = ordering_then (nat_cmp (class_of v) (class_of w)) (within_class_cmp v w)
