-- The laws of the order of index values: it is total, and answers Equal for equal values alone.
use Rattle.std.specs.Bool.{Decides}
use Rattle.std.specs.Prelude.{◌≡◌, ◌↔◌, ℕ, ℤ, pos, List, [], refl, Bool, true, false}
use Rattle.std.proofs.Common.{ap, subst}
use Rattle.std.specs.Cmp.{IsTotalOrder, on_total, then_total, nat_cmp_total, int_cmp_total, bool_cmp_total}
use Rattle.std.specs.Cmp.Lexicographic.{nat_list_cmp_total}
use Rattle.std.specs.declared.cmp.Ordering.{Ordering}
use Rattle.std.specs.declared.cmp.Ordering.TheVariants.{Equal}
use Rattle.std.specs.Ordering.{nat_cmp, int_cmp, bool_cmp, on, then_cmp, eq_by_cmp}
use Rattle.std.specs.FinMap.{IsAntisymmetric, int_cmp-IsAntisymmetric}
use Rattle.ds_base.specs.Keys.{KeyParts}
use Rattle.ds_base.specs.KeyOrder.{bytes_cmp, key_cmp}
use Rattle.ds_base.specs.KeyOrderLaws.{bytes_cmp-same, key_cmp-total, key_cmp-same}
use Rattle.ds_base.specs.OrderLaws.{then-Equal, Equal-same, eq_by_cmp-decides}
use Rattle.ds_base.specs.IndexOrder.{class_of, index_value_cmp}
use Rattle.ds_base.specs.declared.index_value.IndexValue.{IndexValue}
use Rattle.ds_base.specs.declared.index_value.IndexValue.TheVariants as class

number_of : IndexValue → ℤ
number_of (class.Num n) = n
number_of _ = pos 0

truth_of : IndexValue → Bool
truth_of (class.Bool b) = b
truth_of _ = false

bytes_of : IndexValue → List ℕ
bytes_of (class.Bytes s) = s
bytes_of _ = []

no_key : KeyParts
no_key = record { namespace = []; elems = [] }

key_of : IndexValue → KeyParts
key_of (class.Key k) = k
key_of _ = no_key

-- an order over the columns that a value is read as
abbrev columns_cmp : IndexValue → IndexValue → Ordering
columns_cmp =
    then_cmp (on class_of nat_cmp)
    (then_cmp (on number_of int_cmp) (then_cmp (on truth_of bool_cmp) (then_cmp (on bytes_of bytes_cmp) (on key_of key_cmp))))

columns_cmp-total : IsTotalOrder columns_cmp
columns_cmp-total =
    then_total (on_total class_of nat_cmp_total)
    (then_total (on_total number_of int_cmp_total)
    (then_total (on_total truth_of bool_cmp_total)
    (then_total (on_total bytes_of nat_list_cmp_total) (on_total key_of key_cmp-total))))

columns_cmp-index_value_cmp : (v w : IndexValue) → columns_cmp v w ≡ index_value_cmp v w
unfolding number_of truth_of bytes_of key_of no_key
columns_cmp-index_value_cmp class.Null class.Null = refl
columns_cmp-index_value_cmp (class.Num m) (class.Num n) = then-Equal (int_cmp m n)
columns_cmp-index_value_cmp (class.Bool b) (class.Bool c) = then-Equal (bool_cmp b c)
columns_cmp-index_value_cmp (class.Bytes s) (class.Bytes t) = then-Equal (bytes_cmp s t)
columns_cmp-index_value_cmp (class.Key k) (class.Key l) = refl
columns_cmp-index_value_cmp class.Null _ = refl
columns_cmp-index_value_cmp (class.Num m) _ = refl
columns_cmp-index_value_cmp (class.Bool b) _ = refl
columns_cmp-index_value_cmp (class.Bytes s) _ = refl
columns_cmp-index_value_cmp (class.Key k) _ = refl

pub index_value_cmp-total : IsTotalOrder index_value_cmp
index_value_cmp-total = subst IsTotalOrder (λ i v w. columns_cmp-index_value_cmp v w i) columns_cmp-total

bool_cmp-same : IsAntisymmetric bool_cmp
bool_cmp-same true true e = refl
bool_cmp-same true false e = cc
bool_cmp-same false true e = cc
bool_cmp-same false false e = refl

pub index_value_cmp-same : IsAntisymmetric index_value_cmp
index_value_cmp-same class.Null class.Null e = refl
index_value_cmp-same (class.Num m) (class.Num n) e = ap class.Num (int_cmp-IsAntisymmetric m n e)
index_value_cmp-same (class.Bool b) (class.Bool c) e = ap class.Bool (bool_cmp-same b c e)
index_value_cmp-same (class.Bytes s) (class.Bytes t) e = ap class.Bytes (bytes_cmp-same s t e)
index_value_cmp-same (class.Key k) (class.Key l) e = ap class.Key (key_cmp-same k l e)
index_value_cmp-same class.Null _ e = cc
index_value_cmp-same (class.Num m) _ e = cc
index_value_cmp-same (class.Bool b) _ e = cc
index_value_cmp-same (class.Bytes s) _ e = cc
index_value_cmp-same (class.Key k) _ e = cc

pub index_value_cmp-Equal : (v w : IndexValue) → (index_value_cmp v w ≡ Equal) ↔ (v ≡ w)
index_value_cmp-Equal = Equal-same index_value_cmp-total index_value_cmp-same

pub same_index_value-decides : (v w : IndexValue) → Decides (eq_by_cmp index_value_cmp v w) (v ≡ w)
same_index_value-decides = eq_by_cmp-decides index_value_cmp-total index_value_cmp-same
