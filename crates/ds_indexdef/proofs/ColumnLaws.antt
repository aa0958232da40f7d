-- What changing the last column of an entry does.
use Rattle.std.proofs.Common.{◌≡◌, ◌<◌, ◌+◌, ◌-◌, ℕ, zero, suc, List, [], ◌∷◌, ◌++◌, Bool, length, get_or, set, refl, sym, ap, subst, ◌∙◌}
use Rattle.std.proofs.Common.{arith}
use Rattle.ds_base.specs.declared.column.Column.{Column}
use Rattle.ds_base.specs.KeyColumn.{is_ascending_key}
use Rattle.ds_indexdef.specs.Reading.{turned_columns, ends_in_key}

turned_columns-at : (xs : List Column) (i : ℕ) (d : Column) (descending : Bool) → length xs ≡ suc i
    → turned_columns xs descending ≡ set xs i (record { name = (get_or xs i d).name; descending = descending })
turned_columns-at [] i d descending e = absurd (omega (arith, e))
turned_columns-at (c ∷ []) zero d descending e = refl
turned_columns-at (c ∷ []) (suc i) d descending e = absurd (omega (arith, e))
turned_columns-at (c ∷ x ∷ more) zero d descending e = absurd (omega (arith, e))
turned_columns-at (c ∷ x ∷ more) (suc i) d descending e = ap (λ rest. c ∷ rest) (turned_columns-at (x ∷ more) i d descending (omega (arith, e)))

pub turned_columns-set : (xs : List Column) (d : Column) (descending : Bool) → 0 < length xs
    → turned_columns xs descending ≡ set xs (length xs - 1) (record { name = (get_or xs (length xs - 1) d).name; descending = descending })
turned_columns-set xs d descending h = turned_columns-at xs (length xs - 1) d descending (omega arith)

pub turned_columns-none : (xs : List Column) (descending : Bool) → length xs ≡ 0 → turned_columns xs descending ≡ xs
turned_columns-none [] descending e = refl
turned_columns-none (c ∷ cs) descending e = absurd (omega (arith, e))

pub turned_columns-push : (xs : List Column) (c : Column) (descending : Bool) → turned_columns (xs ++ c ∷ []) descending ≡ xs ++ record { name = c.name; descending = descending } ∷ []
turned_columns-push [] c descending = refl
turned_columns-push (x ∷ []) c descending = refl
turned_columns-push (x ∷ y ∷ more) c descending = ap (λ rest. x ∷ rest) (turned_columns-push (y ∷ more) c descending)

pub turned_columns-by : (items columns : List Column) (n : ℕ) (r : Column) (descending : Bool) → items ≡ columns → n ≡ length items → 0 < n → r ≡ get_or items (n - 1) r
    → set items (n - 1) (record { name = r.name; descending = descending }) ≡ turned_columns columns descending
turned_columns-by items columns n r descending same count h is =
    let P : ℕ → Type 0 = λ m. r ≡ get_or items (m - 1) r → 0 < m → set items (m - 1) (record { name = r.name; descending = descending }) ≡ turned_columns items descending in
    subst P (sym count) (λ e pos. ap (λ (c : Column). set items (length items - 1) (record { name = c.name; descending = descending })) e ∙ sym (turned_columns-set items r descending pos)) is h
    ∙ ap (λ xs. turned_columns xs descending) same

ends_in_key-at : (xs : List Column) (i : ℕ) (d : Column) → length xs ≡ suc i → ends_in_key xs ≡ is_ascending_key (get_or xs i d)
ends_in_key-at [] i d e = absurd (omega (arith, e))
ends_in_key-at (c ∷ []) zero d e = refl
ends_in_key-at (c ∷ []) (suc i) d e = absurd (omega (arith, e))
ends_in_key-at (c ∷ x ∷ more) zero d e = absurd (omega (arith, e))
ends_in_key-at (c ∷ x ∷ more) (suc i) d e = ends_in_key-at (x ∷ more) i d (omega (arith, e))

pub ends_in_key-last : (xs : List Column) (d : Column) → 0 < length xs → ends_in_key xs ≡ is_ascending_key (get_or xs (length xs - 1) d)
ends_in_key-last xs d h = ends_in_key-at xs (length xs - 1) d (omega arith)
