-- What is written line by line is the text of the definition.
use Rattle.std.proofs.Common.{◌≡◌, ◌<◌, ◌+◌, ℕ, Bool, cond, List, [], ◌∷◌, ◌++◌, length, get_or, take, refl, sym, ap, subst, ◌∙◌}
use Rattle.std.proofs.Common.{append_assoc, append-nil, Ok, Err, Result}
use Rattle.std.specs.Prelude.{OnOk, codes}
use Rattle.std.specs.List.{flat_map}
use Rattle.std.proofs.lemmas.List.{take_more}
use Rattle.std.proofs.lemmas.List.Concat.{flat_map-append}
use Rattle.ds_base.specs.declared.column.Column.{Column}
use Rattle.ds_indexdef.specs.Text.{line, column_lines, def_lines, kind_line, ancestor_line, written_columns}
use Rattle.ds_indexdef.specs.declared.IndexDef.{IndexDef}

lines-push : {A : Type 0} (f : A → List (List ℕ)) (xs : List A) (x : A) → flat_map line (flat_map f (xs ++ x ∷ [])) ≡ flat_map line (flat_map f xs) ++ flat_map line (f x)
lines-push f xs x =
    ap (flat_map line) (flat_map-append f xs (x ∷ []) ∙ ap (λ r. flat_map f xs ++ r) (append-nil (f x)))
    ∙ flat_map-append line (flat_map f xs) (f x)

-- one piece more of a text that is written piece by piece
pub pieces-more : {A : Type 0} (f : A → List (List ℕ)) (xs : List A) (i : ℕ) (x : A) (before text more : List ℕ) → i < length xs → x ≡ get_or xs i x
    → text ≡ before ++ flat_map line (flat_map f (take i xs)) → more ≡ text ++ flat_map line (f x) → more ≡ before ++ flat_map line (flat_map f (take (i + 1) xs))
pieces-more f xs i x before text more h is so_far next =
    next ∙ ap (λ t. t ++ flat_map line (f x)) so_far
    ∙ append_assoc before (flat_map line (flat_map f (take i xs))) (flat_map line (f x))
    ∙ ap (λ r. before ++ r) (sym (lines-push f (take i xs) x) ∙ ap (λ (y : List _). flat_map line (flat_map f y)) (ap (λ y. take i xs ++ y ∷ []) is ∙ sym (take_more xs i x h)))

pub def-written : {U E : Type 0} (r : Result U E) (t0 t1 t2 t3 t4 kind : List ℕ) (columns : List Column) (def : IndexDef) → kind ≡ def.kind → columns ≡ def.columns
    → t1 ≡ t0 ++ line (kind_line kind) → t2 ≡ t1 ++ line (ancestor_line def.ancestor) → t3 ≡ t2 ++ line (codes "  properties:")
    → OnOk r (t4 ≡ t3 ++ flat_map line (flat_map column_lines (written_columns columns))) → OnOk r (t4 ≡ t0 ++ flat_map line (def_lines def))
def-written (Ok u) t0 t1 t2 t3 t4 kind columns def k c e1 e2 e3 e4 =
    let rest = flat_map line (flat_map column_lines (written_columns columns)) in
    let a = line (kind_line kind) in
    let b = line (ancestor_line def.ancestor) in
    let p = line (codes "  properties:") in
    e4 ∙ ap (λ t. t ++ rest) (e3 ∙ ap (λ t. t ++ p) (e2 ∙ ap (λ t. t ++ b) e1))
    ∙ append_assoc ((t0 ++ a) ++ b) p rest ∙ append_assoc (t0 ++ a) b (p ++ rest) ∙ append_assoc t0 a (b ++ (p ++ rest))
    ∙ ap (λ x. t0 ++ (line (kind_line x) ++ (b ++ (p ++ rest)))) k
    ∙ ap (λ (x : List Column). t0 ++ (line (kind_line def.kind) ++ (b ++ (p ++ flat_map line (flat_map column_lines (written_columns x)))))) c
def-written (Err e) t0 t1 t2 t3 t4 kind columns def k c e1 e2 e3 e4 = e4
