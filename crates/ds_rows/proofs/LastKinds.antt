-- The last element of a path.
use Rattle.std.proofs.Common.{◌≡◌, ◌-◌, ◌<◌, List, [], ◌∷◌, length, get_or, refl, ap, ◌∙◌, suc, arith}
use Rattle.ds_base.specs.declared.key.Elem.{Elem}
use Rattle.ds_rows.specs.IndexedValues.{last_kind}

pub last_kind_at : (es : List Elem) (d : Elem) → 0 < length es → (get_or es (length es - 1) d).kind ≡ last_kind es
last_kind_at [] d some = absurd (omega arith)
last_kind_at (e ∷ []) d some = refl
last_kind_at (e ∷ f ∷ es) d some =
    let last : suc (suc (length es)) - 1 ≡ suc (suc (length es) - 1) = omega arith in
    ap (λ k. (get_or (e ∷ f ∷ es) k d).kind) last ∙ last_kind_at (f ∷ es) d (omega arith)
