use Rattle.std.proofs.Common.{◌≡◌, ◌∷◌, ◌++◌, [], List, ℕ, append_assoc, ap, sym, subst}
use Rattle.json.specs.Print.{escape}
use Rattle.serde_json.specs.Written.{compact_text}
use Rattle.ds_json_printing.specs.Printing.{ident_data}
use Rattle.ds_json_printing.proofs.keys.write_elem.Goals as goal

pub returns : goal.returns
returns g c =
    let j = g.met.O.Output.joined in
    let kind : List ℕ = escape c.args.elem.now.kind in
    let rest : List ℕ = 44 ∷ (compact_text (ident_data c.args.elem.now.ident) ++ 93 ∷ []) in
    let escaped = rw c.bytes.ensures.value at c.write_escaped.ensures in
    let whole : 91 ∷ 34 ∷ (kind ++ 34 ∷ rest) ≡ 91 ∷ 34 ∷ ((kind ++ 34 ∷ []) ++ rest) = ap (λ (l : List ℕ). 91 ∷ 34 ∷ l) (sym (append_assoc kind (34 ∷ []) rest)) in
    subst (λ (l : List ℕ). g.O.Output.Writes l c.args.out.now c.put-3.new.self) whole
    (j _ _ _ _ _ c.put.ensures (j _ _ _ _ _ escaped (j _ _ _ _ _ c.put-2.ensures (j _ _ _ _ _ c.write_ident.ensures c.put-3.ensures))))
