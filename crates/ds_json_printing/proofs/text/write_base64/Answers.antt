use Rattle.std.proofs.Common.{arith, List, ℕ, ◌∷◌, ◌++◌, [], subst, sym}
use Rattle.ds_json_printing.proofs.Symbols.{encode_of-plain}
use Rattle.ds_json_printing.proofs.text.write_base64.Goals as goal

pub returns : goal.returns
returns g c =
    let j = g.met.O.Output.joined in
    let plain = encode_of-plain c.args.bytes.now (λ k. omega (arith, c.type_inv.bytes k)) in
    subst (λ (l : List ℕ). g.O.Output.Writes (34 ∷ (l ++ 34 ∷ [])) c.args.out.now c.put-2.new.self) (sym plain)
    (j _ _ _ _ _ c.put.ensures (j _ _ _ _ _ c.write_symbols.ensures c.put-2.ensures))
