use Rattle.std.proofs.Common.{◌≡◌, ◌+◌, ◌^◌, ◌<◌, List, [], ◌∷◌, ◌++◌, false, length, sym, ap, subst, ◌∙◌, arith}
use Rattle.std.specs.List.{list_any}
use Rattle.std.specs.Prelude.{OnOk, IfErr, Ok, Err, Result}
use Rattle.ds_indexdef.specs.declared.IndexDef.{IndexDef}
use Rattle.ds_indexdef.specs.Definitions.{same_def, AreDefs}
use Rattle.ds_indexdef.specs.DefinitionLaws.{AreDefs-push}
use Rattle.ds_indexdef.proofs.defs.Defs.push.Goals as goal

-- whichever way the push went, the list is as it was or has the new definition at its end
pushed : {U : Type 0} (r : Result U IndexDef) (old new : List IndexDef) (def : IndexDef) → AreDefs old → AreDefs (old ++ def ∷ []) → OnOk r (new ≡ old ++ def ∷ []) → IfErr r (λ back. (back ≡ def) × (new ≡ old)) → AreDefs new
pushed (Ok u) old new def kept longer ok err = subst AreDefs (sym ok) longer
pushed (Err back) old new def kept longer ok err = subst AreDefs (sym err.1) kept

pub invariant_of-self : goal.invariant_of-self
invariant_of-self c =
    let defs = c.self.inside.list in
    let fresh : list_any (same_def c.args.def) defs ≡ false =
    sym (ap (list_any (same_def c.args.def)) c.as_slice.ensures) ∙ sym c.contains.ensures ∙ c.if-contains.false in
    let room : length defs + 1 < 2 ^ 32 = omega (arith, c.len.ensures) in
    pushed c.push.result defs c.push.new.self c.args.def c.self.invariant (AreDefs-push defs c.args.def c.self.invariant fresh room) c.push.ensures.ok c.push.ensures.err
