use Rattle.std.proofs.Common.{List, [], ◌∷◌, ◌++◌, ap, sym, ◌∙◌}
use Rattle.ds_store.specs.Passes.{PassParts}
use Rattle.ds_restoring.proofs.restoring.last_apart.Goals as goal

pub returns-in-Some : goal.returns-in-Some
returns-in-Some g c =
    sym c.into_vec-others.ensures ∙ c.in-Some.ensures.items ∙ ap (λ (ps : List PassParts). ps ++ c.in-Some.pass ∷ []) (sym c.from.ensures)
