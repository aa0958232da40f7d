use Rattle.std.proofs.Common.{◌∙◌, ◌++◌, ◌∷◌, [], ap, sym}
use Rattle.ds_store.proofs.parts.last_apart.Goals as goal

pub returns-clause-apart : goal.returns-clause-apart
returns-clause-apart g c =
    sym c.into_vec-others.ensures ∙ c.take_last-pass.ensures.items ∙ ap (λ xs. xs ++ c.take_last-pass.result ∷ []) (sym c.reserve.ensures.items)
