use Rattle.std.proofs.Common.{◌≡◌, ◌∙◌, ◌-◌, ◌++◌, ◌∷◌, [], replicate, sym}
use Rattle.ds_store.specs.Loads.{loaded}
use Rattle.ds_store.specs.Passes.{nothing_seen}
use Rattle.ds_restoring.proofs.Parting.{last_split}
use Rattle.ds_restoring.proofs.restoring.share_apart.Goals as goal

pub returns-clause-apart : goal.returns-clause-apart
returns-clause-apart g c =
    let l = c.args.loading in
    let first = replicate (l.passes - 1) (nothing_seen l.shards) in
    let last = loaded l.shards l.journal l.next in
    let same : c.in_ok-pass.others ++ c.in_ok-pass.pass ∷ [] ≡ first ++ last ∷ [] =
    sym c.in_ok-pass.ensures ∙ c.share-store.ensures.passes in
    last_split c.in_ok-pass.others first c.in_ok-pass.pass last same
