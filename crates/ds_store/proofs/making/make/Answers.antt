use Rattle.std.proofs.Common.{◌≤◌, ◌-◌, ◌∙◌, ◌++◌, ◌∷◌, [], ap, arith, length, replicate}
use Rattle.ds_store_passes.specs.Loads.{LoadingParts, loaded}
use Rattle.ds_store_passes.specs.Passes.{PassParts, nothing_seen}
use Rattle.ds_store.proofs.Loads.{alike_again, nothing_loaded}
use Rattle.ds_store.proofs.making.make.Goals as goal

pub returns-clause-store : goal.returns-clause-store
returns-clause-store g c = (
  c.share.ensures.store.0 ∙ ap (λ (l : LoadingParts). l.shards) c.in_ok-loading.ensures,
  c.share.ensures.store.1 ∙ ap (λ (l : LoadingParts). l.passes) c.in_ok-loading.ensures,
)

pub returns-clause-passes : goal.returns-clause-passes
returns-clause-passes g c =
    let n = c.args.opened.passes in
    let shards = length c.args.opened.shards in
    let some : 1 ≤ n = omega (arith, c.share.ensures.some, ap (λ (l : LoadingParts). l.passes) c.in_ok-loading.ensures) in
    c.share.ensures.passes
    ∙ ap (λ (l : LoadingParts). replicate (l.passes - 1) (nothing_seen l.shards) ++ loaded l.shards l.journal l.next ∷ []) c.in_ok-loading.ensures
    ∙ ap (λ (p : PassParts). replicate (n - 1) (nothing_seen shards) ++ p ∷ []) (nothing_loaded shards)
    ∙ alike_again n (nothing_seen shards) some
