use Rattle.std.proofs.Common.{◌≡◌, All, List, refl, subst, sym}
use Rattle.std.proofs.lemmas.List.Elements.{All-take}
use Rattle.ds_clients.specs.Runs.{IsIdle}
use Rattle.ds_store.specs.Passes.{PassParts, nothing_seen}
use Rattle.ds_serving.proofs.begun.begin.Goals as goal

pub returns-clause-appliers : goal.returns-clause-appliers
returns-clause-appliers g c = λ k d below.
    let new = subst (λ (ps : List PassParts). All (λ p. p ≡ nothing_seen c.args.shards) ps) (sym c.in_ok-sessions.ensures.left)
    (All-take (λ p. p ≡ nothing_seen c.args.shards) _ c.into_vec-passes.result.items
    (subst (λ (ps : List PassParts). All (λ p. p ≡ nothing_seen c.args.shards) ps) (sym c.into_vec-passes.ensures) c.requires.new)) in
    subst IsIdle (sym (new k d below)) (record { commits = refl; draws = refl })
