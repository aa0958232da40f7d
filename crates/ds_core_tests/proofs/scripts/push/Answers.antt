use Rattle.std.proofs.Common.{◌≡◌, ◌++◌, ◌∷◌, [], rules, subst, sym}
use Rattle.std.specs.Prelude.{All}
use Rattle.std.proofs.lemmas.List.Elements.{All-append, All-cons, All-nil}
use Rattle.ds_core.specs.Machines.{IsLawfulEvent}
use Rattle.ds_core_tests.proofs.scripts.push.Goals as goal

pub returns : goal.returns
returns c =
    let now : c.push.new.self ≡ c.args.events.now ++ c.args.event ∷ [] = search rules in
    subst (All (IsLawfulEvent c.args.shards)) (sym now)
    (All-append (IsLawfulEvent c.args.shards) c.args.events.now (c.args.event ∷ []) c.requires.so_far
    (All-cons (IsLawfulEvent c.args.shards) c.args.event [] c.requires.lawful (All-nil (IsLawfulEvent c.args.shards))))
