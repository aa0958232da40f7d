use Rattle.std.proofs.Common.{◌≡◌, ◌⊎◌, subst}
use mathlib.Core.List.{IsPrefix}
use Rattle.ds_store_passes.proofs.Growing.{learnt_all}
use Rattle.ds_store_passes.proofs.learning.learn_commits.Goals as goal

pub returns-clause-all : goal.returns-clause-all
returns-clause-all c =
    let old = c.args.reader.now.known in
    let new = c.learn.new.self.known in
    let told = subst (λ l. IsPrefix l new × ((new ≡ old) ⊎ (new ≡ l))) c.tell.ensures.1 (c.learn.ensures.learnt, c.learn.ensures.no_more) in
    learnt_all old new c.args.other.now.known told.0 told.1
