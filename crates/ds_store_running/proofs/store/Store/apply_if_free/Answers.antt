use Rattle.std.proofs.Common.{rules, ◌≡◌, Option, None, subst, sym}
use Rattle.std.specs.Prelude.{MatchOption}
use Rattle.ds_store_passes.specs.Answered.{HasApplied}
use Rattle.ds_store_passes.specs.Passes.{HasRead}
use Rattle.ds_store_passes.specs.declared.answers.Applied.{Applied}
use Rattle.ds_store_passes.proofs.Seeing.{HasRead-itself}
use Rattle.ds_store_running.proofs.store.Store.apply_if_free.Goals as goal

pub returns-in_err-desk : goal.returns-in_err-desk
returns-in_err-desk g c =
    let pass = c.args.pass.now in
    let none : c.from_residual.result ≡ None = search rules in
    subst (λ (o : Option Applied). MatchOption o (HasRead pass pass)
    (λ a. HasApplied c.args.self.now.shards pass pass c.args.shard a.moved a.count a.place a.commit)) (sym none) (HasRead-itself pass)

pub returns-then-deref-shard : goal.returns-then-deref-shard
returns-then-deref-shard g c = HasRead-itself c.args.pass.now
