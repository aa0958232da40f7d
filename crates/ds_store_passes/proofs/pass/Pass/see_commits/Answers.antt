use Rattle.std.proofs.Common.{refl}
use Rattle.ds_store_passes.proofs.PassReads.{read_commits}
use Rattle.ds_store_passes.proofs.pass.Pass.see_commits.Goals as goal

pub returns-clause-read : goal.returns-clause-read
returns-clause-read g c = rw (← c.self.view_is) (read_commits _ _ refl c.learn_commits.ensures.kept)
