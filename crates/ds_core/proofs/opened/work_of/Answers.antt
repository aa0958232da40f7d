use Rattle.ds_core.proofs.Words.{subst, ToldAlways}
use Rattle.std.specs.Prelude.{IfErr}
use Rattle.ds_core.proofs.opened.work_of.Goals as goal

pub returns-in-Ok-clause-told : goal.returns-in-Ok-clause-told
returns-in-Ok-clause-told c =
    subst (λ s. IfErr c.open.result (λ p. ToldAlways c.args.state.now s p.body p.effect)) c.session_at.ensures c.open.ensures.told
