use Rattle.std.proofs.Common.{◌≡◌, [], IfNone, IfSome, subst}
use Rattle.ds_history.specs.Histories.{HistoryParts}
use Rattle.ds_history.specs.Writers.{writers_of}
use Rattle.ds_history.proofs.Numbers.{none_numbers, some_numbers}
use Rattle.ds_history.proofs.history.History.numbers.Goals as goal

pub returns-clause-some : goal.returns-clause-some
returns-clause-some c =
    subst (λ (h : HistoryParts). IfSome c.get.result (λ n. n.now.commits ≡ writers_of c.args.group.now h.journal)) c.self.view_is
    (some_numbers _ _ _ c.get.ensures.value (c.self.invariant.writers c.args.group.now))

pub returns-clause-none : goal.returns-clause-none
returns-clause-none c =
    subst (λ (h : HistoryParts). IfNone c.get.result (writers_of c.args.group.now h.journal ≡ [])) c.self.view_is
    (none_numbers _ _ _ c.get.ensures.value (c.self.invariant.writers c.args.group.now))
