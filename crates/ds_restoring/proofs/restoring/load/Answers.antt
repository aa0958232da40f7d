use Rattle.std.proofs.Common.{◌∙◌, ◌++◌, ap, subst, sym}
use Rattle.ds_log.specs.Conflicts.{IsCommitted}
use Rattle.ds_restoring.proofs.Loads.{next_committed}
use Rattle.ds_restoring.proofs.restoring.load.Goals as goal

pub draft_of-requires : goal.draft_of-requires
draft_of-requires g c =
    let front = c.loop-commit.loading.journal in
    (next_committed front c.in-Some.commit c.next.new.self.rest.items c.args.journal
    (ap (λ js. front ++ js) (sym c.in-Some.ensures.steps.0) ∙ c.loop-commit.invariant.whole) c.requires.history.serial).few

pub commit-requires-clause-committed : goal.commit-requires-clause-committed
commit-requires-clause-committed g c =
    let front = c.loop-commit.loading.journal in
    subst (IsCommitted front) (sym c.in_ok-draft_of.ensures)
    (next_committed front c.in-Some.commit c.next.new.self.rest.items c.args.journal
    (ap (λ js. front ++ js) (sym c.in-Some.ensures.steps.0) ∙ c.loop-commit.invariant.whole) c.requires.history.serial)
