use Rattle.std.proofs.Common.{◌∙◌, ◌++◌, ◌∷◌, [], ap, arith, length}
use Rattle.ds_store_passes.specs.Loads.{LoadingParts}
use Rattle.ds_store_passes.specs.Passes.{PassParts}
use Rattle.ds_store.proofs.Loads.{err_of, loaded_after, none_err, none_ok, ok_of}
use Rattle.ds_store.proofs.loading.Loading.commit.Goals as goal
use Rattle.ds_store.proofs.loading.Loading.commit.Goals.{in-Ok, in-Err}

pub invariant_of-self : goal.invariant_of-self
invariant_of-self g c =
    let inv = c.self.invariant in
    let after = loaded_after c.commit.result c.self.inside.pass c.commit.new.pass (length c.self.inside.shards.items)
    c.self.inside.desk.book.journal c.commit.new.self.book.journal c.args.draft c.commit.ensures.exact c.commit.ensures.kept inv.0 in (
      after.0,
      omega (arith, after.1, inv.1, c.commit.ensures.next),
      (omega (arith, after.1, inv.2.0), omega (arith, after.1, inv.2.1)),
      inv.3,
      inv.4,
    )

pub returns-clause-ok : goal.returns-clause-ok
returns-clause-ok g c = elim c.match-commit.branch [
  | in-Ok w ↦ ok_of c.match-commit.result _ w.result-is (λ i. record {
    shards = (c.self.view_is i).shards;
    passes = (c.self.view_is i).passes;
    journal = (w.in-Ok.ensures.exact.0 ∙ ap (λ (l : LoadingParts). l.journal ++ c.args.draft ∷ []) c.self.view_is) i;
    next = (ap (λ (p : PassParts). p.next) w.in-Ok.ensures.exact.1 ∙ ap (λ (l : LoadingParts). l.next) c.self.view_is) i;
  })
  | in-Err w ↦ none_ok _ c.match-commit.result _ w.result-is
]

pub returns-clause-err : goal.returns-clause-err
returns-clause-err g c = elim c.match-commit.branch [
  | in-Ok w ↦ none_err _ c.match-commit.result _ w.result-is
  | in-Err w ↦ err_of c.match-commit.result _ w.result-is (λ i. record {
    shards = (c.self.view_is i).shards;
    passes = (c.self.view_is i).passes;
    journal = (w.in-Err.ensures.kept.0 ∙ ap (λ (l : LoadingParts). l.journal) c.self.view_is) i;
    next = (ap (λ (p : PassParts). p.next) w.in-Err.ensures.kept.1 ∙ ap (λ (l : LoadingParts). l.next) c.self.view_is) i;
  })
]
