use Rattle.std.proofs.Common.{◌≡◌, ◌∙◌, ◌++◌, ◌∷◌, [], ap, append_assoc, arith, length, length-append, refl, rules, subst, sym}
use Rattle.std.proofs.lemmas.List.Elements.{All-head, All-tail}
use Rattle.ds_log.specs.declared.Commit.{Commit}
use Rattle.ds_log.specs.Conflicts.{IsSerial}
use Rattle.ds_log.specs.Ids.{AllIssued, AreIssued}
use Rattle.ds_store.specs.Loads.{LoadingParts}
use Rattle.ds_feeding.specs.Feeding.{AreFed, HasTooMany, WhereTooMany}
use Rattle.ds_feeding.proofs.FeedLaws.{fed_nothing, fed_one, next_committed, next_too_many}
use Rattle.ds_feeding.proofs.reindex.Reindex.feed_all.Goals as goal

pub loop-commit-init : goal.loop-commit-init
loop-commit-init g c =
    let first = c.args.self.now in
    record {
      whole = search rules;
      fed = fed_nothing g.K.Names.definitions (first.journal ++ c.args.commits) first first refl (c.args.commits, refl);
      next = refl;
      issued = search rules;
    }

pub feed_one-requires-clause-committed : goal.feed_one-requires-clause-committed
feed_one-requires-clause-committed g c =
    let now = c.loop-commit.self in
    let more = c.next.new.self.rest.items in
    next_committed now.journal c.in-Some.commit more
    (subst IsSerial (sym (ap (λ xs. now.journal ++ xs) (sym c.in-Some.ensures.steps.0) ∙ c.loop-commit.invariant.whole)) c.requires.serial)

pub feed_one-requires-clause-issued : goal.feed_one-requires-clause-issued
feed_one-requires-clause-issued g c =
    let next = c.args.self.now.next in
    subst (λ n. AreIssued n c.in-Some.commit.writes) (sym c.loop-commit.invariant.next)
    (All-head (λ (d : Commit). AreIssued next d.writes) c.in-Some.commit c.next.new.self.rest.items
    (subst (AllIssued next) c.in-Some.ensures.steps.0 c.loop-commit.invariant.issued))

pub feed_one-requires-clause-few : goal.feed_one-requires-clause-few
feed_one-requires-clause-few g c =
    let now = c.loop-commit.self in
    let more = c.next.new.self.rest.items in
    let split = ap (λ xs. now.journal ++ xs) (sym c.in-Some.ensures.steps.0) ∙ c.loop-commit.invariant.whole in
    omega (
      arith,
      ap length split,
      length-append now.journal (c.in-Some.commit ∷ more),
      length-append c.args.self.now.journal c.args.commits,
      c.requires.few,
    )

pub loop-commit-preserved : goal.loop-commit-preserved
loop-commit-preserved g c =
    let first = c.args.self.now in
    let now = c.loop-commit.self in
    let after = c.feed_one.new.self in
    let commit = c.in-Some.commit in
    let more = c.next.new.self.rest.items in
    let inv = c.loop-commit.invariant in
    let ok : after ≡ record now { journal = now.journal ++ commit ∷ [] } = c.in-Ok.ensures.ok in
    let split : now.journal ++ commit ∷ more ≡ first.journal ++ c.args.commits =
    ap (λ xs. now.journal ++ xs) (sym c.in-Some.ensures.steps.0) ∙ inv.whole in
    record {
      whole = ap (λ (p : LoadingParts). p.journal ++ more) ok ∙ append_assoc now.journal (commit ∷ []) more ∙ split;
      fed = fed_one g.K.Names.definitions (first.journal ++ c.args.commits) more commit first now after inv.fed split
          c.in-Ok.ensures.few ok;
      next = ap (λ (p : LoadingParts). p.next) ok ∙ inv.next;
      issued = All-tail (λ (d : Commit). AreIssued first.next d.writes) commit more
          (subst (AllIssued first.next) c.in-Some.ensures.steps.0 inv.issued);
    }

pub returns-in-Err-clause-fed : goal.returns-in-Err-clause-fed
returns-in-Err-clause-fed g c =
    subst (λ (p : LoadingParts). AreFed g.K.Names.definitions (c.args.self.now.journal ++ c.args.commits) c.args.self.now p)
    (sym c.in-Err.ensures.err) c.loop-commit.invariant.fed

pub returns-in-Err-clause-next : goal.returns-in-Err-clause-next
returns-in-Err-clause-next g c = ap (λ (p : LoadingParts). p.next) c.in-Err.ensures.err ∙ c.loop-commit.invariant.next

pub returns-in-Err-clause-refused : goal.returns-in-Err-clause-refused
returns-in-Err-clause-refused g c =
    let now = c.loop-commit.self in
    let more = c.next.new.self.rest.items in
    let whole = c.args.self.now.journal ++ c.args.commits in
    let split = ap (λ xs. now.journal ++ xs) (sym c.in-Some.ensures.steps.0) ∙ c.loop-commit.invariant.whole in
    subst (λ (p : LoadingParts). WhereTooMany (HasTooMany g.K.Names.definitions whole p.journal) c.in-Err.refused)
    (sym c.in-Err.ensures.err)
    (next_too_many g.K.Names.definitions whole now.journal more c.in-Some.commit c.in-Err.refused split c.in-Err.ensures.refused)
