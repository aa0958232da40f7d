use Rattle.std.proofs.Common.{◌≡◌, ◌+◌, ◌++◌, ℕ, List, length, ap, arith, length-append}
use Rattle.std.proofs.lemmas.Result.{MatchResult-weaker}
use Rattle.ds_hub.specs.Holding.{Publishing}
use Rattle.ds_log.specs.declared.Entry.{Entry}
use Rattle.ds_shard.specs.States.{StateParts}
use Rattle.ds_store_hubs.proofs.arriving.publish_waiting.Goals as goal

-- what was published and pending, with so many entries more, is published at the end
all_shown : {E : Type 0} (p q p1 q1 p2 q2 p3 : List E) (count : ℕ) → p1 ++ q1 ≡ p ++ q → p2 ≡ p1 → length q2 ≡ length q1 + count
    → p3 ≡ p2 ++ q2 → length p3 ≡ (length p + length q) + count
all_shown p q p1 q1 p2 q2 p3 count kept same added all =
    omega (
      arith,
      ap length all,
      length-append p2 q2,
      ap length same,
      added,
      length-append p1 q1,
      ap length kept,
      length-append p q,
    )

pub returns-clause-published : goal.returns-clause-published
returns-clause-published g c =
    let before = c.args.writer.now in
    let first = c.publish_parked.new.writer in
    let added = c.add_waiting.new.writer in
    MatchResult-weaker c.publish.result c.publish.ensures.lists
    (λ _ is. all_shown before.published before.pending first.published first.pending added.published added.pending
    c.publish.new.self.published c.args.count c.in_ok-publish_parked.ensures.kept c.in_ok-add_waiting.ensures.same.2
    c.in_ok-add_waiting.ensures.added (ap (λ (w : Publishing StateParts Entry). w.published) is)) (λ _ _. tt)
