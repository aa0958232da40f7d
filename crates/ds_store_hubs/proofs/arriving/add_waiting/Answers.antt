use Rattle.std.proofs.Common.{rules, ◌≡◌, ◌++◌, ◌∷◌, [], List, length, ap, sym, subst, ◌∙◌, arith, All}
use Rattle.std.proofs.Common.{length-append}
use Rattle.std.specs.Prelude.{IfSome, Option}
use Rattle.ds_log.specs.declared.Entry.{Entry}
use Rattle.ds_shard.specs.States.{IsOfShard, StateParts}
use Rattle.ds_store_hubs.proofs.ShardHubs.{moved_over, rest_belong}
use Rattle.ds_store_hubs.proofs.arriving.add_waiting.Goals as goal

pub loop-done-preserved : goal.loop-done-preserved
loop-done-preserved c =
    let before = c.loop-done.writer in
    let after = c.added.new.writer in
    let entry = c.in-Some.entry in
    let rest = c.pop_front.new.self.items in
    let front : c.loop-done.waiting.items ≡ entry ∷ rest = c.in-Some.ensures.items in
    let pending : after.pending ≡ before.pending ++ entry ∷ [] = c.in_default-added.ensures.pending in
    let whole = subst (λ (es : List Entry). IfSome before.start (λ (s : StateParts). All (IsOfShard s.place) es)) front
    c.loop-done.invariant.belong in
    record {
      hub = search rules;
      start = search rules;
      published = search rules;
      kept = ap (λ (es : List Entry). (es ++ after.pending) ++ rest) c.added.ensures.same.2
          ∙ ap (λ (es : List Entry). (before.published ++ es) ++ rest) pending
          ∙ moved_over before.published before.pending rest entry
          ∙ ap (λ (es : List Entry). (before.published ++ before.pending) ++ es) (sym front)
          ∙ c.loop-done.invariant.kept;
      added = omega (
        arith,
        ap (λ (es : List Entry). length es) pending,
        length-append before.pending (entry ∷ []),
        c.loop-done.invariant.added,
      );
      belong = subst (λ (o : Option StateParts). IfSome o (λ (s : StateParts). All (IsOfShard s.place) rest)) (sym c.added.ensures.same.1)
          (rest_belong before.start entry rest whole);
    }
