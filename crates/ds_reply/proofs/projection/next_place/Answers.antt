use Rattle.std.proofs.Common.{arith, ◌≡◌, inl, inr}
use Rattle.ds_reply.proofs.Selection.{found-passed, found-better, found-behind, found-none, found-some}
use Rattle.ds_reply.proofs.projection.next_place.Goals as goal
use Rattle.ds_reply.proofs.projection.next_place.Goals.{then-is_better, else-is_better}

pub loop-i-preserved : goal.loop-i-preserved
loop-i-preserved c =
    let ns = c.args.names.now in
    let vs = c.args.values.now in
    elim c.if-is_better.branch [
      | then-is_better w ↦
          let yes = c.is_better.ensures.yes w.if-is_better.true in
          rw w.best-is (found-better ns vs c.args.later c.args.last.now c.loop-i.i c.loop-i.best c.min-count.result (omega arith) (omega arith) (omega arith) yes.0 yes.1 c.loop-i.invariant)
      | else-is_better w ↦ rw w.best-is (elim (c.is_better.ensures.no w.if-is_better.false) [
        | inl passed ↦ found-passed ns vs c.args.later c.args.last.now c.loop-i.i c.loop-i.best c.min-count.result (omega arith) (omega arith) passed c.loop-i.invariant
        | inr behind ↦ found-behind ns vs c.args.later c.args.last.now c.loop-i.i c.loop-i.best c.min-count.result (omega arith) (omega arith) behind.0 behind.1 behind.2 c.loop-i.invariant
      ])
    ]

pub returns-then-best-count : goal.returns-then-best-count
returns-then-best-count c =
    let end : c.loop-i.i ≡ c.min-count.result = omega arith in
    found-some c.args.names.now c.args.values.now c.args.later c.args.last.now c.loop-i.best c.min-count.result (omega (arith, c.min-count.ensures)) (rw end at c.loop-i.invariant) (omega arith)

pub returns-else-best-count : goal.returns-else-best-count
returns-else-best-count c =
    let end : c.loop-i.i ≡ c.min-count.result = omega arith in
    found-none c.args.names.now c.args.values.now c.args.later c.args.last.now c.loop-i.best c.min-count.result (omega (arith, c.min-count.ensures)) (rw end at c.loop-i.invariant) (omega arith)
