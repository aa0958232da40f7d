use Rattle.std.proofs.Common.{◌+◌, ◌<◌, ap, sym, subst, ◌∙◌, arith}
use Rattle.std.specs.Prelude.{All}
use Rattle.ds_draw.specs.Draws.{SeatView}
use Rattle.ds_store_passes.proofs.Drawing.{drawn_below}
use Rattle.ds_store_passes.proofs.pass.Pass.draw_ids.Goals as goal

pub invariant_of-self : goal.invariant_of-self
invariant_of-self g c =
    let inv = c.self.invariant in
    let drawn = c.draw_at.ensures.drawn in
    let next = c.self.inside.next in (
      inv.0,
      inv.1,
      (inv.2.0, ap (λ (s : SeatView). s.word) drawn ∙ inv.2.1),
      sym (ap (λ (s : SeatView). s.counter) drawn),
      (
        inv.4.0,
        inv.4.1,
        subst (All (λ id. id < next + c.args.count)) (sym (ap (λ (s : SeatView). s.draws) drawn))
            (drawn_below c.self.inside.ids.draws next c.args.count inv.4.2),
      ),
      inv.5,
      omega (arith, inv.6),
    )
