use Rattle.std.proofs.Common.{◌≡◌, sym, ◌∙◌, ap, length}
use Rattle.ds_hub.proofs.Announcing.{announces}
use Rattle.ds_hub.proofs.prefix.Head.announce.Goals as goal

pub compare_exchange-found-requires : goal.compare_exchange-found-requires
compare_exchange-found-requires g c =
    let h = c.self.invariant in
    let offer = c.plain-offer.ensures in
    let pen = c.no_pen-pen.ensures in
    let again = c.again-seen.ensures in
    let hub = ap (λ s. s.book) again ∙ (ap (λ l. l.hub) c.prefix.view_is ∙ (c.requires.hub ∙ sym c.self.view_is)) in
    let len : length c.again-seen.result.log ≡ c.prefix.inside.held = ap (λ s. length s.log) again ∙ sym c.prefix.invariant in (
      ap (λ w. w.tracked) h,
      hub,
      pen.0 ∙ hub,
      offer.0,
      rw (ap (λ w. w.key) h, pen.1, offer.1, offer.3) (announces c.again-seen.result.log _ c.prefix.inside.held len),
    )
