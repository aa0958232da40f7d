use Rattle.std.proofs.Common.{◌≡◌, ◌∷◌, ◌++◌, [], sym, ◌∙◌, ap, rules}
use Rattle.ds_workers.specs.Marks.{last_of}
use Rattle.ds_workers.proofs.Appending.{appends}
use Rattle.ds_workers.proofs.Beginnings.{last_behind}
use Rattle.ds_workers.proofs.marks.History.append.Goals as goal

pub compare_exchange-found-requires : goal.compare_exchange-found-requires
compare_exchange-found-requires g c =
    let h = c.self.invariant in
    let offer = c.plain-offer.ensures in
    let pen = c.no_pen-pen.ensures in
    let book = ap (λ m. m.history) (c.count.view_is ∙ c.duplicate.ensures) in (
      ap (λ w. w.tracked) h,
      book ∙ sym (ap (λ w. w.book) h),
      pen.0 ∙ (book ∙ sym (ap (λ w. w.book) h)),
      offer.0,
      rw (ap (λ w. w.key) h, pen.1, offer.1, offer.3) (appends c.count.inside.seen.log _ c.count.inside.count (sym c.count.invariant)),
    )

pub returns-clause-mark : goal.returns-clause-mark
returns-clause-mark g c =
    let list : c.compare_exchange-found.new.seen.log ≡ c.count.inside.seen.log ++ c.args.entry.now ∷ [] = search rules in (
      c.compare_exchange-found.ensures.0 ∙ ap (λ m. m.history) (c.count.view_is ∙ c.duplicate.ensures ∙ c.self.view_is),
      ap last_of list ∙ last_behind c.count.inside.seen.log c.args.entry.now,
    )
