use Rattle.std.proofs.Common.{◌≡◌, ◌++◌, [], ◌∷◌, arith, sym, ap, ◌∙◌, subst, length}
use Rattle.std.specs.Prelude.{All}
use Rattle.ds_draw.specs.Draws.{SeatView, draws_of}
use Rattle.ds_draw.proofs.Gathered.{All-middle}
use Rattle.ds_draw.proofs.EachOnce.{HasEachOnce-same}
use Rattle.ds_draw.proofs.Steps.{joins, ends}
use Rattle.ds_draw.proofs.word.Word.close.Goals as goal

pub join_seat-requires : goal.join_seat-requires
join_seat-requires c =
    let i = c.loop-seat.invariant in
    let whole : (c.pop-in-loop-seat.new.self ++ c.in-Some-pop.seat ∷ []) ++ i.0 ≡ c.args.seats = ap (λ l. l ++ i.0) (sym c.in-Some-pop.ensures) ∙ i.1 in
    let P : SeatView → Type 0 = λ s. s.word ≡ c.args.self.name in
    let own = All-middle P c.pop-in-loop-seat.new.self c.in-Some-pop.seat i.0 (subst (λ (l : _). All P l) (sym whole) c.requires.word) in
    let same = ap (λ (s : SeatView). s.word) c.seat.view_is ∙ own ∙ sym (ap (λ w. w.name) c.self.view_is) in
    (i.4, same, c.seat.invariant.1, omega arith, joins _ _ _ _ _ (omega (arith, i.2.some, i.2.parts)))

pub returns-clause-each_once : goal.returns-clause-each_once
returns-clause-each_once c =
    let i = c.loop-seat.invariant in
    let none_left : c.loop-seat.seats ≡ [] = c.in_default-pop.ensures.0 in
    let taken : i.0 ≡ c.args.seats = ap (λ l. l ++ i.0) (sym none_left) ∙ i.1 in
    let parts : c.loop-seat.all.me.0.parts ≡ c.self.inside.table.shared.key.seats = i.2.parts ∙ ap length taken ∙ c.requires.all ∙ sym (ap (λ w. w.seats) c.self.view_is) in
    let end = ends _ _ _ _ _ _ c.close_with-closed.ensures.values.2 c.word-word.ensures parts in
    HasEachOnce-same _ _ _ _ _ (ap (λ w. w.first) c.self.view_is) (i.2.draws ∙ ap draws_of taken) end.each_once
