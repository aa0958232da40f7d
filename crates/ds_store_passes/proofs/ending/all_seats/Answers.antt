use Rattle.std.proofs.Common.{◌≡◌, ◌+◌, ◌++◌, length, map, ap, sym, subst, ◌∙◌, arith, All, rules}
use Rattle.std.proofs.lemmas.List.{nil_from_length}
use Rattle.std.proofs.lemmas.List.Elements.{All-push}
use Rattle.ds_draw.specs.Draws.{SeatView, draws_of}
use Rattle.ds_store_passes.specs.Ending.{commits_of_all, draws_of_all}
use Rattle.ds_store_passes.specs.Passes.{PassParts}
use Rattle.ds_store_passes.proofs.AllSeats.{taken-one, taken-all, counted-one, counted-end}
use Rattle.ds_store_passes.proofs.ending.all_seats.Goals as goal

pub loop-pass-preserved : goal.loop-pass-preserved
loop-pass-preserved g c =
    let before = c.loop-pass.invariant in
    let more = c.next.new.self.rest.items in
    let pass = c.in-Some.pass in
    let first = c.in-Some.ensures.steps.0 in
    let left = ap length first in
    let own = c.seats_of-own.result.0 in
    let drawn = c.seats_of-own.result.1 in
    let own_is = c.seats_of-own.ensures.commits in
    let drawn_is = c.seats_of-own.ensures.ids in
    let commits = c.push_reserved.ensures in
    let ids = c.push_reserved-in-loop-pass.ensures in
    record {
      many = (omega (arith, left, before.many.0, commits.len), omega (arith, left, before.many.1, ids.len));
      room = (commits.capacity ∙ before.room.0, ids.capacity ∙ before.room.1);
      words = (
        subst (All (λ (s : SeatView). s.word ≡ g.J.Names.commits)) (sym commits.items)
            (All-push (λ (s : SeatView). s.word ≡ g.J.Names.commits) c.loop-pass.commits.items own before.words.0 own_is.0),
        subst (All (λ (s : SeatView). s.word ≡ g.J.Names.ids)) (sym ids.items)
            (All-push (λ (s : SeatView). s.word ≡ g.J.Names.ids) c.loop-pass.ids.items drawn before.words.1
            (ap (λ (s : SeatView). s.word) drawn_is)),
      );
      commits = subst (λ ss. draws_of ss ++ commits_of_all more ≡ commits_of_all c.args.passes) (sym commits.items)
          (taken-one (λ (s : SeatView). s.draws) (λ (p : PassParts). p.commits) c.loop-pass.commits.items own pass more
          (commits_of_all c.args.passes)
          (subst (λ ps. draws_of c.loop-pass.commits.items ++ commits_of_all ps ≡ commits_of_all c.args.passes) first before.commits)
          own_is.1);
      draws = subst (λ ss. draws_of ss ++ draws_of_all more ≡ draws_of_all c.args.passes) (sym ids.items)
          (taken-one (λ (s : SeatView). s.draws) (λ (p : PassParts). p.draws) c.loop-pass.ids.items drawn pass more
          (draws_of_all c.args.passes)
          (subst (λ ps. draws_of c.loop-pass.ids.items ++ draws_of_all ps ≡ draws_of_all c.args.passes) first before.draws)
          (ap (λ (s : SeatView). s.draws) drawn_is));
      counters = subst (λ ss. map (λ (s : SeatView). s.counter) ss ++ map (λ (p : PassParts). p.next) more
          ≡ map (λ (p : PassParts). p.next) c.args.passes)
          (sym ids.items)
          (counted-one (λ (s : SeatView). s.counter) (λ (p : PassParts). p.next) c.loop-pass.ids.items drawn pass more
          (map (λ (p : PassParts). p.next) c.args.passes)
          (subst (λ ps. map (λ (s : SeatView). s.counter) c.loop-pass.ids.items ++ map (λ (p : PassParts). p.next) ps
          ≡ map (λ (p : PassParts). p.next) c.args.passes) first before.counters)
          (ap (λ (s : SeatView). s.counter) drawn_is));
    }

pub returns-clause-words : goal.returns-clause-words
returns-clause-words g c =
    let before = c.loop-pass.invariant in (
      subst (All (λ (s : SeatView). s.word ≡ g.J.Names.commits)) (sym (c.from.ensures ∙ c.push_reserved-2.ensures.items))
          (All-push (λ (s : SeatView). s.word ≡ g.J.Names.commits) c.loop-pass.commits.items c.args.commit_keeper before.words.0
          c.requires.words.0),
      subst (All (λ (s : SeatView). s.word ≡ g.J.Names.ids)) (sym (c.from-2.ensures ∙ c.push_reserved-3.ensures.items))
          (All-push (λ (s : SeatView). s.word ≡ g.J.Names.ids) c.loop-pass.ids.items c.args.id_keeper before.words.1 c.requires.words.1),
    )

pub returns-clause-draws : goal.returns-clause-draws
returns-clause-draws g c =
    let before = c.loop-pass.invariant in
    let none : length c.loop-pass.pass-iterator.rest.items ≡ 0 = search rules in
    let left = nil_from_length c.loop-pass.pass-iterator.rest.items none in (
      taken-all (λ (s : SeatView). s.draws) (λ (p : PassParts). p.commits) c.loop-pass.commits.items c.args.commit_keeper
          c.loop-pass.pass-iterator.rest.items (commits_of_all c.args.passes) c.from.result left before.commits c.requires.keeper.0
          (c.from.ensures ∙ c.push_reserved-2.ensures.items),
      taken-all (λ (s : SeatView). s.draws) (λ (p : PassParts). p.draws) c.loop-pass.ids.items c.args.id_keeper
          c.loop-pass.pass-iterator.rest.items (draws_of_all c.args.passes) c.from-2.result left before.draws c.requires.keeper.1
          (c.from-2.ensures ∙ c.push_reserved-3.ensures.items),
    )

pub returns-clause-counters : goal.returns-clause-counters
returns-clause-counters g c n low =
    let none : length c.loop-pass.pass-iterator.rest.items ≡ 0 = search rules in
    let left = nil_from_length c.loop-pass.pass-iterator.rest.items none in
    counted-end (λ (s : SeatView). s.counter) (λ (p : PassParts). p.next) c.loop-pass.ids.items c.args.id_keeper
    c.loop-pass.pass-iterator.rest.items c.args.passes c.from-2.result n left c.loop-pass.invariant.counters
    (c.from-2.ensures ∙ c.push_reserved-3.ensures.items) low
