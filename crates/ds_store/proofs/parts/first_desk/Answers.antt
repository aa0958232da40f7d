use Rattle.std.proofs.Common.{◌≡◌, List, length, sym, ap, ◌∙◌, arith}
use Rattle.ds_draw.specs.Draws.{SeatView}
use Rattle.ds_log.specs.declared.Commit.{Commit}
use Rattle.ds_store.proofs.parts.first_desk.Goals as goal

pub invariant_of-result : goal.invariant_of-result
invariant_of-result g c =
    let one : c.args.commits.counter ≡ 1 = ap (λ (s : SeatView). s.counter) c.requires.commits in
    let none : length c.make.result.journal ≡ 0 = ap (λ (cs : List Commit). length cs) c.make.ensures.journal in
    record {
      of_journal = c.requires.hub;
      of_words = (ap (λ (s : SeatView). s.word) c.requires.commits, ap (λ (s : SeatView). s.word) c.requires.ids);
      told = (c.requires.told.0 ∙ sym c.make.ensures.journal, c.requires.told.1);
      next_is = ap (λ (s : SeatView). s.counter) c.requires.ids ∙ sym c.make.ensures.next;
      numbered = omega (arith, one, none);
      only_looks = (ap (λ (s : SeatView). s.draws) c.requires.commits, ap (λ (s : SeatView). s.draws) c.requires.ids);
    }
