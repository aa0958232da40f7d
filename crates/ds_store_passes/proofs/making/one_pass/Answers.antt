use Rattle.std.proofs.Common.{◌<◌, ◌≤◌, ℕ, List, [], length, replicate, ap, sym, subst, ◌∙◌, arith}
use Rattle.std.specs.Prelude.{All, Option}
use Rattle.std.proofs.lemmas.List.Elements.{All-nil}
use Rattle.ds_base.specs.Limits.{first_drawn_id}
use Rattle.ds_draw.specs.Draws.{SeatView, new_seat}
use Rattle.ds_hub.specs.Line.{HubId}
use Rattle.ds_log.specs.declared.Entry.{Entry}
use Rattle.ds_shard.specs.States.{StateParts}
use Rattle.ds_store_hubs.proofs.ShardHubs.{origins-many}
use Rattle.ds_store_passes.specs.Passes.{OwnSeen}
use Rattle.ds_store_passes.proofs.making.one_pass.Goals as goal

pub returns-in_err-commits-clause-commits : goal.returns-in_err-commits-clause-commits
returns-in_err-commits-clause-commits g c = c.a_seat.ensures.left (new_seat g.J.Names.commits 1) c.requires.commits

pub returns-in_err-ids-clause-commits : goal.returns-in_err-ids-clause-commits
returns-in_err-ids-clause-commits g c = c.a_seat.ensures.left (new_seat g.J.Names.commits 1) c.requires.commits

pub returns-in_err-ids-clause-ids : goal.returns-in_err-ids-clause-ids
returns-in_err-ids-clause-ids g c = c.a_seat-2.ensures.left (new_seat g.J.Names.ids first_drawn_id) c.requires.ids

pub returns-clause-commits : goal.returns-clause-commits
returns-clause-commits g c = c.a_seat.ensures.left (new_seat g.J.Names.commits 1) c.requires.commits

pub returns-clause-ids : goal.returns-clause-ids
returns-clause-ids g c = c.a_seat-2.ensures.left (new_seat g.J.Names.ids first_drawn_id) c.requires.ids

pub invariant_of-result : goal.invariant_of-result
invariant_of-result g c =
    let own = c.in_ok-commits.ensures.seat (new_seat g.J.Names.commits 1) c.requires.commits in
    let drawn = c.in_ok-ids.ensures.seat (new_seat g.J.Names.ids first_drawn_id) c.requires.ids in (
      c.in_ok-journal.ensures.reader.0,
      c.in_ok-shards.ensures.hubs ∙ c.requires.shards,
      (ap (λ (s : SeatView). s.word) own, ap (λ (s : SeatView). s.word) drawn),
      sym (ap (λ (s : SeatView). s.counter) drawn),
      (
        subst (λ ds. OwnSeen ds c.in_ok-journal.journal.known) (sym (ap (λ (s : SeatView). s.draws) own))
            (All-nil (λ (n : ℕ). n ≤ length c.in_ok-journal.journal.known)),
        subst (All (λ n. n ≤ 0)) (sym (ap (λ (s : SeatView). s.draws) own)) (All-nil (λ (n : ℕ). n ≤ 0)),
        subst (All (λ id. id < first_drawn_id)) (sym (ap (λ (s : SeatView). s.draws) drawn)) (All-nil (λ (id : ℕ). id < first_drawn_id)),
      ),
      c.requires.few,
      omega arith,
    )

pub returns-clause-pass : goal.returns-clause-pass
returns-clause-pass g c =
    let own = c.in_ok-commits.ensures.seat (new_seat g.J.Names.commits 1) c.requires.commits in
    let drawn = c.in_ok-ids.ensures.seat (new_seat g.J.Names.ids first_drawn_id) c.requires.ids in
    let many = ap (λ (os : List (HubId × Option StateParts)). length os) c.requires.shards
    ∙ origins-many g.J.Names.ledger (length g.J.Names.shards) g.J.Names.definitions g.J.Names.window 0 g.J.Names.shards in
    let none : List Entry = [] in
    let lists = c.in_ok-shards.ensures.known ∙ ap (λ n. replicate n none) many in
    λ i. record {
      journal = c.in_ok-journal.ensures.reader.1 i;
      lists = lists i;
      place = 0;
      next = first_drawn_id;
      commits = ap (λ (s : SeatView). s.draws) own i;
      draws = ap (λ (s : SeatView). s.draws) drawn i;
    }
