use Rattle.std.proofs.Common.{◌≡◌, ◌+◌, ◌≤◌, inl, ℕ, ◌<◌, List, [], length, map, get_or, refl, sym, ap, subst, ◌∙◌, true, false}
use Rattle.std.proofs.Common.{arith, Some, None, option_copied}
use Rattle.std.specs.Prelude.{IfOk, IfSome}
use Rattle.std.proofs.lemmas.List.{length-map}
use Rattle.ds_base.specs.declared.column.Column.{Column}
use Rattle.ds_query.specs.Filters.{projected}
use Rattle.ds_query.specs.declared.row.Row.{Row}
use Rattle.ds_cursor.specs.RowsOfColumns.{IsRowOf}
use Rattle.ds_zigzag.specs.Spans.{count_between}
use Rattle.ds_zigzag.specs.CommonStrings.{IsCommon, IsNextCommon, HasNoNextCommon}
use Rattle.ds_zigzag.specs.Walks.{IsWalked}
use Rattle.ds_pages.specs.Pages.{last_of}
use Rattle.ds_pages.specs.Places.{placed}
use Rattle.ds_pages.specs.Slots.{slot_of}
use Rattle.ds_branch.specs.Behind.{IsCollected}
use Rattle.ds_branch.specs.Kept.{are_projected, with_one, AreKept}
use Rattle.ds_branch.specs.Places.{bytes_of, is_wanted, walk_steps}
use Rattle.ds_branch.proofs.Collected.{AreCollected, IsAtLast, begun, stepped, ended, full, fewer_left, at_next, walked_on, walked_within}
use Rattle.ds_branch.proofs.Collected.{steps_at_end, steps_when_full, always_err, one_longer, none_wanted}
use Rattle.ds_branch.proofs.Readings.{is_placed}
use Rattle.ds_branch.proofs.collecting.first_common.Goals as goal

pub answers-init : goal.answers-init
answers-init g c = record {
  rows = [];
  kept = subst (λ (cs : List Column). AreKept cs c.in_ok-firsts.firsts []) c.as_slice.ensures c.in_ok-firsts.ensures.none;
  skip = c.in_ok-firsts.ensures.skip;
  places = c.in_ok-firsts.ensures.places;
  strings = refl;
  as_many = refl;
  number = c.in_ok-walk.ensures.over;
  collected = begun c.args.branch.now.columns (projected c.args.branch.now.select) (bytes_of (option_copied c.args.start))
      (map g.S.Scan.strings c.args.scans.now) c.args.most c.in_ok-firsts.firsts.keeps_all c.in_ok-firsts.firsts.firsts.slots
      c.in_ok-walk.walk.last []
      (c.in_ok-firsts.ensures.all
      ∙ (λ i. are_projected (c.projected.ensures i) (c.as_slice.ensures i)))
      c.requires.differ
      (c.in_ok-firsts.ensures.slots ∙ (λ i. map (slot_of (c.as_slice.ensures i)) (c.projected.ensures i)))
      (c.in_ok-walk.ensures.stands ∙ c.bytes_of.ensures) refl;
  passed = refl;
  walked =
      let after = bytes_of (option_copied c.args.start) in
      let ss = map g.S.Scan.strings c.args.scans.now in
      let ps = map g.S.Scan.passed c.args.scans.now in
      let now = c.args.steps.now in
      subst (λ o. IsWalked (length c.args.scans.now) after o ss ps now now) (sym (c.in_ok-walk.ensures.stands ∙ c.bytes_of.ensures))
      (c.in_ok-walk.ensures.begins after ss ps now);
  at_last = λ enough. inl (refl, refl);
  counted = omega arith;
  none_asked = λ none. refl;
}

pub returns-in-None-clause-rows : goal.returns-in-None-clause-rows
returns-in-None-clause-rows g c = λ sorted are.
    let columns = c.args.branch.now.columns in
    let last = c.answers.walk.last in
    let rows = c.answers.invariant.rows in
    let none : HasNoNextCommon last (map g.S.Scan.strings c.args.scans.now) =
    subst (λ (ls : List (List (List ℕ))). HasNoNextCommon last ls) c.answers.invariant.strings (rw c.in-None.is at
    c.in_ok-found.ensures.none_is_left) in
    subst (λ (rs : List Row). IsCollected columns c.args.skip c.args.places rs c.finish.result)
    (ended columns (projected c.args.branch.now.select) (bytes_of (option_copied c.args.start))
    (map g.S.Scan.strings c.args.scans.now) c.args.most c.answers.firsts.keeps_all c.answers.firsts.firsts.slots last rows
    c.answers.invariant.collected none sorted are)
    (subst (λ n. IsCollected columns n c.args.places rows c.finish.result) c.answers.invariant.skip
    (subst (λ b. IsCollected columns c.answers.firsts.skip b rows c.finish.result) c.answers.invariant.places
    (c.finish.ensures columns rows c.answers.invariant.kept)))

pub put-requires : goal.put-requires
put-requires g c =
    let place = c.in-Some.place.now in
    let next : IsNextCommon c.answers.walk.last (map g.S.Scan.strings c.answers.scans) place = rw c.in-Some.is at
    c.in_ok-found.ensures.next_common in
    record {
      row = subst (λ (cs : List Column). IsRowOf cs place) (sym c.as_slice-in-Some.ensures)
          (c.requires.rows place (subst (λ (ls : List (List (List ℕ))). IsCommon ls place) c.answers.invariant.strings next.common));
    }

pub answers-smaller : goal.answers-smaller
answers-smaller g c =
    let place = c.in-Some.place.now in
    let last = c.answers.walk.last in
    let lists : List (List (List ℕ)) = map g.S.Scan.strings c.args.scans.now in
    let here : IsNextCommon last (map g.S.Scan.strings c.answers.scans) place = rw c.in-Some.is at c.in_ok-found.ensures.next_common in
    let next : IsNextCommon last lists place = subst (λ (ls : List (List (List ℕ))). IsNextCommon last ls place)
    c.answers.invariant.strings here in
    let long = length-map c.args.scans.now g.S.Scan.strings in
    let some : 0 < length lists = omega (arith, long, c.requires.some) in
    let less = fewer_left last lists place some next in
    let held = subst (λ r. IfOk r (λ f. IfSome f (λ a. c.next.follows.lender-at-none.last
    ≡ Some a.now))) c.in_ok-found.was c.next.follows.holds-at-none.1 in
    let stands : c.next.follows.lender-at-none.last ≡ Some place = rw c.in-Some.is at held in
    subst (λ o. count_between o None (get_or lists 0 []) < count_between last None (get_or lists 0 [])) (sym stands) (omega (arith, less))

pub answers-preserved : goal.answers-preserved
answers-preserved g c =
    let place = c.in-Some.place.now in
    let last = c.answers.walk.last in
    let columns = c.args.branch.now.columns in
    let names = projected c.args.branch.now.select in
    let after = bytes_of (option_copied c.args.start) in
    let lists : List (List (List ℕ)) = map g.S.Scan.strings c.args.scans.now in
    let here : IsNextCommon last (map g.S.Scan.strings c.answers.scans) place = rw c.in-Some.is at c.in_ok-found.ensures.next_common in
    let next : IsNextCommon last lists place = subst (λ (ls : List (List (List ℕ))). IsNextCommon last ls place)
    c.answers.invariant.strings here in
    let held = subst (λ r. IfOk r (λ f. IfSome f (λ a. c.next.follows.lender-at-none.last
    ≡ Some a.now))) c.in_ok-found.was c.next.follows.holds-at-none.1 in
    let stands : c.next.follows.lender-at-none.last ≡ Some place = rw c.in-Some.is at held in
    let same : map g.S.Scan.strings c.next.new.scans ≡ map g.S.Scan.strings c.answers.scans = c.next.ensures.same_strings in
    let strings : map g.S.Scan.strings c.next.new.scans ≡ lists = same ∙ c.answers.invariant.strings in
    let rows : List Row = c.answers.invariant.rows in
    let r : IsRowOf columns place = c.requires.rows place next.common in
    let row : Row = placed columns r.row in
    let all = c.answers.firsts.keeps_all in
    let slots = c.answers.firsts.firsts.slots in
    let more : List Row = with_one all slots rows row in
    let same_kind = c.in_ok-put-in-Some.ensures.same in
    let put = subst (λ (cs : List Column). (rs : List Row) (s : IsRowOf cs place) → AreKept cs c.answers.firsts rs
    → AreKept cs c.put.new.self (with_one all slots rs (placed cs s.row))) c.as_slice-in-Some.ensures c.in_ok-put-in-Some.ensures.rows in
    let wanted : is_wanted c.args.most (length rows) ≡ true =
    sym (c.is_wanted.ensures ∙ ap (is_wanted c.args.most) (c.len.ensures columns rows c.answers.invariant.kept)) ∙ c.answers-test.true in
    record {
      rows = more;
      kept = put rows r c.answers.invariant.kept;
      skip = same_kind.skip ∙ c.answers.invariant.skip;
      places = same_kind.places ∙ c.answers.invariant.places;
      strings = strings;
      as_many = sym (length-map c.next.new.scans g.S.Scan.strings) ∙ ap length strings ∙ length-map c.args.scans.now g.S.Scan.strings;
      number = c.next.follows.holds-at-none.0 ∙ c.answers.invariant.number ∙ sym (length-map c.answers.scans g.S.Scan.strings)
          ∙ ap length (sym same)
          ∙ length-map c.next.new.scans g.S.Scan.strings;
      collected = subst (λ o. AreCollected columns names after lists c.args.most c.put.new.self.keeps_all c.put.new.self.firsts.slots o
          more) (sym stands)
          (stepped columns names after lists c.args.most all c.put.new.self.keeps_all slots
          c.put.new.self.firsts.slots last rows more place row c.answers.invariant.collected next (is_placed columns place r) (sym
          r.written) refl same_kind.slots same_kind.all wanted);
      passed = c.next.ensures.same_passed ∙ c.answers.invariant.passed;
      walked =
          let number : c.answers.walk.scans ≡ length c.args.scans.now = c.answers.invariant.number ∙ c.answers.invariant.as_many in
          let on = rw c.in-Some.is at c.in_ok-found.ensures.walks_on in
          subst (λ o. IsWalked (length c.args.scans.now) after o lists (map g.S.Scan.passed c.args.scans.now) c.args.steps.now
          c.next.new.steps) (sym stands)
          (walked_on after c.answers.walk.scans (length c.args.scans.now) (map g.S.Scan.strings c.answers.scans) lists
          (map g.S.Scan.passed c.answers.scans) (map g.S.Scan.passed c.args.scans.now) c.args.steps.now number
          c.answers.invariant.strings c.answers.invariant.passed
          last (Some place) (map g.S.Scan.strings c.next.new.scans) (map g.S.Scan.passed c.next.new.scans) c.answers.steps c.next.new.steps
          c.answers.invariant.walked (on after c.args.steps.now) same c.next.ensures.same_passed);
      at_last = subst (λ o. IsAtLast c.args.most more o c.args.steps.now c.next.new.steps) (sym stands)
          (at_next c.args.most all slots rows more row place c.args.steps.now c.next.new.steps wanted refl (sym r.written));
      counted =
          let longer = one_longer all slots rows row in
          omega (arith, longer, c.answers.invariant.counted, c.in_ok-found.ensures.takes_a_step);
      none_asked = λ none. absurd (none_wanted c.args.most (length rows) none wanted);
    }

pub returns-clause-rows : goal.returns-clause-rows
returns-clause-rows g c = λ sorted are.
    let columns = c.args.branch.now.columns in
    let rows = c.answers.invariant.rows in
    let enough : is_wanted c.args.most (length rows) ≡ false =
    sym (c.is_wanted.ensures ∙ ap (is_wanted c.args.most) (c.len.ensures columns rows c.answers.invariant.kept)) ∙ c.answers-test.false in
    subst (λ (rs : List Row). IsCollected columns c.args.skip c.args.places rs c.finish-2.result)
    (full columns (projected c.args.branch.now.select) (bytes_of (option_copied c.args.start))
    (map g.S.Scan.strings c.args.scans.now) c.args.most c.answers.firsts.keeps_all c.answers.firsts.firsts.slots c.answers.walk.last rows
    c.answers.invariant.collected enough sorted are)
    (subst (λ n. IsCollected columns n c.args.places rows c.finish-2.result) c.answers.invariant.skip
    (subst (λ b. IsCollected columns c.answers.firsts.skip b rows c.finish-2.result) c.answers.invariant.places
    (c.finish-2.ensures columns rows c.answers.invariant.kept)))

pub returns-in-None-clause-steps_when_done : goal.returns-in-None-clause-steps_when_done
returns-in-None-clause-steps_when_done g c =
    let columns = c.args.branch.now.columns in
    let after = bytes_of (option_copied c.args.start) in
    let rows = c.answers.invariant.rows in
    let number : c.answers.walk.scans ≡ length c.args.scans.now = c.answers.invariant.number ∙ c.answers.invariant.as_many in
    let wanted : is_wanted c.args.most (length rows) ≡ true =
    sym (c.is_wanted.ensures ∙ ap (is_wanted c.args.most) (c.len.ensures columns rows c.answers.invariant.kept)) ∙ c.answers-test.true in
    let is = c.finish.ensures columns rows c.answers.invariant.kept in
    subst (λ n. c.next.new.steps ≤ c.args.steps.now + walk_steps (is_wanted c.args.most n) (length c.args.scans.now) after
    (bytes_of c.finish.result.last) (map g.S.Scan.strings c.args.scans.now) (map g.S.Scan.passed c.args.scans.now)) (sym is.count)
    (steps_at_end c.args.most rows rows (length c.args.scans.now) after (bytes_of c.finish.result.last)
    (map g.S.Scan.strings c.args.scans.now) (map g.S.Scan.passed c.args.scans.now) c.args.steps.now c.next.new.steps refl wanted
    (walked_within after c.answers.walk.scans (length c.args.scans.now) (map g.S.Scan.strings c.answers.scans) (map g.S.Scan.strings
    c.args.scans.now)
    (map g.S.Scan.passed c.answers.scans) (map g.S.Scan.passed c.args.scans.now) c.args.steps.now number c.answers.invariant.strings
    c.answers.invariant.passed
    c.answers.walk.last c.answers.steps c.next.new.steps c.answers.invariant.walked (c.next.ensures.walk_within after c.args.steps.now)))

pub returns-clause-steps_when_done : goal.returns-clause-steps_when_done
returns-clause-steps_when_done g c =
    let columns = c.args.branch.now.columns in
    let after = bytes_of (option_copied c.args.start) in
    let rows = c.answers.invariant.rows in
    let enough : is_wanted c.args.most (length rows) ≡ false =
    sym (c.is_wanted.ensures ∙ ap (is_wanted c.args.most) (c.len.ensures columns rows c.answers.invariant.kept)) ∙ c.answers-test.false in
    let is = c.finish-2.ensures columns rows c.answers.invariant.kept in
    let ss = map g.S.Scan.strings c.args.scans.now in
    let ps = map g.S.Scan.passed c.args.scans.now in
    subst (λ o. c.answers.steps ≤ c.args.steps.now + walk_steps (is_wanted c.args.most c.finish-2.result.count) (length c.args.scans.now)
    after (bytes_of o) ss ps) (sym is.last)
    (subst (λ n. c.answers.steps ≤ c.args.steps.now + walk_steps (is_wanted c.args.most n) (length c.args.scans.now) after
    (bytes_of (last_of None rows)) ss ps) (sym is.count)
    (steps_when_full c.args.most rows rows (length c.args.scans.now) after c.answers.walk.last ss ps c.args.steps.now c.answers.steps refl
    enough c.answers.invariant.at_last c.answers.invariant.walked))

pub returns-in_err-found-clause-steps_when_refused : goal.returns-in_err-found-clause-steps_when_refused
returns-in_err-found-clause-steps_when_refused g c =
    let after = bytes_of (option_copied c.args.start) in
    let number : c.answers.walk.scans ≡ length c.args.scans.now = c.answers.invariant.number ∙ c.answers.invariant.as_many in
    always_err c.from_residual-in_err-found.result
    (walked_within after c.answers.walk.scans (length c.args.scans.now) (map g.S.Scan.strings c.answers.scans) (map g.S.Scan.strings
    c.args.scans.now)
    (map g.S.Scan.passed c.answers.scans) (map g.S.Scan.passed c.args.scans.now) c.args.steps.now number c.answers.invariant.strings
    c.answers.invariant.passed
    c.answers.walk.last c.answers.steps c.next.new.steps c.answers.invariant.walked (c.next.ensures.walk_within after c.args.steps.now))

pub returns-in_err-put-in-Some-clause-steps_when_refused : goal.returns-in_err-put-in-Some-clause-steps_when_refused
returns-in_err-put-in-Some-clause-steps_when_refused g c =
    let after = bytes_of (option_copied c.args.start) in
    let number : c.answers.walk.scans ≡ length c.args.scans.now = c.answers.invariant.number ∙ c.answers.invariant.as_many in
    always_err c.from_residual-in_err-put-in-Some.result
    (walked_within after c.answers.walk.scans (length c.args.scans.now) (map g.S.Scan.strings c.answers.scans) (map g.S.Scan.strings
    c.args.scans.now)
    (map g.S.Scan.passed c.answers.scans) (map g.S.Scan.passed c.args.scans.now) c.args.steps.now number c.answers.invariant.strings
    c.answers.invariant.passed
    c.answers.walk.last c.answers.steps c.next.new.steps c.answers.invariant.walked (c.next.ensures.walk_within after c.args.steps.now))

pub returns-in-None-clause-none_asked : goal.returns-in-None-clause-none_asked
returns-in-None-clause-none_asked g c = λ none.
    absurd (none_wanted c.args.most (length c.answers.invariant.rows) none
    (sym (c.is_wanted.ensures ∙ ap (is_wanted c.args.most)
    (c.len.ensures c.args.branch.now.columns c.answers.invariant.rows c.answers.invariant.kept)) ∙ c.answers-test.true))

pub returns-in_err-found-clause-none_asked : goal.returns-in_err-found-clause-none_asked
returns-in_err-found-clause-none_asked g c = λ none.
    absurd (none_wanted c.args.most (length c.answers.invariant.rows) none
    (sym (c.is_wanted.ensures ∙ ap (is_wanted c.args.most)
    (c.len.ensures c.args.branch.now.columns c.answers.invariant.rows c.answers.invariant.kept)) ∙ c.answers-test.true))

pub returns-in_err-put-in-Some-clause-none_asked : goal.returns-in_err-put-in-Some-clause-none_asked
returns-in_err-put-in-Some-clause-none_asked g c = λ none.
    absurd (none_wanted c.args.most (length c.answers.invariant.rows) none
    (sym (c.is_wanted.ensures ∙ ap (is_wanted c.args.most)
    (c.len.ensures c.args.branch.now.columns c.answers.invariant.rows c.answers.invariant.kept)) ∙ c.answers-test.true))

pub returns-in-None-clause-a_step_for_each : goal.returns-in-None-clause-a_step_for_each
returns-in-None-clause-a_step_for_each g c =
    let is = c.finish.ensures c.args.branch.now.columns c.answers.invariant.rows c.answers.invariant.kept in
    omega (arith, is.count, c.answers.invariant.counted, c.in_ok-found.ensures.takes_a_step)

pub returns-clause-a_step_for_each : goal.returns-clause-a_step_for_each
returns-clause-a_step_for_each g c =
    let is = c.finish-2.ensures c.args.branch.now.columns c.answers.invariant.rows c.answers.invariant.kept in
    omega (arith, is.count, c.answers.invariant.counted)
