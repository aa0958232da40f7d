-- What was collected on the way over the strings that scans have in common.
use Rattle.std.proofs.Common.{◌≡◌, ◌⊎◌, inl, inr, ℕ, ◌+◌, ◌≤◌, ◌<◌, List, [], ◌∷◌, ◌++◌, length, map, take, get_or, Bool, true, false}
use Rattle.std.proofs.Common.{◌&&◌, cond, refl, sym, ap, ◌∙◌, subst, Option, Some, None, Result, Ok, Err, arith, length-append}
use Rattle.std.specs.Prelude.{OnErr, Contains, IsTrue}
use Rattle.std.specs.List.{list_any}
use Rattle.std.proofs.lemmas.Bool.Decides.{nat_tests}
use Rattle.std.proofs.lemmas.List.{length-map, take_all, map_push}
use Rattle.std.proofs.lemmas.List.Elements.{All-head}
use Rattle.ds_base.specs.declared.column.Column.{Column}
use Rattle.ds_bytes.specs.Rows.{RowParts}
use Rattle.ds_query.specs.declared.row.Row.{Row}
use Rattle.ds_query.specs.declared.row.Place.{Place}
use Rattle.ds_query.specs.Lawful.{names_differ}
use Rattle.ds_zigzag.specs.Walks.{IsWalked, steps_to_end, steps_up_to}
use Rattle.ds_zigzag.specs.Spans.{is_below, is_above, is_within, count_between}
use Rattle.ds_zigzag.specs.CommonStrings.{IsNextCommon, HasNoNextCommon}
use Rattle.ds_zigzag.proofs.Counts.{count_by-lt}
use Rattle.ds_zigzag.proofs.Order.{below_below, not_below_itself}
use Rattle.ds_model.specs.Rows.{place_of}
use Rattle.ds_model.specs.Results.{at_most, first_of_each, same_mark}
use Rattle.ds_pages.specs.Marks.{is_same}
use Rattle.ds_pages.specs.Pages.{last_of}
use Rattle.ds_pages.specs.Places.{IsPlaced, parts_of, placed}
use Rattle.ds_pages.specs.Slots.{slot_of}
use Rattle.ds_pages.proofs.FirstLaws.{with_item, with_item-map}
use Rattle.ds_pages.proofs.MarkLaws.{is_same-placed}
use Rattle.ds_planner.proofs.Members.{both}
use Rattle.ds_branch.specs.Common.{AreCommonRows, IsCommonAfter}
use Rattle.ds_branch.specs.Kept.{are_projected, with_one}
use Rattle.ds_branch.specs.Places.{bytes_of, is_wanted, walk_steps}
use Rattle.ds_scan.proofs.MemberLists.{all_member}
use Rattle.ds_branch.proofs.ToldRows.{new_row}
use Rattle.ds_branch.proofs.Walking.{kept_at, none_kept, next_kept, all_kept, enough_kept}

-- no more were kept than are wanted
abbrev pub AreFew : Option ℕ → ℕ → Type 0
AreFew None n = Unit {0}
AreFew (Some most) n = n ≤ most

module _ (columns : List Column) (names : List (List ℕ)) (after : Option (List ℕ)) (lists : List (List (List ℕ))) (most : Option ℕ) where
  -- the rows that were collected up to where the walk stands
  pub record AreCollected (keeps_all : Bool) (slots : List (Option ℕ)) (last : Option (List ℕ)) (rows : List Row) : Type 0 where
    pub all_are : keeps_all ≡ are_projected names columns
    pub differ : names_differ columns ≡ true
    pub onward : (x : List ℕ) → IsTrue (is_above last x) → IsTrue (is_above after x)
    pub slots_are : slots ≡ map (slot_of columns) names
    pub kept : (sorted : List RowParts) → AreCommonRows columns after lists sorted → rows
        ≡ map (placed columns) (kept_at columns names last sorted)
    pub few : AreFew most (length rows)

  -- what is collected in the end
  abbrev pub AreAll : List Row → Type 0
  AreAll rows = (sorted : List RowParts) → AreCommonRows columns after lists sorted
      → rows ≡ map (placed columns) (at_most most (first_of_each (same_mark columns names) sorted))

  none_few : (m : Option ℕ) → AreFew m 0
  none_few None = tt
  none_few (Some m) = omega arith

  pub begun : (keeps_all : Bool) (slots : List (Option ℕ)) (last : Option (List ℕ)) (rows : List Row)
      → keeps_all ≡ are_projected names columns → names_differ columns ≡ true
      → slots ≡ map (slot_of columns) names → last ≡ after → rows ≡ []
      → AreCollected keeps_all slots last rows
  begun keeps_all slots last rows all_are differ slots_are stands none = record {
    all_are = all_are;
    differ = differ;
    onward = λ x above. subst (λ o. IsTrue (is_above o x)) stands above;
    slots_are = slots_are;
    kept = λ sorted are. none ∙ sym (ap (map (placed columns)) (ap (λ o. kept_at columns names o sorted) stands
        ∙ none_kept columns names after lists sorted are));
    few = subst (λ rs. AreFew most (length rs)) (sym none) (none_few most);
  }

  one_more : (m : Option ℕ) (keeps_all : Bool) (slots : List (Option ℕ)) (rows : List Row) (row : Row) → is_wanted m (length rows) ≡ true
      → AreFew m (length (with_one keeps_all slots rows row))
  one_more None keeps_all slots rows row wanted = tt
  one_more (Some m) keeps_all slots rows row wanted = each keeps_all where
    longer : length (rows ++ row ∷ []) ≤ m
    longer =
        let more = length-append rows (row ∷ []) in
        let below : length rows < m = grind (arith, nat_tests) in
        omega (arith, more, below)

    by : (b : Bool) → length (cond b rows (rows ++ row ∷ [])) ≤ m
    by true = grind (arith, nat_tests)
    by false = longer

    each : (all : Bool) → length (with_one all slots rows row) ≤ m
    each true = longer
    each false = by (list_any (is_same slots row) rows)

  pub stepped : (keeps_all keeps_all' : Bool) (slots slots' : List (Option ℕ)) (last : Option (List ℕ)) (rows rows' : List Row) (a : List ℕ)
      (row : Row)
      → AreCollected keeps_all slots last rows → IsNextCommon last lists a → IsPlaced columns row → row.place.bytes ≡ a
      → rows' ≡ with_one keeps_all slots rows row → slots' ≡ slots → keeps_all' ≡ keeps_all → is_wanted most (length rows) ≡ true
      → AreCollected keeps_all' slots' (Some a) rows'
  stepped keeps_all keeps_all' slots slots' last rows rows' a row are next p at_a put same same_all wanted = record {
    all_are = same_all ∙ are.all_are;
    differ = are.differ;
    onward = λ x above. are.onward x (further last x next.above above);
    slots_are = same ∙ are.slots_are;
    kept = λ sorted common.
        put
        ∙ one_kept keeps_all sorted common (sym are.all_are) (are.kept sorted common)
        ∙ ap (map (placed columns)) (sym (next_kept columns names after lists sorted common last a row next are.onward p at_a));
    few = subst (λ rs. AreFew most (length rs)) (sym put) (one_more most keeps_all slots rows row wanted);
  } where
    above : is_above last (place_of columns (parts_of row)) ≡ true
    above = subst (λ bs. is_above last bs ≡ true) (sym at_a ∙ ap (λ (r : Row). r.place.bytes) p.place) next.above

    one_kept : (all : Bool) (sorted : List RowParts) → AreCommonRows columns after lists sorted → are_projected names columns ≡ all
        → rows ≡ map (placed columns) (kept_at columns names last sorted)
        → with_one all slots rows row
        ≡ map (placed columns) (with_item (same_mark columns names) (kept_at columns names last sorted) (parts_of row))
    one_kept false sorted common told so_far =
        (λ i. with_item (is_same (are.slots_are i)) (so_far i) (p.place i))
        ∙ with_item-map (placed columns) (is_same (map (slot_of columns) names)) (same_mark columns names) (is_same-placed columns names)
        (kept_at columns names last sorted) (parts_of row)
    one_kept true sorted common told so_far =
        let kept = kept_at columns names last sorted in
        let new = new_row columns names told are.differ last sorted (parts_of row)
        (λ x m. (all_member (IsCommonAfter columns after lists) sorted x common.common m).row) p.lawful above in
        (λ i. so_far i ++ p.place i ∷ [])
        ∙ sym (map_push (placed columns) kept (parts_of row))
        ∙ ap (map (placed columns)) (sym (ap (λ b. cond b kept (kept ++ parts_of row ∷ [])) new))

    further : (l : Option (List ℕ)) (x : List ℕ) → IsTrue (is_above l a) → IsTrue (is_above (Some a) x) → IsTrue (is_above l x)
    further None x above b = refl
    further (Some l) x above b = below_below l a x above b

  all_given : (m : Option ℕ) (xs : List RowParts) → AreFew m (length (map (placed columns) xs)) → xs ≡ at_most m xs
  all_given None xs few = refl
  all_given (Some m) xs few =
      let long : length xs ≤ m = subst (λ n. n ≤ m) (length-map xs (placed columns)) few in
      sym (take_whole m xs long) where
        take_whole : (n : ℕ) (ys : List RowParts) → length ys ≤ n → take n ys ≡ ys
        take_whole n ys long = take_all n ys long

  pub ended : (keeps_all : Bool) (slots : List (Option ℕ)) (last : Option (List ℕ)) (rows : List Row)
      → AreCollected keeps_all slots last rows
      → HasNoNextCommon last lists → AreAll rows
  ended keeps_all slots last rows are none sorted common =
      let kept = are.kept sorted common in
      let all = all_kept columns names after lists sorted common last none in
      let firsts = first_of_each (same_mark columns names) sorted in
      kept ∙ ap (map (placed columns)) (all ∙ all_given most firsts
      (subst (λ ks. AreFew most (length (map (placed columns) ks))) all (subst (λ rs. AreFew most (length rs)) kept are.few)))

  pub full : (keeps_all : Bool) (slots : List (Option ℕ)) (last : Option (List ℕ)) (rows : List Row)
      → AreCollected keeps_all slots last rows
      → is_wanted most (length rows) ≡ false → AreAll rows
  full keeps_all slots last rows are enough sorted common = by most are.few enough where
    kept : rows ≡ map (placed columns) (kept_at columns names last sorted)
    kept = are.kept sorted common

    by : (m : Option ℕ) → AreFew m (length rows) → is_wanted m (length rows) ≡ false
        → rows ≡ map (placed columns) (at_most m (first_of_each (same_mark columns names) sorted))
    by None few e = absurd (cc e)
    by (Some m) few e =
        let long : length rows ≡ m = grind (arith, nat_tests) in
        let here : length (kept_at columns names last sorted) ≡ m =
        sym (length-map (kept_at columns names last sorted) (placed columns)) ∙ sym (ap length kept) ∙ long in
        kept ∙ ap (map (placed columns)) (enough_kept columns names after lists sorted common last m here)

-- ---- one row more

pub one_longer : (all : Bool) (slots : List (Option ℕ)) (rows : List Row) (row : Row)
    → length (with_one all slots rows row) ≤ length rows + 1
one_longer true slots rows row = let more = length-append rows (row ∷ []) in omega (arith, more)
one_longer false slots rows row = by (list_any (is_same slots row) rows) where
  by : (b : Bool) → length (cond b rows (rows ++ row ∷ [])) ≤ length rows + 1
  by true = omega arith
  by false = let more = length-append rows (row ∷ []) in omega (arith, more)

pub none_wanted : (most : Option ℕ) (found : ℕ) → most ≡ Some 0 → is_wanted most found ≡ true → ⊥
none_wanted None found none wanted = cc
none_wanted (Some m) found none wanted =
    let zero_asked : m ≡ 0 = cc in
    let below : found < m = grind (arith, nat_tests) in
    omega (arith, zero_asked, below)

-- ---- the walk ends

pub fewer_left : (last : Option (List ℕ)) (lists : List (List (List ℕ))) (a : List ℕ) → 0 < length lists → IsNextCommon last lists a
    → count_between (Some a) None (get_or lists 0 []) + 1 ≤ count_between last None (get_or lists 0 [])
fewer_left last [] a some next = absurd (omega arith)
fewer_left last (list ∷ lists) a some next =
    count_by-lt (λ x. is_above (Some a) x && is_within None x) (λ x. is_above last x && is_within None x) list a
    (All-head (λ (strings : List (List ℕ)). Contains strings a) list lists next.common)
    (ap (λ b. b && true) (not_below_itself a)) (ap (λ b. b && true) next.above)
    (λ x h. ap (λ b. b && true) (by last x next.above (both (is_below a x) true h).0)) where
      by : (l : Option (List ℕ)) (x : List ℕ) → is_above l a ≡ true → is_below a x ≡ true → is_above l x ≡ true
      by None x above b = refl
      by (Some l) x above b = below_below l a x above b

-- ---- steps

-- where no more rows are wanted the walk stands at the last one, or it took no step
abbrev pub IsAtLast : Option ℕ → List Row → Option (List ℕ) → ℕ → ℕ → Type 0
IsAtLast most rows last begun now =
    is_wanted most (length rows) ≡ false → ((rows ≡ []) × (now ≡ begun)) ⊎ (bytes_of (last_of None rows) ≡ last)

last_pushed : (start : Option Place) (rows : List Row) (row : Row) → last_of start (rows ++ row ∷ []) ≡ Some row.place
last_pushed start [] row = refl
last_pushed start (x ∷ rows) row = last_pushed (Some x.place) rows row

pub at_next : (most : Option ℕ) (keeps_all : Bool) (slots : List (Option ℕ)) (rows rows' : List Row) (row : Row) (a : List ℕ)
    (begun now : ℕ)
    → is_wanted most (length rows) ≡ true → rows' ≡ with_one keeps_all slots rows row → row.place.bytes ≡ a
    → IsAtLast most rows' (Some a) begun now
at_next most keeps_all slots rows rows' row a begun now wanted put at_a enough = each keeps_all put where
  pushed : rows' ≡ rows ++ row ∷ [] → ((rows' ≡ []) × (now ≡ begun)) ⊎ (bytes_of (last_of None rows') ≡ Some a)
  pushed more = inr (ap (λ rs. bytes_of (last_of None rs)) more ∙ ap bytes_of (last_pushed None rows row) ∙ ap (λ bs. Some bs) at_a)

  by : (b : Bool) → list_any (is_same slots row) rows ≡ b → rows' ≡ cond (list_any (is_same slots row) rows) rows (rows ++ row ∷ [])
      → ((rows' ≡ []) × (now ≡ begun)) ⊎ (bytes_of (last_of None rows') ≡ Some a)
  by true e first =
      let same : rows' ≡ rows = first ∙ ap (λ b. cond b rows (rows ++ row ∷ [])) e in
      absurd (cc (sym wanted ∙ sym (ap (λ rs. is_wanted most (length rs)) same) ∙ enough))
  by false e first = pushed (first ∙ ap (λ b. cond b rows (rows ++ row ∷ [])) e)

  each : (all : Bool) → rows' ≡ with_one all slots rows row → ((rows' ≡ []) × (now ≡ begun)) ⊎ (bytes_of (last_of None rows') ≡ Some a)
  each true more = pushed more
  each false first = by (list_any (is_same slots row) rows) refl first

module _ (start : Option (List ℕ)) (n n' : ℕ) (ss ss' ps ps' : List (List (List ℕ))) (begun : ℕ) (same_n : n ≡ n') (same_ss : ss
    ≡ ss') (same_ps : ps ≡ ps') where
  moved : (last : Option (List ℕ)) (now : ℕ) → IsWalked n' start last ss' ps' begun now → IsWalked n start last ss ps begun now
  moved last now w =
      subst (λ m. IsWalked m start last ss ps begun now) (sym same_n)
      (subst (λ ls. IsWalked n' start last ls ps begun now) (sym same_ss) (subst (λ ls. IsWalked n' start last ss' ls begun now) (sym
      same_ps) w))

  moved_back : (last : Option (List ℕ)) (now : ℕ) → IsWalked n start last ss ps begun now → IsWalked n' start last ss' ps' begun now
  moved_back last now w =
      subst (λ m. IsWalked m start last ss' ps' begun now) same_n
      (subst (λ ls. IsWalked n start last ls ps' begun now) same_ss (subst (λ ls. IsWalked n start last ss ls begun now) same_ps w))

  -- the walk goes on
  pub walked_on : (last next : Option (List ℕ)) (ss2 ps2 : List (List (List ℕ))) (now now2 : ℕ) → IsWalked n' start last ss' ps' begun now
      → (IsWalked n start last ss ps begun now → IsWalked n start next ss2 ps2 begun now2) → ss2 ≡ ss → ps2 ≡ ps
      → IsWalked n' start next ss' ps' begun now2
  walked_on last next ss2 ps2 now now2 w on same_ss2 same_ps2 =
      moved_back next now2
      (subst (λ ls. IsWalked n start next ls ps begun now2) same_ss2
      (subst (λ ls. IsWalked n start next ss2 ls begun now2) same_ps2 (on (moved last now w))))

  -- and stays within its steps
  pub walked_within : (last : Option (List ℕ)) (now now2 : ℕ) → IsWalked n' start last ss' ps' begun now
      → (IsWalked n start last ss ps begun now → now2 ≤ begun + steps_to_end n start ss ps) → now2 ≤ begun + steps_to_end n' start ss' ps'
  walked_within last now now2 w within =
      subst (λ m. now2 ≤ begun + steps_to_end m start ss' ps') same_n
      (subst (λ ls. now2 ≤ begun + steps_to_end n start ls ps') same_ss
      (subst (λ ls. now2 ≤ begun + steps_to_end n start ss ls) same_ps (within (moved last now w))))

pub steps_at_end : (most : Option ℕ) (found rows : List Row) (n : ℕ) (start last : Option (List ℕ)) (ss ps : List (List (List ℕ))) (begun
    now : ℕ)
    → found ≡ rows → is_wanted most (length rows) ≡ true → now ≤ begun + steps_to_end n start ss ps
    → now ≤ begun + walk_steps (is_wanted most (length found)) n start last ss ps
steps_at_end most found rows n start last ss ps begun now same wanted within =
    let e : is_wanted most (length found) ≡ true = ap (λ rs. is_wanted most (length rs)) same ∙ wanted in
    subst (λ b. now ≤ begun + walk_steps b n start last ss ps) (sym e) within

pub steps_when_full : (most : Option ℕ) (found rows : List Row) (n : ℕ) (start last : Option (List ℕ)) (ss ps : List (List (List ℕ)))
    (begun now : ℕ)
    → found ≡ rows → is_wanted most (length rows) ≡ false → IsAtLast most rows last begun now → IsWalked n start last ss ps begun now
    → now ≤ begun + walk_steps (is_wanted most (length found)) n start (bytes_of (last_of None found)) ss ps
steps_when_full most found rows n start last ss ps begun now same enough at_last walked =
    let e : is_wanted most (length found) ≡ false = ap (λ rs. is_wanted most (length rs)) same ∙ enough in
    subst (λ b. now ≤ begun + walk_steps b n start (bytes_of (last_of None found)) ss ps) (sym e)
    (subst (λ rs. now ≤ begun + steps_up_to n start (bytes_of (last_of None rs)) ss ps) (sym same) (by (at_last enough))) where
      by : ((rows ≡ []) × (now ≡ begun)) ⊎ (bytes_of (last_of None rows) ≡ last) → now
          ≤ begun + steps_up_to n start (bytes_of (last_of None rows)) ss ps
      by (inl none) =
          subst (λ rs. now ≤ begun + steps_up_to n start (bytes_of (last_of None rs)) ss ps) (sym none.0) (omega (arith, none.1))
      by (inr at_row) = subst (λ o. now ≤ begun + steps_up_to n start o ss ps) (sym at_row) walked.within

pub always_err : {A E P : Type 0} (r : Result A E) → P → OnErr r P
always_err (Ok a) p = tt
always_err (Err e) p = p
