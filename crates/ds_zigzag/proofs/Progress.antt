-- How far the leapfrog has come: the target, the scans that stand there, and the steps taken.
use Rattle.std.proofs.Common.{◌≡◌, ◌≢◌, ℕ, ◌+◌, ◌-◌, ◌*◌, ◌<◌, ◌≤◌, Bool, true, false, cond, List, [], length, get_or, refl, sym, ◌∙◌, ap}
use Rattle.std.proofs.Common.{subst, ◌⊎◌, inl, inr, zero-add, arith}
use Rattle.std.specs.Prelude.{◌&&◌, not, Option, Some, None, Contains, find, count_by}
use Rattle.std.specs.List.Sorted.{IsStrictlySortedBy}
use Rattle.std.proofs.Math.Nat.{mul-le-mul_left}
use Rattle.ds_base.specs.KeyOrder.{bytes_cmp}
use Rattle.ds_zigzag.specs.Spans.{is_below, is_from, is_above, is_within, count_from, count_between}
use Rattle.ds_zigzag.specs.CommonStrings.{IsCommon, IsNextCommon, HasNoNextCommon, least_count, total_count}
use Rattle.ds_zigzag.specs.Targets.{first_above}
use Rattle.ds_zigzag.proofs.Counts.{count_by-le, count_by-lt, count_by-both, sums, sums-le, sums-more, sums-sum_by, get_or-default}
use Rattle.ds_base.specs.LeastLaws.{least_at}
use Rattle.ds_zigzag.proofs.Seeks.{first_true, second_true, both_true}
use Rattle.ds_zigzag.proofs.First.{found_in, found_passes, found_is_least, none_passes}
use Rattle.ds_zigzag.proofs.Order.{not_both, false_unless, not_true, not_false, was_false, not_below_itself, below_back, below_upto}
use Rattle.ds_zigzag.proofs.Order.{upto_below, upto_upto, below_below, above-is_from}
use Rattle.ds_zigzag.proofs.Rounds.{stands, stands-start, stands-again, stands-turn, stands-sought, stands-others, stands-alone, stands-all}
use Rattle.ds_zigzag.proofs.Rounds.{lag, lag-start, lag-end, lag-turn, lag-sought, lag-others}

-- A scan has gone past a string: one below the target, or the target too where it stands there.
is_past : Bool → List ℕ → List ℕ → Bool
is_past w target x = cond w (not (is_below target x)) (is_below x target)

-- the strings above `after` that a scan has gone past
pub gone : Option (List ℕ) → Bool → List ℕ → List ℕ → Bool
gone after w target x = is_above after x && is_past w target x

pub record Progress (after : Option (List ℕ)) (strings passed : List (List (List ℕ))) (target : List ℕ) (turn agreed old now : ℕ) : Type 0 where
  pub same_length : length passed ≡ length strings
  pub turn_within : turn ≤ length strings
  pub agreed_within : agreed ≤ length strings
  pub above : (x : List ℕ) → is_from target x ≡ true → is_above after x ≡ true
  pub least : (y : List ℕ) → IsCommon strings y → is_above after y ≡ true → is_from target y ≡ true
  pub has : (j : ℕ) → j < length strings → stands (length strings) turn agreed j ≡ true → Contains (get_or strings j []) target
  pub steps : (j : ℕ) → j < length strings → now + lag (length strings) turn j ≤ old + length strings * count_by (gone after (stands (length strings) turn agreed j) target) (get_or strings j []) + turn + sums (λ k. count_by (gone after (stands (length strings) turn agreed k) target)) passed
  pub rises : old ≤ now

-- at the first scan, with nothing sought
pub started : (after : Option (List ℕ)) (strings passed : List (List (List ℕ))) (old : ℕ) → length passed ≡ length strings → Progress after strings passed (first_above after) 0 0 old old
started after strings passed old e = record {
  same_length = e;
  turn_within = omega arith;
  agreed_within = omega arith;
  above = λ x h. sym (above-is_from after x) ∙ h;
  least = λ y c h. above-is_from after y ∙ h;
  has = λ j b h. absurd (not_both (stands (length strings) 0 0 j) h (stands-start (length strings) j b));
  steps = λ j b. let z = lag-start (length strings) j in omega arith;
  rises = omega arith;
}

-- the next turn after the last scan is that of the first
pub again : (after : Option (List ℕ)) (strings passed : List (List (List ℕ))) (target : List ℕ) (turn agreed old now : ℕ) → turn ≡ length strings → Progress after strings passed target turn agreed old now → Progress after strings passed target 0 agreed old now
again after strings passed target turn agreed old now e p = at_end (subst (λ v. Progress after strings passed target v agreed old now) e p) where
  at_end : Progress after strings passed target (length strings) agreed old now → Progress after strings passed target 0 agreed old now
  at_end p = record {
    same_length = p.same_length;
    turn_within = omega arith;
    agreed_within = p.agreed_within;
    above = p.above;
    least = p.least;
    has = λ j b h. p.has j b (stands-again (length strings) agreed j b ∙ h);
    steps = λ j b.
        let n = length strings in
        let s = stands-again n agreed j b in
        let z = lag-start n j in
        let l = lag-end n j b in
        let one : count_by (gone after (stands n n agreed j) target) (get_or strings j []) ≡ count_by (gone after (stands n 0 agreed j) target) (get_or strings j []) =
        ap (λ v. count_by (gone after v target) (get_or strings j [])) s in
        let all : sums (λ k. count_by (gone after (stands n n agreed k) target)) passed ≤ sums (λ k. count_by (gone after (stands n 0 agreed k) target)) passed =
        sums-le (λ k. count_by (gone after (stands n n agreed k) target)) (λ k. count_by (gone after (stands n 0 agreed k) target)) passed []
        (λ k c. let below : k < n = omega (arith, p.same_length) in
        let same : count_by (gone after (stands n n agreed k) target) (get_or passed k []) ≡ count_by (gone after (stands n 0 agreed k) target) (get_or passed k []) =
        ap (λ v. count_by (gone after v target) (get_or passed k [])) (stands-again n agreed k below) in
        omega arith) in
        let most = p.steps j b in
        let times : n * count_by (gone after (stands n n agreed j) target) (get_or strings j []) ≡ n * count_by (gone after (stands n 0 agreed j) target) (get_or strings j []) = ap (λ v. n * v) one in
        omega arith;
    rises = p.rises;
  }

pub gone-above : (after : Option (List ℕ)) (target : List ℕ) (w : Bool) (x : List ℕ) → gone after w target x ≡ true → is_above after x && is_within None x ≡ true
unfolding gone
gone-above after target w x h = both_true (is_above after x) true (first_true (is_above after x) (is_past w target x) h) refl

-- ---- one seek at the scan whose turn it is

second_false : (a b : Bool) → b ≡ false → a && b ≡ false
second_false true b e = e
second_false false b e = refl

first_false : (a b : Bool) → a ≡ false → a && b ≡ false
first_false true b e = absurd (not_both true refl e)
first_false false b e = refl

is_place : (j turn : ℕ) → (j ≡ turn) ⊎ (j ≢ turn)
is_place j turn = grind arith

-- what a scan that didn't stand at the target has gone past where it stands at what it gave
module _ (after : Option (List ℕ)) (target s : List ℕ) (above : (x : List ℕ) → is_from target x ≡ true → is_above after x ≡ true) (onward : is_below s target ≡ false) where
  pub gone-on : (x : List ℕ) → gone after false target x ≡ true → gone after true s x ≡ true
  unfolding gone is_past
  gone-on x h =
      both_true (is_above after x) (not (is_below s x)) (first_true (is_above after x) (is_below x target) h)
      (not_false (is_below s x) (below_back x s (below_upto x target s (second_true (is_above after x) (is_below x target) h) onward)))

  -- the string that it gave is new
  pub gone-new : gone after true s s ≡ true
  unfolding gone is_past
  gone-new = both_true (is_above after s) (not (is_below s s)) (above s (not_false (is_below s target) onward)) (not_false (is_below s s) (not_below_itself s))

  pub gone-not_yet : gone after false target s ≡ false
  unfolding gone is_past
  gone-not_yet = second_false (is_above after s) (is_below s target) onward

  -- so are those that the seek may have passed over
  pub gone-sought : (x : List ℕ) → is_from target x && is_within (Some s) x ≡ true → gone after true s x ≡ true
  unfolding gone is_past
  gone-sought x h =
      both_true (is_above after x) (not (is_below s x)) (above x (first_true (is_from target x) (not (is_below s x)) h)) (second_true (is_from target x) (not (is_below s x)) h)

pub gone-apart : (after : Option (List ℕ)) (target : List ℕ) (last : Option (List ℕ)) (x : List ℕ) → gone after false target x ≡ true → is_from target x && is_within last x ≡ false
unfolding gone is_past
gone-apart after target last x h = first_false (is_from target x) (is_within last x) (not_true (is_below x target) (second_true (is_above after x) (is_below x target) h))

-- The scan gives s at the target; `next` of the last scans agree then.
module _ (after : Option (List ℕ)) (strings passed : List (List (List ℕ))) (target : List ℕ) (turn agreed old now : ℕ) (p : Progress after strings passed target turn agreed old now) (in_turn : turn < length strings) (in_agreed : agreed < length strings)
    (s : List ℕ) (next now' : ℕ) (ordered : IsStrictlySortedBy bytes_cmp (get_or strings turn [])) (found : find (is_from target) (get_or strings turn []) ≡ Some s) (cost : now' ≤ now + 1 + count_from target (Some s) (get_or passed turn [])) (rises : now ≤ now') (fits : next ≤ length strings)
    (sought : stands (length strings) (turn + 1) next turn ≡ true)
    (others_gone : (j : ℕ) → j ≢ turn → j < length strings → (x : List ℕ) → gone after (stands (length strings) turn agreed j) target x ≡ true → gone after (stands (length strings) (turn + 1) next j) s x ≡ true)
    (others_have : (j : ℕ) → j ≢ turn → j < length strings → stands (length strings) (turn + 1) next j ≡ true → Contains (get_or strings j []) s) where
  onward : is_below s target ≡ false
  onward = was_false (is_below s target) (found_passes (is_from target) (get_or strings turn []) s found)

  held : Contains (get_or strings turn []) s
  held = found_in (is_from target) (get_or strings turn []) s found

  abbrev before : ℕ → List (List ℕ) → ℕ
  before k xs = count_by (gone after (stands (length strings) turn agreed k) target) xs

  abbrev later : ℕ → List (List ℕ) → ℕ
  later k xs = count_by (gone after (stands (length strings) (turn + 1) next k) s) xs

  before_turn : (xs : List (List ℕ)) → before turn xs ≡ count_by (gone after false target) xs
  before_turn xs = ap (λ w. count_by (gone after w target) xs) (stands-turn (length strings) turn agreed in_agreed)

  later_turn : (xs : List (List ℕ)) → later turn xs ≡ count_by (gone after true s) xs
  later_turn xs = ap (λ w. count_by (gone after w s) xs) sought

  -- the scan gave a string that it hadn't gone past
  strings_at_turn : before turn (get_or strings turn []) + 1 ≤ later turn (get_or strings turn [])
  strings_at_turn =
      let b = before_turn (get_or strings turn []) in
      let a = later_turn (get_or strings turn []) in
      let more = count_by-lt (gone after false target) (gone after true s) (get_or strings turn []) s held
      (gone-not_yet after target s p.above onward) (gone-new after target s p.above onward) (gone-on after target s p.above onward) in
      omega arith

  -- and it may have passed over strings that it hadn't gone past
  passed_at_turn : before turn (get_or passed turn []) + count_from target (Some s) (get_or passed turn []) ≤ later turn (get_or passed turn [])
  passed_at_turn =
      let b = before_turn (get_or passed turn []) in
      let a = later_turn (get_or passed turn []) in
      let more = count_by-both (gone after false target) (λ x. is_from target x && is_within (Some s) x) (gone after true s) (get_or passed turn [])
      (gone-on after target s p.above onward) (gone-sought after target s p.above onward) (gone-apart after target (Some s)) in
      omega arith

  others_at : (j : ℕ) (xs : List (List ℕ)) → j ≢ turn → j < length strings → before j xs ≤ later j xs
  others_at j xs e b = count_by-le (gone after (stands (length strings) turn agreed j) target) (gone after (stands (length strings) (turn + 1) next j) s) xs (others_gone j e b)

  passed_at : (k : ℕ) → k < length passed → before k (get_or passed k []) ≤ later k (get_or passed k [])
  passed_at k b = by (is_place k turn) where
    at_turn : before turn (get_or passed turn []) ≤ later turn (get_or passed turn [])
    at_turn = omega (arith, passed_at_turn)

    by : (k ≡ turn) ⊎ (k ≢ turn) → before k (get_or passed k []) ≤ later k (get_or passed k [])
    by (inl e) = subst (λ v. before v (get_or passed v []) ≤ later v (get_or passed v [])) (sym e) at_turn
    by (inr e) = others_at k (get_or passed k []) e (omega (arith, p.same_length))

  passed_more : sums before passed + count_from target (Some s) (get_or passed turn []) ≤ sums later passed
  passed_more =
      sums-more before later passed turn (count_from target (Some s) (get_or passed turn [])) [] (omega (arith, p.same_length)) passed_at passed_at_turn

  abbrev Bound : ℕ → Type 0
  Bound j = now' + lag (length strings) (turn + 1) j ≤ old + length strings * later j (get_or strings j []) + (turn + 1) + sums later passed

  bound_at_turn : Bound turn
  bound_at_turn =
      let most = p.steps turn in_turn in
      let l = lag-turn (length strings) turn in
      let l' = lag-sought (length strings) turn in
      let times = mul-le-mul_left (length strings) strings_at_turn in
      let more = passed_more in
      omega arith

  bound_elsewhere : (j : ℕ) → j ≢ turn → j < length strings → Bound j
  bound_elsewhere j e b =
      let most = p.steps j b in
      let l = lag-others (length strings) turn j e in
      let times = mul-le-mul_left (length strings) (others_at j (get_or strings j []) e b) in
      let more = passed_more in
      omega arith

  pub advance : Progress after strings passed s (turn + 1) next old now'
  advance = record {
    same_length = p.same_length;
    turn_within = omega arith;
    agreed_within = fits;
    above = λ x h. p.above x (not_false (is_below x target) (upto_upto x s target (was_false (is_below x s) h) onward));
    least = λ y c h. not_false (is_below y s) (found_is_least (is_from target) (get_or strings turn []) s ordered found y (c turn [] in_turn) (p.least y c h));
    has = λ j b h. elim (is_place j turn) [ inl e ↦ subst (λ v. Contains (get_or strings v []) s) (sym e) held | inr e ↦ others_have j e b h ];
    steps = λ j b. elim (is_place j turn) [ inl e ↦ subst Bound (sym e) bound_at_turn | inr e ↦ bound_elsewhere j e b ];
    rises = omega (arith, p.rises);
  }

-- a scan at or below the old target stands below one that is greater
gone-below : (after : Option (List ℕ)) (target s x : List ℕ) → is_below target s ≡ true → (w : Bool) → gone after w target x ≡ true → gone after false s x ≡ true
unfolding gone is_past
gone-below after target s x b true h =
    both_true (is_above after x) (is_below x s) (first_true (is_above after x) (not (is_below target x)) h)
    (upto_below x target s (was_false (is_below target x) (second_true (is_above after x) (not (is_below target x)) h)) b)
gone-below after target s x b false h =
    both_true (is_above after x) (is_below x s) (first_true (is_above after x) (is_below x target) h)
    (below_below x target s (second_true (is_above after x) (is_below x target) h) b)

module _ (after : Option (List ℕ)) (strings passed : List (List (List ℕ))) (target : List ℕ) (turn agreed old now : ℕ) (p : Progress after strings passed target turn agreed old now) (in_turn : turn < length strings) (in_agreed : agreed < length strings) where
  -- the scan has the target
  pub stood : (now' : ℕ) → IsStrictlySortedBy bytes_cmp (get_or strings turn []) → find (is_from target) (get_or strings turn []) ≡ Some target → now' ≤ now + 1 + count_from target (Some target) (get_or passed turn []) → now ≤ now' → Progress after strings passed target (turn + 1) (agreed + 1) old now'
  stood now' ordered found cost rises =
      advance after strings passed target turn agreed old now p in_turn in_agreed target (agreed + 1) now' ordered found cost rises (omega arith)
      (stands-sought (length strings) turn agreed)
      (λ j e b x h. ap (λ w. gone after w target x) (stands-others (length strings) turn agreed j e) ∙ h)
      (λ j e b h. p.has j b (sym (stands-others (length strings) turn agreed j e) ∙ h))

  -- the scan has a greater string
  pub raised : (s : List ℕ) (now' : ℕ) → is_below target s ≡ true → IsStrictlySortedBy bytes_cmp (get_or strings turn []) → find (is_from target) (get_or strings turn []) ≡ Some s → now' ≤ now + 1 + count_from target (Some s) (get_or passed turn []) → now ≤ now' → Progress after strings passed s (turn + 1) 1 old now'
  raised s now' greater ordered found cost rises =
      advance after strings passed target turn agreed old now p in_turn in_agreed s 1 now' ordered found cost rises (omega arith)
      (rw (sym (zero-add 1)) (stands-sought (length strings) turn 0))
      (λ j e b x h. ap (λ w. gone after w s x) (stands-alone (length strings) turn j e b) ∙ gone-below after target s x greater (stands (length strings) turn agreed j) h)
      (λ j e b h. absurd (not_both (stands (length strings) (turn + 1) 1 j) h (stands-alone (length strings) turn j e b)))

  -- the scan has nothing from the target on
  pub nothing_left : find (is_from target) (get_or strings turn []) ≡ None → HasNoNextCommon after strings
  nothing_left none y c = false_unless (is_above after y)
      (λ h. not_both (is_from target y) (p.least y c h) (none_passes (is_from target) (get_or strings turn []) none y (c turn [] in_turn)))

  -- what the steps come to where no answer is given
  pub without_answer : (now' : ℕ) → now' ≤ now + 1 + count_from target None (get_or passed turn []) → now' ≤ old + length strings * (least_count after None strings + 2) + total_count after None passed
  without_answer now' cost = by (least_at (count_between after None) strings (omega arith)) where
    seen_at : (k : ℕ) (xs : List (List ℕ)) → count_by (gone after (stands (length strings) turn agreed k) target) xs ≤ count_between after None xs
    seen_at k xs = count_by-le (gone after (stands (length strings) turn agreed k) target) (λ x. is_above after x && is_within None x) xs (gone-above after target (stands (length strings) turn agreed k))

    seen_turn : count_by (gone after (stands (length strings) turn agreed turn) target) (get_or passed turn []) + count_from target None (get_or passed turn []) ≤ count_between after None (get_or passed turn [])
    seen_turn =
        let b : count_by (gone after (stands (length strings) turn agreed turn) target) (get_or passed turn []) ≡ count_by (gone after false target) (get_or passed turn []) =
        ap (λ w. count_by (gone after w target) (get_or passed turn [])) (stands-turn (length strings) turn agreed in_agreed) in
        let more = count_by-both (gone after false target) (λ x. is_from target x && is_within None x) (λ x. is_above after x && is_within None x) (get_or passed turn [])
        (gone-above after target false) (λ x h. both_true (is_above after x) true (p.above x (first_true (is_from target x) true h)) refl) (gone-apart after target None) in
        omega arith

    all : sums (λ k. count_by (gone after (stands (length strings) turn agreed k) target)) passed + count_from target None (get_or passed turn []) ≤ total_count after None passed
    all =
        let more = sums-more (λ k. count_by (gone after (stands (length strings) turn agreed k) target)) (λ k. count_between after None) passed turn (count_from target None (get_or passed turn [])) []
        (omega (arith, p.same_length)) (λ k b. seen_at k (get_or passed k [])) seen_turn in
        let total = sums-sum_by (count_between after None) passed in
        omega arith

    by : (j : ℕ) × (j < length strings) × (count_between after None (get_or strings j []) ≡ least_count after None strings) → now' ≤ old + length strings * (least_count after None strings + 2) + total_count after None passed
    by (j, b, e) =
        let most = p.steps j b in
        let seen : count_by (gone after (stands (length strings) turn agreed j) target) (get_or strings j []) ≤ least_count after None strings = omega (arith, e, seen_at j (get_or strings j [])) in
        let times = mul-le-mul_left (length strings) seen in
        let sum = all in
        omega arith

-- all scans stand at the target
module _ (after : Option (List ℕ)) (strings passed : List (List (List ℕ))) (target : List ℕ) (turn agreed old now : ℕ) (p : Progress after strings passed target turn agreed old now) (all_agree : length strings ≤ agreed) where
  full : (j : ℕ) → stands (length strings) turn agreed j ≡ true
  full j =
      let e : agreed ≡ length strings = omega (arith, p.agreed_within) in
      ap (λ v. stands (length strings) turn v j) e ∙ stands-all (length strings) turn j p.turn_within

  pub found_common : IsNextCommon after strings target
  found_common = record {
    common = λ j d b. subst (λ v. Contains v target) (get_or-default strings j [] d b) (p.has j b (full j));
    above = p.above target (not_false (is_below target target) (not_below_itself target));
    least = λ y c h. was_false (is_below y target) (p.least y c h);
  }

  -- what the steps come to with an answer
  pub with_answer : 0 < length strings → now ≤ old + length strings * (least_count after (Some target) strings + 1) + total_count after (Some target) passed
  unfolding gone is_past
  with_answer some = by (least_at (count_between after (Some target)) strings some) where
    at_target : (k : ℕ) (xs : List (List ℕ)) → count_by (gone after (stands (length strings) turn agreed k) target) xs ≡ count_between after (Some target) xs
    at_target k xs = ap (λ w. count_by (gone after w target) xs) (full k)

    all : sums (λ k. count_by (gone after (stands (length strings) turn agreed k) target)) passed ≤ total_count after (Some target) passed
    all =
        let more = sums-le (λ k. count_by (gone after (stands (length strings) turn agreed k) target)) (λ k. count_between after (Some target)) passed []
        (λ k b. let e = at_target k (get_or passed k []) in omega arith) in
        let total = sums-sum_by (count_between after (Some target)) passed in
        omega arith

    by : (j : ℕ) × (j < length strings) × (count_between after (Some target) (get_or strings j []) ≡ least_count after (Some target) strings) → now ≤ old + length strings * (least_count after (Some target) strings + 1) + total_count after (Some target) passed
    by (j, b, e) =
        let most = p.steps j b in
        let seen : count_by (gone after (stands (length strings) turn agreed j) target) (get_or strings j []) ≡ least_count after (Some target) strings = at_target j (get_or strings j []) ∙ e in
        let times : length strings * count_by (gone after (stands (length strings) turn agreed j) target) (get_or strings j []) ≡ length strings * least_count after (Some target) strings = ap (λ v. length strings * v) seen in
        let sum = all in
        let within = p.turn_within in
        omega arith

-- ---- the leapfrog ends

-- what is left to do: strings above the target, and scans that may agree on it
pub left : List (List (List ℕ)) → List ℕ → ℕ → ℕ
left strings target agreed = (length strings + 1) * sums (λ j. count_by (is_below target)) strings + (length strings - agreed)

pub left-stood : (strings : List (List (List ℕ))) (target : List ℕ) (agreed : ℕ) → agreed < length strings → left strings target (agreed + 1) < left strings target agreed
unfolding left
left-stood strings target agreed h = omega arith

pub left-raised : (strings : List (List (List ℕ))) (target s : List ℕ) (turn agreed : ℕ) → turn < length strings → is_below target s ≡ true → find (is_from target) (get_or strings turn []) ≡ Some s → left strings s 1 < left strings target agreed
unfolding left
left-raised strings target s turn agreed b greater found =
    let on : (x : List ℕ) → is_below s x ≡ true → is_below target x ≡ true = λ x h. below_below target s x greater h in
    let fewer = count_by-lt (is_below s) (is_below target) (get_or strings turn []) s (found_in (is_from target) (get_or strings turn []) s found) (not_below_itself s) greater on in
    let all : sums (λ j. count_by (is_below s)) strings + 1 ≤ sums (λ j. count_by (is_below target)) strings =
    sums-more (λ j. count_by (is_below s)) (λ j. count_by (is_below target)) strings turn 1 [] b (λ j c. count_by-le (is_below s) (is_below target) (get_or strings j []) on) fewer in
    let times = mul-le-mul_left (length strings + 1) all in
    omega arith
