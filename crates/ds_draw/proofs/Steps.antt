-- Each kind of step keeps the rule.
use Rattle.std.proofs.Common.{◌≡◌, ◌≢◌, ℕ, zero, suc, ◌+◌, ◌^◌, ◌<◌, ◌≤◌, Bool, true, false, List, [], ◌∷◌, ◌++◌, length, set, refl, sym}
use Rattle.std.proofs.Common.{ap, ◌∙◌, subst, ⊎_elim, arith}
use Rattle.std.specs.Prelude.{sum_by, slice_index, ◌==◌}
use mathlib.Core.Option.{Option, some, none, some-ne-none, some-injective}
use lib.ListN.{get_elem?}
use prog.Atomic.{either}
use Rattle.std.proofs.lemmas.Bool.Decides.{nat_tests}
use Rattle.std.proofs.lemmas.List.Sums.{sum_by_push, sum_by-cons}
use Rattle.atomic_table.specs.Table.{State, Act, step, Me, keeps, carried_after, Valid, stepped, Allows, Splits, Joins, Final, Seen}
use Rattle.atomic_table.proofs.Lists.{at_set, at_snoc}
use Rattle.ds_draw.specs.declared.rule.Known.{Known}
use Rattle.ds_draw.specs.declared.rule.Start.{Start}
use Rattle.ds_draw.specs.Draws.{numbers, HasEachOnce}
use Rattle.ds_draw.specs.Rule.{times, spent_seat, looked, drew, split_left, split_right, joined, IsKept, Looks, Draws}
use Rattle.ds_draw.proofs.Numbers.{times-append, numbers-append, IsPermutation-from_times}

-- the sum after one view has changed
pub sum_set : (f : Known → ℕ) (views : List Known) (by : ℕ) (v w : Known) → get_elem? views by ≡ some v → sum_by f (set views by w) + f v ≡ sum_by f views + f w
sum_set f [] by v w e = absurd (some-ne-none v (sym e))
sum_set f (x ∷ xs) zero v w e = let same : f x ≡ f v = ap f (some-injective x v e) in omega (arith, sum_by-cons f w xs, sum_by-cons f x xs)
sum_set f (x ∷ xs) (suc by) v w e = let rest = sum_set f xs by v w e in omega (arith, sum_by-cons f x (set xs by w), sum_by-cons f x xs)

sum_snoc : (f : Known → ℕ) (views : List Known) (w : Known) → sum_by f (views ++ w ∷ []) ≡ sum_by f views + f w
sum_snoc f views w = sum_by_push f views w

-- where no view has a part, a sum that is 0 of each of these is 0
sum_none : (f : Known → ℕ) (views : List Known) → sum_by (λ v. v.parts) views ≡ 0 → ((by : ℕ) (v : Known) → get_elem? views by ≡ some v → v.parts ≡ 0 → f v ≡ 0) → sum_by f views ≡ 0
sum_none f [] none_left zero_of = refl
sum_none f (x ∷ xs) none_left zero_of =
    let c = sum_by-cons (λ (v : Known). v.parts) x xs in
    let d = sum_by-cons f x xs in
    let here = zero_of 0 x refl (omega arith) in
    let rest = sum_none f xs (omega arith) (λ by v e. zero_of (suc by) v e) in
    omega arith

-- what holds of each view, after one has changed
each_set : (P Q : Known → Type 0) (views : List Known) (by : ℕ) (w : Known) → ((v : Known) → P v → Q v) → ((j : ℕ) (v : Known) → get_elem? views j ≡ some v → P v) → Q w → (j : ℕ) (u : Known) → get_elem? (set views by w) j ≡ some u → Q u
each_set P Q views by w more each mine j u e =
    ⊎_elim (λ (t : (j ≡ by) × (w ≡ u)). subst Q t.1 mine) (λ (t : (j ≢ by) × (get_elem? views j ≡ some u)). more u (each j u t.1)) (at_set views by j w u e)

each_snoc : (P : Known → Type 0) (views : List Known) (w : Known) → ((j : ℕ) (v : Known) → get_elem? views j ≡ some v → P v) → P w → (j : ℕ) (u : Known) → get_elem? (views ++ w ∷ []) j ≡ some u → P u
each_snoc P views w each mine j u e = ⊎_elim (λ was. each j u was) (λ (same : w ≡ u). subst P same mine) (at_snoc views w u j e)

abbrev IsSpent : Known → Type 0
IsSpent v = v.parts ≡ 0 → (v.drawn ≡ []) × (v.counter ≡ 0)

word_set : (words : List ℕ) (n : ℕ) → length words ≡ 1 → slice_index (set words 0 n) 0 ≡ n
word_set [] n one = absurd (omega arith)
word_set (x ∷ xs) n one = refl

length_word : (words : List ℕ) (n : ℕ) → length words ≡ 1 → length (set words 0 n) ≡ 1
length_word [] n one = one
length_word (x ∷ xs) n one = one

-- One seat changes and the word rises: the rule stays, where the seat's draws grow as the numbers below the word do.
rises : {S : Type 0} (start : Start) (s : State S Known) (homes : List (Option S)) (by : ℕ) (v w : Known) (to : ℕ)
    → IsKept start s → get_elem? s.views by ≡ some v → 0 < v.parts → w.parts ≡ v.parts → slice_index s.words 0 ≤ to → to < 2 ^ 63 → w.counter ≤ to
    → ((n : ℕ) → times n w.drawn + times n (numbers start.first (slice_index s.words 0)) ≡ times n v.drawn + times n (numbers start.first to))
    → IsKept start (record { words = set s.words 0 to; homes = homes; views = set s.views by w })
rises start s homes by v w to kept at some_part same_parts up small known grows =
    let now : slice_index (set s.words 0 to) 0 ≡ to = word_set s.words to kept.one_word in
    let b = kept.begins in
    record {
      one_word = length_word s.words to kept.one_word;
      begins = omega arith;
      limit = omega arith;
      parts = (let t = sum_set (λ (u : Known). u.parts) s.views by v w at in let p = kept.parts in omega arith);
      each_once = λ n. (let t = sum_set (λ (u : Known). times n u.drawn) s.views by v w at in
          let p = kept.each_once n in
          let g = grows n in
          let r : times n (numbers start.first (slice_index (set s.words 0 to) 0)) ≡ times n (numbers start.first to) = ap (λ k. times n (numbers start.first k)) now in
          omega arith);
      counters = each_set (λ u. u.counter ≤ slice_index s.words 0) (λ u. u.counter ≤ slice_index (set s.words 0 to) 0) s.views by w (λ u h. omega arith) kept.counters (omega arith);
      spent = each_set IsSpent IsSpent s.views by w (λ u h. h) kept.spent (λ none_left. absurd (omega arith));
    }

-- a look keeps the rule
pub looks : {S : Type 0} (start : Start) (slots by : ℕ) (me : Me S Known) (first : ℕ) → 0 < me.0.parts → Allows (IsKept start) slots by me 0 (λ n. n) (Looks (step slots 0 first 0 none) me)
looks start slots by me first some_part s kept homes at fits =
    let found = slice_index s.words 0 in
    let known = kept.counters by me.0 at in
    (looked me.0 found, keeps, tt, rises start s s.homes by me.0 (looked me.0 found) found kept at some_part refl (omega arith) kept.limit (omega arith) (λ n. refl), (known, kept.limit, refl))

-- so does an exchange, whether it draws or looks
pub draws : {S : Type 0} (start : Start) (slots by : ℕ) (me : Me S Known) (from to : ℕ) → 0 < me.0.parts → from ≤ to → to < 2 ^ 63
    → Allows (IsKept start) slots by me 0 (λ n. either (n == from) to n) (Draws (step slots 0 from to none) me)
draws {S} start slots by me from to some_part up small s kept homes at fits = go (found == from) refl
  where
    found : ℕ
    found = slice_index s.words 0

    go : (b : Bool) → (found == from) ≡ b → (w : Known) × (a : Act S) × Valid s.homes me.1 a × IsKept start (stepped s 0 (either b to found) by me.1 w a) × Draws (step slots 0 from to none) me found (w, carried_after me.1 a)
    go true e =
        let here : found ≡ from = grind (arith, nat_tests) in
        let begins = kept.begins in
        let grows : (n : ℕ) → times n (me.0.drawn ++ numbers from to) + times n (numbers start.first found) ≡ times n me.0.drawn + times n (numbers start.first to) = λ n.
        (let a = times-append n me.0.drawn (numbers from to) in
        let b = times-append n (numbers start.first from) (numbers from to) in
        let c : times n (numbers start.first from ++ numbers from to) ≡ times n (numbers start.first to) = ap (times n) (numbers-append start.first from to (omega arith) (omega arith)) in
        let d : times n (numbers start.first found) ≡ times n (numbers start.first from) = ap (λ k. times n (numbers start.first k)) here in
        omega arith) in
        (drew me.0 from to, keeps, tt, rises start s s.homes by me.0 (drew me.0 from to) to kept at some_part refl (omega arith) small (omega arith) grows, (kept.counters by me.0 at, (λ _. refl), (λ other. absurd (other here))))
    go false e =
        let apart : found ≢ from = grind (arith, nat_tests) in
        let known = kept.counters by me.0 at in
        (looked me.0 found, keeps, tt, rises start s s.homes by me.0 (looked me.0 found) found kept at some_part refl (omega arith) kept.limit (omega arith) (λ n. refl), (known, (λ same. absurd (apart same)), (λ _. refl)))

-- so does a split of a seat with more than one part
pub splits : {S : Type 0} (start : Start) (by : ℕ) (v : Known) → 1 < v.parts → Splits (IsKept {S = S} start) by v (split_left v) (split_right v)
splits start by v some_parts s kept at =
    let left = split_left v in
    let right = split_right v in
    let views = set s.views by left in
    let known = kept.counters by v at in
    record {
      one_word = kept.one_word;
      begins = kept.begins;
      limit = kept.limit;
      parts = (let t = sum_set (λ (u : Known). u.parts) s.views by v left at in let p = kept.parts in let r = sum_snoc (λ (u : Known). u.parts) views right in omega arith);
      each_once = λ n. (let t = sum_set (λ (u : Known). times n u.drawn) s.views by v left at in let p = kept.each_once n in let r = sum_snoc (λ (u : Known). times n u.drawn) views right in omega arith);
      counters = (let P : Known → Type 0 = λ u. u.counter ≤ slice_index s.words 0 in each_snoc P views right (each_set P P s.views by left (λ u h. h) kept.counters known) known);
      spent = each_snoc IsSpent views right (each_set IsSpent IsSpent s.views by left (λ u h. h) kept.spent (λ none_left. absurd (omega arith))) (λ none_left. absurd (omega arith));
    }

-- so does a join into a seat with a part
pub joins : {S : Type 0} (start : Start) (by : ℕ) (v : Known) (other : ℕ) (w : Known) → 0 < v.parts → Joins (IsKept {S = S} start) by v other w (joined v w) spent_seat
joins start by v other w some_part s kept at apart there =
    let both = joined v w in
    let views = set s.views by both in
    let mine = kept.counters by v at in
    let was : get_elem? s.views other ≡ some w = ⊎_elim (λ (t : (other ≡ by) × (both ≡ w)). absurd (apart t.0)) (λ (t : (other ≢ by) × (get_elem? s.views other ≡ some w)). t.1) (at_set s.views by other both w there) in
    let theirs = kept.counters other w was in
    let P : Known → Type 0 = λ u. u.counter ≤ slice_index s.words 0 in
    record {
      one_word = kept.one_word;
      begins = kept.begins;
      limit = kept.limit;
      parts = (let t = sum_set (λ (u : Known). u.parts) s.views by v both at in let p = kept.parts in let r = sum_set (λ (u : Known). u.parts) views other w spent_seat there in omega arith);
      each_once = λ n. (let t = sum_set (λ (u : Known). times n u.drawn) s.views by v both at in
          let p = kept.each_once n in
          let r = sum_set (λ (u : Known). times n u.drawn) views other w spent_seat there in
          let a = times-append n w.drawn v.drawn in
          omega arith);
      counters = each_set P P views other spent_seat (λ u h. h) (each_set P P s.views by both (λ u h. h) kept.counters (omega arith)) (omega arith);
      spent = each_set IsSpent IsSpent views other spent_seat (λ u h. h) (each_set IsSpent IsSpent s.views by both (λ u h. h) kept.spent (λ none_left. absurd (omega arith))) (λ _. (refl, refl));
    }

-- What the last seat knows of the word: its draws are all numbers from the first one below the word, each once.
pub record Ends (start : Start) (word : ℕ) (v : Known) : Type 0 where
  pub each_once : HasEachOnce start.first word v.drawn
  pub begins : start.first ≤ word
  pub limit : word < 2 ^ 63
  pub known : v.counter ≤ word

-- the state in which one seat has all parts
ends_at : {S : Type 0} (start : Start) (s : State S Known) (by : ℕ) (v : Known) → IsKept start s → get_elem? s.views by ≡ some v → v.parts ≡ start.seats → Ends start (slice_index s.words 0) v
ends_at start s by v kept at whole = record {
  each_once = IsPermutation-from_times (numbers start.first (slice_index s.words 0)) v.drawn (λ n.
      (let views = set s.views by spent_seat in
      let t = sum_set (λ (u : Known). u.parts) s.views by v spent_seat at in
      let p = kept.parts in
      let idle = each_set IsSpent IsSpent s.views by spent_seat (λ u h. h) kept.spent (λ _. (refl, refl)) in
      let others : sum_by (λ (u : Known). times n u.drawn) views ≡ 0 =
      sum_none (λ (u : Known). times n u.drawn) views (omega arith) (λ j u e none_left. ap (times n) (idle j u e none_left).0) in
      let r = sum_set (λ (u : Known). times n u.drawn) s.views by v spent_seat at in
      let q = kept.each_once n in
      omega arith));
  begins = kept.begins;
  limit = kept.limit;
  known = kept.counters by v at;
}

first_word : (words : List ℕ) (word : ℕ) → get_elem? words 0 ≡ some word → slice_index words 0 ≡ word
first_word [] word e = absurd (some-ne-none word (sym e))
first_word (x ∷ xs) word e = some-injective x word e

-- what the closing of the table tells of a seat with all parts
pub ends : {S : Type 0} (start : Start) (by : ℕ) (v : Known) (words : List ℕ) (slots : List S) (word : ℕ) → Final (Seen (IsKept start) by v) words slots → get_elem? words 0 ≡ some word → v.parts ≡ start.seats → Ends start word v
ends start by v words slots word final found whole =
    let s = final.0 in
    let is : slice_index s.words 0 ≡ word = ap (λ (ws : List ℕ). slice_index ws 0) final.2 ∙ first_word words word found in
    subst (λ n. Ends start n v) is (ends_at start s by v final.1.0 final.1.1 whole)
