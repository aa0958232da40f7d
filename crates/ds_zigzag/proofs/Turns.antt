-- One turn of the leapfrog, as the code takes it: the next place, and the scan that stands there.
use Rattle.std.proofs.Common.{◌≡◌, ℕ, ◌+◌, ◌*◌, ◌<◌, ◌≤◌, List, [], length, map, get_or, sym, ◌∙◌, ap, subst, ◌⊎◌, inl, inr, arith}
use Rattle.std.specs.Prelude.{Option, Some, None, find}
use Rattle.std.specs.List.Sorted.{IsStrictlySortedBy}
use Rattle.std.proofs.lemmas.List.{length-map, get_or-map}
use Rattle.ds_base.specs.KeyOrder.{bytes_cmp}
use Rattle.ds_zigzag.specs.Spans.{is_from, count_from}
use Rattle.ds_zigzag.specs.CommonStrings.{HasNoNextCommon, least_count, total_count}
use Rattle.ds_zigzag.specs.Targets.{IsSought, sought_at}
use Rattle.ds_zigzag.specs.declared.target.Sought.TheVariants.{Nothing, Same, Greater}
use Rattle.ds_zigzag.proofs.Progress.{Progress, again, stood, raised, nothing_left, without_answer, left, left-stood, left-raised}

-- it is the turn of a scan of these strings and passed strings
pub record AtTurn (after : Option (List ℕ)) (strings passed : List (List (List ℕ))) (target : List ℕ) (turn agreed old now : ℕ) (xs ps : List (List ℕ)) : Type 0 where
  pub progress : Progress after strings passed target turn agreed old now
  pub in_turn : turn < length strings
  pub in_agreed : agreed < length strings
  pub its_strings : get_or strings turn [] ≡ xs
  pub its_passed : get_or passed turn [] ≡ ps

scan_at : {X : Type 0} (f : X → List (List ℕ)) (scans first : List X) (at : ℕ) (d : X) → map f scans ≡ map f first → at < length scans → get_or (map f first) at [] ≡ f (get_or scans at d)
scan_at f scans first at d e b = sym (ap (λ v. get_or v at []) e) ∙ get_or-map f scans at d [] b

pub at_turn : {X : Type 0} (f h : X → List (List ℕ)) (scans first : List X) (after : Option (List ℕ)) (target : List ℕ) (turn agreed old now at : ℕ) (d : X) → map f scans ≡ map f first → map h scans ≡ map h first → Progress after (map f first) (map h first) target turn agreed old now → agreed < length scans → at < length scans → (turn < length scans → at ≡ turn) → (turn ≡ length scans → at ≡ 0) → AtTurn after (map f first) (map h first) target at agreed old now (f (get_or scans at d)) (h (get_or scans at d))
at_turn f h scans first after target turn agreed old now at d e e' p in_agreed in_turn same back = record {
  progress = by place;
  in_turn = omega (arith, as_long);
  in_agreed = omega (arith, as_long);
  its_strings = scan_at f scans first at d e in_turn;
  its_passed = scan_at h scans first at d e' in_turn;
} where
  as_long : length (map f first) ≡ length scans
  as_long = sym (ap length e) ∙ length-map scans f

  place : (turn < length scans) ⊎ (turn ≡ length scans)
  place = grind (arith, as_long, p.turn_within)

  by : (turn < length scans) ⊎ (turn ≡ length scans) → Progress after (map f first) (map h first) target at agreed old now
  by (inl b) = subst (λ v. Progress after (map f first) (map h first) target v agreed old now) (sym (same b)) p
  by (inr b) = subst (λ v. Progress after (map f first) (map h first) target v agreed old now) (sym (back b)) (again after (map f first) (map h first) target turn agreed old now (b ∙ sym as_long) p)

module _ {after : Option (List ℕ)} {strings passed : List (List (List ℕ))} {target : List ℕ} {turn agreed old now : ℕ} {xs ps : List (List ℕ)} (t : AtTurn after strings passed target turn agreed old now xs ps) where
  its_cost : (last : Option (List ℕ)) (now' : ℕ) → now' ≤ now + 1 + count_from target last ps → now' ≤ now + 1 + count_from target last (get_or passed turn [])
  its_cost last now' cost = subst (λ v. now' ≤ now + 1 + count_from target last v) (sym t.its_passed) cost

  in_order : IsStrictlySortedBy bytes_cmp xs → IsStrictlySortedBy bytes_cmp (get_or strings turn [])
  in_order o = subst (λ v. IsStrictlySortedBy bytes_cmp v) (sym t.its_strings) o

  its_first : (found : Option (List ℕ)) → find (is_from target) xs ≡ found → find (is_from target) (get_or strings turn []) ≡ found
  its_first found e = ap (λ v. find (is_from target) v) t.its_strings ∙ e

  pub turn_same : (new : List ℕ) (now' next : ℕ) → IsStrictlySortedBy bytes_cmp xs → IsSought Same target new xs → now' ≤ now + 1 + count_from target (sought_at Same new) ps → now ≤ now' → next ≡ agreed + 1 → Progress after strings passed new (turn + 1) next old now'
  turn_same new now' next o m cost rises e =
      let found = its_first (Some target) (m.1 ∙ ap Some m.0) in
      let paid : now' ≤ now + 1 + count_from target (Some target) (get_or passed turn []) = its_cost (Some target) now' (subst (λ v. now' ≤ now + 1 + count_from target (Some v) ps) m.0 cost) in
      let p = stood after strings passed target turn agreed old now t.progress t.in_turn t.in_agreed now' (in_order o) found paid rises in
      subst (λ v. Progress after strings passed v (turn + 1) next old now') (sym m.0) (subst (λ v. Progress after strings passed target (turn + 1) v old now') (sym e) p)

  pub turn_greater : (new : List ℕ) (now' next : ℕ) → IsStrictlySortedBy bytes_cmp xs → IsSought Greater target new xs → now' ≤ now + 1 + count_from target (sought_at Greater new) ps → now ≤ now' → next ≡ 1 → Progress after strings passed new (turn + 1) next old now'
  turn_greater new now' next o m cost rises e =
      let p = raised after strings passed target turn agreed old now t.progress t.in_turn t.in_agreed new now' m.0 (in_order o) (its_first (Some new) m.1) (its_cost (Some new) now' cost) rises in
      subst (λ v. Progress after strings passed new (turn + 1) v old now') (sym e) p

  pub turn_nothing : (new : List ℕ) → IsSought Nothing target new xs → HasNoNextCommon after strings
  turn_nothing new m = nothing_left after strings passed target turn agreed old now t.progress t.in_turn t.in_agreed (its_first None m)

  pub turn_without : (now' : ℕ) → now' ≤ now + 1 + count_from target None ps → now' ≤ old + length strings * (least_count after None strings + 2) + total_count after None passed
  turn_without now' cost = without_answer after strings passed target turn agreed old now t.progress t.in_turn t.in_agreed now' (its_cost None now' cost)

  pub smaller_same : (new : List ℕ) (next : ℕ) → IsSought Same target new xs → next ≡ agreed + 1 → left strings new next < left strings target agreed
  smaller_same new next m e = subst (λ v. left strings v next < left strings target agreed) (sym m.0) (subst (λ v. left strings target v < left strings target agreed) (sym e) (left-stood strings target agreed t.in_agreed))

  pub smaller_greater : (new : List ℕ) (next : ℕ) → IsSought Greater target new xs → next ≡ 1 → left strings new next < left strings target agreed
  smaller_greater new next m e = subst (λ v. left strings new v < left strings target agreed) (sym e) (left-raised strings target new turn agreed t.in_turn m.0 (its_first (Some new) m.1))
