-- The laws of the scans that are planned, as the contract of planning states them.
use Rattle.std.proofs.Common.{◌≡◌, ◌≤◌, inl, inr, List, [], ◌∷◌, ◌++◌, map, length, fold, Bool, true, false, ◌&&◌, ◌||◌, not, cond, refl}
use Rattle.std.proofs.Common.{sym, ap, ◌∙◌, subst, Option, Some, None, is_some, is_none, get_or, arith, length-append}
use Rattle.std.specs.Option.{option_to_list}
use Rattle.std.specs.List.{list_any, list_all, find, All}
use Rattle.std.specs.List.Sorted.{IsPermutation, IsStrictlySortedBy}
use Rattle.std.proofs.lemmas.List.Sorted.{IsPermutation-refl, length_permutation}
use Rattle.ds_indexdef.specs.declared.IndexDef.{IndexDef}
use Rattle.ds_query.specs.declared.branch.Pair.{Pair}
use Rattle.ds_query.specs.declared.branch.Branch.{Branch}
use Rattle.ds_query.specs.Branching.{pair_cmp}
use Rattle.ds_query.specs.Lawful.{ends_in_key, IsLawfulBranch}
use Rattle.ds_planner.specs.declared.planned.PlannedIndex.{PlannedIndex}
use Rattle.ds_planner.specs.declared.planned.PlannedScan.{PlannedScan}
use Rattle.ds_planner.specs.Indexes.{is_candidate, is_paired, leads, binds_ancestor}
use Rattle.ds_planner.specs.Parts.{Part, pair_part, ancestor_part, empty_part, asked, conditions, or_empty_part, parts}
use Rattle.ds_planner.specs.Suits.{chooses, properties_differ, is_choice, is_scan, are_some, suits, same_ancestor, bound_ancestor}
use Rattle.ds_planner.specs.Lean.{binds, IsLean}
use Rattle.ds_planner.specs.Missing.{candidates, indexes}
use Rattle.ds_planner.specs.Choices.{can_bind, agrees, scan_for, sole_index, with_part, scans_by, scans_of}
use Rattle.ds_planner.proofs.Members.{Member, both, some_member, any_member, each_member, all_members, member_left, member_right}
use Rattle.ds_planner.proofs.Members.{member_append, find_member, find_some, filter_member, member_map, map_member, member_at}
use Rattle.ds_planner.proofs.PairLists.{chooses-member, differ_among, chosen_ascend}
use Rattle.ds_planner.proofs.ScanLaws.{IsPart, made_scan, made_binds}
use Rattle.ds_planner.proofs.Served.{AreServed, are_some-member, member-are_some, candidate_listed, candidate_passes, served}
use Rattle.ds_planner.proofs.Plans.{Builds, CanBind, begun, all_parts, bind_length}

-- ---- the parts of a branch

pair_condition : (b : Branch) (p : Pair) → Member p b.equal → Member (pair_part p) (conditions b)
pair_condition b p m = member_left (map pair_part b.equal) (cond (is_some b.ancestor) (ancestor_part ∷ []) []) (pair_part p) (member_map pair_part b.equal p m)

ancestor_condition : (b : Branch) → is_some b.ancestor ≡ true → Member ancestor_part (conditions b)
ancestor_condition b e = member_right (map pair_part b.equal) (cond (is_some b.ancestor) (ancestor_part ∷ []) []) ancestor_part (subst (λ c. Member ancestor_part (cond c (ancestor_part ∷ []) [])) (sym e) (inl refl))

-- the part asks for one of the branch's pairs, or for its ancestor
pub data IsCondition (b : Branch) : Part → Type 0 where
  of_pair : (p : Pair) → Member p b.equal → IsCondition b (pair_part p)
  of_ancestor : is_some b.ancestor ≡ true → IsCondition b ancestor_part

condition : (b : Branch) (part : Part) → Member part (conditions b) → IsCondition b part
condition b part m = elim (member_append (map pair_part b.equal) (cond (is_some b.ancestor) (ancestor_part ∷ []) []) part m) [
  | inl k ↦ let r = map_member pair_part b.equal part k in subst (IsCondition b) (sym r.1.1) (of_pair r.0 r.1.0)
  | inr k ↦ at (is_some b.ancestor) refl k
] where
  at : (c : Bool) → is_some b.ancestor ≡ c → Member part (cond c (ancestor_part ∷ []) []) → IsCondition b part
  at true e (inl same) = subst (IsCondition b) (sym same) (of_ancestor e)
  at true e (inr none) = absurd none
  at false e none = absurd none

and_true : (c : Bool) → (c && true) ≡ c
and_true true = refl
and_true false = refl

-- a candidate for each condition
can_bind_each : (b : Branch) (defs : List IndexDef) → AreServed b defs → (part : Part) → IsCondition b part → CanBind b defs part
can_bind_each b defs served part (of_pair p m) =
    let hit = some_member (λ i. leads b defs i p.property) (candidates b defs) (served.each p m) in
    record {
      is = record { inside = λ q k. subst (λ r. Member r b.equal) (sym (only q k)) m; differ = refl };
      some = any_member (can_bind b defs (pair_part p)) (candidates b defs) hit.0 hit.1.0 (λ k. (hit.1.1 k && true) && true);
    } where
      only : (q : Pair) → Member q (p ∷ []) → q ≡ p
      only q (inl e) = e
      only q (inr none) = absurd none
can_bind_each b defs served part (of_ancestor e) = record {
  is = record { inside = λ q k. absurd k; differ = refl };
  some = served.ancestor e;
}

-- ---- plans that suit

ancestor_bound : (b : Branch) (c : Bool) → (is_some b.ancestor ≡ true → c ≡ true) → (is_none b.ancestor || c) ≡ true
ancestor_bound b c h = at (is_some b.ancestor) h where
  at : (a : Bool) → (a ≡ true → c ≡ true) → (not a || c) ≡ true
  at true h = h refl
  at false h = refl

suits_by : (b : Branch) (defs : List IndexDef) (scans : List PlannedScan) → are_some scans ≡ true → list_all (is_scan b defs) scans ≡ true → ((part : Part) → Member part (conditions b) → list_any (λ s. binds b defs s part) scans ≡ true) → suits b defs scans ≡ true
suits_by b defs scans some are bound =
    let chosen = all_members (λ p. list_any (λ s. chooses s.equal p) scans) b.equal (λ p m. chooses_pair p (bound (pair_part p) (pair_condition b p m))) in
    let ancestor = ancestor_bound b (list_any (λ s. binds_ancestor b defs s.index) scans) (λ e. bound ancestor_part (ancestor_condition b e)) in
    λ k. some k && are k && chosen k && ancestor k
  where
    chooses_pair : (p : Pair) → list_any (λ s. binds b defs s (pair_part p)) scans ≡ true → list_any (λ s. chooses s.equal p) scans ≡ true
    chooses_pair p h =
        let r = some_member (λ s. binds b defs s (pair_part p)) scans h in
        any_member (λ (s : PlannedScan). chooses s.equal p) scans r.0 r.1.0 (both (chooses (r.0).equal p) true (both (chooses (r.0).equal p && true) true r.1.1).0).0

-- all that is asked for binds each condition
binds_condition : (b : Branch) (defs : List IndexDef) (s : PlannedScan) (part : Part) → binds b defs s (asked b) ≡ true → IsCondition b part → binds b defs s part ≡ true
binds_condition b defs s part h (of_pair p m) =
    let all = (both (list_all (chooses s.equal) b.equal) (not (is_some b.ancestor) || binds_ancestor b defs s.index) h).0 in
    let one = each_member (chooses s.equal) b.equal p all m in
    λ k. (one k && true) && true
binds_condition b defs s part h (of_ancestor e) =
    let rest = (both (list_all (chooses s.equal) b.equal) (not (is_some b.ancestor) || binds_ancestor b defs s.index) h).1 in
    sym (ap (λ c. not c || binds_ancestor b defs s.index) e) ∙ rest

-- ---- what is planned

-- a plan that suits and is lean
pub record IsGood (b : Branch) (defs : List IndexDef) (scans : List PlannedScan) : Type 0 where
  pub suits : suits b defs scans ≡ true
  pub lean : IsLean b defs scans

first_part : (b : Branch) (defs : List IndexDef) (s : PlannedScan) → binds b defs s (asked b) ≡ true → IsLean b defs (s ∷ [])
first_part b defs s h = at (conditions b) refl where
  at : (ps : List Part) → conditions b ≡ ps → IsLean b defs (s ∷ [])
  at [] e = record {
    given = empty_part ∷ [];
    others = [];
    each_once = subst (λ ps. IsPermutation (empty_part ∷ []) (or_empty_part ps)) (sym e) (IsPermutation-refl (empty_part ∷ []));
    bound = (refl, tt);
  }
  at (p ∷ ps) e = record {
    given = p ∷ [];
    others = ps;
    each_once = subst (λ qs. IsPermutation (p ∷ ps) (or_empty_part qs)) (sym e) (IsPermutation-refl (p ∷ ps));
    bound = (binds_condition b defs s p h (condition b p (subst (Member p) (sym e) (inl refl))), tt);
  }

sole_good : (b : Branch) (defs : List IndexDef) (i : PlannedIndex) → properties_differ b.equal ≡ true → find (can_bind b defs (asked b)) (candidates b defs) ≡ Some i → IsGood b defs (scan_for b defs (asked b) i ∷ [])
sole_good b defs i differ hit =
    let found = find_member (can_bind b defs (asked b)) (candidates b defs) i hit in
    let candidate = (filter_member (is_candidate b defs) (indexes b defs) i found.0).1 in
    let is : IsPart b (asked b) = record { inside = λ p m. m; differ = differ } in
    let s = scan_for b defs (asked b) i in
    let scan = made_scan b defs (asked b) i is candidate found.1 in
    let binding = made_binds b defs (asked b) i is candidate found.1 in
    record {
      suits = suits_by b defs (s ∷ []) refl (λ k. scan k && true) (λ part m. ap (λ c. c || false) (binds_condition b defs s part binding (condition b part m)));
      lean = first_part b defs s binding;
    }

built_good : (b : Branch) (defs : List IndexDef) (scans : List PlannedScan) (part : Part) → Member part (conditions b) → Builds b defs (conditions b) scans → IsGood b defs scans
built_good b defs scans part m built =
    let hit = some_member (λ s. binds b defs s part) scans (built.done_bound part m) in
    record {
      suits = suits_by b defs scans (are_some-member scans hit.0 hit.1.0) built.scans_are built.done_bound;
      lean = record {
        given = built.given;
        others = built.others;
        each_once = at (conditions b) m built.each_once;
        bound = built.bound;
      };
    } where
      at : (ps : List Part) → Member part ps → IsPermutation (built.given ++ built.others) ps → IsPermutation (built.given ++ built.others) (or_empty_part ps)
      at [] none h = absurd none
      at (p ∷ ps) k h = h

-- ---- where nothing is asked for

none_asked : (equal : List Pair) (a : Bool) → map pair_part equal ++ cond a (ancestor_part ∷ []) [] ≡ [] → (equal ≡ []) × (a ≡ false)
none_asked [] true h = absurd (cc h)
none_asked [] false h = (refl, refl)
none_asked (p ∷ ps) a h = absurd (cc h)

-- each candidate serves alone
sole_some : (b : Branch) (defs : List IndexDef) → conditions b ≡ [] → are_some (candidates b defs) ≡ true → (i : PlannedIndex) × (sole_index b defs ≡ Some i)
sole_some b defs none some =
    let nothing = none_asked b.equal (is_some b.ancestor) none in
    let differ : properties_differ b.equal ≡ true = ap properties_differ nothing.0 in
    let one = member-are_some (candidates b defs) some in
    let can : can_bind b defs (asked b) one.0 ≡ true = λ k. list_all (λ p. leads b defs one.0 p.property) (nothing.0 k) && (not (nothing.1 k) || binds_ancestor b defs one.0) in
    let hit = find_some (can_bind b defs (asked b)) (candidates b defs) (any_member (can_bind b defs (asked b)) (candidates b defs) one.0 one.1 can) in
    (hit.0, λ k. cond (differ k) (hit.1 k) None)

sole_is : (c : Bool) (f : Option PlannedIndex) (i : PlannedIndex) → cond c f None ≡ Some i → (c ≡ true) × (f ≡ Some i)
sole_is true f i h = (refl, h)
sole_is false f i h = absurd (cc h)

part_by_part : (b : Branch) (defs : List IndexDef) → AreServed b defs → sole_index b defs ≡ None → IsGood b defs (fold (with_part b defs) [] (conditions b))
part_by_part b defs served none = at (conditions b) refl where
  built : Builds b defs (conditions b) (fold (with_part b defs) [] (conditions b))
  built = all_parts b defs (conditions b) [] [] (begun b defs) (λ part m. can_bind_each b defs served part (condition b part m))

  at : (ps : List Part) → conditions b ≡ ps → IsGood b defs (fold (with_part b defs) [] (conditions b))
  at [] e = let one = sole_some b defs e served.some in absurd (cc (sym none ∙ one.1))
  at (p ∷ ps) e = built_good b defs (fold (with_part b defs) [] (conditions b)) p (subst (Member p) (sym e) (inl refl)) built

pub planned_good : (b : Branch) (defs : List IndexDef) → AreServed b defs → IsGood b defs (scans_of b defs)
planned_good b defs served = at (sole_index b defs) refl where
  at : (o : Option PlannedIndex) → sole_index b defs ≡ o → IsGood b defs (scans_by b defs o)
  at None e = part_by_part b defs served e
  at (Some i) e = let r = sole_is (properties_differ b.equal) (find (can_bind b defs (asked b)) (candidates b defs)) i e in sole_good b defs i r.0 r.1

pub lean_few : (b : Branch) (defs : List IndexDef) (scans : List PlannedScan) → IsLean b defs scans → length scans ≤ length (parts b)
lean_few b defs scans lean =
    let e = bind_length b defs scans lean.given lean.bound in
    let f = length_permutation (lean.given ++ lean.others) (parts b) lean.each_once in
    omega (arith, length-append lean.given lean.others)

-- ---- what scans that suit say

pub record IsSuited (b : Branch) (defs : List IndexDef) (scans : List PlannedScan) : Type 0 where
  pub some : are_some scans ≡ true
  pub are : list_all (is_scan b defs) scans ≡ true
  pub chosen : list_all (λ p. list_any (λ (s : PlannedScan). chooses s.equal p) scans) b.equal ≡ true
  pub ancestor : (is_none b.ancestor || list_any (λ (s : PlannedScan). binds_ancestor b defs s.index) scans) ≡ true

pub suited : (b : Branch) (defs : List IndexDef) (scans : List PlannedScan) → suits b defs scans ≡ true → IsSuited b defs scans
suited b defs scans h =
    let some = are_some scans in
    let are = list_all (is_scan b defs) scans in
    let chosen = list_all (λ p. list_any (λ (s : PlannedScan). chooses s.equal p) scans) b.equal in
    let x = both (some && are && chosen) (is_none b.ancestor || list_any (λ (s : PlannedScan). binds_ancestor b defs s.index) scans) h in
    let y = both (some && are) chosen x.0 in
    let z = both some are y.0 in
    record { some = z.0; are = z.1; chosen = y.1; ancestor = x.1 }

pub record IsScanned (b : Branch) (defs : List IndexDef) (s : PlannedScan) : Type 0 where
  pub candidate : is_candidate b defs s.index ≡ true
  pub leads : list_all (λ p. leads b defs s.index p.property) s.equal ≡ true
  pub differ : properties_differ s.equal ≡ true

pub scanned : (b : Branch) (defs : List IndexDef) (s : PlannedScan) → is_scan b defs s ≡ true → IsScanned b defs s
scanned b defs s h =
    let among = list_all (chooses b.equal) s.equal in
    let led = list_all (λ p. leads b defs s.index p.property) s.equal in
    let x = both (is_candidate b defs s.index && is_choice b defs s.index s.equal) (same_ancestor s.ancestor (bound_ancestor b defs s.index)) h in
    let y = both (is_candidate b defs s.index) (is_choice b defs s.index s.equal) x.0 in
    let z = both (among && led && is_paired b defs s.index s.equal) (properties_differ s.equal) y.1 in
    let w = both (among && led) (is_paired b defs s.index s.equal) z.0 in
    record { candidate = y.0; leads = (both among led w.0).1; differ = z.1 }

-- a pair that a scan chooses leads its index
chosen_leads : (b : Branch) (defs : List IndexDef) (s : PlannedScan) → IsScanned b defs s → (p : Pair) → chooses s.equal p ≡ true → leads b defs s.index p.property ≡ true
chosen_leads b defs s is p h = each_member (λ q. leads b defs s.index q.property) s.equal p is.leads (chooses-member s.equal p h)

bound_where : (b : Branch) (c : Bool) → (is_none b.ancestor || c) ≡ true → is_some b.ancestor ≡ true → c ≡ true
bound_where b c h e = sym (ap (λ a. not a || c) e) ∙ h

-- where some scans suit nothing is missing
pub suited_served : (b : Branch) (defs : List IndexDef) (scans : List PlannedScan) → ends_in_key b.columns ≡ true → IsSuited b defs scans → AreServed b defs
suited_served b defs scans ends is =
    let scan : (s : PlannedScan) → Member s scans → IsScanned b defs s = λ s m. scanned b defs s (each_member (is_scan b defs) scans s is.are m) in
    let one = member-are_some scans is.some in
    record {
      some = are_some-member (candidates b defs) (one.0).index (candidate_listed b defs ends (one.0).index (scan one.0 one.1).candidate);
      ancestor = λ e.
          let r = some_member (λ (s : PlannedScan). binds_ancestor b defs s.index) scans (bound_where b (list_any (λ (s : PlannedScan). binds_ancestor b defs s.index) scans) is.ancestor e) in
          candidate_passes b defs ends (binds_ancestor b defs) (r.0).index (scan r.0 r.1.0).candidate r.1.1;
      each = λ p m.
          let r = some_member (λ (s : PlannedScan). chooses s.equal p) scans (each_member (λ q. list_any (λ (s : PlannedScan). chooses s.equal q) scans) b.equal p is.chosen m) in
          candidate_passes b defs ends (λ i. leads b defs i p.property) (r.0).index (scan r.0 r.1.0).candidate (chosen_leads b defs r.0 (scan r.0 r.1.0) p r.1.1);
    }

-- ---- one scan where one suffices

or_false : (c : Bool) → (c || false) ≡ true → c ≡ true
or_false true h = refl
or_false false h = h

alone : (b : Branch) (defs : List IndexDef) (s : PlannedScan) → IsLawfulBranch b → IsSuited b defs (s ∷ []) → (i : PlannedIndex) × (sole_index b defs ≡ Some i)
alone b defs s lawful is =
    let scan = scanned b defs s (each_member (is_scan b defs) (s ∷ []) s is.are (inl refl)) in
    let chosen : (p : Pair) → Member p b.equal → chooses s.equal p ≡ true =
    λ p m. or_false (chooses s.equal p) (each_member (λ q. list_any (λ (t : PlannedScan). chooses t.equal q) (s ∷ [])) b.equal p is.chosen m) in
    let differ = differ_among s.equal b.equal lawful.pairs_ascend scan.differ (λ p m. chooses-member s.equal p (chosen p m)) in
    let led = all_members (λ p. leads b defs s.index p.property) b.equal (λ p m. chosen_leads b defs s scan p (chosen p m)) in
    let ancestor : (not (is_some b.ancestor) || binds_ancestor b defs s.index) ≡ true = at (is_some b.ancestor) (binds_ancestor b defs s.index) is.ancestor in
    let can : can_bind b defs (asked b) s.index ≡ true = λ k. led k && ancestor k in
    let hit = find_some (can_bind b defs (asked b)) (candidates b defs) (candidate_passes b defs lawful.key_last (can_bind b defs (asked b)) s.index scan.candidate can) in
    (hit.0, λ k. cond (differ k) (hit.1 k) None)
  where
    at : (a c : Bool) → (not a || (c || false)) ≡ true → (not a || c) ≡ true
    at true c h = or_false c h
    at false c h = refl

pub one_scan : (b : Branch) (defs : List IndexDef) (s : PlannedScan) → IsLawfulBranch b → suits b defs (s ∷ []) ≡ true → length (scans_of b defs) ≡ 1
one_scan b defs s lawful h =
    let r = alone b defs s lawful (suited b defs (s ∷ []) h) in
    ap (λ o. length (scans_by b defs o)) r.1

-- ---- the pairs of each scan ascend

module _ (b : Branch) (defs : List IndexDef) (sorted : IsStrictlySortedBy pair_cmp b.equal) where
  made_ascends : (part : Part) (i : PlannedIndex) → IsStrictlySortedBy pair_cmp (scan_for b defs part i).equal
  made_ascends part i = chosen_ascend (leads b defs i) (agrees part) b.equal [] sorted

  made_each : (part : Part) (o : Option PlannedIndex) (s : PlannedScan) → Member s (map (scan_for b defs part) (option_to_list o)) → IsStrictlySortedBy pair_cmp s.equal
  made_each part None s m = absurd m
  made_each part (Some i) s (inl e) = subst (λ (t : PlannedScan). IsStrictlySortedBy pair_cmp t.equal) (sym e) (made_ascends part i)
  made_each part (Some i) s (inr none) = absurd none

  each_step : (scans : List PlannedScan) (part : Part) → ((s : PlannedScan) → Member s scans → IsStrictlySortedBy pair_cmp s.equal) → (s : PlannedScan) → Member s (with_part b defs scans part) → IsStrictlySortedBy pair_cmp s.equal
  each_step scans part before s m = at (list_any (λ t. binds b defs t part) scans) m where
    at : (c : Bool) → Member s (cond c scans (scans ++ map (scan_for b defs part) (option_to_list (find (can_bind b defs part) (candidates b defs))))) → IsStrictlySortedBy pair_cmp s.equal
    at true m = before s m
    at false m = elim (member_append scans (map (scan_for b defs part) (option_to_list (find (can_bind b defs part) (candidates b defs)))) s m) [
      | inl k ↦ before s k
      | inr k ↦ made_each part (find (can_bind b defs part) (candidates b defs)) s k
    ]

  each_ascends : (todo : List Part) (scans : List PlannedScan) → ((s : PlannedScan) → Member s scans → IsStrictlySortedBy pair_cmp s.equal) → (s : PlannedScan) → Member s (fold (with_part b defs) scans todo) → IsStrictlySortedBy pair_cmp s.equal
  each_ascends [] scans before s m = before s m
  each_ascends (part ∷ todo) scans before s m = each_ascends todo (with_part b defs scans part) (each_step scans part before) s m

  by_choice : (o : Option PlannedIndex) (s : PlannedScan) → Member s (scans_by b defs o) → IsStrictlySortedBy pair_cmp s.equal
  by_choice None s m = each_ascends (conditions b) [] (λ t k. absurd k) s m
  by_choice (Some i) s m = made_each (asked b) (Some i) s m

  pub planned_ascend : All (λ (s : PlannedScan). IsStrictlySortedBy pair_cmp s.equal) (scans_of b defs)
  planned_ascend k d h = by_choice (sole_index b defs) (get_or (scans_of b defs) k d) (member_at (scans_of b defs) k d h)
