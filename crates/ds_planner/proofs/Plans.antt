-- The scans that are planned suit the branch and are lean, where nothing is missing.
use Rattle.std.proofs.Common.{◌≡◌, inl, inr, List, [], ◌∷◌, ◌++◌, map, length, fold, Bool, true, false, ◌&&◌, ◌||◌, cond, refl, sym, ap}
use Rattle.std.proofs.Common.{◌∙◌, subst, arith, append_assoc}
use Rattle.std.specs.Option.{option_to_list}
use Rattle.std.specs.List.{list_any, list_all, find}
use Rattle.std.specs.List.Sorted.{IsPermutation}
use Rattle.std.proofs.lemmas.List.{append-nil}
use Rattle.std.proofs.lemmas.List.Folds.{list_any-append, list_all-append}
use Rattle.std.proofs.lemmas.List.Sorted.{IsPermutation-refl, IsPermutation-sym, IsPermutation-trans, IsPermutation-append_left}
use Rattle.std.proofs.lemmas.List.Sorted.{IsPermutation-middle, IsPermutation-to_front}
use Rattle.ds_indexdef.specs.declared.IndexDef.{IndexDef}
use Rattle.ds_query.specs.declared.branch.Branch.{Branch}
use Rattle.ds_planner.specs.declared.planned.PlannedIndex.{PlannedIndex}
use Rattle.ds_planner.specs.declared.planned.PlannedScan.{PlannedScan}
use Rattle.ds_planner.specs.Indexes.{is_candidate}
use Rattle.ds_planner.specs.Parts.{Part}
use Rattle.ds_planner.specs.Suits.{is_scan}
use Rattle.ds_planner.specs.Lean.{binds, BindEach}
use Rattle.ds_planner.specs.Missing.{candidates, indexes}
use Rattle.ds_planner.specs.Choices.{can_bind, scan_for, with_part}
use Rattle.ds_planner.proofs.Members.{Member, or_true, member_append, find_member, find_some, filter_member}
use Rattle.ds_planner.proofs.ScanLaws.{IsPart, made_scan, made_binds}

module _ (b : Branch) (defs : List IndexDef) where
  -- ---- scans part by part

  -- what the scans for the parts that are done keep: they are scans of the branch, each part that is done is bound by one, and
  -- each scan was made for a part of its own
  pub record Builds (done : List Part) (scans : List PlannedScan) : Type 0 where
    pub given : List Part
    pub others : List Part
    pub each_once : IsPermutation (given ++ others) done
    pub bound : BindEach b defs scans given
    pub scans_are : list_all (is_scan b defs) scans ≡ true
    pub done_bound : (part : Part) → Member part done → list_any (λ s. binds b defs s part) scans ≡ true

  -- a part that some candidate can bind
  pub record CanBind (part : Part) : Type 0 where
    pub is : IsPart b part
    pub some : list_any (can_bind b defs part) (candidates b defs) ≡ true

bind_more : (b : Branch) (defs : List IndexDef) (scans : List PlannedScan) (given : List Part) (s : PlannedScan) (part : Part) → BindEach b defs scans given → binds b defs s part ≡ true → BindEach b defs (scans ++ s ∷ []) (given ++ part ∷ [])
bind_more b defs [] [] s part each h = (h, tt)
bind_more b defs [] (p ∷ given) s part each h = absurd each
bind_more b defs (t ∷ scans) [] s part each h = absurd each
bind_more b defs (t ∷ scans) (p ∷ given) s part each h = (each.0, bind_more b defs scans given s part each.1 h)

pub bind_length : (b : Branch) (defs : List IndexDef) (scans : List PlannedScan) (given : List Part) → BindEach b defs scans given → length scans ≡ length given
bind_length b defs [] [] each = refl
bind_length b defs [] (p ∷ given) each = absurd each
bind_length b defs (t ∷ scans) [] each = absurd each
bind_length b defs (t ∷ scans) (p ∷ given) each = let e = bind_length b defs scans given each.1 in omega arith

given_more : (given others done : List Part) (part : Part) → IsPermutation (given ++ others) done → IsPermutation ((given ++ part ∷ []) ++ others) (done ++ part ∷ [])
given_more given others done part h =
    let front = IsPermutation-middle given part others in
    let back = IsPermutation-sym ((given ++ others) ++ part ∷ []) (part ∷ (given ++ others)) (IsPermutation-to_front (given ++ others) part) in
    let joined = IsPermutation-append_left (part ∷ []) (given ++ others) done h in
    subst (λ xs. IsPermutation xs (done ++ part ∷ [])) (sym (append_assoc given (part ∷ []) others))
    (IsPermutation-trans (given ++ part ∷ others) (part ∷ (given ++ others)) (done ++ part ∷ []) front
    (IsPermutation-trans (part ∷ (given ++ others)) ((given ++ others) ++ part ∷ []) (done ++ part ∷ []) back joined))

others_more : (given others done : List Part) (part : Part) → IsPermutation (given ++ others) done → IsPermutation (given ++ (others ++ part ∷ [])) (done ++ part ∷ [])
others_more given others done part h =
    subst (λ xs. IsPermutation xs (done ++ part ∷ [])) (append_assoc given others (part ∷ [])) (IsPermutation-append_left (part ∷ []) (given ++ others) done h)

module _ (b : Branch) (defs : List IndexDef) where
  pub begun : Builds b defs [] []
  begun = record { given = []; others = []; each_once = IsPermutation-refl []; bound = tt; scans_are = refl; done_bound = λ part m. absurd m }

  bound_still : (done : List Part) (part : Part) (scans more : List PlannedScan) → ((p : Part) → Member p done → list_any (λ s. binds b defs s p) scans ≡ true) → list_any (λ s. binds b defs s part) (scans ++ more) ≡ true → (p : Part) → Member p (done ++ part ∷ []) → list_any (λ s. binds b defs s p) (scans ++ more) ≡ true
  bound_still done part scans more before last p m = elim (member_append done (part ∷ []) p m) [
    | inl k ↦ list_any-append (λ s. binds b defs s p) scans more ∙ ap (λ c. c || list_any (λ s. binds b defs s p) more) (before p k)
    | inr k ↦ elim k [
      | inl same ↦ ap (λ q. list_any (λ s. binds b defs s q) (scans ++ more)) same ∙ last
      | inr none ↦ absurd none
    ]
  ]

  bound_one : (done : List Part) (part : Part) (scans : List PlannedScan) → ((p : Part) → Member p done → list_any (λ s. binds b defs s p) scans ≡ true) → list_any (λ s. binds b defs s part) scans ≡ true → (p : Part) → Member p (done ++ part ∷ []) → list_any (λ s. binds b defs s p) scans ≡ true
  bound_one done part scans before last p m = elim (member_append done (part ∷ []) p m) [
    | inl k ↦ before p k
    | inr k ↦ elim k [
      | inl same ↦ ap (λ q. list_any (λ s. binds b defs s q) scans) same ∙ last
      | inr none ↦ absurd none
    ]
  ]

  -- one more scan, for a part that none binds
  added : (done : List Part) (scans : List PlannedScan) (part : Part) (i : PlannedIndex) → Builds b defs done scans → IsPart b part → is_candidate b defs i ≡ true → can_bind b defs part i ≡ true → Builds b defs (done ++ part ∷ []) (scans ++ scan_for b defs part i ∷ [])
  added done scans part i built is candidate can =
      let s = scan_for b defs part i in
      let binding = made_binds b defs part i is candidate can in
      record {
        given = built.given ++ part ∷ [];
        others = built.others;
        each_once = given_more built.given built.others done part built.each_once;
        bound = bind_more b defs scans built.given s part built.bound binding;
        scans_are = list_all-append (is_scan b defs) scans (s ∷ []) ∙ (λ k. built.scans_are k && (made_scan b defs part i is candidate can k && true));
        done_bound = bound_still done part scans (s ∷ []) built.done_bound (list_any-append (λ t. binds b defs t part) scans (s ∷ []) ∙ ap (λ c. list_any (λ t. binds b defs t part) scans || (c || false)) binding ∙ or_true (list_any (λ t. binds b defs t part) scans));
      }

  -- nothing more, for a part that a scan binds
  passed : (done : List Part) (scans : List PlannedScan) (part : Part) → Builds b defs done scans → list_any (λ s. binds b defs s part) scans ≡ true → Builds b defs (done ++ part ∷ []) scans
  passed done scans part built h = record {
    given = built.given;
    others = built.others ++ part ∷ [];
    each_once = others_more built.given built.others done part built.each_once;
    bound = built.bound;
    scans_are = built.scans_are;
    done_bound = bound_one done part scans built.done_bound h;
  }

  step : (done : List Part) (scans : List PlannedScan) (part : Part) → Builds b defs done scans → CanBind b defs part → Builds b defs (done ++ part ∷ []) (with_part b defs scans part)
  step done scans part built can = at (list_any (λ s. binds b defs s part) scans) refl where
    at : (c : Bool) → list_any (λ s. binds b defs s part) scans ≡ c → Builds b defs (done ++ part ∷ []) (cond c scans (scans ++ map (scan_for b defs part) (option_to_list (find (can_bind b defs part) (candidates b defs)))))
    at true h = passed done scans part built h
    at false h =
        let hit = find_some (can_bind b defs part) (candidates b defs) can.some in
        let is_hit = find_member (can_bind b defs part) (candidates b defs) hit.0 hit.1 in
        subst (λ o. Builds b defs (done ++ part ∷ []) (scans ++ map (scan_for b defs part) (option_to_list o))) (sym hit.1)
        (added done scans part hit.0 built can.is (filter_member (is_candidate b defs) (indexes b defs) hit.0 is_hit.0).1 is_hit.1)

  pub all_parts : (todo done : List Part) (scans : List PlannedScan) → Builds b defs done scans → ((part : Part) → Member part todo → CanBind b defs part) → Builds b defs (done ++ todo) (fold (with_part b defs) scans todo)
  all_parts [] done scans built can = subst (λ xs. Builds b defs xs scans) (sym (append-nil done)) built
  all_parts (part ∷ todo) done scans built can =
      subst (λ xs. Builds b defs xs (fold (with_part b defs) (with_part b defs scans part) todo)) (append_assoc done (part ∷ []) todo)
      (all_parts todo (done ++ part ∷ []) (with_part b defs scans part) (step done scans part built (can part (inl refl))) (λ p m. can p (inr m)))
