-- A scan that is made for a part is a scan of the branch, and binds the part.
use Rattle.std.proofs.Common.{◌≡◌, ℕ, List, [], Bool, true, false, ◌&&◌, ◌||◌, not, refl, sym, ap, ◌∙◌, subst, Option, Some, None}
use Rattle.std.specs.Prelude.{bytes_eq}
use Rattle.std.specs.List.{list_all}
use Rattle.std.specs.Cmp.{eq_by_cmp_equiv}
use Rattle.ds_base.specs.Keys.{KeyParts}
use Rattle.ds_base.specs.KeyOrderLaws.{key_cmp-total}
use Rattle.ds_base.specs.declared.column.Column.{Column}
use Rattle.ds_indexdef.specs.declared.IndexDef.{IndexDef}
use Rattle.ds_query.specs.declared.branch.Pair.{Pair}
use Rattle.ds_query.specs.declared.branch.Branch.{Branch}
use Rattle.ds_query.specs.ColumnLists.{has_column}
use Rattle.ds_query.specs.Lawful.{has_pair}
use Rattle.ds_planner.specs.declared.planned.PlannedIndex.{PlannedIndex}
use Rattle.ds_planner.specs.Indexes.{leading, are_paired, is_candidate, names_column, leads, binds_ancestor}
use Rattle.ds_planner.specs.Parts.{Part}
use Rattle.ds_planner.specs.Suits.{chooses, properties_differ, same_ancestor, bound_ancestor, is_choice, is_scan}
use Rattle.ds_planner.specs.Lean.{binds}
use Rattle.ds_planner.specs.Choices.{can_bind, agrees, scan_for}
use Rattle.ds_planner.proofs.Members.{Member, both, or_true, each_member, any_member, all_members}
use Rattle.ds_planner.proofs.PairLists.{chooses-member, member-chooses, has_pair-member, member-has_pair, name_itself, one_each, all_chosen}
use Rattle.ds_planner.proofs.PairLists.{IsChosen, chosen_from, chosen_differ, chosen_reach}

-- a part of what the branch asks for, with at most one pair on each property
pub record IsPart (b : Branch) (part : Part) : Type 0 where
  pub inside : (p : Pair) → Member p part.equal → Member p b.equal
  pub differ : properties_differ part.equal ≡ true

pub same_ancestor-itself : (a : Option KeyParts) → same_ancestor a a ≡ true
same_ancestor-itself None = refl
same_ancestor-itself (Some k) = (eq_by_cmp_equiv key_cmp-total).refl k

-- one of the branch's pairs on the property agrees with the part
agreeing : (b : Branch) (part : Part) → IsPart b part → (n : List ℕ) → has_pair b.equal n ≡ true → (p : Pair) × (Member p b.equal × (n ≡ p.property) × (agrees part p ≡ true))
agreeing b part is n h = at (has_pair part.equal n) refl where
  at : (c : Bool) → has_pair part.equal n ≡ c → (p : Pair) × (Member p b.equal × (n ≡ p.property) × (agrees part p ≡ true))
  at true e =
      let r = has_pair-member part.equal n e in
      (r.0, (is.inside r.0 r.1.0, r.1.1, ap (λ c. not (has_pair part.equal r.0.property) || c) (member-chooses part.equal r.0 r.1.0) ∙ or_true (not (has_pair part.equal r.0.property))))
  at false e =
      let r = has_pair-member b.equal n h in
      let none : has_pair part.equal r.0.property ≡ false = ap (has_pair part.equal) (sym r.1.1) ∙ e in
      (r.0, (r.1.0, r.1.1, ap (λ c. not c || chooses part.equal r.0) none))

module _ (b : Branch) (defs : List IndexDef) (part : Part) (i : PlannedIndex) (is : IsPart b part) (candidate : is_candidate b defs i ≡ true) (can : can_bind b defs part i ≡ true) where
  abbrev lead : List ℕ → Bool
  lead n = leads b defs i n

  abbrev chosen : List Pair
  chosen = all_chosen lead (agrees part) [] b.equal

  chosen_is : (p : Pair) → Member p chosen → IsChosen lead (agrees part) b.equal p
  chosen_is p m = chosen_from lead (agrees part) b.equal p m

  each_paired : (o : Option (List Column)) → leading b defs i ≡ o → are_paired b.equal o ≡ true → are_paired chosen o ≡ true
  each_paired None e h = h
  each_paired (Some columns) e h = all_members (λ c. has_pair chosen c.name) columns (λ c m.
      let r = agreeing b part is c.name (each_member (λ (d : Column). has_pair b.equal d.name) columns c h m) in
      let led : lead r.0.property ≡ true =
      ap (λ o. names_column o r.0.property) e ∙ ap (has_column columns) (sym r.1.1) ∙ any_member (λ (d : Column). bytes_eq c.name d.name) columns c m (name_itself c.name) in
      ap (has_pair chosen) r.1.1 ∙ chosen_reach lead (agrees part) b.equal r.0 r.1.0 led r.1.2)

  is_chosen : is_choice b defs i chosen ≡ true
  is_chosen =
      let among = all_members (chooses b.equal) chosen (λ p m. member-chooses b.equal p (chosen_is p m).here) in
      let led = all_members (λ p. leads b defs i p.property) chosen (λ p m. (chosen_is p m).leads) in
      let paired = each_paired (leading b defs i) refl candidate in
      let differ = chosen_differ lead (agrees part) b.equal in
      λ k. among k && led k && paired k && differ k

  pub made_scan : is_scan b defs (scan_for b defs part i) ≡ true
  made_scan =
      let ancestor = same_ancestor-itself (bound_ancestor b defs i) in
      λ k. candidate k && is_chosen k && ancestor k

  -- a pair of the part is the chosen one on its property
  chooses_part : (p : Pair) → Member p part.equal → Member p chosen
  chooses_part p m =
      let parts = both (list_all (λ (q : Pair). lead q.property) part.equal) (not part.ancestor || binds_ancestor b defs i) can in
      let led = each_member (λ (q : Pair). lead q.property) part.equal p parts.0 m in
      let agreed : agrees part p ≡ true = ap (λ c. not (has_pair part.equal p.property) || c) (member-chooses part.equal p m) ∙ or_true (not (has_pair part.equal p.property)) in
      let r = has_pair-member chosen p.property (chosen_reach lead (agrees part) b.equal p (is.inside p m) led agreed) in
      let asked : has_pair part.equal r.0.property ≡ true = ap (has_pair part.equal) (sym r.1.1) ∙ member-has_pair part.equal p m in
      let taken : chooses part.equal r.0 ≡ true = sym (ap (λ c. not c || chooses part.equal r.0) asked) ∙ (chosen_is r.0 r.1.0).agrees in
      let same : p ≡ r.0 = one_each part.equal p r.0 is.differ m (chooses-member part.equal r.0 taken) r.1.1 in
      subst (λ q. Member q chosen) (sym same) r.1.0

  pub made_binds : binds b defs (scan_for b defs part i) part ≡ true
  made_binds =
      let parts = both (list_all (λ (q : Pair). lead q.property) part.equal) (not part.ancestor || binds_ancestor b defs i) can in
      let all = all_members (chooses chosen) part.equal (λ p m. member-chooses chosen p (chooses_part p m)) in
      λ k. all k && parts.1 k
