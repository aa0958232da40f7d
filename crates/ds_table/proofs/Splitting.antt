-- Where a place is after a full block was split, and what an insertion makes of all versions.
use Rattle.std.proofs.Common.{◌≡◌, ℕ, zero, suc, ◌+◌, ◌<◌, ◌≤◌, true, false, Bool, List, [], ◌∷◌, ◌++◌, length, take, drop, get_or, refl, ap}
use Rattle.std.proofs.Common.{sym, ◌∙◌, arith, subst, append_assoc, add-one}
use Rattle.std.proofs.Math.ListN.{set}
use Rattle.std.specs.List.{insert}
use Rattle.std.proofs.lemmas.List.{length-append, append-nil, take-append-drop, get_or-take, get_or-drop, length-take, length-drop}
use Rattle.std.specs.List.{AllByRecursion as Each}
use Rattle.ds_table.specs.Versions.{RowVersion, never, is_alive, has_alive, with_version, added, closed, ended_at}
use Rattle.ds_table.specs.Blocks.{joined, IsOrdered, IsGiven}
use Rattle.ds_table.specs.Places.{comes_before, IsPlace, IsPlaced}
use Rattle.ds_table.proofs.Lists.{each_append, each_at, all_right, all_then, take_fewer, drop_further, not_both}
use Rattle.ds_table.proofs.Spacing.{joined_at, joined_set, set_parts}
use Rattle.ds_table.proofs.Lives.{with_version_is, added_ordered, inserted_each, given_new, given_more, closed_is, closed_ordered}
use Rattle.ds_table.proofs.Lives.{closed_given, none_alive, later_not_alive}

take_split : (bs : List (List RowVersion)) (i : ℕ) (b c : List RowVersion) → i < length bs → take i (take i bs ++ b ∷ c ∷ drop (suc i) bs) ≡ take i bs
take_split bs zero b c h = refl
take_split [] (suc i) b c h = absurd (omega (arith, h))
take_split (a ∷ bs) (suc i) b c h = ap (λ l. a ∷ l) (take_split bs i b c (omega (arith, h)))

at_split : (bs : List (List RowVersion)) (i : ℕ) (b c : List RowVersion) → i < length bs → get_or (take i bs ++ b ∷ c ∷ drop (suc i) bs) i [] ≡ b
at_split bs zero b c h = refl
at_split [] (suc i) b c h = absurd (omega (arith, h))
at_split (a ∷ bs) (suc i) b c h = at_split bs i b c (omega (arith, h))

drop_split : (bs : List (List RowVersion)) (i : ℕ) (b c : List RowVersion) → i < length bs → drop (suc i) (take i bs ++ b ∷ c ∷ drop (suc i) bs) ≡ c ∷ drop (suc i) bs
drop_split bs zero b c h = refl
drop_split [] (suc i) b c h = absurd (omega (arith, h))
drop_split (a ∷ bs) (suc i) b c h = drop_split bs i b c (omega (arith, h))

joined_take_split : (bs : List (List RowVersion)) (i : ℕ) (b c : List RowVersion) → i < length bs → joined (take (suc i) (take i bs ++ b ∷ c ∷ drop (suc i) bs)) ≡ joined (take i bs) ++ b
joined_take_split bs zero b c h = append-nil b
joined_take_split [] (suc i) b c h = absurd (omega (arith, h))
joined_take_split (a ∷ bs) (suc i) b c h = ap (λ l. a ++ l) (joined_take_split bs i b c (omega (arith, h))) ∙ sym (append_assoc a (joined (take i bs)) b)

at_split_next : (bs : List (List RowVersion)) (i : ℕ) (b c : List RowVersion) → i < length bs → get_or (take i bs ++ b ∷ c ∷ drop (suc i) bs) (suc i) [] ≡ c
at_split_next bs zero b c h = refl
at_split_next [] (suc i) b c h = absurd (omega (arith, h))
at_split_next (a ∷ bs) (suc i) b c h = at_split_next bs i b c (omega (arith, h))

drop_split_next : (bs : List (List RowVersion)) (i : ℕ) (b c : List RowVersion) → i < length bs → drop (suc (suc i)) (take i bs ++ b ∷ c ∷ drop (suc i) bs) ≡ drop (suc i) bs
drop_split_next bs zero b c h = refl
drop_split_next [] (suc i) b c h = absurd (omega (arith, h))
drop_split_next (a ∷ bs) (suc i) b c h = drop_split_next bs i b c (omega (arith, h))

pub long_split : (bs : List (List RowVersion)) (i : ℕ) (b c : List RowVersion) → i < length bs → length (take i bs ++ b ∷ c ∷ drop (suc i) bs) ≡ suc (length bs)
long_split [] i b c h = absurd (omega (arith, h))
long_split (a ∷ bs) zero b c h = refl
long_split (a ∷ bs) (suc i) b c h = ap suc (long_split bs i b c (omega (arith, h)))

-- a row's place is in the first part, or in the second
module _ (test : RowVersion → Bool) (bs : List (List RowVersion)) (i p cut : ℕ) (l : i < length bs) (q : IsPlaced test bs i) (r : IsPlace test (get_or bs i []) p) (some : 0 < cut) (full : cut < length (get_or bs i [])) where
  abbrev first : List RowVersion
  first = take cut (get_or bs i [])

  abbrev rest : List RowVersion
  rest = drop cut (get_or bs i [])

  abbrev split : List (List RowVersion)
  split = take i bs ++ first ∷ rest ∷ drop (suc i) bs

  pub placed_first : p ≤ cut → IsPlaced test split i
  placed_first h = record {
    within = λ _. omega (arith, long_split bs i first rest l, l);
    before = rw (take_split bs i first rest l) q.before;
    after = rw (add-one, drop_split bs i first rest l) (each_append (λ v. test v ≡ false) rest (joined (drop (suc i) bs)) (drop_further (λ v. test v ≡ false) p cut (get_or bs i []) h r.after) (rw add-one at q.after));
    begun = λ n d. rw (at_split bs i first rest l, get_or-take cut (get_or bs i []) 0 d some) (q.begun n d);
  }

  pub placed_second : cut < p → IsPlaced test split (suc i)
  placed_second h =
      let t : Each (λ v. test v ≡ true) first = take_fewer (λ v. test v ≡ true) cut p (get_or bs i []) (omega (arith, h)) r.before in
      record {
        within = λ _. omega (arith, long_split bs i first rest l, l);
        before = rw (joined_take_split bs i first rest l) (each_append (λ v. test v ≡ true) (joined (take i bs)) first q.before t);
        after = rw (add-one, drop_split_next bs i first rest l) (rw add-one at q.after);
        begun = λ n d.
            let k : cut < length (take p (get_or bs i [])) = simp length-take (omega (arith, h, full)) in
            let e = each_at (λ v. test v ≡ true) (take p (get_or bs i [])) cut d k r.before in
            let none_more : cut ≡ cut + 0 = omega arith in
            rw (at_split_next bs i first rest l, get_or-drop cut (get_or bs i []) 0 d)
            (subst (λ m. test (get_or (get_or bs i []) m d) ≡ true) none_more (rw (get_or-take p (get_or bs i []) cut d h) at e));
      }

  pub room_first : cut < 256 → length (get_or split i []) < 256
  room_first h = rw (at_split bs i first rest l, length-take) (omega (arith, h))

  pub room_second : length (get_or bs i []) ≤ 256 → length (get_or split (suc i) []) < 256
  room_second h = rw (at_split_next bs i first rest l, length-drop) (omega (arith, h, some, full))

-- ---- what is before a place in a block, and what is behind it
module _ (row : List ℕ) (bs : List (List RowVersion)) (i p : ℕ) (l : i < length bs) (q : IsPlaced (comes_before row true) bs i) (r : IsPlace (comes_before row true) (get_or bs i []) p) where
  abbrev front : List RowVersion
  front = joined (take i bs) ++ take p (get_or bs i [])

  abbrev back : List RowVersion
  back = drop p (get_or bs i []) ++ joined (drop (suc i) bs)

  front_before : Each (λ w. comes_before row true w ≡ true) front
  front_before = each_append (λ w. comes_before row true w ≡ true) (joined (take i bs)) (take p (get_or bs i [])) q.before r.before

  back_after : Each (λ w. comes_before row true w ≡ false) back
  back_after = each_append (λ w. comes_before row true w ≡ false) (drop p (get_or bs i [])) (joined (drop (suc i) bs)) r.after (rw add-one at q.after)

  all_parts : joined bs ≡ front ++ back
  all_parts = joined_at bs i l ∙ (ap (λ b. joined (take i bs) ++ (b ++ joined (drop (suc i) bs))) (sym (take-append-drop p (get_or bs i [])))
      ∙ simp append_assoc)

  new_parts : (v : RowVersion) → joined (set bs i (insert (get_or bs i []) p v)) ≡ front ++ (v ∷ back)
  new_parts v = joined_set bs i (insert (get_or bs i []) p v) l ∙ simp append_assoc

  pub added_joined : (stamp : ℕ) → joined (set bs i (insert (get_or bs i []) p (record { row = row; from = stamp; to = never }))) ≡ added row stamp (joined bs)
  added_joined stamp =
      let v : RowVersion = record { row = row; from = stamp; to = never } in
      new_parts v ∙ (sym (with_version_is v front back front_before back_after) ∙ ap (with_version v) (sym all_parts))

  pub added_in_order : (stamp last : ℕ) → last ≤ stamp → IsOrdered (joined bs) → Each (IsGiven last) (joined bs) → has_alive row (joined bs) ≡ false
      → IsOrdered (joined (set bs i (insert (get_or bs i []) p (record { row = row; from = stamp; to = never }))))
  added_in_order stamp last h o g a =
      let v : RowVersion = record { row = row; from = stamp; to = never } in
      subst IsOrdered (sym (new_parts v)) (added_ordered row stamp last front back h (subst IsOrdered all_parts o) (subst (Each (IsGiven last)) all_parts g) (subst (λ l. has_alive row l ≡ false) all_parts a) front_before back_after)

  pub added_given : (stamp last : ℕ) → last ≤ stamp → Each (IsGiven last) (joined bs) → Each (IsGiven stamp) (joined (set bs i (insert (get_or bs i []) p (record { row = row; from = stamp; to = never }))))
  added_given stamp last h g =
      let v : RowVersion = record { row = row; from = stamp; to = never } in
      subst (Each (IsGiven stamp)) (sym (new_parts v)) (inserted_each (IsGiven stamp) v front back (given_new row stamp)
      (subst (Each (IsGiven stamp)) all_parts (all_then (IsGiven last) (IsGiven stamp) (λ w. given_more last stamp w h) (joined bs) g)))

  pub added_long : (v : RowVersion) → length (joined (set bs i (insert (get_or bs i []) p v))) ≡ suc (length (joined bs))
  added_long v = ap length (new_parts v) ∙ (simp length-append (omega arith) ∙ sym (ap (λ l. suc (length l)) all_parts))

-- ---- closing the last version before a place
module _ (row : List ℕ) (bs : List (List RowVersion)) (i p : ℕ) (l : i < length bs) (q : IsPlaced (comes_before row true) bs i) (r : IsPlace (comes_before row true) (get_or bs i []) (suc p)) where
  abbrev one : RowVersion
  one = get_or (get_or bs i []) p (record { row = []; from = 0; to = 0 })

  abbrev before_it : List RowVersion
  before_it = joined (take i bs) ++ take p (get_or bs i [])

  abbrev behind_it : List RowVersion
  behind_it = drop (suc p) (get_or bs i []) ++ joined (drop (suc i) bs)

  inside : p < length (get_or bs i [])
  inside = omega (arith, r.within)

  one_before : comes_before row true one ≡ true
  one_before =
      let d : RowVersion = record { row = []; from = 0; to = 0 } in
      let k : p < length (take (suc p) (get_or bs i [])) = simp length-take (omega (arith, r.within)) in
      rw (get_or-take (suc p) (get_or bs i []) p d (omega arith)) at (each_at (λ w. comes_before row true w ≡ true) (take (suc p) (get_or bs i [])) p d k r.before)

  behind_after : Each (λ w. comes_before row true w ≡ false) behind_it
  behind_after = each_append (λ w. comes_before row true w ≡ false) (drop (suc p) (get_or bs i [])) (joined (drop (suc i) bs)) r.after (rw add-one at q.after)

  block_parts : (b : List RowVersion) (n : ℕ) (d : RowVersion) → n < length b → b ≡ take n b ++ (get_or b n d ∷ drop (suc n) b)
  block_parts [] n d h = absurd (omega (arith, h))
  block_parts (v ∷ b) zero d h = refl
  block_parts (v ∷ b) (suc n) d h = ap (λ l. v ∷ l) (block_parts b n d (omega (arith, h)))

  old_parts : joined bs ≡ before_it ++ (one ∷ behind_it)
  old_parts = joined_at bs i l ∙ (ap (λ b. joined (take i bs) ++ (b ++ joined (drop (suc i) bs))) (block_parts (get_or bs i []) p (record { row = []; from = 0; to = 0 }) inside)
      ∙ simp append_assoc)

  closed_parts : (stamp : ℕ) → joined (set bs i (set (get_or bs i []) p (ended_at stamp one))) ≡ before_it ++ (ended_at stamp one ∷ behind_it)
  closed_parts stamp = joined_set bs i (set (get_or bs i []) p (ended_at stamp one)) l
      ∙ (ap (λ b. joined (take i bs) ++ (b ++ joined (drop (suc i) bs))) (set_parts (get_or bs i []) p (ended_at stamp one) inside) ∙ simp append_assoc)

  pub closed_joined : (stamp last : ℕ) → last < never → IsOrdered (joined bs) → Each (IsGiven last) (joined bs) → has_alive row (joined bs) ≡ true
      → joined (set bs i (set (get_or bs i []) p (ended_at stamp one))) ≡ closed row stamp (joined bs)
  closed_joined stamp last n o g a =
      let gs = subst (Each (IsGiven last)) old_parts g in
      closed_parts stamp ∙ (sym (closed_is row stamp last before_it one behind_it (subst IsOrdered old_parts o) (all_right (IsGiven last) before_it (one ∷ behind_it) gs).0 n one_before behind_after (subst (λ l. has_alive row l ≡ true) old_parts a))
      ∙ ap (closed row stamp) (sym old_parts))

  pub closed_in_order : (stamp : ℕ) → IsOrdered (joined bs) → IsOrdered (joined (set bs i (set (get_or bs i []) p (ended_at stamp one))))
  closed_in_order stamp o = subst IsOrdered (sym (closed_parts stamp)) (closed_ordered row stamp before_it one behind_it (subst IsOrdered old_parts o) one_before behind_after)

  pub closed_all_given : (stamp last : ℕ) → last ≤ stamp → Each (IsGiven last) (joined bs) → Each (IsGiven stamp) (joined (set bs i (set (get_or bs i []) p (ended_at stamp one))))
  closed_all_given stamp last h g = subst (Each (IsGiven stamp)) (sym (closed_parts stamp)) (closed_given stamp last before_it one behind_it h (subst (Each (IsGiven last)) old_parts g))

  pub closed_long : (stamp : ℕ) → length (joined (set bs i (set (get_or bs i []) p (ended_at stamp one)))) ≡ length (joined bs)
  closed_long stamp = ap length (closed_parts stamp) ∙ (simp length-append refl ∙ sym (ap length old_parts))

-- where a row is alive there is a version before its place, in the block of the place
pub some_before : (row : List ℕ) (bs : List (List RowVersion)) (i p : ℕ) → Each (λ b. 0 < length b) bs → IsPlaced (comes_before row true) bs i → i < length bs
    → IsPlace (comes_before row true) (get_or bs i []) p → has_alive row (joined bs) ≡ true → 0 < p
some_before row bs i (suc p) f q l r a = omega arith
some_before row bs zero zero f q l r a =
    let k = all_then (λ w. comes_before row true w ≡ false) (λ w. is_alive row w ≡ false) (later_not_alive row) (joined bs)
    (subst (Each (λ w. comes_before row true w ≡ false)) (sym (joined_at bs zero l)) (each_append (λ w. comes_before row true w ≡ false) (get_or bs zero []) (joined (drop 1 bs)) r.after q.after)) in
    absurd (not_both (has_alive row (joined bs)) a (none_alive row (joined bs) k))
some_before row bs (suc i) zero f q l r a =
    let d : RowVersion = record { row = []; from = 0; to = 0 } in
    let n : 0 < length (get_or bs (suc i) []) = each_at (λ b. 0 < length b) bs (suc i) [] l f in
    absurd (not_both (comes_before row true (get_or (get_or bs (suc i) []) 0 d)) (q.begun (omega arith) d) (each_at (λ w. comes_before row true w ≡ false) (get_or bs (suc i) []) 0 d n r.after))

pub some_blocks : (row : List ℕ) (bs : List (List RowVersion)) → has_alive row (joined bs) ≡ true → 0 < length bs
some_blocks row [] a = absurd (not_both false a refl)
some_blocks row (b ∷ bs) a = omega arith
