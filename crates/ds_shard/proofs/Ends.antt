-- What the ends that were noted tell: those of each version are found as the floor rises, and stay as writes are taken back.
use Rattle.std.proofs.Common.{◌≡◌, ℕ, ◌<◌, ◌≤◌, Bool, true, false, cond, List, [], ◌∷◌, ◌++◌, Option, Some, None, refl, sym, ap, ◌∙◌}
use Rattle.std.proofs.Common.{subst, arith, zero, suc, ◌-◌, length, get_or, append-nil}
use Rattle.std.specs.Prelude.{◌&&◌, ◌||◌, ◌==◌, not, nat_le, nat_lt, if◌then◌else◌}
use Rattle.std.specs.List.{list_any}
use Rattle.std.specs.Option.{option_to_list}
use Rattle.std.proofs.lemmas.Bool.Decides.{nat_tests}
use Rattle.ds_base.specs.Keys.{KeyParts}
use Rattle.ds_base.specs.KeyOrder.{same_key}
use Rattle.ds_rows.specs.Versions.{Version, is_before}
use Rattle.ds_shard.specs.declared.expiring.Expiry.{Expiry}
use Rattle.ds_shard.specs.Expiries.{AreBy, AreAfter, DoNotFall, first_is_due, last_is_at, others, is_end, IsNotedEnd, AreNoted}
use Rattle.ds_shard.specs.Histories.{EndsWithin, is_open, is_current, until_stamp, ended, outlives, trimmed, trimmed_at}
use Rattle.std.specs.List.{AllByRecursion as Each}
use Rattle.ds_shard.specs.Contents.{IsGivenBefore}
use Rattle.ds_shard.proofs.HistoryLaws.{each-first}
use Rattle.ds_shard.proofs.Undoing.{same_number, other_number}
use Rattle.ds_shard.proofs.RowsApart.{or_true}

-- ---- their order

each_push : {X : Type 0} (P : X → Type 0) (xs : List X) (x : X) → Each P xs → P x → Each P (xs ++ x ∷ [])
each_push P [] x h p = (p, tt)
each_push P (y ∷ xs) x h p = (h.0, each_push P xs x h.1 p)

each_weaker : {X : Type 0} (P Q : X → Type 0) (xs : List X) → ((x : X) → P x → Q x) → Each P xs → Each Q xs
each_weaker P Q [] f h = tt
each_weaker P Q (x ∷ xs) f h = (f x h.0, each_weaker P Q xs f h.1)

pub by_later : (m n : ℕ) (es : List Expiry) → m ≤ n → AreBy m es → AreBy n es
by_later m n es h = each_weaker (λ (e : Expiry). e.stamp ≤ m) (λ (e : Expiry). e.stamp ≤ n) es (λ e by. omega (arith, h, by))

pub fall-push : (es : List Expiry) (e : Expiry) → AreBy e.stamp es → DoNotFall es → DoNotFall (es ++ e ∷ [])
fall-push [] e by h = (tt, tt)
fall-push (f ∷ es) e by h = (each_push (λ (x : Expiry). f.stamp ≤ x.stamp) es e h.0 by.0, fall-push es e by.1 h.1)

fall-front : (es fs : List Expiry) → DoNotFall (es ++ fs) → DoNotFall es
fall-front [] fs h = tt
fall-front (e ∷ es) fs h = (each-first (λ (x : Expiry). e.stamp ≤ x.stamp) es fs h.0, fall-front es fs h.1)

-- the last one was taken off
pub fall_off : (es fs : List Expiry) (o : Option Expiry) → es ≡ fs ++ option_to_list o → DoNotFall es → DoNotFall fs
fall_off es fs o is h = fall-front fs (option_to_list o) (subst DoNotFall is h)

pub by_off : (most : ℕ) (es fs : List Expiry) (o : Option Expiry) → es ≡ fs ++ option_to_list o → AreBy most es → AreBy most fs
by_off most es fs o is h = each-first (λ (e : Expiry). e.stamp ≤ most) fs (option_to_list o) (subst (AreBy most) is h)

-- the first one was taken out
pub fall_rest : (es fs : List Expiry) (o : Option Expiry) → es ≡ option_to_list o ++ fs → DoNotFall es → DoNotFall fs
fall_rest es fs None is h = subst DoNotFall is h
fall_rest es fs (Some e) is h = (subst DoNotFall is h).1

-- where the first isn't due, none is
pub after_due : (floor : ℕ) (es : List Expiry) → first_is_due floor es ≡ false → DoNotFall es → AreAfter floor es
after_due floor [] due h = tt
after_due floor (e ∷ es) due h =
    let first : floor < e.stamp = above (nat_le e.stamp floor) refl due in
    (first, each_weaker (λ (x : Expiry). e.stamp ≤ x.stamp) (λ (x : Expiry). floor < x.stamp) es (λ x later. omega (arith, first, later)) h.0) where
      above : (b : Bool) → b ≡ nat_le e.stamp floor → nat_le e.stamp floor ≡ false → floor < e.stamp
      above true is not_due = cc
      above false is not_due = grind (arith, nat_tests)

-- ---- those at a stamp

last-push : (stamp : ℕ) (es : List Expiry) (e : Expiry) → last_is_at stamp (es ++ e ∷ []) ≡ (e.stamp == stamp)
last-push stamp [] e = refl
last-push stamp (f ∷ []) e = refl
last-push stamp (f ∷ g ∷ es) e = last-push stamp (g ∷ es) e

others-push : (stamp : ℕ) (es : List Expiry) (e : Expiry) → (e.stamp == stamp) ≡ true → others stamp (es ++ e ∷ []) ≡ others stamp es
others-push stamp [] e h = rw h refl
others-push stamp (f ∷ es) e h = by (f.stamp == stamp) (others-push stamp es e h) where
  by : (b : Bool) → others stamp (es ++ e ∷ []) ≡ others stamp es
      → cond (not b) (f ∷ others stamp (es ++ e ∷ [])) (others stamp (es ++ e ∷ [])) ≡ cond (not b) (f ∷ others stamp es) (others stamp es)
  by true i = i
  by false i = ap (λ fs. f ∷ fs) i

-- the last one, which is at the stamp, was taken off
pub others_off : (stamp : ℕ) (es fs : List Expiry) (o : Option Expiry) → es ≡ fs ++ option_to_list o → last_is_at stamp es ≡ true
    → others stamp fs ≡ others stamp es
others_off stamp es fs None is last = sym (ap (others stamp) (is ∙ append-nil fs))
others_off stamp es fs (Some e) is last =
    let here : (e.stamp == stamp) ≡ true = sym (last-push stamp fs e) ∙ sym (ap (last_is_at stamp) is) ∙ last in
    sym (ap (others stamp) is ∙ others-push stamp fs e here)

pub others-noted : (stamp : ℕ) (es fs : List Expiry) (k : KeyParts) → fs ≡ es ++ record { stamp = stamp; key = k } ∷ []
    → others stamp fs ≡ others stamp es
others-noted stamp es fs k is =
    ap (others stamp) is ∙ others-push stamp es (record { stamp = stamp; key = k }) (same_number stamp stamp refl)

last_of : (stamp m : ℕ) (es : List Expiry) (e : Expiry) → length es ≡ suc m → e ≡ get_or es m e → (e.stamp == stamp) ≡ last_is_at stamp es
last_of stamp m [] e long is = absurd (omega (arith, long))
last_of stamp zero (f ∷ []) e long is = ap (λ (x : Expiry). x.stamp == stamp) is
last_of stamp (suc m) (f ∷ []) e long is = absurd (omega (arith, long))
last_of stamp zero (f ∷ g ∷ es) e long is = absurd (omega (arith, long))
last_of stamp (suc m) (f ∷ g ∷ es) e long is =
    let less : length (g ∷ es) ≡ suc m = omega (arith, long) in
    last_of stamp m (g ∷ es) e less is

pub last_at : (stamp n : ℕ) (es : List Expiry) (e : Expiry) → n ≡ length es → 0 < n → e ≡ get_or es (n - 1) e
    → (e.stamp == stamp) ≡ last_is_at stamp es
last_at stamp n es e long some is =
    let less : length es ≡ suc (n - 1) = omega (arith, long, some) in
    last_of stamp (n - 1) es e less is

pub noted_by : (stamp : ℕ) (es fs : List Expiry) (k : KeyParts) → fs ≡ es ++ record { stamp = stamp; key = k } ∷ [] → AreBy stamp es
    → AreBy stamp fs
noted_by stamp es fs k is by =
    subst (AreBy stamp) (sym is) (each_push (λ (e : Expiry). e.stamp ≤ stamp) es (record { stamp = stamp; key = k }) by (omega arith))

-- ---- the ends of versions

any-push : (p : Expiry → Bool) (es : List Expiry) (e : Expiry) → list_any p es ≡ true → list_any p (es ++ e ∷ []) ≡ true
any-push p [] e h = cc
any-push p (f ∷ es) e h = by (p f) h (any-push p es e) where
  by : (b : Bool) → (b || list_any p es) ≡ true → (list_any p es ≡ true → list_any p (es ++ e ∷ []) ≡ true)
      → (b || list_any p (es ++ e ∷ [])) ≡ true
  by true h i = refl
  by false h i = i h

any-last : (p : Expiry → Bool) (es : List Expiry) (e : Expiry) → p e ≡ true → list_any p (es ++ e ∷ []) ≡ true
any-last p [] e h = rw h refl
any-last p (f ∷ es) e h = or_true (p f) (list_any p (es ++ e ∷ [])) (any-last p es e h)

noted_push : (es : List Expiry) (e : Expiry) (k : KeyParts) (u : Option ℕ) → IsNotedEnd es k u → IsNotedEnd (es ++ e ∷ []) k u
noted_push es e k None h = tt
noted_push es e k (Some until) h = any-push (is_end k until) es e h

both : (a b : Bool) → (a && b) ≡ true → a ≡ true
both true b h = refl
both false b h = h

-- the end of a version of this key at the stamp
abbrev pub end_at : ℕ → KeyParts → Expiry
end_at stamp k = record { stamp = stamp; key = k }

-- an end is noted as it comes
pub noted-ended : (stamp : ℕ) (k : KeyParts) (es : List Expiry) (vs : List Version) → AreNoted es vs
    → AreNoted (es ++ end_at stamp k ∷ []) (ended stamp k vs)
noted-ended stamp k es [] h = tt
noted-ended stamp k es (v ∷ vs) h = by (is_current k v) refl (noted-ended stamp k es vs h.1) where
  by : (b : Bool) → is_current k v ≡ b → AreNoted (es ++ end_at stamp k ∷ []) (ended stamp k vs)
      → AreNoted (es ++ end_at stamp k ∷ []) (cond b (until_stamp (Some stamp) v) v ∷ ended stamp k vs)
  by true is i =
      let same : same_key v.entity.key k ≡ true = both (same_key v.entity.key k) (is_open v.until) is in
      (any-last (is_end v.entity.key stamp) es (end_at stamp k) (rw (same_number stamp stamp refl, same) refl), i)
  by false is i = (noted_push es (end_at stamp k) v.entity.key v.until h.0, i)

any-others : (stamp : ℕ) (k : KeyParts) (until : ℕ) → (until ≡ stamp → ⊥) → (es : List Expiry)
    → list_any (is_end k until) (others stamp es) ≡ list_any (is_end k until) es
any-others stamp k until other [] = refl
any-others stamp k until other (e ∷ es) = by (e.stamp == stamp) refl (any-others stamp k until other es) where
  by : (b : Bool) → b ≡ (e.stamp == stamp) → list_any (is_end k until) (others stamp es) ≡ list_any (is_end k until) es
      → list_any (is_end k until) (cond (not b) (e ∷ others stamp es) (others stamp es)) ≡ list_any (is_end k until) (e ∷ es)
  by true is i =
      let at : e.stamp ≡ stamp = grind (arith, nat_tests) in
      let apart : (e.stamp == until) ≡ false = other_number e.stamp until (λ same. other (sym same ∙ at)) in
      i ∙ sym (ap (λ b. (b && same_key k e.key) || list_any (is_end k until) es) apart)
  by false is i = ap (λ b. is_end k until e || b) i

-- what was noted before the stamp is noted where the others are the same
pub noted-others : (stamp : ℕ) (es fs : List Expiry) → others stamp fs ≡ others stamp es → (vs : List Version)
    → Each (IsGivenBefore stamp) vs → AreNoted es vs → AreNoted fs vs
noted-others stamp es fs same [] g h = tt
noted-others stamp es fs same (v ∷ vs) g h = (by v.until g.0.2.ends h.0, noted-others stamp es fs same vs g.1 h.1) where
  by : (u : Option ℕ) → EndsWithin g.0.0 u → IsNotedEnd es v.entity.key u → IsNotedEnd fs v.entity.key u
  by None within n = tt
  by (Some until) within n =
      let k = v.entity.key in
      let before = g.0.1 in
      let other : until ≡ stamp → ⊥ = λ is. omega (arith, before, within, is) in
      sym (any-others stamp k until other fs) ∙ ap (list_any (is_end k until)) same ∙ any-others stamp k until other es ∙ n

-- ---- a floor that rises

module _ (floor : ℕ) where
  -- an end that was taken out in front is that of no version that is left
  pub noted-popped : (e : Expiry) (es : List Expiry) → e.stamp ≤ floor → (vs : List Version) → AreNoted (e ∷ es) vs
      → AreNoted es (trimmed_at floor e.key vs)
  noted-popped e es due [] h = tt
  noted-popped e es due (v ∷ vs) h = by (same_key v.entity.key e.key) refl (outlives floor v) refl (noted-popped e es due vs h.1) where
    rest : (u : Option ℕ) → ((until : ℕ) → u ≡ Some until → is_end v.entity.key until e ≡ false) → IsNotedEnd (e ∷ es) v.entity.key u
        → IsNotedEnd es v.entity.key u
    rest None not_it n = tt
    rest (Some until) not_it n = sym (ap (λ b. b || list_any (is_end v.entity.key until) es) (not_it until refl)) ∙ n

    later : (u : Option ℕ) → is_before u floor ≡ true → (until : ℕ) → u ≡ Some until → (e.stamp == until) ≡ false
    later None out until is = cc
    later (Some n) out until is =
        let same : n ≡ until = cc in
        let above : floor < n = grind (arith, nat_tests) in
        other_number e.stamp until (λ at. omega (arith, due, above, same, at))

    and_false : (b : Bool) → (b && false) ≡ false
    and_false true = refl
    and_false false = refl

    by : (b : Bool) → same_key v.entity.key e.key ≡ b → (c : Bool) → outlives floor v ≡ c → AreNoted es (trimmed_at floor e.key vs)
        → AreNoted es (cond (if b then c else true) (v ∷ trimmed_at floor e.key vs) (trimmed_at floor e.key vs))
    by true is true out i =
        (rest v.until (λ until at. ap (λ b. b && same_key v.entity.key e.key) (later v.until out until at)) h.0, i)
    by true is false out i = i
    by false is c out i =
        (rest v.until (λ until at. ap (λ b. (e.stamp == until) && b) is ∙ and_false (e.stamp == until)) h.0, i)

  any_after : (k : KeyParts) (until : ℕ) (es : List Expiry) → AreAfter floor es → list_any (is_end k until) es ≡ true → floor < until
  any_after k until [] after h = absurd (no h) where
    no : false ≡ true → ⊥
    no e = cc
  any_after k until (e ∷ es) after h = by (e.stamp == until) refl (same_key k e.key) h (any_after k until es after.1) where
    by : (b : Bool) → b ≡ (e.stamp == until) → (c : Bool) → ((b && c) || list_any (is_end k until) es) ≡ true
        → (list_any (is_end k until) es ≡ true → floor < until) → floor < until
    by true is true h i = let at : e.stamp ≡ until = grind (arith, nat_tests) in let a = after.0 in omega (arith, a, at)
    by true is false h i = i h
    by false is c h i = i h

  -- where all ends that are left are after the floor, all versions outlive it
  pub all_outlive : (es : List Expiry) → AreAfter floor es → (vs : List Version) → AreNoted es vs → trimmed floor vs ≡ vs
  all_outlive es after [] h = refl
  all_outlive es after (v ∷ vs) h =
      ap (λ b. cond b (v ∷ trimmed floor vs) (trimmed floor vs)) (by v.until h.0) ∙ ap (λ ws. v ∷ ws) (all_outlive es after vs h.1) where
        above : (until : ℕ) → floor < until → nat_lt floor until ≡ true
        above until l = grind (arith, nat_tests)

        by : (u : Option ℕ) → IsNotedEnd es v.entity.key u → is_before u floor ≡ true
        by None n = refl
        by (Some until) n = above until (any_after v.entity.key until es after n)
