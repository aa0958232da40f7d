-- The versions of one key stay a history as one is added, ended, taken back or taken out.
use Rattle.std.proofs.Common.{◌≡◌, ℕ, ◌<◌, ◌≤◌, Bool, true, false, cond, List, [], ◌∷◌, ◌++◌, map, Option, Some, None, refl, sym, ap, subst}
use Rattle.std.proofs.Common.{arith}
use Rattle.std.specs.Prelude.{filter, nat_eq, if◌then◌else◌}
use Rattle.std.specs.List.{filter_map}
use Rattle.std.proofs.lemmas.List.{map-append}
use Rattle.std.proofs.lemmas.Bool.Decides.{nat_tests}
use Rattle.ds_rows.specs.Versions.{Version, is_before}
use Rattle.ds_shard.specs.declared.version_list.Kept.{Kept}
use Rattle.ds_shard.specs.Histories.{BeginsBy, EndsBy, EndsFrom, IsOver, Precedes, IsHistory, is_open, until_stamp, before_stamp, ends_at}
use Rattle.ds_shard.specs.Histories.{version_of, outlives, trimmed, first_is_over}
use Rattle.std.specs.List.{AllByRecursion as Each}

pub closed : (u : Option ℕ) (stamp : ℕ) → EndsBy stamp u → is_open u ≡ false
closed None stamp h = absurd h
closed (Some u) stamp h = refl

pub eq_false : (m n : ℕ) → m < n → nat_eq m n ≡ false
eq_false m n h = by (nat_eq m n) refl where
  by : (b : Bool) → b ≡ nat_eq m n → nat_eq m n ≡ false
  by true e = let same : m ≡ n = grind (arith, nat_tests) in absurd (omega (arith, same, h))
  by false e = sym e

pub eq_true : (m n : ℕ) → nat_eq m n ≡ true → m ≡ n
eq_true m n e = grind (arith, nat_tests)

-- ---- one more

each-push : (P : Version → Type 0) (ws : List Version) (v : Version) → Each P ws → P v → Each P (ws ++ v ∷ [])
each-push P [] v h p = (p, tt)
each-push P (w ∷ ws) v h p = (h.0, each-push P ws v h.1 p)

pub history-push : (vs : List Version) (v : Version) → EndsFrom v.from v.until → IsHistory vs → Each (IsOver v.from) vs
    → IsHistory (vs ++ v ∷ [])
history-push [] v s h o = (s, tt, tt)
history-push (w ∷ ws) v s h o =
    (h.0, each-push (Precedes w) ws v h.1 (record { rises = o.0.0; ends = o.0.1 }), history-push ws v s h.2 o.1)

pub history_more : (xs ys : List Kept) (x : Kept) (stamp : ℕ) → ys ≡ xs ++ x ∷ [] → x.from ≡ stamp → x.until ≡ None
    → IsHistory (map version_of xs)
    → Each (IsOver stamp) (map version_of xs) → IsHistory (map version_of ys)
history_more xs ys x stamp e f u h o =
    subst (λ (zs : List Kept). IsHistory (map version_of zs)) (sym e)
    (subst IsHistory (sym (map-append version_of xs (x ∷ [])))
    (history-push (map version_of xs) (version_of x) (subst (EndsFrom x.from) (sym u) tt) h
    (subst (λ n. Each (IsOver n) (map version_of xs)) (sym f) o)))

-- ---- the first ones

pub each-first : {X : Type 0} (P : X → Type 0) (xs ys : List X) → Each P (xs ++ ys) → Each P xs
each-first P [] ys h = tt
each-first P (x ∷ xs) ys h = (h.0, each-first P xs ys h.1)

pub history-first : (vs ws : List Version) → IsHistory (vs ++ ws) → IsHistory vs
history-first [] ws h = tt
history-first (v ∷ vs) ws h = (h.0, each-first (Precedes v) vs ws h.1, history-first vs ws h.2)

-- ---- an end

abbrev pub end_open : ℕ → Version → Version
end_open stamp v = if is_open v.until then until_stamp (Some stamp) v else v

pub map_kept : (f : Version → Version) (vs : List Version) → filter_map (λ v. Some (f v)) vs ≡ map f vs
map_kept f [] = refl
map_kept f (v ∷ vs) = ap (λ ws. f v ∷ ws) (map_kept f vs)

kept_end : (v : Version) (stamp n : ℕ) → EndsBy n v.until → end_open stamp v ≡ v
kept_end v stamp n h = rw (closed v.until n h) refl

each-ended : (v : Version) (stamp : ℕ) (ws : List Version) → Each (Precedes v) ws
    → Each (Precedes (end_open stamp v)) (map (end_open stamp) ws)
each-ended v stamp [] h = tt
each-ended v stamp (w ∷ ws) h = (first (is_open w.until), each-ended v stamp ws h.1) where
  first : (b : Bool) → Precedes (end_open stamp v) (cond b (until_stamp (Some stamp) w) w)
  first true = subst (λ (x : Version). Precedes x (until_stamp (Some stamp) w)) (sym (kept_end v stamp w.from h.0.ends))
      (record { rises = h.0.rises; ends = h.0.ends })
  first false = subst (λ (x : Version). Precedes x w) (sym (kept_end v stamp w.from h.0.ends)) h.0

spans-ended : (stamp : ℕ) (v : Version) → v.from ≤ stamp → EndsFrom v.from v.until
    → EndsFrom (end_open stamp v).from (end_open stamp v).until
spans-ended stamp v b s = by (is_open v.until) where
  by : (b : Bool) → EndsFrom (cond b (until_stamp (Some stamp) v) v).from (cond b (until_stamp (Some stamp) v) v).until
  by true = b
  by false = s

pub history-ended : (stamp : ℕ) (vs : List Version) → Each (BeginsBy stamp) vs → IsHistory vs → IsHistory (map (end_open stamp) vs)
history-ended stamp [] b h = tt
history-ended stamp (v ∷ vs) b h = (spans-ended stamp v b.0 h.0, each-ended v stamp vs h.1, history-ended stamp vs b.1 h.2)

-- ---- what is taken back

none_after : (stamp : ℕ) (v : Version) (ws : List Version) → v.until ≡ Some stamp → Each (BeginsBy stamp) ws → Each (Precedes v) ws
    → filter_map (before_stamp stamp) ws ≡ []
none_after stamp v [] u b h = refl
none_after stamp v (w ∷ ws) u b h =
    let least : stamp ≤ w.from = subst (EndsBy w.from) u h.0.ends in
    let most : w.from ≤ stamp = b.0 in
    let same : nat_eq w.from stamp ≡ true = grind (arith, nat_tests) in
    rw same (none_after stamp v ws u b.1 h.1)

each-undone : (stamp : ℕ) (v : Version) (ws : List Version) → Each (Precedes v) ws → Each (Precedes v) (filter_map (before_stamp stamp) ws)
each-undone stamp v [] h = tt
each-undone stamp v (w ∷ ws) h = by (nat_eq w.from stamp) (ends_at stamp w.until) refl refl (each-undone stamp v ws h.1) where
  by : (b c : Bool) → nat_eq w.from stamp ≡ b → ends_at stamp w.until ≡ c → Each (Precedes v) (filter_map (before_stamp stamp) ws)
      → Each (Precedes v) (filter_map (before_stamp stamp) (w ∷ ws))
  by true c e f i = rw e i
  by false true e f i = rw (e, f) (record { rises = h.0.rises; ends = h.0.ends }, i)
  by false false e f i = rw (e, f) (h.0, i)

ended_there : (stamp : ℕ) (u : Option ℕ) → ends_at stamp u ≡ true → u ≡ Some stamp
ended_there stamp None e = cc
ended_there stamp (Some u) e = ap Some (eq_true u stamp e)

pub history-undone : (stamp : ℕ) (vs : List Version) → Each (BeginsBy stamp) vs → IsHistory vs
    → IsHistory (filter_map (before_stamp stamp) vs)
history-undone stamp [] b h = tt
history-undone stamp (v ∷ vs) b h =
    by (nat_eq v.from stamp) (ends_at stamp v.until) refl refl (history-undone stamp vs b.1 h.2) where
      by : (c d : Bool) → nat_eq v.from stamp ≡ c → ends_at stamp v.until ≡ d → IsHistory (filter_map (before_stamp stamp) vs)
          → IsHistory (filter_map (before_stamp stamp) (v ∷ vs))
      by true d e f i = rw e i
      by false true e f i = rw (e, f, none_after stamp v vs (ended_there stamp v.until f) b.1 h.1) (tt, tt, tt)
      by false false e f i = rw (e, f) (h.0, each-undone stamp v vs h.1, i)

-- ---- a floor

each-filter : (P : Version → Type 0) (p : Version → Bool) (vs : List Version) → Each P vs → Each P (filter p vs)
each-filter P p [] h = tt
each-filter P p (v ∷ vs) h = by (p v) (each-filter P p vs h.1) where
  by : (b : Bool) → Each P (filter p vs) → Each P (cond b (v ∷ filter p vs) (filter p vs))
  by true i = (h.0, i)
  by false i = i

pub history-filter : (p : Version → Bool) (vs : List Version) → IsHistory vs → IsHistory (filter p vs)
history-filter p [] h = tt
history-filter p (v ∷ vs) h = by (p v) (history-filter p vs h.2) where
  by : (b : Bool) → IsHistory (filter p vs) → IsHistory (cond b (v ∷ filter p vs) (filter p vs))
  by true i = (h.0, each-filter (Precedes v) p vs h.1, i)
  by false i = i

later : (floor : ℕ) (u w : Option ℕ) (from : ℕ) → is_before u floor ≡ true → EndsBy from u → EndsFrom from w → is_before w floor ≡ true
later floor u None from o e f = refl
later floor None (Some w) from o e f = absurd e
later floor (Some u) (Some w) from o e f = grind (arith, nat_tests)

-- behind a version that outlives the floor each does
all_outlive : (floor : ℕ) (v : Version) (ws : List Version) → outlives floor v ≡ true → Each (Precedes v) ws → IsHistory ws
    → trimmed floor ws ≡ ws
all_outlive floor v [] o p h = refl
all_outlive floor v (w ∷ ws) o p h =
    rw (later floor v.until w.until w.from o p.0.ends h.0) (ap (λ xs. w ∷ xs) (all_outlive floor v ws o p.1 h.2))

pub nothing_trimmed : (floor : ℕ) (vs : List Version) → first_is_over floor vs ≡ false → IsHistory vs → trimmed floor vs ≡ vs
nothing_trimmed floor [] e h = refl
nothing_trimmed floor (v ∷ vs) e h = by (outlives floor v) refl where
  by : (b : Bool) → outlives floor v ≡ b → trimmed floor (v ∷ vs) ≡ v ∷ vs
  by true o = rw o (ap (λ xs. v ∷ xs) (all_outlive floor v vs o h.1 h.2))
  by false o = let t : true ≡ false = rw o at e in cc
