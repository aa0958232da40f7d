-- The last version of a key: the only one that may be open, and the only one that a write ends or that is opened again.
use Rattle.std.proofs.Common.{◌≡◌, ℕ, zero, suc, ◌-◌, ◌<◌, ◌≤◌, Bool, true, false, cond, List, [], ◌∷◌, ◌++◌, length, map, get_or, Option}
use Rattle.std.proofs.Common.{Some, None, refl, sym, ap, ◌∙◌, subst, arith}
use Rattle.std.specs.Prelude.{find, option_map, slice_set, nat_eq}
use Rattle.std.specs.List.{filter_map, cons_option}
use Rattle.std.specs.Option.{option_to_list}
use Rattle.std.proofs.lemmas.List.{map-append, append-nil}
use Rattle.std.proofs.lemmas.List.Elements.{filter_map-append}
use Rattle.std.proofs.lemmas.Bool.Decides.{nat_tests}
use Rattle.ds_rows.specs.Versions.{Version}
use Rattle.ds_shard.specs.declared.version_list.Kept.{Kept}
use Rattle.ds_shard.specs.Histories.{BeginsBy, EndsBy, Precedes, IsHistory, is_open, until_stamp, before_stamp, ends_at, version_of}
use Rattle.ds_shard.specs.Histories.{last_begins_at}
use Rattle.std.specs.List.{AllByRecursion as Each}
use Rattle.ds_shard.proofs.HistoryLaws.{closed, end_open, eq_false, each-first, history-first, map_kept}

is_last : (n : ℕ) → 0 < n → n ≡ suc (n - 1)
is_last n h = omega (arith, h)

each_of : (P : Version → Type 0) (xs : List Kept) (m : ℕ) (k : Kept) → m < length xs → k ≡ get_or xs m k → Each P (map version_of xs)
    → P (version_of k)
each_of P [] m k l is h = absurd (omega (arith, l))
each_of P (x ∷ xs) zero k l is h = subst (λ (y : Kept). P (version_of y)) (sym is) h.0
each_of P (x ∷ xs) (suc m) k l is h = let less : m < length xs = omega (arith, l) in each_of P xs m k less is h.1

-- ---- the open one

mapped : (b : Bool) (k : Kept) → option_map (λ (v : Version). v.entity) (cond b (Some (version_of k)) None) ≡ cond b (Some k.entity) None
mapped true k = refl
mapped false k = refl

find_last : (xs : List Kept) (m : ℕ) (k : Kept) → length xs ≡ suc m → k ≡ get_or xs m k → IsHistory (map version_of xs)
    → cond (is_open k.until) (Some k.entity) None ≡ option_map (λ (v : Version). v.entity) (find (λ v. is_open v.until) (map version_of xs))
find_last [] m k e is h = absurd (omega (arith, e))
find_last (x ∷ []) zero k e is h = ap (λ (y : Kept). cond (is_open y.until) (Some y.entity) None) is ∙ sym (mapped (is_open x.until) x)
find_last (x ∷ []) (suc m) k e is h = absurd (omega (arith, e))
find_last (x ∷ y ∷ ys) zero k e is h = absurd (omega (arith, e))
find_last (x ∷ y ∷ ys) (suc m) k e is h =
    let l : length (y ∷ ys) ≡ suc m = omega (arith, e) in
    rw (closed x.until y.from h.1.0.ends) (find_last (y ∷ ys) m k l is h.2)

pub current_is : (n : ℕ) (xs : List Kept) (vs : List Version) (k : Kept) → n ≡ length xs → 0 < n → k ≡ get_or xs (n - 1) k
    → IsHistory (map version_of xs) → map version_of xs ≡ vs
    → cond (is_open k.until) (Some k.entity) None ≡ option_map (λ (v : Version). v.entity) (find (λ v. is_open v.until) vs)
current_is n xs vs k long p is h view =
    find_last xs (n - 1) k (sym long ∙ is_last n p) is h
    ∙ ap (λ ws. option_map (λ (v : Version). v.entity) (find (λ v. is_open v.until) ws)) view

-- ---- the last one is changed

last_changed : (g : Version → Option Version) (xs : List Kept) (m : ℕ) (k l : Kept) → length xs ≡ suc m → IsHistory (map version_of xs)
    → k ≡ get_or xs m k → ((v : Version) → Precedes v (version_of k) → g v ≡ Some v) → g (version_of k) ≡ Some (version_of l)
    → map version_of (slice_set xs m l) ≡ filter_map g (map version_of xs)
last_changed g [] m k l e h is keeps last = absurd (omega (arith, e))
last_changed g (x ∷ []) zero k l e h is keeps last =
    sym (ap (λ o. cons_option o []) (ap (λ (y : Kept). g (version_of y)) (sym is) ∙ last))
last_changed g (x ∷ []) (suc m) k l e h is keeps last = absurd (omega (arith, e))
last_changed g (x ∷ y ∷ ys) zero k l e h is keeps last = absurd (omega (arith, e))
last_changed g (x ∷ y ∷ ys) (suc m) k l e h is keeps last =
    let long : length (y ∷ ys) ≡ suc m = omega (arith, e) in
    let within : m < length (y ∷ ys) = omega (arith, long) in
    rw (keeps (version_of x) (each_of (Precedes (version_of x)) (y ∷ ys) m k within is h.1))
    (ap (λ vs. version_of x ∷ vs) (last_changed g (y ∷ ys) m k l long h.2 is keeps last))

-- ---- an end

ended_stays : (stamp : ℕ) (v w : Version) → Precedes v w → end_open stamp v ≡ v
ended_stays stamp v w p = rw (closed v.until w.from p.ends) refl

pub ends_last : (stamp n : ℕ) (xs : List Kept) (k l : Kept) → n ≡ length xs → IsHistory (map version_of xs) → 0 < n
    → k ≡ get_or xs (n - 1) k
    → version_of l ≡ end_open stamp (version_of k) → map version_of (slice_set xs (n - 1) l) ≡ map (end_open stamp) (map version_of xs)
ends_last stamp n xs k l long h p is new =
    last_changed (λ v. Some (end_open stamp v)) xs (n - 1) k l (sym long ∙ is_last n p) h is
    (λ v before. ap Some (ended_stays stamp v (version_of k) before)) (ap Some (sym new))
    ∙ map_kept (end_open stamp) (map version_of xs)

-- ---- whether the last one began at a stamp

begins_last : (stamp : ℕ) (xs : List Kept) (m : ℕ) (k : Kept) → length xs ≡ suc m → k ≡ get_or xs m k
    → nat_eq k.from stamp ≡ last_begins_at stamp (map version_of xs)
begins_last stamp [] m k e is = absurd (omega (arith, e))
begins_last stamp (x ∷ []) zero k e is = ap (λ (y : Kept). nat_eq y.from stamp) is
begins_last stamp (x ∷ []) (suc m) k e is = absurd (omega (arith, e))
begins_last stamp (x ∷ y ∷ ys) zero k e is = absurd (omega (arith, e))
begins_last stamp (x ∷ y ∷ ys) (suc m) k e is = let l : length (y ∷ ys) ≡ suc m = omega (arith, e) in begins_last stamp (y ∷ ys) m k l is

pub begins_last_is : (stamp n : ℕ) (xs : List Kept) (k : Kept) → n ≡ length xs → 0 < n → k ≡ get_or xs (n - 1) k
    → nat_eq k.from stamp ≡ last_begins_at stamp (map version_of xs)
begins_last_is stamp n xs k long p is = begins_last stamp xs (n - 1) k (sym long ∙ is_last n p) is

last-push : (stamp : ℕ) (vs : List Version) (v : Version) → last_begins_at stamp (vs ++ v ∷ []) ≡ nat_eq v.from stamp
last-push stamp [] v = refl
last-push stamp (w ∷ []) v = refl
last-push stamp (w ∷ x ∷ vs) v = last-push stamp (x ∷ vs) v

-- ---- one of those that began at the stamp is taken off

abbrev pub back : ℕ → List Kept → List Version
back stamp xs = filter_map (before_stamp stamp) (map version_of xs)

pub back_off : (stamp : ℕ) (xs ys : List Kept) (o : Option Kept) → xs ≡ ys ++ option_to_list o
    → last_begins_at stamp (map version_of xs) ≡ true
    → back stamp ys ≡ back stamp xs
back_off stamp xs ys None is b = ap (back stamp) (sym (is ∙ append-nil ys))
back_off stamp xs ys (Some k) is b =
    let whole : map version_of xs ≡ map version_of ys ++ version_of k ∷ [] = ap (map version_of) is ∙ map-append version_of ys (k ∷ []) in
    let begun : nat_eq k.from stamp ≡ true =
    sym (last-push stamp (map version_of ys) (version_of k)) ∙ (ap (last_begins_at stamp) (sym whole) ∙ b) in
    let gone : filter_map (before_stamp stamp) (version_of k ∷ []) ≡ [] = rw begun refl in
    sym (ap (filter_map (before_stamp stamp)) whole
    ∙ (filter_map-append (before_stamp stamp) (map version_of ys) (version_of k ∷ [])
    ∙ (ap (λ vs. back stamp ys ++ vs) gone ∙ append-nil (back stamp ys))))

pub each_off : (P : Version → Type 0) (xs ys : List Kept) (o : Option Kept) → xs ≡ ys ++ option_to_list o → Each P (map version_of xs)
    → Each P (map version_of ys)
each_off P xs ys o is h =
    each-first P (map version_of ys) (map version_of (option_to_list o))
    (subst (Each P) (ap (map version_of) is ∙ map-append version_of ys (option_to_list o)) h)

pub history_off : (xs ys : List Kept) (o : Option Kept) → xs ≡ ys ++ option_to_list o → IsHistory (map version_of xs)
    → IsHistory (map version_of ys)
history_off xs ys o is h =
    history-first (map version_of ys) (map version_of (option_to_list o))
    (subst IsHistory (ap (map version_of) is ∙ map-append version_of ys (option_to_list o)) h)

-- ---- the last one is opened again

other_end : (stamp n : ℕ) (u : Option ℕ) → n < stamp → EndsBy n u → ends_at stamp u ≡ false
other_end stamp n None l h = absurd h
other_end stamp n (Some u) l h = eq_false u stamp (omega (arith, l, h))

-- what precedes a version that began before the stamp stays
stays : (stamp : ℕ) (v w : Version) → w.from < stamp → Precedes v w → before_stamp stamp v ≡ Some v
stays stamp v w l p =
    let r = p.rises in
    rw (eq_false v.from stamp (omega (arith, l, r)), other_end stamp w.from v.until l p.ends) refl

opened : (stamp : ℕ) (v w : Version) → v.from < stamp → w ≡ cond (ends_at stamp v.until) (until_stamp None v) v
    → before_stamp stamp v ≡ Some w
opened stamp v w l e = rw (eq_false v.from stamp l) (by (ends_at stamp v.until) e) where
  by : (b : Bool) → w ≡ cond b (until_stamp None v) v → cond b (Some (until_stamp None v)) (Some v) ≡ Some w
  by true f = ap Some (sym f)
  by false f = ap Some (sym f)

module _ (stamp n : ℕ) (xs : List Kept) (k l : Kept) (long : n ≡ length xs) (h : IsHistory (map version_of xs))
    (begun : Each (BeginsBy stamp) (map version_of xs)) (before : last_begins_at stamp (map version_of xs) ≡ false)
    (p : 0 < n) (is : k ≡ get_or xs (n - 1) k) where
  began_before : k.from < stamp
  began_before =
      let by : k.from ≤ stamp = each_of (BeginsBy stamp) xs (n - 1) k (omega (arith, long, p)) is begun in
      let other : nat_eq k.from stamp ≡ false = begins_last_is stamp n xs k long p is ∙ before in
      grind (arith, nat_tests)

  pub opens_last : version_of l ≡ cond (ends_at stamp k.until) (until_stamp None (version_of k)) (version_of k)
      → map version_of (slice_set xs (n - 1) l) ≡ back stamp xs
  opens_last new =
      last_changed (before_stamp stamp) xs (n - 1) k l (sym long ∙ is_last n p) h is
      (λ v earlier. stays stamp v (version_of k) began_before earlier) (opened stamp (version_of k) (version_of l) began_before new)
