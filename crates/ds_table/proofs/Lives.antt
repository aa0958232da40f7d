-- That the versions stay in order, and their stamps within those given, at each call.
use Rattle.std.proofs.Common.{◌≡◌, ℕ, suc, ◌<◌, ◌≤◌, Bool, true, false, ◌==◌, List, [], ◌∷◌, ◌++◌, length, refl, ap, sym, ◌∙◌, arith, subst}
use Rattle.std.specs.Prelude.{◌||◌, Option, Some, None, nat_lt, bytes_eq}
use Rattle.std.specs.List.{filter_map}
use Rattle.std.proofs.lemmas.Bool.Decides.{nat_tests}
use Rattle.std.proofs.lemmas.Slice.Eq.{bytes_eq-Decides}
use Rattle.std.specs.List.{AllByRecursion as Each}
use Rattle.ds_table.specs.declared.change.Change.TheVariants.{Undo, Trim}
use Rattle.ds_table.specs.Versions.{RowVersion, never, is_below, is_alive, has_alive, with_version, closed, trimmed, ended_at}
use Rattle.ds_table.specs.Blocks.{IsOrdered, Precedes, IsGiven}
use Rattle.ds_table.specs.Changes.{kept, changed}
use Rattle.ds_table.specs.Places.{comes_before}
use Rattle.ds_table.proofs.Lists.{all_then, all_both, all_left, all_right, each_append, not_both, true_unless, false_unless, was_false}
use Rattle.ds_table.proofs.Lists.{was_true}
use Rattle.ds_table.proofs.Order.{not_below_itself, below_back, same_unless_below}

-- a version among those that don't come before it
pub with_version_is : (v : RowVersion) (xs ys : List RowVersion) → Each (λ w. comes_before v.row true w ≡ true) xs → Each (λ w. comes_before v.row true w ≡ false) ys
    → with_version v (xs ++ ys) ≡ xs ++ (v ∷ ys)
with_version_is v [] [] a b = refl
with_version_is v [] (y ∷ ys) a b = rw (was_true (is_below v.row y.row) b.0) refl
with_version_is v (x ∷ xs) ys a b = rw (was_false (is_below v.row x.row) a.0) (ap (λ l. x ∷ l) (with_version_is v xs ys a.1 b))

-- what is kept stands before what is kept of the versions behind it
map_behind : (f : RowVersion → Option RowVersion) (P : RowVersion → Type 0) (v x : RowVersion) → ((w y : RowVersion) → P w → Precedes v w → f w ≡ Some y → Precedes x y)
    → (ws : List RowVersion) → Each P ws → Each (Precedes v) ws → Each (Precedes x) (filter_map f ws)
map_behind f P v x keeps [] a r = tt
map_behind f P v x keeps (w ∷ ws) a r = by (f w) refl (map_behind f P v x keeps ws a.1 r.1)
  where
    by : (o : Option RowVersion) → o ≡ f w → Each (Precedes x) (filter_map f ws) → Each (Precedes x) (filter_map f (w ∷ ws))
    by None q i = rw (← q) i
    by (Some y) q i = rw (← q) (keeps w y a.0 r.0 (sym q), i)

pub map_ordered : (f : RowVersion → Option RowVersion) (P : RowVersion → Type 0) → ((v x w y : RowVersion) → P v → f v ≡ Some x → P w → Precedes v w → f w ≡ Some y → Precedes x y)
    → (vs : List RowVersion) → Each P vs → IsOrdered vs → IsOrdered (filter_map f vs)
map_ordered f P keeps [] a r = tt
map_ordered f P keeps (v ∷ vs) a r = by (f v) refl (map_ordered f P keeps vs a.1 r.1)
  where
    by : (o : Option RowVersion) → o ≡ f v → IsOrdered (filter_map f vs) → IsOrdered (filter_map f (v ∷ vs))
    by None q i = rw (← q) i
    by (Some x) q i = rw (← q) (map_behind f P v x (λ w y. keeps v x w y a.0 (sym q)) vs a.1 r.0, i)

pub map_each : (f : RowVersion → Option RowVersion) (P Q : RowVersion → Type 0) → ((v x : RowVersion) → P v → f v ≡ Some x → Q x) → (vs : List RowVersion) → Each P vs → Each Q (filter_map f vs)
map_each f P Q keeps [] a = tt
map_each f P Q keeps (v ∷ vs) a = by (f v) refl (map_each f P Q keeps vs a.1)
  where
    by : (o : Option RowVersion) → o ≡ f v → Each Q (filter_map f vs) → Each Q (filter_map f (v ∷ vs))
    by None q i = rw (← q) i
    by (Some x) q i = rw (← q) (keeps v x a.0 (sym q), i)

pub map_fewer : (f : RowVersion → Option RowVersion) (vs : List RowVersion) → length (filter_map f vs) ≤ length vs
map_fewer f [] = omega arith
map_fewer f (v ∷ vs) = by (f v) refl (map_fewer f vs)
  where
    by : (o : Option RowVersion) → o ≡ f v → length (filter_map f vs) ≤ length vs → length (filter_map f (v ∷ vs)) ≤ suc (length vs)
    by None q i = rw (← q) (omega (arith, i))
    by (Some x) q i = rw (← q) (omega (arith, i))

or_false : (a b : Bool) → (a || b) ≡ false → (a ≡ false) × (b ≡ false)
or_false true b h = absurd (not_both true refl h)
or_false false b h = (refl, h)

pub not_alive : (row : List ℕ) (vs : List RowVersion) → has_alive row vs ≡ false → Each (λ v. is_alive row v ≡ false) vs
not_alive row [] h = tt
not_alive row (v ∷ vs) h = let p = or_false (is_alive row v) (has_alive row vs) h in (p.0, not_alive row vs p.1)

pub none_alive : (row : List ℕ) (vs : List RowVersion) → Each (λ v. is_alive row v ≡ false) vs → has_alive row vs ≡ false
none_alive row [] h = refl
none_alive row (v ∷ vs) h = rw h.0 (none_alive row vs h.1)

-- ---- adding

pub given_more : (last stamp : ℕ) (v : RowVersion) → last ≤ stamp → IsGiven last v → IsGiven stamp v
given_more last stamp v h g = record { from_given = omega (arith, h, g.from_given); to_given = λ n. let k = g.to_given n in omega (arith, h, k) }

pub given_new : (row : List ℕ) (stamp : ℕ) → IsGiven stamp (record { row = row; from = stamp; to = never })
given_new row stamp = record { from_given = omega arith; to_given = λ n. absurd (n refl) }

new_behind : (row : List ℕ) (stamp last : ℕ) (u : RowVersion) → last ≤ stamp → IsGiven last u → is_alive row u ≡ false → comes_before row true u ≡ true
    → Precedes u (record { row = row; from = stamp; to = never })
new_behind row stamp last u h g a t = record {
  not_above = was_false (is_below row u.row) t;
  apart = λ e. let k = g.to_given (open_not e) in omega (arith, h, k);
}
  where
    open_not : u.row ≡ row → u.to ≡ never → ⊥
    open_not e n =
        let s : bytes_eq u.row row ≡ true = (bytes_eq-Decides u.row row).1 e in
        let q : (u.to == never) ≡ true = rw n refl in
        not_both (is_alive row u) (rw (s, q) refl) a

new_before : (row : List ℕ) (stamp : ℕ) (w : RowVersion) → comes_before row true w ≡ false → Precedes (record { row = row; from = stamp; to = never }) w
new_before row stamp w f =
    let t : is_below row w.row ≡ true = was_true (is_below row w.row) f in
    record {
      not_above = below_back row w.row t;
      apart = λ e. absurd (not_both (is_below row w.row) t (subst (λ r. is_below row r ≡ false) e (not_below_itself row)));
    }

pub inserted_ordered : (v : RowVersion) (xs ys : List RowVersion) → IsOrdered (xs ++ ys) → Each (λ u. Precedes u v) xs → Each (Precedes v) ys → IsOrdered (xs ++ (v ∷ ys))
inserted_ordered v [] ys o a b = (b, o)
inserted_ordered v (x ∷ xs) ys o a b =
    (each_append (Precedes x) xs (v ∷ ys) (all_left (Precedes x) xs ys o.0) (a.0, all_right (Precedes x) xs ys o.0), inserted_ordered v xs ys o.1 a.1 b)

pub inserted_each : (P : RowVersion → Type 0) (v : RowVersion) (xs ys : List RowVersion) → P v → Each P (xs ++ ys) → Each P (xs ++ (v ∷ ys))
inserted_each P v xs ys p h = each_append P xs (v ∷ ys) (all_left P xs ys h) (p, all_right P xs ys h)

pub added_ordered : (row : List ℕ) (stamp last : ℕ) (xs ys : List RowVersion) → last ≤ stamp → IsOrdered (xs ++ ys) → Each (IsGiven last) (xs ++ ys) → has_alive row (xs ++ ys) ≡ false
    → Each (λ w. comes_before row true w ≡ true) xs → Each (λ w. comes_before row true w ≡ false) ys → IsOrdered (xs ++ (record { row = row; from = stamp; to = never } ∷ ys))
added_ordered row stamp last xs ys h o g a t f =
    let v : RowVersion = record { row = row; from = stamp; to = never } in
    let n = all_left (λ w. is_alive row w ≡ false) xs ys (not_alive row (xs ++ ys) a) in
    let both = all_both (IsGiven last) (λ w. is_alive row w ≡ false) (λ w. IsGiven last w × (is_alive row w ≡ false)) (λ w x y. (x, y)) xs (all_left (IsGiven last) xs ys g) n in
    inserted_ordered v xs ys o
    (all_both (λ w. IsGiven last w × (is_alive row w ≡ false)) (λ w. comes_before row true w ≡ true) (λ w. Precedes w v) (λ w x y. new_behind row stamp last w h x.0 x.1 y) xs both t)
    (all_then (λ w. comes_before row true w ≡ false) (Precedes v) (λ w y. new_before row stamp w y) ys f)

-- ---- closing

pub later_not_alive : (row : List ℕ) (w : RowVersion) → comes_before row true w ≡ false → is_alive row w ≡ false
later_not_alive row w f =
    let t : is_below row w.row ≡ true = was_true (is_below row w.row) f in
    let n : bytes_eq w.row row ≡ false = false_unless (bytes_eq w.row row) (λ e.
    let s : w.row ≡ row = (bytes_eq-Decides w.row row).0 e in
    not_both (is_below row w.row) t (subst (λ r. is_below row r ≡ false) (sym s) (not_below_itself row))) in
    rw n refl

-- a version that stands before another one that doesn't come behind the row isn't the row's open one
earlier_not_alive : (row : List ℕ) (last : ℕ) (z v : RowVersion) → Precedes z v → IsGiven last v → last < never → comes_before row true v ≡ true → is_alive row z ≡ false
earlier_not_alive row last z v p g l t = false_unless (is_alive row z) (λ a. contra (bytes_eq z.row row) (z.to == never) refl refl a)
  where
    contra : (b c : Bool) → b ≡ bytes_eq z.row row → c ≡ (z.to == never) → is_alive row z ≡ true → ⊥
    contra false c e f a = not_both (is_alive row z) a (rw (← e) refl)
    contra true false e f a = not_both (is_alive row z) a (rw (← e, ← f) refl)
    contra true true e f a =
        let s : z.row ≡ row = (bytes_eq-Decides z.row row).0 (sym e) in
        let n : z.to ≡ never = grind (arith, nat_tests) in
        let below : is_below z.row v.row ≡ false = subst (λ r. is_below r v.row ≡ false) (sym s) (was_false (is_below row v.row) t) in
        let same : z.row ≡ v.row = same_unless_below z.row v.row below p.not_above in
        let k = p.apart same in
        absurd (omega (arith, k, n, l, g.from_given))

kept_open : (row : List ℕ) (stamp : ℕ) (vs : List RowVersion) → Each (λ w. is_alive row w ≡ false) vs → closed row stamp vs ≡ vs
kept_open row stamp [] h = refl
kept_open row stamp (v ∷ vs) h = rw h.0 (ap (λ l. v ∷ l) (kept_open row stamp vs h.1))

pub closed_is : (row : List ℕ) (stamp last : ℕ) (zs : List RowVersion) (v : RowVersion) (ys : List RowVersion) → IsOrdered (zs ++ (v ∷ ys)) → IsGiven last v → last < never
    → comes_before row true v ≡ true → Each (λ w. comes_before row true w ≡ false) ys → has_alive row (zs ++ (v ∷ ys)) ≡ true
    → closed row stamp (zs ++ (v ∷ ys)) ≡ zs ++ (ended_at stamp v ∷ ys)
closed_is row stamp last [] v ys o g l t f a =
    let n = all_then (λ w. comes_before row true w ≡ false) (λ w. is_alive row w ≡ false) (later_not_alive row) ys f in
    let here : is_alive row v ≡ true = true_unless (is_alive row v) (λ e. not_both (has_alive row (v ∷ ys)) a (rw e (none_alive row ys n))) in
    rw here (ap (λ l. ended_at stamp v ∷ l) (kept_open row stamp ys n))
closed_is row stamp last (z ∷ zs) v ys o g l t f a =
    let p : Precedes z v = (all_right (Precedes z) zs (v ∷ ys) o.0).0 in
    let n = earlier_not_alive row last z v p g l t in
    rw n (ap (λ l. z ∷ l) (closed_is row stamp last zs v ys o.1 g l t f (rw n at a)))

pub closed_ordered : (row : List ℕ) (stamp : ℕ) (zs : List RowVersion) (v : RowVersion) (ys : List RowVersion) → IsOrdered (zs ++ (v ∷ ys))
    → comes_before row true v ≡ true → Each (λ w. comes_before row true w ≡ false) ys → IsOrdered (zs ++ (ended_at stamp v ∷ ys))
closed_ordered row stamp [] v ys o t f = (all_both (Precedes v) (λ w. comes_before row true w ≡ false) (Precedes (ended_at stamp v)) each ys o.0 f, o.1)
  where
    each : (w : RowVersion) → Precedes v w → comes_before row true w ≡ false → Precedes (ended_at stamp v) w
    each w p f = record {
      not_above = p.not_above;
      apart = λ e. absurd (not_both (is_below row w.row) (was_true (is_below row w.row) f) (subst (λ r. is_below row r ≡ false) e (was_false (is_below row v.row) t)));
    }
closed_ordered row stamp (z ∷ zs) v ys o t f =
    let h = all_right (Precedes z) zs (v ∷ ys) o.0 in
    (each_append (Precedes z) zs (ended_at stamp v ∷ ys) (all_left (Precedes z) zs (v ∷ ys) o.0) (record { not_above = h.0.not_above; apart = h.0.apart }, h.1), closed_ordered row stamp zs v ys o.1 t f)

pub closed_given : (stamp last : ℕ) (zs : List RowVersion) (v : RowVersion) (ys : List RowVersion) → last ≤ stamp → Each (IsGiven last) (zs ++ (v ∷ ys)) → Each (IsGiven stamp) (zs ++ (ended_at stamp v ∷ ys))
closed_given stamp last zs v ys h g =
    let m = all_then (IsGiven last) (IsGiven stamp) (λ w. given_more last stamp w h) (zs ++ (v ∷ ys)) g in
    let r = all_right (IsGiven stamp) zs (v ∷ ys) m in
    each_append (IsGiven stamp) zs (ended_at stamp v ∷ ys) (all_left (IsGiven stamp) zs (v ∷ ys) m) (record { from_given = r.0.from_given; to_given = λ n. omega arith }, r.1)

-- ---- undoing and trimming

-- what the undoing of a stamp keeps
record IsUndone (stamp : ℕ) (v x : RowVersion) : Type 0 where
  row : x.row ≡ v.row
  from : x.from ≡ v.from
  other : v.from ≡ stamp → ⊥
  to : (v.to ≡ stamp → ⊥) → x.to ≡ v.to
  reopened : v.to ≡ stamp → x.to ≡ never

some_same : (x y : RowVersion) → Some x ≡ Some y → x ≡ y
some_same x y e = cc

none_some : (x : RowVersion) → None ≡ Some x → ⊥
none_some x e = cc

undone_is : (stamp : ℕ) (v x : RowVersion) → kept (Undo stamp) v ≡ Some x → IsUndone stamp v x
undone_is stamp v x k = by (v.from == stamp) (v.to == stamp) refl refl k
  where
    by : (b c : Bool) → b ≡ (v.from == stamp) → c ≡ (v.to == stamp) → kept (Undo stamp) v ≡ Some x → IsUndone stamp v x
    by true c e f k = absurd (none_some x (rw (← e) at k))
    by false true e f k =
        let s = some_same (ended_at never v) x (rw (← e, ← f) at k) in
        let n : v.from ≡ stamp → ⊥ = λ h. grind (arith, nat_tests) in
        let m : v.to ≡ stamp = grind (arith, nat_tests) in
        record { row = sym (ap (λ (w : RowVersion). w.row) s); from = sym (ap (λ (w : RowVersion). w.from) s); other = n; to = λ h. absurd (h m); reopened = λ h. sym (ap (λ (w : RowVersion). w.to) s) }
    by false false e f k =
        let s = some_same (ended_at v.to v) x (rw (← e, ← f) at k) in
        let n : v.from ≡ stamp → ⊥ = λ h. grind (arith, nat_tests) in
        let m : v.to ≡ stamp → ⊥ = λ h. grind (arith, nat_tests) in
        record { row = sym (ap (λ (w : RowVersion). w.row) s); from = sym (ap (λ (w : RowVersion). w.from) s); other = n; to = λ h. sym (ap (λ (w : RowVersion). w.to) s); reopened = λ h. absurd (m h) }

undo_precedes : (stamp last : ℕ) → last ≤ stamp → (v x w y : RowVersion) → IsGiven last v → kept (Undo stamp) v ≡ Some x → IsGiven last w → Precedes v w → kept (Undo stamp) w ≡ Some y → Precedes x y
undo_precedes stamp last l v x w y g k h p m =
    let a = undone_is stamp v x k in
    let b = undone_is stamp w y m in
    record {
      not_above = rw (a.row, b.row) p.not_above;
      apart = λ e.
          let q = p.apart (sym a.row ∙ e ∙ b.row) in
          let n : v.to ≡ stamp → ⊥ = λ z. b.other (omega (arith, z, q, h.from_given, l)) in
          omega (arith, a.to n, b.from, q);
    }

undo_given : (stamp last : ℕ) → last ≤ stamp → (v x : RowVersion) → IsGiven last v → kept (Undo stamp) v ≡ Some x → IsGiven stamp x
undo_given stamp last l v x g k =
    let a = undone_is stamp v x k in
    record {
      from_given = omega (arith, a.from, g.from_given, l);
      to_given = λ n.
          let m : v.to ≡ stamp → ⊥ = λ z. n (a.reopened z) in
          let t = a.to m in
          let q = g.to_given (λ z. n (t ∙ z)) in
          omega (arith, t, q, l);
    }

trim_same : (floor : ℕ) (v x : RowVersion) → kept (Trim floor) v ≡ Some x → v ≡ x
trim_same floor v x k = by (nat_lt floor v.to) refl k
  where
    by : (b : Bool) → b ≡ nat_lt floor v.to → kept (Trim floor) v ≡ Some x → v ≡ x
    by true e k = some_same v x (rw (← e) at k)
    by false e k = absurd (none_some x (rw (← e) at k))

pub trimmed_is : (floor : ℕ) (vs : List RowVersion) → changed (Trim floor) vs ≡ trimmed floor vs
trimmed_is floor [] = refl
trimmed_is floor (v ∷ vs) = by (nat_lt floor v.to) refl (trimmed_is floor vs)
  where
    by : (b : Bool) → b ≡ nat_lt floor v.to → changed (Trim floor) vs ≡ trimmed floor vs → changed (Trim floor) (v ∷ vs) ≡ trimmed floor (v ∷ vs)
    by true e i = rw (← e) (ap (λ l. v ∷ l) i)
    by false e i = rw (← e) i

pub undo_ordered : (stamp last : ℕ) (vs : List RowVersion) → last ≤ stamp → Each (IsGiven last) vs → IsOrdered vs → IsOrdered (changed (Undo stamp) vs)
undo_ordered stamp last vs l g o = map_ordered (kept (Undo stamp)) (IsGiven last) (λ v x w y. undo_precedes stamp last l v x w y) vs g o

pub undo_all_given : (stamp last : ℕ) (vs : List RowVersion) → last ≤ stamp → Each (IsGiven last) vs → Each (IsGiven stamp) (changed (Undo stamp) vs)
undo_all_given stamp last vs l g = map_each (kept (Undo stamp)) (IsGiven last) (IsGiven stamp) (undo_given stamp last l) vs g

pub trim_ordered : (floor last : ℕ) (vs : List RowVersion) → Each (IsGiven last) vs → IsOrdered vs → IsOrdered (changed (Trim floor) vs)
trim_ordered floor last vs g o = map_ordered (kept (Trim floor)) (IsGiven last)
    (λ v x w y a k b p m. subst (λ z. Precedes z y) (trim_same floor v x k) (subst (λ z. Precedes v z) (trim_same floor w y m) p)) vs g o

pub trim_all_given : (floor last : ℕ) (vs : List RowVersion) → Each (IsGiven last) vs → Each (IsGiven last) (changed (Trim floor) vs)
trim_all_given floor last vs g = map_each (kept (Trim floor)) (IsGiven last) (IsGiven last) (λ v x a k. subst (IsGiven last) (trim_same floor v x k) a) vs g
