-- What a conflict says, commit by commit.
use Rattle.std.specs.Prelude.{◌≡◌, ℕ, ◌+◌, ◌<◌, ◌≤◌, List, [], ◌∷◌, ◌++◌, Bool, true, false, cond, nat_lt, length, take, slice_get}
use Rattle.std.specs.Prelude.{Option, Some, None, refl, ◌⊎◌}
use Rattle.std.proofs.Common.{zero, suc, sym, ap, ◌∙◌, inl, inr, arith}
use Rattle.std.specs.Option.{option_or, option_map}
use Rattle.std.proofs.lemmas.Bool.{ltb-false}
use Rattle.ds_base.specs.Keys.{KeyParts}
use Rattle.ds_log.specs.declared.Commit.{Commit}
use Rattle.ds_log.specs.declared.Touch.{Touch}
use Rattle.ds_log.specs.declared.Conflict.{Conflict}
use Rattle.ds_log.specs.Conflicts.{writes_group, last_writer_from, last_writer, after_place, conflict_from, conflict_of}

never : {A : Type 0} (x : A) → Some x ≡ None → ⊥
never x e = cc

-- with one commit more, the last writer of a group is that commit where it writes the group, else as before
pub last_writer_from-push : (n : ℕ) (earlier : Option ℕ) (g : KeyParts) (cs : List Commit) (c : Commit)
    → last_writer_from n earlier g (cs ++ c ∷ []) ≡ cond (writes_group g c.writes) (Some (n + length cs)) (last_writer_from n earlier g cs)
last_writer_from-push n earlier g [] c = ap (λ m. cond (writes_group g c.writes) (Some m) earlier) (let e : n ≡ n + 0 = omega arith in e)
last_writer_from-push n earlier g (b ∷ cs) c =
    last_writer_from-push (n + 1) (cond (writes_group g b.writes) (Some n) earlier) g cs c
    ∙ ap (λ m. cond (writes_group g c.writes) (Some m) (last_writer_from (n + 1) (cond (writes_group g b.writes) (Some n) earlier) g cs))
    (let e : n + 1 + length cs ≡ n + length (b ∷ cs) = omega arith in e)

pub last_writer-push : (journal : List Commit) (g : KeyParts) (c : Commit)
    → last_writer (journal ++ c ∷ []) g ≡ cond (writes_group g c.writes) (Some (length journal + 1)) (last_writer journal g)
last_writer-push journal g c =
    last_writer_from-push 1 None g journal c
    ∙ ap (λ m. cond (writes_group g c.writes) (Some m) (last_writer journal g))
    (let e : 1 + length journal ≡ length journal + 1 = omega arith in e)

-- where no commit is told, none of them wrote the group
pub last_writer_from-None : (n : ℕ) (earlier : Option ℕ) (g : KeyParts) (cs : List Commit) → last_writer_from n earlier g cs ≡ None
    → (earlier ≡ None) × ((i : ℕ) (c : Commit) → slice_get cs i ≡ Some c → writes_group g c.writes ≡ false)
last_writer_from-None n earlier g [] none = (none, λ i c at. absurd (nowhere i c at)) where
  nowhere : (i : ℕ) (c : Commit) → slice_get [] i ≡ Some c → ⊥
  nowhere i c at = cc
last_writer_from-None n earlier g (b ∷ cs) none =
    by (writes_group g b.writes) refl (last_writer_from-None (n + 1) (cond (writes_group g b.writes) (Some n) earlier) g cs none)
  where
    by : (w : Bool) → writes_group g b.writes ≡ w → (cond w (Some n) earlier ≡ None)
        × ((i : ℕ) (c : Commit) → slice_get cs i ≡ Some c → writes_group g c.writes ≡ false)
        → (earlier ≡ None) × ((i : ℕ) (c : Commit) → slice_get (b ∷ cs) i ≡ Some c → writes_group g c.writes ≡ false)
    by true is (some, rest) = absurd (never n some)
    by false is (none', rest) = (none', at_each)
      where
        at_each : (i : ℕ) (c : Commit) → slice_get (b ∷ cs) i ≡ Some c → writes_group g c.writes ≡ false
        at_each zero c at = cc
        at_each (suc i) c at = rest i c at

-- the commit that is told is no earlier than the one that was told before
pub last_writer_from-rises : (n m : ℕ) (g : KeyParts) (cs : List Commit) (k : ℕ) → m ≤ n → last_writer_from n (Some m) g cs ≡ Some k → m ≤ k
last_writer_from-rises n m g [] k low told = (let e : m ≡ k = cc in omega arith)
last_writer_from-rises n m g (b ∷ cs) k low told =
    by (writes_group g b.writes) refl (λ v bound here. last_writer_from-rises (n + 1) v g cs k bound here)
  where
    by : (w : Bool) → writes_group g b.writes ≡ w → ((v : ℕ) → v ≤ n + 1 → last_writer_from (n + 1) (Some v) g cs ≡ Some k → v ≤ k) → m ≤ k
    by true is later =
        let here : last_writer_from (n + 1) (Some n) g cs ≡ Some k =
        sym (ap (λ v. last_writer_from (n + 1) (cond v (Some n) (Some m)) g cs) is) ∙ told in
        let above : n ≤ k = later n (omega arith) here in
        omega arith
    by false is later =
        let here : last_writer_from (n + 1) (Some m) g cs ≡ Some k =
        sym (ap (λ v. last_writer_from (n + 1) (cond v (Some n) (Some m)) g cs) is) ∙ told in
        later m (omega arith) here

-- no commit after the one that is told wrote the group
pub last_writer_from-Some : (n : ℕ) (earlier : Option ℕ) (g : KeyParts) (cs : List Commit) (k : ℕ)
    → last_writer_from n earlier g cs ≡ Some k
    → (i : ℕ) (c : Commit) → slice_get cs i ≡ Some c → k < n + i → writes_group g c.writes ≡ false
last_writer_from-Some n earlier g [] k told i c at after = absurd (nowhere i c at) where
  nowhere : (i : ℕ) (c : Commit) → slice_get [] i ≡ Some c → ⊥
  nowhere i c at = cc
last_writer_from-Some n earlier g (b ∷ cs) k told (suc i) c at after =
    last_writer_from-Some (n + 1) (cond (writes_group g b.writes) (Some n) earlier) g cs k told i c at (omega arith)
last_writer_from-Some n earlier g (b ∷ cs) k told zero c at after = by (writes_group g b.writes) refl where
  by : (w : Bool) → writes_group g b.writes ≡ w → writes_group g c.writes ≡ false
  by false is = let here : b ≡ c = cc in sym (ap (λ (d : Commit). writes_group g d.writes) here) ∙ is
  by true is =
      let here : last_writer_from (n + 1) (Some n) g cs ≡ Some k =
      sym (ap (λ v. last_writer_from (n + 1) (cond v (Some n) earlier) g cs) is) ∙ told in
      let above : n ≤ k = last_writer_from-rises (n + 1) n g cs k (omega arith) here in
      absurd (omega arith)

-- and the one that is told wrote it, or was told before
pub last_writer_from-wrote : (n : ℕ) (earlier : Option ℕ) (g : KeyParts) (cs : List Commit) (k : ℕ)
    → last_writer_from n earlier g cs ≡ Some k
    → (earlier ≡ Some k) ⊎ ((i : ℕ) × (c : Commit) × (k ≡ n + i) × (slice_get cs i ≡ Some c) × (writes_group g c.writes ≡ true))
last_writer_from-wrote n earlier g [] k told = inl told
last_writer_from-wrote n earlier g (b ∷ cs) k told =
    by (writes_group g b.writes) refl (last_writer_from-wrote (n + 1) (cond (writes_group g b.writes) (Some n) earlier) g cs k told)
  where
    by : (w : Bool) → writes_group g b.writes ≡ w → (cond w (Some n) earlier ≡ Some k)
        ⊎ ((i : ℕ) × (c : Commit) × (k ≡ n + 1 + i) × (slice_get cs i ≡ Some c) × (writes_group g c.writes ≡ true))
        → (earlier ≡ Some k) ⊎ ((i : ℕ) × (c : Commit) × (k ≡ n + i) × (slice_get (b ∷ cs) i ≡ Some c) × (writes_group g c.writes ≡ true))
    by w is (inr (i, c, e, at, wrote)) = inr (suc i, c, omega arith, at, wrote)
    by true is (inl e) = inr (zero, b, (let same : n ≡ k = cc in omega arith), refl, is)
    by false is (inl e) = inl e

-- a touched group conflicts with no commit exactly where none at or after its touch place wrote it
pub untouched_since : (journal : List Commit) (g : KeyParts) (m : ℕ) → after_place m (last_writer journal g) ≡ None
    → (n : ℕ) (c : Commit) → slice_get journal n ≡ Some c → m ≤ n → writes_group g c.writes ≡ false
untouched_since journal g m none n c at low = by (last_writer journal g) refl where
  by : (last : Option ℕ) → last_writer journal g ≡ last → writes_group g c.writes ≡ false
  by None is = (last_writer_from-None 1 None g journal is).1 n c at
  by (Some k) is = at_place (nat_lt m k) refl where
    at_place : (b : Bool) → nat_lt m k ≡ b → writes_group g c.writes ≡ false
    at_place true lt = absurd (never k (sym (ap (λ v. cond v (Some k) None) lt) ∙ sym (ap (after_place m) is) ∙ none))
    at_place false lt = last_writer_from-Some 1 None g journal k is n c at (let high : k ≤ m = ltb-false m k lt in omega arith)

abbrev told : ℕ → ℕ → ℕ → Conflict
told i place n = record { group = i; commit = n; place = place }

-- where touched groups have no conflict, no commit at or after a group's touch place wrote it
pub conflict_from-None : (last : KeyParts → Option ℕ) (place i : ℕ) (touched : List Touch) → conflict_from last place i touched ≡ None
    → (k : ℕ) (t : Touch) → slice_get touched k ≡ Some t → after_place t.place (last t.group) ≡ None
conflict_from-None last place i [] none k t at = absurd (nowhere k t at) where
  nowhere : (k : ℕ) (t : Touch) → slice_get [] k ≡ Some t → ⊥
  nowhere k t at = cc
conflict_from-None last place i (u ∷ us) none k t at =
    by (after_place u.place (last u.group)) refl (λ none' k at. conflict_from-None last place (i + 1) us none' k t at) k at
  where
    by : (a : Option ℕ) → after_place u.place (last u.group) ≡ a
        → (conflict_from last place (i + 1) us ≡ None → (k : ℕ) → slice_get us k ≡ Some t → after_place t.place (last t.group) ≡ None)
        → (k : ℕ) → slice_get (u ∷ us) k ≡ Some t → after_place t.place (last t.group) ≡ None
    by (Some n) is rest k at =
        absurd (never (told i place n)
        (sym (ap (λ a. option_or (option_map (told i place) a) (conflict_from last place (i + 1) us)) is) ∙ none))
    by None is rest zero at = let here : u ≡ t = cc in sym (ap (λ (v : Touch). after_place v.place (last v.group)) here) ∙ is
    by None is rest (suc k) at =
        rest (sym (ap (λ a. option_or (option_map (told i place) a) (conflict_from last place (i + 1) us)) is) ∙ none) k at

pub conflict_of-None : (journal : List Commit) (touched : List Touch) → conflict_of journal touched ≡ None
    → (k : ℕ) (t : Touch) → slice_get touched k ≡ Some t → (n : ℕ) (c : Commit) → slice_get journal n ≡ Some c → t.place ≤ n
    → writes_group t.group c.writes ≡ false
conflict_of-None journal touched none k t at =
    untouched_since journal t.group t.place (conflict_from-None (last_writer journal) (length journal) 0 touched none k t at)

-- the conflict of touched groups is the first one's that has one
pub conflict_from-Some : (last : KeyParts → Option ℕ) (place i : ℕ) (touched : List Touch) (x : Conflict)
    → conflict_from last place i touched ≡ Some x
    → (k : ℕ) × (t : Touch) × (x.group ≡ i + k) × (slice_get touched k ≡ Some t)
    × (after_place t.place (last t.group) ≡ Some x.commit) × (x.place ≡ place)
    × (conflict_from last place i (take k touched) ≡ None)
conflict_from-Some last place i [] x found = absurd (never x (sym found))
conflict_from-Some last place i (u ∷ us) x found =
    by (after_place u.place (last u.group)) refl (λ found'. conflict_from-Some last place (i + 1) us x found')
  where
    by : (a : Option ℕ) → after_place u.place (last u.group) ≡ a
        → (conflict_from last place (i + 1) us ≡ Some x → (k : ℕ) × (t : Touch) × (x.group ≡ i + 1 + k) × (slice_get us k ≡ Some t)
        × (after_place t.place (last t.group) ≡ Some x.commit) × (x.place ≡ place)
        × (conflict_from last place (i + 1) (take k us) ≡ None))
        → (k : ℕ) × (t : Touch) × (x.group ≡ i + k) × (slice_get (u ∷ us) k ≡ Some t)
        × (after_place t.place (last t.group) ≡ Some x.commit) × (x.place ≡ place)
        × (conflict_from last place i (take k (u ∷ us)) ≡ None)
    by (Some n) is rest =
        let here : Some (told i place n) ≡ Some x =
        sym (ap (λ a. option_or (option_map (told i place) a) (conflict_from last place (i + 1) us)) is) ∙ found in
        let same : told i place n ≡ x = cc in (
          zero,
          u,
          (let e : i ≡ i + 0 = omega arith in sym (ap (λ (y : Conflict). y.group) same) ∙ e),
          refl,
          is
              ∙ ap (λ (y : Conflict). Some y.commit) same,
          sym (ap (λ (y : Conflict). y.place) same),
          refl,
        )
    by None is rest = with_rest
        (rest (sym (ap (λ a. option_or (option_map (told i place) a) (conflict_from last place (i + 1) us)) is) ∙ found)) where
          with_rest : (k : ℕ) × (t : Touch) × (x.group ≡ i + 1 + k) × (slice_get us k ≡ Some t)
              × (after_place t.place (last t.group) ≡ Some x.commit) × (x.place ≡ place)
              × (conflict_from last place (i + 1) (take k us) ≡ None)
              → (k : ℕ) × (t : Touch) × (x.group ≡ i + k) × (slice_get (u ∷ us) k ≡ Some t)
              × (after_place t.place (last t.group) ≡ Some x.commit) × (x.place ≡ place)
              × (conflict_from last place i (take k (u ∷ us)) ≡ None)
          with_rest (k, t, e, at, after, p, none) = (
            suc k,
            t,
            (let f : i + 1 + k ≡ i + suc k = omega arith in e ∙ f),
            at,
            after,
            p,
            ap
                (λ a. option_or (option_map (told i place) a) (conflict_from last place (i + 1) (take k us))) is ∙ none,
          )
