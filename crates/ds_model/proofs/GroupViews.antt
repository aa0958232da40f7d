-- What is seen of one entity group: what its own log leaves. A committed transaction read each of its groups as the group stood just
-- before its commit.
use Rattle.std.proofs.Common.{◌≡◌, ℕ, zero, suc, ◌+◌, ◌<◌, ◌≤◌, List, [], ◌∷◌, ◌++◌, length, take, drop, refl, ap, sym, ◌∙◌, subst, Bool}
use Rattle.std.proofs.Common.{true, false}
use Rattle.std.proofs.Common.{arith, Option, Some, None, cond, not}
use Rattle.std.specs.Prelude.{filter, fold, slice_get, All, ◌||◌}
use Rattle.std.specs.Option.{option_or, option_map}
use Rattle.std.specs.Ordering.{is_eq}
use Rattle.std.specs.declared.cmp.Ordering.{Ordering}
use Rattle.std.specs.declared.cmp.Ordering.TheVariants.{Less, Equal, Greater}
use Rattle.std.proofs.lemmas.Bool.{lt-ltb}
use Rattle.std.proofs.lemmas.Grind.{flat_map-append}
use Rattle.std.proofs.lemmas.List.{append-nil, length-take-le, take-append-le, take-append-drop}
use Rattle.std.proofs.lemmas.List.Elements.{All-head, All-tail, filter-append}
use Rattle.ds_base.specs.Keys.{KeyParts, root_of}
use Rattle.ds_base.specs.KeyOrder.{key_cmp, same_key}
use Rattle.ds_base.specs.KeyOrderLaws.{key_cmp-same}
use Rattle.ds_entity.specs.Entities.{EntityParts}
use Rattle.ds_log.specs.declared.Commit.{Commit}
use Rattle.ds_log.specs.declared.Conflict.{Conflict}
use Rattle.ds_log.specs.declared.Touch.{Touch}
use Rattle.ds_log.specs.declared.Write.{Write}
use Rattle.ds_log.specs.declared.Write.TheVariants.{Put, Delete}
use Rattle.ds_log.specs.After.{after, apply_write, without}
use Rattle.ds_log.specs.Conflicts.{writes_group, last_writer, last_writer_from, after_place, conflict_from, IsCommitted, IsSerial}
use Rattle.ds_log.specs.Logs.{group_of, group_writes, group_log, writes_of}
use Rattle.ds_model.specs.Views.{strong_view}

-- ---- a list of entities, cut to one group

abbrev pub in_group : KeyParts → EntityParts → Bool
in_group g e = same_key (root_of e.key) g

abbrev pub cut : KeyParts → List EntityParts → List EntityParts
cut g es = filter (in_group g) es

pub same_key-equal : (k l : KeyParts) → same_key k l ≡ true → k ≡ l
same_key-equal k l same = key_cmp-same k l (equal (key_cmp k l) same) where
  equal : (r : Ordering) → is_eq r ≡ true → r ≡ Equal
  equal Less is = cc
  equal Equal is = refl
  equal Greater is = cc

filter-turned : (p q : EntityParts → Bool) (es : List EntityParts) → filter p (filter q es) ≡ filter q (filter p es)
filter-turned p q [] = refl
filter-turned p q (e ∷ es) = by (filter-turned p q es) (p e) refl (q e) refl where
  by : filter p (filter q es) ≡ filter q (filter p es) → (a : Bool) → p e ≡ a → (b : Bool) → q e ≡ b → filter p (cond b (e ∷ filter q es) (filter q es)) ≡ filter q (cond a (e ∷ filter p es) (filter p es))
  by rest true ep true eq = ap (λ c. cond c (e ∷ filter p (filter q es)) (filter p (filter q es))) ep ∙ ap (λ fs. e ∷ fs) rest ∙ sym (ap (λ c. cond c (e ∷ filter q (filter p es)) (filter q (filter p es))) eq)
  by rest true ep false eq = rest ∙ sym (ap (λ c. cond c (e ∷ filter q (filter p es)) (filter q (filter p es))) eq)
  by rest false ep true eq = ap (λ c. cond c (e ∷ filter p (filter q es)) (filter p (filter q es))) ep ∙ rest
  by rest false ep false eq = rest

-- what is taken out of another group isn't missed
cut-other : (g k : KeyParts) (es : List EntityParts) → same_key (root_of k) g ≡ false → cut g (without k es) ≡ cut g es
cut-other g k [] other = refl
cut-other g k (e ∷ es) other = by (cut-other g k es other) (same_key e.key k) refl where
  by : cut g (without k es) ≡ cut g es → (b : Bool) → same_key e.key k ≡ b → cut g (cond (not b) (e ∷ without k es) (without k es)) ≡ cut g (e ∷ es)
  by rest true same =
      rest ∙ sym (ap (λ c. cond c (e ∷ cut g es) (cut g es)) (ap (λ (l : KeyParts). same_key (root_of l) g) (same_key-equal e.key k same) ∙ other))
  by rest false same = ap (λ fs. cond (in_group g e) (e ∷ fs) fs) rest

-- a write to the group, or to another one
cut-write : (g : KeyParts) (es : List EntityParts) (w : Write) → cut g (apply_write es w) ≡ cond (same_key (group_of w) g) (apply_write (cut g es) w) (cut g es)
cut-write g es (Put e) = filter-append (in_group g) (without e.key es) (e ∷ []) ∙ by (in_group g e) refl where
  by : (b : Bool) → in_group g e ≡ b → cut g (without e.key es) ++ cond b (e ∷ []) [] ≡ cond b (apply_write (cut g es) (Put e)) (cut g es)
  by true own = ap (λ fs. fs ++ e ∷ []) (filter-turned (in_group g) (λ x. not (same_key x.key e.key)) es)
  by false own = append-nil (cut g (without e.key es)) ∙ cut-other g e.key es own
cut-write g es (Delete k) = by (same_key (root_of k) g) refl where
  by : (b : Bool) → same_key (root_of k) g ≡ b → cut g (without k es) ≡ cond b (apply_write (cut g es) (Delete k)) (cut g es)
  by true own = filter-turned (in_group g) (λ x. not (same_key x.key k)) es
  by false own = cut-other g k es own

cut-writes : (g : KeyParts) (es : List EntityParts) (ws : List Write) → cut g (fold apply_write es ws) ≡ fold apply_write (cut g es) (group_writes g ws)
cut-writes g es [] = refl
cut-writes g es (w ∷ ws) =
    cut-writes g (apply_write es w) ws ∙ ap (λ fs. fold apply_write fs (group_writes g ws)) (cut-write g es w) ∙ by (same_key (group_of w) g)
  where
    by : (b : Bool) → fold apply_write (cond b (apply_write (cut g es) w) (cut g es)) (group_writes g ws) ≡ fold apply_write (cut g es) (cond b (w ∷ group_writes g ws) (group_writes g ws))
    by true = refl
    by false = refl

-- what writes leave of a group is what those to the group leave
pub cut_view : (g : KeyParts) (ws : List Write) → cut g (after ws) ≡ after (group_writes g ws)
cut_view g ws = cut-writes g [] ws

group_log-append : (g : KeyParts) (xs ys : List Commit) → group_log (xs ++ ys) g ≡ group_log xs g ++ group_log ys g
group_log-append g xs ys =
    ap (group_writes g) (flat_map-append (λ (c : Commit). c.writes) xs ys) ∙ filter-append (λ w. same_key (group_of w) g) (writes_of xs) (writes_of ys)

-- ---- commits that leave a group alone

pub unwritten : (g : KeyParts) (ws : List Write) → writes_group g ws ≡ false → group_writes g ws ≡ []
unwritten g [] none = refl
unwritten g (w ∷ ws) none = by (unwritten g ws) (same_key (group_of w) g) none where
  by : (writes_group g ws ≡ false → group_writes g ws ≡ []) → (b : Bool) → (b || writes_group g ws) ≡ false → cond b (w ∷ group_writes g ws) (group_writes g ws) ≡ []
  by rest true none = cc
  by rest false none = rest none

last_writer_from-append : (n : ℕ) (earlier : Option ℕ) (g : KeyParts) (xs ys : List Commit) → last_writer_from n earlier g (xs ++ ys) ≡ last_writer_from (n + length xs) (last_writer_from n earlier g xs) g ys
last_writer_from-append n earlier g [] ys = ap (λ m. last_writer_from m earlier g ys) (let e : n ≡ n + 0 = omega arith in e)
last_writer_from-append n earlier g (c ∷ xs) ys =
    let earlier' : Option ℕ = cond (writes_group g c.writes) (Some n) earlier in
    last_writer_from-append (n + 1) earlier' g xs ys
    ∙ ap (λ m. last_writer_from m (last_writer_from (n + 1) earlier' g xs) g ys) (let e : n + 1 + length xs ≡ n + length (c ∷ xs) = omega arith in e)

-- once a commit after the place wrote, the last writer is after the place
wrote_after : (m n k : ℕ) (g : KeyParts) (cs : List Commit) → m < k → m < n → after_place m (last_writer_from n (Some k) g cs) ≡ None → ⊥
wrote_after m n k g [] later next none = never (ap (λ b. cond b (Some k) None) (sym (lt-ltb m k later)) ∙ none) where
  never : Some k ≡ None → ⊥
  never e = cc
wrote_after m n k g (c ∷ cs) later next none =
    by (wrote_after m (n + 1) n g cs next (omega arith)) (wrote_after m (n + 1) k g cs later (omega arith)) (writes_group g c.writes) none
  where
    by : (after_place m (last_writer_from (n + 1) (Some n) g cs) ≡ None → ⊥) → (after_place m (last_writer_from (n + 1) (Some k) g cs) ≡ None → ⊥) →
        (b : Bool) → after_place m (last_writer_from (n + 1) (cond b (Some n) (Some k)) g cs) ≡ None → ⊥
    by now before true none = now none
    by now before false none = before none

-- where no last writer is after the place, none of the commits after it wrote the group
quiet : (m n : ℕ) (earlier : Option ℕ) (g : KeyParts) (cs : List Commit) → m < n → after_place m (last_writer_from n earlier g cs) ≡ None → group_log cs g ≡ []
quiet m n earlier g [] later none = refl
quiet m n earlier g (c ∷ cs) later none =
    filter-append (λ w. same_key (group_of w) g) c.writes (writes_of cs)
    ∙ by (wrote_after m (n + 1) n g cs later (omega arith)) (quiet m (n + 1) earlier g cs (omega arith)) (writes_group g c.writes) refl none
  where
    by : (after_place m (last_writer_from (n + 1) (Some n) g cs) ≡ None → ⊥) → (after_place m (last_writer_from (n + 1) earlier g cs) ≡ None → group_log cs g ≡ []) →
        (b : Bool) → writes_group g c.writes ≡ b → after_place m (last_writer_from (n + 1) (cond b (Some n) earlier) g cs) ≡ None → group_writes g c.writes ++ group_log cs g ≡ []
    by wrote rest true is none = absurd (wrote none)
    by wrote rest false is none = ap (λ ws. ws ++ group_log cs g) (unwritten g c.writes is) ∙ rest none

both_none : (i place : ℕ) (o : Option ℕ) (rest : Option Conflict) → option_or (option_map (λ n. record { group = i; commit = n; place = place }) o) rest ≡ None → (o ≡ None) × (rest ≡ None)
both_none i place None rest none = (refl, none)
both_none i place (Some n) rest none = cc

untouched : (last : KeyParts → Option ℕ) (place i : ℕ) (ts : List Touch) (j : ℕ) (t : Touch) → conflict_from last place i ts ≡ None → slice_get ts j ≡ Some t → after_place t.place (last t.group) ≡ None
untouched last place i [] j t none is = cc
untouched last place i (u ∷ ts) zero t none is =
    let same : u ≡ t = cc in
    subst (λ (v : Touch). after_place v.place (last v.group) ≡ None) same (both_none i place (after_place u.place (last u.group)) (conflict_from last place (i + 1) ts) none).0
untouched last place i (u ∷ ts) (suc j) t none is =
    untouched last place (i + 1) ts j t (both_none i place (after_place u.place (last u.group)) (conflict_from last place (i + 1) ts) none).1 is

touch_within : (n : ℕ) (ts : List Touch) (j : ℕ) (t : Touch) → All (λ (u : Touch). u.place ≤ n) ts → slice_get ts j ≡ Some t → t.place ≤ n
touch_within n [] j t all is = cc
touch_within n (u ∷ ts) zero t all is =
    let same : u ≡ t = cc in subst (λ (v : Touch). v.place ≤ n) same (All-head (λ (v : Touch). v.place ≤ n) u ts all)
touch_within n (u ∷ ts) (suc j) t all is = touch_within n ts j t (All-tail (λ (v : Touch). v.place ≤ n) u ts all) is

-- ---- transactions

-- nothing was written to a touched group between its touch place and the commit
pub nothing_between : (before : List Commit) (c : Commit) (j : ℕ) (t : Touch) → IsCommitted before c → slice_get c.touched j ≡ Some t → group_log (drop t.place before) t.group ≡ []
nothing_between before c j t committed is =
    let within : t.place ≤ length before = touch_within (length before) c.touched j t committed.touched_before is in
    let whole = take-append-drop t.place before in
    let first : length (take t.place before) ≡ t.place = length-take-le t.place before within in
    quiet t.place (1 + length (take t.place before)) (last_writer_from 1 None t.group (take t.place before)) t.group (drop t.place before) (omega (arith, first))
    (ap (after_place t.place) (sym (last_writer_from-append 1 None t.group (take t.place before) (drop t.place before)))
    ∙ ap (λ cs. after_place t.place (last_writer cs t.group)) whole
    ∙ untouched (last_writer before) (length before) 0 c.touched j t committed.serial is)

-- Each read of a committed transaction gives what stood just before its commit: of each group that it touched, the strong view at
-- the touch place is the one at the place before the commit.
pub transaction_reads : (journal : List Commit) (i : ℕ) (c : Commit) (j : ℕ) (t : Touch) → IsSerial journal → slice_get journal i ≡ Some c → slice_get c.touched j ≡ Some t →
    cut t.group (strong_view journal t.place) ≡ cut t.group (strong_view journal i)
transaction_reads journal i c j t serial at is =
    let before : List Commit = take i journal in
    let committed = serial i c at in
    let within : t.place ≤ length before = touch_within (length before) c.touched j t committed.touched_before is in
    let first : take t.place journal ≡ take t.place before =
    ap (take t.place) (sym (take-append-drop i journal)) ∙ take-append-le {A = Commit} t.place before (drop i journal) within in
    cut_view t.group (writes_of (take t.place journal))
    ∙ ap after (ap (λ cs. group_log cs t.group) first
    ∙ sym (append-nil (group_log (take t.place before) t.group))
    ∙ ap (λ ws. group_log (take t.place before) t.group ++ ws) (sym (nothing_between before c j t committed is))
    ∙ sym (group_log-append t.group (take t.place before) (drop t.place before))
    ∙ ap (λ cs. group_log cs t.group) (take-append-drop t.place before))
    ∙ sym (cut_view t.group (writes_of before))
