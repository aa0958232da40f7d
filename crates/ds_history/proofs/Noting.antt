-- Numbers that are noted for a group, one commit after another.
use Rattle.std.proofs.Common.{◌≡◌, ℕ, zero, suc, ◌+◌, ◌<◌, ◌≤◌, Bool, true, false, ◌||◌, cond, List, [], ◌∷◌, ◌++◌, length, take, get_or}
use Rattle.std.proofs.Common.{refl, ap, sym, ◌∙◌, arith, eq-eqb, ne_eqb}
use Rattle.std.specs.Prelude.{fold}
use Rattle.std.specs.List.{list_any}
use Rattle.std.proofs.lemmas.List.{take_more}
use Rattle.ds_base.specs.Keys.{KeyParts}
use Rattle.ds_base.specs.KeyOrder.{same_key}
use Rattle.ds_log.specs.declared.Commit.{Commit}
use Rattle.ds_log.specs.declared.Write.{Write}
use Rattle.ds_log.specs.Conflicts.{writes_group}
use Rattle.ds_log.specs.Logs.{group_of}
use Rattle.ds_log.specs.UpTo.{last_number}
use Rattle.std.specs.Prelude.{Result, Ok, Err, OnOk}
use Rattle.std.specs.declared.alloc.AllocError.{AllocError}
use Rattle.ds_log.specs.ShardCommits.{CommitsParts}
use Rattle.ds_model.proofs.GroupViews.{same_key-equal}
use Rattle.ds_history.specs.Writers.{noted_in, with_number, writers_from, writers_of}

-- ---- one number more

last_from : (xs : List ℕ) (a n : ℕ) → fold (λ m c. c) a (xs ++ n ∷ []) ≡ n
last_from [] a n = refl
last_from (x ∷ xs) a n = last_from xs x n

-- a number stands there only once
again : (xs : List ℕ) (n : ℕ) → with_number n (xs ++ n ∷ []) ≡ xs ++ n ∷ []
again xs n =
    ap (λ b. cond b (xs ++ n ∷ []) ((xs ++ n ∷ []) ++ n ∷ [])) (eq-eqb (last_number (xs ++ n ∷ [])) n (last_from xs 0 n))

anew : (xs : List ℕ) (n : ℕ) → last_number xs < n → with_number n xs ≡ xs ++ n ∷ []
anew xs n low = ap (λ b. cond b xs (xs ++ n ∷ [])) (ne_eqb (last_number xs) n (λ e. omega (arith, low, e)))

-- ---- the writes of a commit

abbrev pub once : Bool → ℕ → List ℕ → List ℕ
once b n xs = cond b (xs ++ n ∷ []) xs

pub once_low : (b : Bool) (n : ℕ) (xs : List ℕ) → last_number xs < n → last_number (once b n xs) ≤ n
once_low true n xs low = omega (arith, last_from xs 0 n)
once_low false n xs low = omega (arith, low)

once_more : (b c : Bool) (n : ℕ) (xs : List ℕ) → last_number xs < n → cond c (with_number n (once b n xs)) (once b n xs) ≡ once (b || c) n xs
once_more true true n xs low = again xs n
once_more true false n xs low = refl
once_more false true n xs low = anew xs n low
once_more false false n xs low = refl

any-append : (p : Write → Bool) (xs : List Write) (w : Write) → list_any p (xs ++ w ∷ []) ≡ (list_any p xs || p w)
any-append p [] w = by (p w) where
  by : (b : Bool) → (b || false) ≡ (false || b)
  by true = refl
  by false = refl
any-append p (x ∷ xs) w = ap (λ b. p x || b) (any-append p xs w) ∙ joined (p x) (list_any p xs) (p w) where
  joined : (a b c : Bool) → (a || (b || c)) ≡ ((a || b) || c)
  joined true b c = refl
  joined false b c = refl

pub noted_write : (g : KeyParts) (ws : List Write) (i : ℕ) (w d : Write) (n : ℕ) (first now after : List ℕ) → i < length ws → w ≡ get_or ws i d
    → last_number first < n → now ≡ once (writes_group g (take i ws)) n first
    → after ≡ cond (same_key (group_of w) g) (with_number n now) now → after ≡ once (writes_group g (take (i + 1) ws)) n first
noted_write g ws i w d n first now after below is low so_far more =
    more
    ∙ ap (λ ns. cond (same_key (group_of w) g) (with_number n ns) ns) so_far
    ∙ once_more (writes_group g (take i ws)) (same_key (group_of w) g) n first low
    ∙ ap (λ b. once b n first) (sym (any-append (λ v. same_key (group_of v) g) (take i ws) w))
    ∙ ap (λ vs. once (writes_group g vs) n first) (ap (λ v. take i ws ++ v ∷ []) is ∙ sym (take_more ws i d below))

-- ---- the commits of a journal

low_from : (n a : ℕ) (g : KeyParts) (cs : List Commit) → a < n → fold (λ m c. c) a (writers_from n g cs) < n + length cs
low_from n a g [] low = omega (arith, low)
low_from n a g (c ∷ cs) low = by (low_from (n + 1) n g cs (omega arith)) (low_from (n + 1) a g cs (omega (arith, low))) (writes_group g c.writes) where
  by : fold (λ m c. c) n (writers_from (n + 1) g cs) < n + 1 + length cs → fold (λ m c. c) a (writers_from (n + 1) g cs) < n + 1 + length cs → (b : Bool)
      → fold (λ m c. c) a (cond b (n ∷ writers_from (n + 1) g cs) (writers_from (n + 1) g cs)) < n + suc (length cs)
  by first later true = omega (arith, first)
  by first later false = omega (arith, later)

-- the last writer of so many commits has no greater number
pub writers_low : (g : KeyParts) (cs : List Commit) → last_number (writers_of g cs) < 1 + length cs
writers_low g cs = low_from 1 0 g cs (omega arith)

pushed_from : (n : ℕ) (g : KeyParts) (cs : List Commit) (c : Commit)
    → writers_from n g (cs ++ c ∷ []) ≡ once (writes_group g c.writes) (n + length cs) (writers_from n g cs)
pushed_from n g [] c = ap (λ m. cond (writes_group g c.writes) (m ∷ []) []) (let e : n ≡ n + 0 = omega arith in e)
pushed_from n g (d ∷ cs) c =
    ap (λ ns. cond (writes_group g d.writes) (n ∷ ns) ns)
    (pushed_from (n + 1) g cs c ∙ ap (λ m. once (writes_group g c.writes) m (writers_from (n + 1) g cs)) (let e : n + 1 + length cs ≡ n + suc (length cs) = omega arith in e))
    ∙ turned (writes_group g d.writes) (writes_group g c.writes) (n + suc (length cs)) (writers_from (n + 1) g cs)
  where
    turned : (a b : Bool) (m : ℕ) (ns : List ℕ) → cond a (n ∷ once b m ns) (once b m ns) ≡ once b m (cond a (n ∷ ns) ns)
    turned true true m ns = refl
    turned true false m ns = refl
    turned false b m ns = refl

pub noted_commit : (g : KeyParts) (journal : List Commit) (i : ℕ) (c d : Commit) (now after : List ℕ) → i < length journal → c ≡ get_or journal i d
    → now ≡ writers_of g (take i journal) → after ≡ once (writes_group g c.writes) (i + 1) now → after ≡ writers_of g (take (i + 1) journal)
noted_commit g journal i c d now after below is so_far more =
    more
    ∙ ap (once (writes_group g c.writes) (i + 1)) so_far
    ∙ ap (λ m. once (writes_group g c.writes) m (writers_of g (take i journal))) (let e : i + 1 ≡ 1 + length (take i journal) = omega (arith, taken i journal below) in e)
    ∙ sym (pushed_from 1 g (take i journal) c)
    ∙ ap (writers_of g) (ap (λ x. take i journal ++ x ∷ []) is ∙ sym (take_more journal i d below))
  where
    taken : (i : ℕ) (cs : List Commit) → i < length cs → length (take i cs) ≡ i
    taken i [] below = absurd (omega (arith, below))
    taken zero (x ∷ cs) below = refl
    taken (suc i) (x ∷ cs) below = ap suc (taken i cs (let w : i < length cs = omega (arith, below) in w))

pub before_commit : (g : KeyParts) (journal : List Commit) (i : ℕ) (now : List ℕ) → now ≡ writers_of g (take i journal) → last_number now < i + 1
before_commit g journal i now so_far =
    let low = writers_low g (take i journal) in
    omega (arith, ap last_number so_far, low, few i journal)
  where
    few : (i : ℕ) (cs : List Commit) → length (take i cs) ≤ i
    few zero cs = omega arith
    few (suc i) [] = omega arith
    few (suc i) (x ∷ cs) = let rest = few i cs in omega (arith, rest)

-- ---- a group's numbers are taken out, and put back with one more

pub noted_one : (group : KeyParts) (n : ℕ) (old mid new : List (KeyParts × CommitsParts)) (taken more : List ℕ) (r : Result (Unit {0}) AllocError)
    → taken ≡ noted_in old group → ((g : KeyParts) → noted_in mid g ≡ cond (same_key group g) [] (noted_in old g)) → more ≡ with_number n taken
    → OnOk r ((g : KeyParts) → noted_in new g ≡ cond (same_key group g) more (noted_in mid g))
    → OnOk r ((g : KeyParts) → noted_in new g ≡ cond (same_key group g) (with_number n (noted_in old g)) (noted_in old g))
noted_one group n old mid new taken more (Err e) is left with put = tt
noted_one group n old mid new taken more (Ok x) is left with put = λ g. put g ∙ by g (same_key group g) refl where
  by : (g : KeyParts) (b : Bool) → same_key group g ≡ b → cond b more (noted_in mid g) ≡ cond b (with_number n (noted_in old g)) (noted_in old g)
  by g true same = with ∙ ap (with_number n) (is ∙ ap (noted_in old) (same_key-equal group g same))
  by g false same = left g ∙ ap (λ b. cond b [] (noted_in old g)) same
