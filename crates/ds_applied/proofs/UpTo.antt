-- How many entries are of the first commits, found by bisection: commits of entries ascend.
use Rattle.std.proofs.Common.{◌≡◌, inl, inr, ℕ, zero, suc, ◌+◌, ◌<◌, ◌≤◌, List, [], ◌∷◌, ◌++◌, length, take, drop, map, get_or, refl}
use Rattle.std.proofs.Common.{ap, sym, ◌∙◌, subst, Bool, true, false, arith}
use Rattle.std.specs.Prelude.{◌==◌, nat_le, ◌⊎◌}
use Rattle.std.specs.List.{AllByRecursion, AllWithin}
use Rattle.std.specs.List.Sorted.{IsPartitionedBy, IsPartitionPoint}
use Rattle.std.proofs.lemmas.Bool.{true≢false, le-leb, leb-true}
use Rattle.std.proofs.lemmas.List.{take-append-drop}
use Rattle.ds_base.specs.Keys.{KeyParts}
use Rattle.ds_log.specs.declared.Commit.{Commit}
use Rattle.ds_log.specs.declared.Entry.{Entry}
use Rattle.ds_log.specs.declared.Write.{Write}
use Rattle.ds_log.specs.Logs.{groups_of, group_writes, commit_entries, entries_from, shard_list}
use Rattle.ds_log.specs.Shards.{shard_of}
use Rattle.ds_model.proofs.AllOf.{all-append, all-filter}
use Rattle.ds_log.specs.ShardLaws.{shard_list-append, later_entries, taken}

-- ---- a list of which a first part passes a test and the rest fails it

module _ {X : Type 0} (p : X → Bool) where
  abbrev Pass : List X → Type 0
  Pass = AllByRecursion (λ x. p x ≡ true)

  abbrev Fail : List X → Type 0
  Fail = AllByRecursion (λ x. p x ≡ false)

  none_passes : (zs : List X) (j : ℕ) (d : X) → Fail zs → j < length zs → p (get_or zs j d) ≡ false
  none_passes [] j d fail below = absurd (omega (arith, below))
  none_passes (z ∷ zs) zero d fail below = fail.0
  none_passes (z ∷ zs) (suc j) d fail below = none_passes zs j d fail.1 (let w : j < length zs = omega (arith, below) in w)

  parted : (ys zs : List X) → Pass ys → Fail zs → IsPartitionedBy p (ys ++ zs)
  parted [] zs pass fail i j d order below at_j = absurd (true≢false (sym at_j ∙ none_passes zs j d fail below))
  parted (y ∷ ys) zs pass fail zero j d order below at_j = pass.0
  parted (y ∷ ys) zs pass fail (suc i) zero d order below at_j = absurd (omega (arith, order))
  parted (y ∷ ys) zs pass fail (suc i) (suc j) d order below at_j =
      parted ys zs pass.1 fail i j d (let w : i ≤ j = omega (arith, order) in w)
      (let w : j < length (ys ++ zs) = omega (arith, below) in w) at_j

  point : (ys zs : List X) (r : ℕ) → Pass ys → Fail zs → r ≤ length (ys ++ zs)
      → AllWithin (λ x. p x ≡ true) (ys ++ zs) 0 r → AllWithin (λ x. p x ≡ false) (ys ++ zs) r (length (ys ++ zs)) → r ≡ length ys
  point [] [] r pass fail within before after = let e : r ≡ 0 = omega (arith, within) in e
  point [] (z ∷ zs) zero pass fail within before after = refl
  point [] (z ∷ zs) (suc r) pass fail within before after =
      absurd (true≢false (sym (before 0 z (omega arith) (omega arith)) ∙ fail.0))
  point (y ∷ ys) zs zero pass fail within before after =
      absurd (true≢false (sym pass.0 ∙ after 0 y (omega arith) (omega arith)))
  point (y ∷ ys) zs (suc r) pass fail within before after =
      ap suc (point ys zs r pass.1 fail (let w : r ≤ length (ys ++ zs) = omega (arith, within) in w)
      (λ k d low high. before (suc k) d (omega arith) (let w : suc k < suc r = omega (arith, high) in w))
      (λ k d low high. after (suc k) d (let w : suc r ≤ suc k = omega (arith, low) in w)
      (let w : suc k < length (y ∷ (ys ++ zs)) = omega (arith, high) in w)))

-- ---- commits of entries

of_commit : (P : ℕ → Type 0) (n : ℕ) (ws : List Write) (gs : List KeyParts) → P n
    → AllByRecursion (λ (e : Entry). P e.commit) (map (λ g. record { commit = n; group = g; writes = group_writes g ws }) gs)
of_commit P n ws [] p = tt
of_commit P n ws (g ∷ gs) p = (p, of_commit P n ws gs p)

commits_from : (m n : ℕ) (cs : List Commit) → m ≤ n → AllByRecursion (λ (e : Entry). m ≤ e.commit) (entries_from n cs)
commits_from m n [] low = tt
commits_from m n (c ∷ cs) low =
    all-append (λ (e : Entry). m ≤ e.commit) (commit_entries n c) (entries_from (n + 1) cs)
    (of_commit (λ k. m ≤ k) n c.writes (groups_of c.writes) low) (commits_from m (n + 1) cs (omega (arith, low)))

pub commits_up_to : (m n : ℕ) (cs : List Commit) → n + length cs ≤ m + 1 → AllByRecursion (λ (e : Entry). e.commit ≤ m) (entries_from n cs)
commits_up_to m n [] high = tt
commits_up_to m n (c ∷ cs) high =
    all-append (λ (e : Entry). e.commit ≤ m) (commit_entries n c) (entries_from (n + 1) cs)
    (of_commit (λ k. k ≤ m) n c.writes (groups_of c.writes) (let w : n ≤ m = omega (arith, high) in w))
    (commits_up_to m (n + 1) cs (let w : n + 1 + length cs ≤ m + 1 = omega (arith, high) in w))

passing : (place : ℕ) (es : List Entry) → AllByRecursion (λ (e : Entry). e.commit ≤ place) es
    → AllByRecursion (λ (e : Entry). nat_le e.commit place ≡ true) es
passing place [] p = tt
passing place (e ∷ es) p = (le-leb e.commit place p.0, passing place es p.1)

failing : (place : ℕ) (es : List Entry) → AllByRecursion (λ (e : Entry). place + 1 ≤ e.commit) es
    → AllByRecursion (λ (e : Entry). nat_le e.commit place ≡ false) es
failing place [] p = tt
failing place (e ∷ es) p = (by (nat_le e.commit place) refl, failing place es p.1) where
  by : (b : Bool) → nat_le e.commit place ≡ b → b ≡ false
  by true is = let low : e.commit ≤ place = leb-true e.commit place is in let high = p.0 in absurd (omega (arith, low, high))
  by false is = refl

-- ---- a shard's entries

module _ (journal : List Commit) (m shard shards place : ℕ) (within : place ≤ m) where
  abbrev back : List Entry
  back = later_entries shard shards (1 + length (take place journal)) (drop place (take m journal))

  split : shard_list (take m journal) shard shards ≡ shard_list (take place journal) shard shards ++ back
  split =
      ap (λ cs. shard_list cs shard shards)
      (sym (take-append-drop place (take m journal)) ∙ ap (λ cs. cs ++ drop place (take m journal)) (taken place m journal within))
      ∙ shard_list-append (take place journal) (drop place (take m journal)) shard shards

  length_le : (n : ℕ) (cs : List Commit) → length (take n cs) ≤ n
  length_le zero cs = omega arith
  length_le (suc n) [] = omega arith
  length_le (suc n) (c ∷ cs) = let rest = length_le n cs in omega (arith, rest)

  pass : AllByRecursion (λ (e : Entry). nat_le e.commit place ≡ true) (shard_list (take place journal) shard shards)
  pass =
      passing place (shard_list (take place journal) shard shards)
      (all-filter (λ (e : Entry). e.commit ≤ place) (λ e. shard_of e.group shards == shard) (entries_from 1 (take place journal))
      (commits_up_to place 1 (take place journal) (let len = length_le place journal in omega (arith, len))))

  -- behind a place past the end there are no commits
  later : (n p : ℕ) (cs : List Commit) → (length (take p cs) ≡ p) ⊎ (drop p (take n cs) ≡ [])
  later n zero cs = inl refl
  later zero (suc p) cs = inr refl
  later (suc n) (suc p) [] = inr refl
  later (suc n) (suc p) (c ∷ cs) = by (later n p cs) where
    by : (length (take p cs) ≡ p) ⊎ (drop p (take n cs) ≡ []) → (suc (length (take p cs)) ≡ suc p) ⊎ (drop p (take n cs) ≡ [])
    by (inl e) = inl (ap suc e)
    by (inr e) = inr e

  fail : AllByRecursion (λ (e : Entry). nat_le e.commit place ≡ false) back
  fail = by (later m place journal) where
    by : (length (take place journal) ≡ place) ⊎ (drop place (take m journal) ≡ [])
        → AllByRecursion (λ (e : Entry). nat_le e.commit place ≡ false) back
    by (inl e) =
        failing place back
        (all-filter (λ (e : Entry). place + 1 ≤ e.commit) (λ e. shard_of e.group shards == shard)
        (entries_from (1 + length (take place journal)) (drop place (take m journal)))
        (commits_from (place + 1) (1 + length (take place journal)) (drop place (take m journal)) (omega (arith, e))))
    by (inr e) =
        subst (λ cs. AllByRecursion (λ (e : Entry). nat_le e.commit place ≡ false)
        (later_entries shard shards (1 + length (take place journal)) cs)) (sym e) tt

  -- where the test's answer changes
  pub counted_up_to : (xs : List Entry) (r : ℕ) → xs ≡ shard_list (take m journal) shard shards → r ≤ length xs
      → (IsPartitionedBy (λ (e : Entry). nat_le e.commit place) xs → IsPartitionPoint (λ (e : Entry). nat_le e.commit place ≡ true)
      (λ (e : Entry). nat_le e.commit place ≡ false) xs r)
      → r ≡ length (shard_list (take place journal) shard shards)
  counted_up_to xs r is bound told =
      let whole : xs ≡ shard_list (take place journal) shard shards ++ back = is ∙ split in
      let ys : List Entry = shard_list (take place journal) shard shards in
      let at_point = subst (λ zs. IsPartitionPoint (λ (e : Entry). nat_le e.commit place ≡ true)
      (λ (e : Entry). nat_le e.commit place ≡ false) zs r) whole
      (told (subst (IsPartitionedBy (λ (e : Entry). nat_le e.commit place)) (sym whole)
      (parted (λ (e : Entry). nat_le e.commit place) ys back pass fail))) in
      point (λ (e : Entry). nat_le e.commit place) ys back r pass fail (subst (λ zs. r ≤ length zs) whole bound) at_point.0 at_point.1
