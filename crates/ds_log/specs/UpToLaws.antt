-- The entries of a shard that are of the first commits are those whose numbers are no greater than the place.
use Rattle.std.proofs.Common.{◌≡◌, ℕ, zero, suc, ◌+◌, ◌≤◌, ◌<◌, ◌==◌, List, [], ◌∷◌, ◌++◌, length, filter, take, drop, refl, sym, ap, ◌∙◌}
use Rattle.std.proofs.Common.{Bool, true, false, cond, arith}
use Rattle.std.specs.Prelude.{nat_le, map, fold}
use Rattle.std.proofs.lemmas.Bool.{le-leb, leb-true}
use Rattle.std.proofs.lemmas.List.{take_all}
use Rattle.std.proofs.lemmas.List.Elements.{filter-append}
use Rattle.ds_base.specs.Keys.{KeyParts}
use Rattle.ds_log.specs.declared.Commit.{Commit}
use Rattle.ds_log.specs.declared.Entry.{Entry}
use Rattle.ds_log.specs.declared.Write.{Write}
use Rattle.ds_log.specs.Logs.{commit_entries, entries_from, group_writes, groups_of, shard_list}
use Rattle.ds_log.specs.Shards.{shard_of}
use Rattle.ds_log.specs.UpTo.{commits_of, count_up_to, last_number}

abbrev is_up_to : ℕ → Entry → Bool
is_up_to place e = nat_le e.commit place

-- ---- the entries of one commit

beyond : (n m : ℕ) → m < n → nat_le n m ≡ false
beyond n m past = by (nat_le n m) refl where
  by : (b : Bool) → nat_le n m ≡ b → nat_le n m ≡ false
  by true is = let low : n ≤ m = leb-true n m is in absurd (omega (arith, low, past))
  by false is = is

module _ (n place : ℕ) (ws : List Write) where
  abbrev own : List KeyParts → List Entry
  own = map (λ g. record { commit = n; group = g; writes = group_writes g ws })

  own_in : n ≤ place → (gs : List KeyParts) → filter (is_up_to place) (own gs) ≡ own gs
  own_in within [] = refl
  own_in within (g ∷ gs) =
      let e : Entry = record { commit = n; group = g; writes = group_writes g ws } in
      ap (λ b. cond b (e ∷ filter (is_up_to place) (own gs)) (filter (is_up_to place) (own gs))) (le-leb n place within)
      ∙ ap (λ es. e ∷ es) (own_in within gs)

  own_out : place < n → (gs : List KeyParts) → filter (is_up_to place) (own gs) ≡ []
  own_out past [] = refl
  own_out past (g ∷ gs) =
      let e : Entry = record { commit = n; group = g; writes = group_writes g ws } in
      ap (λ b. cond b (e ∷ filter (is_up_to place) (own gs)) (filter (is_up_to place) (own gs))) (beyond n place past)
      ∙ own_out past gs

-- ---- the entries of commits

none_up_to : (place n : ℕ) (cs : List Commit) → place < n → filter (is_up_to place) (entries_from n cs) ≡ []
none_up_to place n [] past = refl
none_up_to place n (c ∷ cs) past =
    filter-append (is_up_to place) (commit_entries n c) (entries_from (n + 1) cs)
    ∙ (λ i. own_out n place c.writes past (groups_of c.writes) i ++ none_up_to place (n + 1) cs (omega (arith, past)) i)

some_up_to : (k p : ℕ) (cs : List Commit) → filter (is_up_to (k + p)) (entries_from (k + 1) cs) ≡ entries_from (k + 1) (take p cs)
some_up_to k zero cs = none_up_to (k + zero) (k + 1) cs (omega arith)
some_up_to k (suc p) [] = refl
some_up_to k (suc p) (c ∷ cs) =
    let next : k + suc p ≡ k + 1 + p = omega arith in
    filter-append (is_up_to (k + suc p)) (commit_entries (k + 1) c) (entries_from (k + 1 + 1) cs)
    ∙ (λ i. own_in (k + 1) (k + suc p) c.writes (omega arith) (groups_of c.writes) i
    ++ (ap (λ place. filter (is_up_to place) (entries_from (k + 1 + 1) cs)) next ∙ some_up_to (k + 1) p cs) i)

-- ---- one shard's

module _ (p q : Entry → Bool) where
  in_turn : (es : List Entry) → filter p (filter q es) ≡ filter q (filter p es)
  in_turn [] = refl
  in_turn (e ∷ es) = by (p e) (q e) refl refl (in_turn es) where
    by : (a b : Bool) → p e ≡ a → q e ≡ b → filter p (filter q es) ≡ filter q (filter p es)
        → filter p (cond (q e) (e ∷ filter q es) (filter q es)) ≡ filter q (cond (p e) (e ∷ filter p es) (filter p es))
    by true true is_p is_q rest =
        ap (λ b. filter p (cond b (e ∷ filter q es) (filter q es))) is_q
        ∙ ap (λ b. cond b (e ∷ filter p (filter q es)) (filter p (filter q es))) is_p
        ∙ ap (λ xs. e ∷ xs) rest
        ∙ sym (ap (λ b. filter q (cond b (e ∷ filter p es) (filter p es))) is_p
        ∙ ap (λ b. cond b (e ∷ filter q (filter p es)) (filter q (filter p es))) is_q)
    by true false is_p is_q rest =
        ap (λ b. filter p (cond b (e ∷ filter q es) (filter q es))) is_q
        ∙ rest
        ∙ sym (ap (λ b. filter q (cond b (e ∷ filter p es) (filter p es))) is_p
        ∙ ap (λ b. cond b (e ∷ filter q (filter p es)) (filter q (filter p es))) is_q)
    by false true is_p is_q rest =
        ap (λ b. filter p (cond b (e ∷ filter q es) (filter q es))) is_q
        ∙ ap (λ b. cond b (e ∷ filter p (filter q es)) (filter p (filter q es))) is_p
        ∙ rest
        ∙ sym (ap (λ b. filter q (cond b (e ∷ filter p es) (filter p es))) is_p)
    by false false is_p is_q rest =
        ap (λ b. filter p (cond b (e ∷ filter q es) (filter q es))) is_q
        ∙ rest
        ∙ sym (ap (λ b. filter q (cond b (e ∷ filter p es) (filter p es))) is_p)

-- the entries of a shard whose numbers are no greater than the place are those of the first commits
pub shard_list-up_to : (journal : List Commit) (shard shards place : ℕ)
    → filter (λ e. nat_le e.commit place) (shard_list journal shard shards) ≡ shard_list (take place journal) shard shards
shard_list-up_to journal shard shards place =
    let none : place ≡ 0 + place = omega arith in
    in_turn (is_up_to place) (λ e. shard_of e.group shards == shard) (entries_from 1 journal)
    ∙ ap (filter (λ e. shard_of e.group shards == shard))
    (ap (λ m. filter (is_up_to m) (entries_from 1 journal)) none ∙ some_up_to 0 place journal)

count_of_commits : (place : ℕ) (es : List Entry) → count_up_to place (commits_of es) ≡ length (filter (is_up_to place) es)
count_of_commits place [] = refl
count_of_commits place (e ∷ es) = by (nat_le e.commit place) (count_of_commits place es) where
  by : (b : Bool) → count_up_to place (commits_of es) ≡ length (filter (is_up_to place) es)
      → length (cond b (e.commit ∷ filter (λ c. nat_le c place) (commits_of es)) (filter (λ c. nat_le c place) (commits_of es)))
      ≡ length (cond b (e ∷ filter (is_up_to place) es) (filter (is_up_to place) es))
  by true rest = ap suc rest
  by false rest = rest

-- and so their numbers tell how many they are
pub count_up_to-shard_list : (journal : List Commit) (shard shards place : ℕ)
    → count_up_to place (commits_of (shard_list journal shard shards)) ≡ length (shard_list (take place journal) shard shards)
count_up_to-shard_list journal shard shards place =
    count_of_commits place (shard_list journal shard shards)
    ∙ ap (λ (es : List Entry). length es) (shard_list-up_to journal shard shards place)

-- ---- the last of them

fewer : (bound : ℕ) (es : List Entry) → length (filter (is_up_to bound) es) ≤ length es
fewer bound [] = omega arith
fewer bound (e ∷ es) = by (nat_le e.commit bound) (fewer bound es) where
  by : (b : Bool) → length (filter (is_up_to bound) es) ≤ length es
      → length (cond b (e ∷ filter (is_up_to bound) es) (filter (is_up_to bound) es)) ≤ suc (length es)
  by true rest = omega (arith, rest)
  by false rest = omega (arith, rest)

last_within : (bound m : ℕ) (es : List Entry) → m ≤ bound → filter (is_up_to bound) es ≡ es → fold (λ m c. c) m (commits_of es) ≤ bound
last_within bound m [] low all = low
last_within bound m (e ∷ es) low all = by (nat_le e.commit bound) refl (last_within bound e.commit es) where
  by : (b : Bool) → nat_le e.commit bound ≡ b
      → (e.commit ≤ bound → filter (is_up_to bound) es ≡ es → fold (λ m c. c) e.commit (commits_of es) ≤ bound)
      → fold (λ m c. c) e.commit (commits_of es) ≤ bound
  by true is rest =
      rest (leb-true e.commit bound is)
      (ap (λ xs. drop 1 xs) (sym (ap (λ b. cond b (e ∷ filter (is_up_to bound) es) (filter (is_up_to bound) es)) is) ∙ all))
  by false is rest =
      let same : length (filter (is_up_to bound) es) ≡ suc (length es) =
      ap (λ (xs : List Entry). length xs)
      (sym (ap (λ b. cond b (e ∷ filter (is_up_to bound) es) (filter (is_up_to bound) es)) is) ∙ all) in
      let few = fewer bound es in
      absurd (omega (arith, same, few))

-- the last of a shard's numbers is no greater than the journal is long: a commit that is appended has a greater one
pub last_number-shard_list : (journal : List Commit) (shard shards : ℕ)
    → last_number (commits_of (shard_list journal shard shards)) ≤ length journal
last_number-shard_list journal shard shards =
    last_within (length journal) 0 (shard_list journal shard shards) (omega arith)
    (shard_list-up_to journal shard shards (length journal)
    ∙ ap (λ cs. shard_list cs shard shards) (take_all (length journal) journal (omega arith)))
