-- A commit's entries put behind those of their shards, one by one, and the lists that then follow the journal.
use Rattle.std.proofs.Common.{◌≡◌, ℕ, zero, suc, ◌+◌, ◌<◌, ◌≤◌, List, [], ◌∷◌, ◌++◌, length, take, map, get_or, set, refl, ap, sym}
use Rattle.std.proofs.Common.{◌∙◌, cond, append_assoc, append-nil, arith}
use Rattle.std.specs.Prelude.{filter, ◌==◌, All}
use Rattle.std.specs.List.{range_with_len}
use Rattle.std.proofs.Math.Seq.{map-set_same}
use Rattle.std.proofs.lemmas.Bool.{eq-eqb, ne_eqb}
use Rattle.std.proofs.lemmas.List.{map-set, take_more, length-take-le}
use Rattle.std.proofs.lemmas.List.Elements.{All-set}
use Rattle.ds_log.specs.declared.Commit.{Commit}
use Rattle.ds_log.specs.declared.Entry.{Entry}
use Rattle.ds_log.specs.Logs.{commit_entries, shard_list}
use Rattle.ds_log.specs.Shards.{shard_of}
use Rattle.ds_model.specs.Worlds.{shard_lists}
use Rattle.ds_applied.specs.AppliedLists.{AppliedParts, Follows, AppliedShard, entries_of, applied_of}
use Rattle.ds_applied.specs.Routing.{HasRoom, added}
use Rattle.ds_log.specs.ShardLaws.{shard_list-append}

-- ---- one entry

module _ (shards : ℕ) where
  abbrev own : ℕ → List Entry → List Entry
  own shard es = filter (λ (e : Entry). shard_of e.group shards == shard) es

  pub added_none : (first : ℕ) (lists : List (List Entry)) → added shards first lists [] ≡ lists
  added_none first [] = refl
  added_none first (l ∷ lists) = ap (λ k. k ∷ added shards (first + 1) lists []) (append-nil l)
      ∙ ap (λ ks. l ∷ ks) (added_none (first + 1) lists)

  -- to shards behind its own an entry adds nothing
  added_other : (first : ℕ) (lists : List (List Entry)) (e : Entry) (es : List Entry) → shard_of e.group shards < first
      → added shards first lists (e ∷ es) ≡ added shards first lists es
  added_other first [] e es before = refl
  added_other first (l ∷ lists) e es before =
      ap (λ b. (l ++ cond b (e ∷ own first es) (own first es)) ∷ added shards (first + 1) lists (e ∷ es))
      (ne_eqb (shard_of e.group shards) first (λ same. absurd (omega (arith, before, same))))
      ∙ ap (λ ks. (l ++ own first es) ∷ ks)
      (added_other (first + 1) lists e es (let w : shard_of e.group shards < first + 1 = omega (arith, before) in w))

  added_here : (first i : ℕ) (lists : List (List Entry)) (d : List Entry) (e : Entry) (es : List Entry)
      → shard_of e.group shards ≡ first + i → i < length lists
      → added shards first (set lists i (get_or lists i d ++ e ∷ [])) es ≡ added shards first lists (e ∷ es)
  added_here first i [] d e es is below = absurd (omega (arith, below))
  added_here first zero (l ∷ lists) d e es is below =
      let here : shard_of e.group shards ≡ first = omega (arith, is) in
      ap (λ k. k ∷ added shards (first + 1) lists es)
      (append_assoc l (e ∷ []) (own first es)
      ∙ ap (λ b. l ++ cond b (e ∷ own first es) (own first es)) (sym (eq-eqb (shard_of e.group shards) first here)))
      ∙ ap (λ ks. (l ++ own first (e ∷ es)) ∷ ks)
      (sym (added_other (first + 1) lists e es (let w : shard_of e.group shards < first + 1 = omega (arith, here) in w)))
  added_here first (suc i) (l ∷ lists) d e es is below =
      ap (λ b. (l ++ cond b (e ∷ own first es) (own first es)) ∷ added shards (first + 1) (set lists i (get_or lists i d ++ e ∷ [])) es)
      (sym (ne_eqb (shard_of e.group shards) first (λ same. absurd (omega (arith, same, is)))))
      ∙ ap (λ ks. (l ++ own first (e ∷ es)) ∷ ks)
      (added_here (first + 1) i lists d e es (let w : shard_of e.group shards ≡ first + 1 + i = omega (arith, is) in w)
      (let w : i < length lists = omega (arith, below) in w))

  -- the lists of shards of which one got an entry
  pub added_one : (ss : List AppliedShard) (i : ℕ) (d s : AppliedShard) (e : Entry) (es : List Entry) → shard_of e.group shards ≡ i
      → i < length ss
      → s.entries ≡ (get_or ss i d).entries ++ e ∷ []
      → added shards 0 (entries_of (set ss i s)) es ≡ added shards 0 (entries_of ss) (e ∷ es)
  added_one ss i d s e es is below pushed =
      ap (λ ls. added shards 0 ls es)
      (map-set (λ (t : AppliedShard). t.entries) ss i s
      ∙ ap (set (entries_of ss) i) (pushed ∙ ap (λ l. l ++ e ∷ []) (sym (get_or-map ss i d))))
      ∙ added_here 0 i (entries_of ss) d.entries e es (omega (arith, is))
      (let w : i < length (entries_of ss) = omega (arith, below, length_of ss) in w)
    where
      get_or-map : (ts : List AppliedShard) (j : ℕ) (d : AppliedShard) → get_or (entries_of ts) j d.entries ≡ (get_or ts j d).entries
      get_or-map [] j d = refl
      get_or-map (t ∷ ts) zero d = refl
      get_or-map (t ∷ ts) (suc j) d = get_or-map ts j d

      length_of : (ts : List AppliedShard) → length (entries_of ts) ≡ length ts
      length_of [] = refl
      length_of (t ∷ ts) = ap suc (length_of ts)

-- what is applied stays, where a shard gets an entry
pub applied_one : (ss : List AppliedShard) (i : ℕ) (d s : AppliedShard) → s.applied ≡ (get_or ss i d).applied
    → applied_of (set ss i s) ≡ applied_of ss
applied_one ss i d s same = map-set_same (λ (t : AppliedShard). t.applied) ss i s d same

-- one entry less has room
pub room_one : (n i : ℕ) (ss : List AppliedShard) (d s : AppliedShard) → All (HasRoom (suc n)) ss → i < length ss
    → (get_or ss i d).spare ≤ s.spare + 1
    → All (HasRoom n) (set ss i s)
room_one n i ss d s room below pushed =
    All-set (HasRoom n) ss i s (let had = room i d below in omega (arith, had, pushed))
    (λ j e within. let had = room j e within in omega (arith, had))

-- ---- one commit

module _ (journal : List Commit) (shards n : ℕ) (c : Commit) (below : n < length journal) (is : c ≡ get_or journal n c) where
  more_of : (shard : ℕ) → shard_list (take (n + 1) journal) shard shards
      ≡ shard_list (take n journal) shard shards ++ filter (λ e. shard_of e.group shards == shard) (commit_entries (n + 1) c)
  more_of shard =
      let front : List Commit = take n journal in
      let len : length front ≡ n = length-take-le n journal (let w : n ≤ length journal = omega (arith, below) in w) in
      ap (λ cs. shard_list cs shard shards) (take_more journal n c below ∙ ap (λ d. front ++ d ∷ []) (sym is))
      ∙ shard_list-append front (c ∷ []) shard shards
      ∙ ap (λ es. shard_list front shard shards ++ filter (λ e. shard_of e.group shards == shard) es)
      (append-nil (commit_entries (1 + length front) c))
      ∙ ap (λ m. shard_list front shard shards ++ filter (λ e. shard_of e.group shards == shard) (commit_entries m c))
      (let e : 1 + length front ≡ n + 1 = omega (arith, len) in e)

  more_lists : (first len : ℕ)
      → added shards first (map (λ shard. shard_list (take n journal) shard shards) (range_with_len first len)) (commit_entries (n + 1) c)
      ≡ map (λ shard. shard_list (take (n + 1) journal) shard shards) (range_with_len first len)
  more_lists first zero = refl
  more_lists first (suc len) =
      ap (λ l. l ∷ added shards (first + 1) (map (λ shard. shard_list (take n journal) shard shards) (range_with_len (first + 1) len))
      (commit_entries (n + 1) c)) (sym (more_of first))
      ∙ ap (λ ls. shard_list (take (n + 1) journal) first shards ∷ ls) (more_lists (first + 1) len)

-- the lists with the next commit's entries follow the journal
pub follows_pulled : (journal : List Commit) (a b : AppliedParts) (c : Commit) → Follows journal a → a.commits < length journal
    → c ≡ get_or journal a.commits c
    → b ≡ record a { commits = a.commits + 1; lists = added a.shards 0 a.lists (commit_entries (a.commits + 1) c) }
    → Follows journal b
follows_pulled journal a b c follows below is next = record {
  within = omega (arith, below, ap (λ (p : AppliedParts). p.commits) next);
  lists =
      ap (λ (p : AppliedParts). p.lists) next
      ∙ ap (λ ls. added a.shards 0 ls (commit_entries (a.commits + 1) c)) follows.lists
      ∙ more_lists journal a.shards a.commits c below is 0 a.shards
      ∙ (λ i. shard_lists (sym next i).shards (take (sym next i).commits journal));
}
