-- The list of a shard while a journal grows: a commit that is appended appends to it just its own entries for the shard, the entries of
-- the first commits are its first ones, and it is no longer than the commits have writes.
use Rattle.std.proofs.Common.{◌≡◌, ℕ, zero, suc, ◌+◌, ◌*◌, ◌≤◌, ◌<◌, ◌==◌, List, [], ◌∷◌, ◌++◌, length, filter, take, drop, get_or, refl}
use Rattle.std.proofs.Common.{sym, ap, ◌∙◌, Bool, true, false, cond, append_assoc, length-append, arith}
use Rattle.std.specs.Prelude.{nat_le, map, All}
use Rattle.std.proofs.Math.Seq.{take-append_seam}
use Rattle.std.proofs.lemmas.Bool.{le-leb, leb-true}
use Rattle.std.proofs.lemmas.List.{take_more, length-take-le, take-append-drop, length-map}
use Rattle.std.proofs.lemmas.List.Elements.{filter-append, All-head, All-tail}
use Rattle.std.proofs.lemmas.Grind.{common_steps}
use Rattle.ds_base.specs.Keys.{KeyParts}
use Rattle.ds_base.specs.Limits.{most_writes}
use Rattle.ds_log.specs.declared.Commit.{Commit}
use Rattle.ds_log.specs.declared.Entry.{Entry}
use Rattle.ds_log.specs.declared.Write.{Write}
use Rattle.ds_log.specs.GroupLaws.{length-groups_of}
use Rattle.ds_log.specs.Logs.{commit_entries, entries_from, group_writes, groups_of, shard_entries, shard_list}
use Rattle.ds_log.specs.Shards.{shard_of}

-- ---- one commit more

pub entries_from-push : (n : ℕ) (cs : List Commit) (c : Commit)
    → entries_from n (cs ++ c ∷ []) ≡ entries_from n cs ++ commit_entries (n + length cs) c
entries_from-push n [] c = grind (arith, common_steps)
entries_from-push n (b ∷ cs) c =
    ap (λ es. commit_entries n b ++ es) (entries_from-push (n + 1) cs c)
    ∙ sym (append_assoc (commit_entries n b) (entries_from (n + 1) cs) (commit_entries (n + 1 + length cs) c))
    ∙ ap (λ m. commit_entries n b ++ entries_from (n + 1) cs ++ commit_entries m c)
    (let e : n + 1 + length cs ≡ n + length (b ∷ cs) = omega arith in e)

-- a commit that is appended appends to each shard's list just its entries for that shard
pub shard_list-push : (journal : List Commit) (c : Commit) (shard shards : ℕ)
    → shard_list (journal ++ c ∷ []) shard shards ≡ shard_list journal shard shards ++ shard_entries (1 + length journal) c shard shards
shard_list-push journal c shard shards =
    ap (filter (λ e. shard_of e.group shards == shard)) (entries_from-push 1 journal c)
    ∙ filter-append _ (entries_from 1 journal) (commit_entries (1 + length journal) c)

-- and so of the commits up to a place, at which the next one stands
pub shard_list-more : (js : List Commit) (i : ℕ) (c : Commit) (shard shards : ℕ) → i < length js → c ≡ get_or js i c
    → shard_list (take (i + 1) js) shard shards ≡ shard_list (take i js) shard shards ++ shard_entries (i + 1) c shard shards
shard_list-more js i c shard shards below is =
    let taken : take (i + 1) js ≡ take i js ++ c ∷ [] = take_more js i c below ∙ ap (λ d. take i js ++ d ∷ []) (sym is) in
    let place : 1 + length (take i js) ≡ i + 1 = let e : length (take i js) ≡ i = length-take-le i js (omega arith) in omega arith in
    ap (λ cs. shard_list cs shard shards) taken ∙ shard_list-push (take i js) c shard shards
    ∙ ap (λ n. shard_list (take i js) shard shards ++ shard_entries n c shard shards) place

-- ---- more commits

pub entries_from-append : (n : ℕ) (cs ds : List Commit) → entries_from n (cs ++ ds) ≡ entries_from n cs ++ entries_from (n + length cs) ds
entries_from-append n [] ds = ap (λ m. entries_from m ds) (let e : n ≡ n + 0 = omega arith in e)
entries_from-append n (c ∷ cs) ds =
    ap (λ es. commit_entries n c ++ es) (entries_from-append (n + 1) cs ds)
    ∙ sym (append_assoc (commit_entries n c) (entries_from (n + 1) cs) (entries_from (n + 1 + length cs) ds))
    ∙ ap (λ m. (commit_entries n c ++ entries_from (n + 1) cs) ++ entries_from m ds)
    (let e : n + 1 + length cs ≡ n + length (c ∷ cs) = omega arith in e)

-- the entries of a shard of later commits, numbered from n
abbrev pub later_entries : ℕ → ℕ → ℕ → List Commit → List Entry
later_entries shard shards n cs = filter (λ e. shard_of e.group shards == shard) (entries_from n cs)

pub shard_list-append : (cs ds : List Commit) (shard shards : ℕ)
    → shard_list (cs ++ ds) shard shards ≡ shard_list cs shard shards ++ later_entries shard shards (1 + length cs) ds
shard_list-append cs ds shard shards =
    ap (filter (λ e. shard_of e.group shards == shard)) (entries_from-append 1 cs ds)
    ∙ filter-append (λ e. shard_of e.group shards == shard) (entries_from 1 cs) (entries_from (1 + length cs) ds)

pub taken : (m n : ℕ) (cs : List Commit) → m ≤ n → take m (take n cs) ≡ take m cs
taken zero n cs within = refl
taken (suc m) zero cs within = absurd (omega (arith, within))
taken (suc m) (suc n) [] within = refl
taken (suc m) (suc n) (c ∷ cs) within = ap (λ ds. c ∷ ds) (taken m n cs (let w : m ≤ n = omega (arith, within) in w))

-- of the entries of n commits the first are those of the first m
pub shard_list-first : (m n : ℕ) (journal : List Commit) (shard shards : ℕ) → m ≤ n
    → take (length (shard_list (take m journal) shard shards)) (shard_list (take n journal) shard shards)
    ≡ shard_list (take m journal) shard shards
shard_list-first m n journal shard shards within =
    let before : List Commit = take m journal in
    let after : List Commit = drop m (take n journal) in
    let whole : take n journal ≡ before ++ after =
    sym (take-append-drop m (take n journal)) ∙ ap (λ cs. cs ++ after) (taken m n journal within) in
    ap (λ cs. take (length (shard_list before shard shards)) (shard_list cs shard shards)) whole
    ∙ ap (take (length (shard_list before shard shards))) (shard_list-append before after shard shards)
    ∙ take-append_seam (shard_list before shard shards) (later_entries shard shards (1 + length before) after)

-- ---- how many entries

module _ (p : Entry → Bool) where
  fewer : (es : List Entry) → length (filter p es) ≤ length es
  fewer [] = omega arith
  fewer (e ∷ es) = by (p e) (fewer es) where
    by : (b : Bool) → length (filter p es) ≤ length es → length (cond b (e ∷ filter p es) (filter p es)) ≤ suc (length es)
    by true rest = omega (arith, rest)
    by false rest = omega (arith, rest)

entries_few : (n : ℕ) (cs : List Commit) → All (λ c. length c.writes ≤ most_writes) cs
    → length (entries_from n cs) ≤ most_writes * length cs
entries_few n [] few = omega arith
entries_few n (c ∷ cs) few =
    let here : length c.writes ≤ most_writes = All-head (λ (b : Commit). length b.writes ≤ most_writes) c cs few in
    let groups : length (groups_of c.writes) ≤ length c.writes = length-groups_of c.writes in
    let same : length (commit_entries n c) ≡ length (groups_of c.writes) =
    length-map (groups_of c.writes) (λ (g : KeyParts). record { commit = n; group = g; writes = group_writes g c.writes }) in
    let rest = entries_few (n + 1) cs (All-tail (λ (b : Commit). length b.writes ≤ most_writes) c cs few) in
    let all = length-append (commit_entries n c) (entries_from (n + 1) cs) in
    omega (arith, here, groups, same, rest, all)

-- a shard has at most 500 entries for each commit, where no commit has more writes
pub length-shard_list : (journal : List Commit) (shard shards : ℕ) → All (λ c. length c.writes ≤ most_writes) journal
    → length (shard_list journal shard shards) ≤ most_writes * length journal
length-shard_list journal shard shards few =
    let part = fewer (λ e. shard_of e.group shards == shard) (entries_from 1 journal) in
    let all = entries_few 1 journal few in
    omega (arith, part, all)
