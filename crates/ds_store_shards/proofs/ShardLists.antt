-- A shard's list of commits that a desk knows, and of those that a pass has seen.
use Rattle.std.proofs.Common.{◌≡◌, ℕ, ◌+◌, ◌≤◌, List, [], ◌∷◌, ◌++◌, length, take, drop, sym, ap, ◌∙◌}
use Rattle.std.proofs.Common.{refl, arith, append_assoc, length-append}
use Rattle.std.specs.Prelude.{fold}
use Rattle.std.proofs.Math.Seq.{take-append_seam}
use Rattle.std.proofs.lemmas.List.{take_all, take-append-le, take-append-drop}
use mathlib.Core.List.{IsPrefix}
use Rattle.ds_log.specs.declared.Commit.{Commit}
use Rattle.ds_log.specs.declared.Entry.{Entry}
use Rattle.ds_log.specs.Logs.{shard_list}
use Rattle.ds_log.specs.ShardLaws.{shard_list-append, shard_list-first, later_entries}
use Rattle.ds_log.specs.UpTo.{commits_of, last_number}
use Rattle.ds_model.specs.Sessions.{last_commit}

-- the first of a list are the first of each list that it begins
pub first_of : {E : Type 0} (n : ℕ) (xs ys : List E) → IsPrefix xs ys → n ≤ length xs → take n ys ≡ take n xs
first_of n xs ys p le = ap (take n) (sym p.1) ∙ take-append-le n xs p.0 le

-- a list that begins another one is its first part
pub begins_as : {E : Type 0} (xs ys : List E) → IsPrefix xs ys → take (length xs) ys ≡ xs
begins_as xs ys p = ap (take (length xs)) (sym p.1) ∙ take-append_seam xs p.0

module _ (shard shards : ℕ) where
  -- Of a list that begins with what is published, as many entries as the first m commits give are just theirs, where so many are published.
  -- Published is a beginning of the shard's list of commits that the desk knows, which begin those that were seen.
  pub first_entries : (list published rest : List Entry) (known journal : List Commit) (m : ℕ)
      → IsPrefix published list → published ++ rest ≡ shard_list known shard shards → IsPrefix known journal → m ≤ length known
      → length (shard_list (take m known) shard shards) ≤ length published
      → take (length (shard_list (take m known) shard shards)) list ≡ shard_list (take m journal) shard shards
  first_entries list published rest known journal m begins own seen within enough =
      let n : ℕ = length (shard_list (take m known) shard shards) in
      let all : take (length known) known ≡ known = take_all (length known) known (omega arith) in
      first_of n published list begins enough
      ∙ sym (take-append-le n published rest enough)
      ∙ ap (take n) own
      ∙ ap (λ cs. take n (shard_list cs shard shards)) (sym all)
      ∙ shard_list-first m (length known) known shard shards within
      ∙ ap (λ cs. shard_list cs shard shards) (sym (first_of m known journal seen within))

  -- the entries of the first m commits are as many in all lists of commits that begin alike
  pub entries_agree : (known journal : List Commit) (m : ℕ) → IsPrefix known journal → m ≤ length known
      → length (shard_list (take m known) shard shards) ≡ length (shard_list (take m journal) shard shards)
  entries_agree known journal m seen within =
      ap (λ cs. length (shard_list cs shard shards)) (sym (first_of m known journal seen within))

  -- the first commits give no more entries than all
  pub entries_within : (known : List Commit) (m : ℕ)
      → length (shard_list (take m known) shard shards) ≤ length (shard_list known shard shards)
  entries_within known m =
      let rest : List Entry = later_entries shard shards (1 + length (take m known)) (drop m known) in
      let whole : shard_list known shard shards ≡ shard_list (take m known) shard shards ++ rest =
      ap (λ cs. shard_list cs shard shards) (sym (take-append-drop m known))
      ∙ shard_list-append (take m known) (drop m known) shard shards in
      omega (arith, ap length whole, length-append (shard_list (take m known) shard shards) rest)

  -- what waits with the entries of the commits that are new is the shard's list of all
  pub fetched : (front waiting entries : List Entry) (known journal : List Commit) → IsPrefix known journal
      → front ++ waiting ≡ shard_list known shard shards
      → shard_list journal shard shards ≡ shard_list (take (length known) journal) shard shards ++ entries
      → front ++ (waiting ++ entries) ≡ shard_list journal shard shards
  fetched front waiting entries known journal seen own more =
      sym (append_assoc front waiting entries)
      ∙ ap (λ es. es ++ entries) (own ∙ ap (λ cs. shard_list cs shard shards) (sym (begins_as known journal seen)))
      ∙ sym more

-- ---- the last of them

last_over : (m : ℕ) (es : List Entry) → fold (λ m c. c) m (commits_of es) ≡ fold (λ m (e : Entry). e.commit) m es
last_over m [] = refl
last_over m (e ∷ es) = last_over e.commit es

numbers : (front rest : List Entry) → take (length front) (commits_of (front ++ rest)) ≡ commits_of front
numbers [] rest = refl
numbers (e ∷ es) rest = ap (λ cs. e.commit ∷ cs) (numbers es rest)

-- the last number among those of the first entries is the last one's commit
pub last_of_first : (front rest : List Entry) → last_number (take (length front) (commits_of (front ++ rest))) ≡ last_commit front
last_of_first front rest = ap last_number (numbers front rest) ∙ last_over 0 front
