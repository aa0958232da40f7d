-- Of the numbers of a group's writers those up to a place, and their commits.
use Rattle.std.proofs.Common.{◌≡◌, ℕ, zero, suc, ◌+◌, ◌<◌, ◌≤◌, Bool, true, false, cond, List, [], ◌∷◌, ◌++◌, length, take, drop, get_or}
use Rattle.std.proofs.Common.{refl, ap, sym, ◌∙◌, arith, Option, Some, None, append_assoc, length-append, filter, le-leb, leb-true, Bor}
use Rattle.std.proofs.Common.{IfNone, IfSome}
use Rattle.std.specs.Prelude.{fold, slice_get, nat_le}
use Rattle.std.specs.Option.{option_copied}
use Rattle.ds_log.specs.ShardCommits.{CommitsParts}
use Rattle.std.proofs.lemmas.List.{append-nil, take_more, take-append-drop}
use Rattle.std.proofs.lemmas.Grind.{flat_map-append}
use Rattle.ds_base.specs.Keys.{KeyParts}
use Rattle.ds_log.specs.declared.Commit.{Commit}
use Rattle.ds_log.specs.Conflicts.{last_writer, last_writer_from, writes_group}
use Rattle.ds_log.specs.UpTo.{count_up_to, last_number}
use Rattle.ds_history.specs.Writers.{commits_at, if_there, last_of, nth_commit, numbers_in, writers_from, writers_of, writing}

-- ---- up to a place

not_below : (n m : ℕ) → m < n → nat_le n m ≡ false
not_below n m high = by (nat_le n m) refl where
  by : (b : Bool) → nat_le n m ≡ b → nat_le n m ≡ false
  by true is = let low : n ≤ m = leb-true n m is in absurd (omega (arith, low, high))
  by false is = is

-- no number from n on is below it
none_below : (m n : ℕ) (g : KeyParts) (cs : List Commit) → m < n → filter (λ c. nat_le c m) (writers_from n g cs) ≡ []
none_below m n g [] above = refl
none_below m n g (c ∷ cs) above = by (none_below m (n + 1) g cs (omega (arith, above))) (writes_group g c.writes) where
  by : filter (λ k. nat_le k m) (writers_from (n + 1) g cs) ≡ [] → (b : Bool) → filter (λ k. nat_le k m) (cond b (n ∷ writers_from (n + 1) g cs) (writers_from (n + 1) g cs)) ≡ []
  by rest true = ap (λ t. cond t (n ∷ filter (λ k. nat_le k m) (writers_from (n + 1) g cs)) (filter (λ k. nat_le k m) (writers_from (n + 1) g cs)))
      (not_below n m above) ∙ rest
  by rest false = rest

first_from : (k n : ℕ) (g : KeyParts) (cs : List Commit)
    → take (count_up_to (n + k) (writers_from (n + 1) g cs)) (writers_from (n + 1) g cs) ≡ writers_from (n + 1) g (take k cs)
first_from zero n g cs =
    ap (λ ns. take (length ns) (writers_from (n + 1) g cs)) (none_below (n + 0) (n + 1) g cs (omega arith))
first_from (suc k) n g [] = refl
first_from (suc k) n g (c ∷ cs) = by (first_from k (n + 1) g cs) (writes_group g c.writes) where
  moved : take (count_up_to (n + 1 + k) (writers_from (n + 1 + 1) g cs)) (writers_from (n + 1 + 1) g cs) ≡ writers_from (n + 1 + 1) g (take k cs)
      → take (count_up_to (n + suc k) (writers_from (n + 1 + 1) g cs)) (writers_from (n + 1 + 1) g cs) ≡ writers_from (n + 1 + 1) g (take k cs)
  moved rest = ap (λ m. take (count_up_to m (writers_from (n + 1 + 1) g cs)) (writers_from (n + 1 + 1) g cs)) (let e : n + suc k ≡ n + 1 + k = omega arith in e)
      ∙ rest

  by : take (count_up_to (n + 1 + k) (writers_from (n + 1 + 1) g cs)) (writers_from (n + 1 + 1) g cs) ≡ writers_from (n + 1 + 1) g (take k cs)
      → (b : Bool) → take (count_up_to (n + suc k) (cond b ((n + 1) ∷ writers_from (n + 1 + 1) g cs) (writers_from (n + 1 + 1) g cs)))
      (cond b ((n + 1) ∷ writers_from (n + 1 + 1) g cs) (writers_from (n + 1 + 1) g cs))
      ≡ cond b ((n + 1) ∷ writers_from (n + 1 + 1) g (take k cs)) (writers_from (n + 1 + 1) g (take k cs))
  by rest true =
      ap (λ t. take (length (cond t ((n + 1) ∷ filter (λ x. nat_le x (n + suc k)) (writers_from (n + 1 + 1) g cs)) (filter (λ x. nat_le x (n + suc k)) (writers_from (n + 1 + 1) g cs)))) ((n + 1) ∷ writers_from (n + 1 + 1) g cs))
      (le-leb (n + 1) (n + suc k) (omega arith))
      ∙ ap (λ ns. (n + 1) ∷ ns) (moved rest)
  by rest false = moved rest

-- the numbers up to a place are those of the first commits
pub first_numbers : (m : ℕ) (g : KeyParts) (journal : List Commit)
    → take (count_up_to m (writers_of g journal)) (writers_of g journal) ≡ writers_of g (take m journal)
first_numbers m g journal =
    ap (λ k. take (count_up_to k (writers_of g journal)) (writers_of g journal)) (let e : m ≡ 0 + m = omega arith in e)
    ∙ first_from m 0 g journal

-- ---- the last of them

abbrev last_else : Option ℕ → List ℕ → Option ℕ
last_else = fold (λ (o : Option ℕ) n. Some n)

writer_from : (n : ℕ) (e : Option ℕ) (g : KeyParts) (cs : List Commit) → last_writer_from n e g cs ≡ last_else e (writers_from n g cs)
writer_from n e g [] = refl
writer_from n e g (c ∷ cs) = writer_from (n + 1) (cond (writes_group g c.writes) (Some n) e) g cs ∙ by (writes_group g c.writes) where
  by : (b : Bool) → last_else (cond b (Some n) e) (writers_from (n + 1) g cs) ≡ last_else e (cond b (n ∷ writers_from (n + 1) g cs) (writers_from (n + 1) g cs))
  by true = refl
  by false = refl

last_from : (a : ℕ) (ns : List ℕ) → last_else (Some a) ns ≡ Some (fold (λ m c. c) a ns)
last_from a [] = refl
last_from a (n ∷ ns) = last_from n ns

-- the last writer of the first commits
pub last_is : (m : ℕ) (g : KeyParts) (journal : List Commit) (ns : List ℕ) → ns ≡ writers_of g journal
    → last_of (take (count_up_to m ns) ns) ≡ last_writer (take m journal) g
last_is m g journal ns is =
    ap last_of (ap (λ xs. take (count_up_to m xs) xs) is ∙ first_numbers m g journal)
    ∙ sym (writer_from 1 None g (take m journal))

pub none_last : (m : ℕ) (g : KeyParts) (journal : List Commit) → writers_of g journal ≡ [] → last_writer (take m journal) g ≡ None
none_last m g journal is = sym (last_is m g journal [] (sym is))

few : (m : ℕ) (ns : List ℕ) → count_up_to m ns ≤ length ns
few m [] = omega arith
few m (n ∷ ns) = by (few m ns) (nat_le n m) where
  by : count_up_to m ns ≤ length ns → (b : Bool) → length (cond b (n ∷ filter (λ c. nat_le c m) ns) (filter (λ c. nat_le c m) ns)) ≤ suc (length ns)
  by rest true = omega (arith, rest)
  by rest false = omega (arith, rest)

pub up_to_within : (m count : ℕ) (ns : List ℕ) → count ≡ count_up_to m ns → count ≤ length ns
up_to_within m count ns is = omega (arith, is, few m ns)

pub last_none : (m count : ℕ) (ns : List ℕ) → count ≡ count_up_to m ns → count ≡ 0 → None ≡ last_of (take (count_up_to m ns) ns)
last_none m count ns is none = ap (λ k. last_of (take k ns)) (sym none ∙ is)

pub last_some : (m count : ℕ) (ns : List ℕ) → count ≡ count_up_to m ns → (count ≡ 0 → ⊥) → Some (last_number (take count ns)) ≡ last_of (take (count_up_to m ns) ns)
last_some m count ns is some = by count ns some (up_to_within m count ns is) ∙ ap (λ k. last_of (take k ns)) is where
  by : (count : ℕ) (ns : List ℕ) → (count ≡ 0 → ⊥) → count ≤ length ns → Some (last_number (take count ns)) ≡ last_of (take count ns)
  by zero ns some within = absurd (some refl)
  by (suc count) [] some within = absurd (omega (arith, within))
  by (suc count) (n ∷ ns) some within = sym (last_from n (take count ns))

-- ---- their commits

at_front : (front : List Commit) (c : Commit) (behind : List Commit) → slice_get (front ++ c ∷ behind) (length front) ≡ Some c
at_front [] c behind = refl
at_front (f ∷ front) c behind = at_front front c behind

nth_front : (front : List Commit) (c : Commit) (behind : List Commit) (n : ℕ) → n ≡ length front + 1 → nth_commit (front ++ c ∷ behind) n ≡ Some c
nth_front front c behind zero is = absurd (omega (arith, is))
nth_front front c behind (suc n) is = ap (slice_get (front ++ c ∷ behind)) (let e : n ≡ length front = omega (arith, is) in e) ∙ at_front front c behind

written_at : (journal front cs behind : List Commit) (n : ℕ) (g : KeyParts) → journal ≡ front ++ (cs ++ behind) → n ≡ length front + 1
    → commits_at journal (writers_from n g cs) ≡ writing g cs
written_at journal front [] behind n g is at_n = refl
written_at journal front (c ∷ cs) behind n g is at_n =
    by (written_at journal (front ++ c ∷ []) cs behind (n + 1) g (is ∙ sym (append_assoc front (c ∷ []) (cs ++ behind))) (omega (arith, at_n, length-append front (c ∷ []))))
    (writes_group g c.writes)
  where
    by : commits_at journal (writers_from (n + 1) g cs) ≡ writing g cs → (b : Bool) → commits_at journal (cond b (n ∷ writers_from (n + 1) g cs) (writers_from (n + 1) g cs)) ≡ cond b (c ∷ writing g cs) (writing g cs)
    by rest true =
        ap (λ o. if_there o ++ commits_at journal (writers_from (n + 1) g cs)) (ap (λ j. nth_commit j n) is ∙ nth_front front c (cs ++ behind) n at_n)
        ∙ ap (λ xs. c ∷ xs) rest
    by rest false = rest

-- the commits up to a place that wrote the group
pub first_writing : (m : ℕ) (g : KeyParts) (journal : List Commit) (ns : List ℕ) → ns ≡ writers_of g journal
    → commits_at journal (take (count_up_to m ns) ns) ≡ writing g (take m journal)
first_writing m g journal ns is =
    ap (commits_at journal) (ap (λ xs. take (count_up_to m xs) xs) is ∙ first_numbers m g journal)
    ∙ written_at journal [] (take m journal) (drop m journal) 1 g (sym (take-append-drop m journal)) (omega arith)

-- one commit more
pub next_commit : (journal : List Commit) (ns : List ℕ) (i : ℕ) → i < length ns
    → commits_at journal (take (i + 1) ns) ≡ commits_at journal (take i ns) ++ if_there (nth_commit journal (last_number (take (i + 1) ns)))
next_commit journal ns i below =
    ap (commits_at journal) (take_more ns i 0 below)
    ∙ flat_map-append (λ n. if_there (nth_commit journal n)) (take i ns) (get_or ns i 0 ∷ [])
    ∙ ap (λ n. commits_at journal (take i ns) ++ (if_there (nth_commit journal n) ++ [])) (sym (last_is ns i below))
    ∙ ap (λ cs. commits_at journal (take i ns) ++ cs) (append-nil (if_there (nth_commit journal (last_number (take (i + 1) ns)))))
  where
    pushed : (xs : List ℕ) (a n : ℕ) → fold (λ m c. c) a (xs ++ n ∷ []) ≡ n
    pushed [] a n = refl
    pushed (x ∷ xs) a n = pushed xs x n

    last_is : (ns : List ℕ) (i : ℕ) → i < length ns → last_number (take (i + 1) ns) ≡ get_or ns i 0
    last_is ns i below = ap last_number (take_more ns i 0 below) ∙ pushed (take i ns) 0 (get_or ns i 0)

-- none of them, where the group has no writers
pub none_writing : (m : ℕ) (g : KeyParts) (journal : List Commit) → writers_of g journal ≡ [] → writing g (take m journal) ≡ []
none_writing m g journal is = sym (first_writing m g journal [] (sym is))

-- ---- as they are noted

pub some_numbers : (o : Option (Bor CommitsParts)) (found : Option CommitsParts) (ns : List ℕ) → option_copied o ≡ found → numbers_in found ≡ ns
    → IfSome o (λ n. n.now.commits ≡ ns)
some_numbers (Some b) found ns is noted = ap numbers_in is ∙ noted
some_numbers None found ns is noted = tt

pub none_numbers : (o : Option (Bor CommitsParts)) (found : Option CommitsParts) (ns : List ℕ) → option_copied o ≡ found → numbers_in found ≡ ns
    → IfNone o (ns ≡ [])
none_numbers (Some b) found ns is noted = tt
none_numbers None found ns is noted = sym (ap numbers_in is ∙ noted)
