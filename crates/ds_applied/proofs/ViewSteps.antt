-- Loops over shards: the entities that are collected, and the counts that are read.
use Rattle.std.proofs.Common.{◌≡◌, ℕ, zero, suc, ◌+◌, ◌<◌, ◌≤◌, List, [], ◌∷◌, ◌++◌, length, take, get_or, refl, ap, sym, ◌∙◌}
use Rattle.std.proofs.Common.{append_assoc, append-nil, subst, arith}
use Rattle.std.proofs.lemmas.List.{take_more, take_all, length-map}
use Rattle.ds_entity.specs.Entities.{EntityParts}
use Rattle.ds_log.specs.declared.Entry.{Entry}
use Rattle.ds_model.specs.Sessions.{list_of}
use Rattle.ds_applied.specs.AppliedLists.{AppliedParts, AppliedShard, entries_of, applied_of, AreCounts, left_by, shard_views}
use Rattle.ds_applied.specs.ByKey.{joined}
use Rattle.ds_applied.proofs.CountSteps.{list_index, view_of}

-- ---- lists of entities

pub joined-append : (xs : List (List EntityParts)) (v : List EntityParts) → joined (xs ++ v ∷ []) ≡ joined xs ++ v
joined-append [] v = append-nil v
joined-append (x ∷ xs) v = ap (λ es. x ++ es) (joined-append xs v) ∙ sym (append_assoc x (joined xs) v)

pub joined_more : (lists : List (List EntityParts)) (i : ℕ) (v : List EntityParts) → i < length lists → v ≡ get_or lists i v
    → joined (take (i + 1) lists) ≡ joined (take i lists) ++ v
joined_more lists i v below is =
    ap joined (take_more lists i v below ∙ ap (λ u. take i lists ++ u ∷ []) (sym is)) ∙ joined-append (take i lists) v

-- ---- views of shards

pub AreCounts-length : (lists : List (List Entry)) (counts : List ℕ) → AreCounts lists counts → length lists ≡ length counts
AreCounts-length [] [] are = refl
AreCounts-length (l ∷ lists) (c ∷ counts) are = ap suc (AreCounts-length lists counts are.1)
AreCounts-length [] (c ∷ counts) are = absurd are
AreCounts-length (l ∷ lists) [] are = absurd are

pub AreCounts-index : (lists : List (List Entry)) (counts : List ℕ) (i c : ℕ) → AreCounts lists counts → i < length counts
    → c ≡ get_or counts i 0
    → c ≤ length (list_of lists i)
AreCounts-index [] [] i c are below is = absurd (omega (arith, below))
AreCounts-index (l ∷ lists) (d ∷ counts) zero c are below is = let low = are.0 in omega (arith, low, is)
AreCounts-index (l ∷ lists) (d ∷ counts) (suc i) c are below is =
    AreCounts-index lists counts i c are.1 (let w : i < length counts = omega (arith, below) in w) is
AreCounts-index [] (d ∷ counts) i c are below is = absurd are
AreCounts-index (l ∷ lists) [] i c are below is = absurd are

views_next : (lists : List (List Entry)) (counts : List ℕ) (i c : ℕ) → AreCounts lists counts → i < length counts → c ≡ get_or counts i 0
    → shard_views (take (suc i) lists) (take (suc i) counts) ≡ shard_views (take i lists) (take i counts) ++ left_by (list_of lists i) c
views_next [] [] i c are below is = absurd (omega (arith, below))
views_next (l ∷ lists) (d ∷ counts) zero c are below is = append-nil (left_by l d) ∙ ap (left_by l) (sym is)
views_next (l ∷ lists) (d ∷ counts) (suc i) c are below is =
    ap (λ es. left_by l d ++ es) (views_next lists counts i c are.1 (let w : i < length counts = omega (arith, below) in w) is)
    ∙ sym (append_assoc (left_by l d) (shard_views (take i lists) (take i counts)) (left_by (list_of lists i) c))
views_next [] (d ∷ counts) i c are below is = absurd are
views_next (l ∷ lists) [] i c are below is = absurd are

pub views_more : (lists : List (List Entry)) (counts : List ℕ) (i c : ℕ) (xs : List (List EntityParts)) (v : List EntityParts)
    → AreCounts lists counts
    → i < length counts → c ≡ get_or counts i 0 → joined xs ≡ shard_views (take i lists) (take i counts) → v ≡ left_by (list_of lists i) c
    → joined (xs ++ v ∷ []) ≡ shard_views (take (i + 1) lists) (take (i + 1) counts)
views_more lists counts i c xs v are below is so_far here =
    joined-append xs v ∙ ap (λ es. es ++ v) so_far ∙ ap (λ es. shard_views (take i lists) (take i counts) ++ es) here
    ∙ sym (ap (λ n. shard_views (take n lists) (take n counts)) (let e : i + 1 ≡ suc i = omega arith in e)
    ∙ views_next lists counts i c are below is)

pub views_all : (lists : List (List Entry)) (counts : List ℕ) (n : ℕ) → AreCounts lists counts → n ≡ length counts
    → shard_views (take n lists) (take n counts) ≡ shard_views lists counts
views_all lists counts n are whole =
    ap (λ ls. shard_views ls (take n counts)) (take_all n lists (omega (arith, whole, AreCounts-length lists counts are)))
    ∙ ap (shard_views lists) (take_all n counts (omega (arith, whole)))

-- ---- counts

applied-push : (ss : List AppliedShard) (s : AppliedShard) → applied_of (ss ++ s ∷ []) ≡ applied_of ss ++ s.applied ∷ []
applied-push [] s = refl
applied-push (t ∷ ss) s = ap (λ ns. t.applied ∷ ns) (applied-push ss s)

-- one shard's count more
pub counts_more : (ss : List AppliedShard) (i : ℕ) (s : AppliedShard) (counts : List ℕ) (c : ℕ) → i < length ss → s ≡ get_or ss i s
    → c ≡ s.applied → counts ≡ applied_of (take i ss) → counts ++ c ∷ [] ≡ applied_of (take (i + 1) ss)
counts_more ss i s counts c below is count so_far =
    let more : take (i + 1) ss ≡ take i ss ++ s ∷ [] = take_more ss i s below ∙ ap (λ t. take i ss ++ t ∷ []) (sym is) in
    ap (λ cs. cs ++ c ∷ []) so_far ∙ ap (λ d. applied_of (take i ss) ++ d ∷ []) count
    ∙ sym (ap applied_of more ∙ applied-push (take i ss) s)

-- ---- one shard among all

module _ (ss : List AppliedShard) (commits : ℕ) (a : AppliedParts) (view : view_of ss commits ≡ a) where
  pub list_here : (i : ℕ) (s : AppliedShard) → i < length ss → s ≡ get_or ss i s → s.entries ≡ list_of a.lists i
  list_here i s below is = list_index ss i s below is ∙ ap (λ (p : AppliedParts). list_of p.lists i) view

  pub counted_here : (counts : List ℕ) (i : ℕ) → AreCounts a.lists counts → i < length counts → i < length ss
  counted_here counts i are below =
      let listed : length (entries_of ss) ≡ length counts = ap (λ (p : AppliedParts). length p.lists) view
      ∙ AreCounts-length a.lists counts are in
      omega (arith, below, listed, length-map ss (λ (s : AppliedShard). s.entries))

  pub count_within : (counts : List ℕ) (i : ℕ) (s : AppliedShard) → AreCounts a.lists counts → i < length counts → s ≡ get_or ss i s
      → get_or counts i 0 ≤ length s.entries
  count_within counts i s are below is =
      subst (λ es. get_or counts i 0 ≤ length es) (sym (list_here i s (counted_here counts i are below) is))
      (AreCounts-index a.lists counts i (get_or counts i 0) are below refl)
