-- A global view shows each entity group at a prefix of its log.
use Rattle.std.proofs.Common.{◌≡◌, ℕ, zero, suc, ◌+◌, List, [], ◌∷◌, ◌++◌, take, drop, refl, ap, sym, ◌∙◌, Bool, true, false, cond, map}
use Rattle.std.proofs.Common.{◌<◌, arith}
use Rattle.std.proofs.lemmas.Bool.{eqb-true, ne_eqb, eq-eqb}
use Rattle.std.specs.Prelude.{filter, fold, flat_map, ◌==◌, ◌||◌, ⊤}
use Rattle.std.specs.List.{list_any, range_with_len}
use Rattle.std.specs.BTreeSet.{insert_key}
use Rattle.std.specs.Ordering.{is_eq, ordering_reverse, match_ordering}
use Rattle.std.specs.declared.cmp.Ordering.{Ordering}
use Rattle.std.specs.declared.cmp.Ordering.TheVariants.{Less, Equal, Greater}
use Rattle.std.specs.Cmp.{tied_itself}
use Rattle.std.proofs.lemmas.Grind.{flat_map-append}
use Rattle.std.proofs.lemmas.List.{append-nil, take-append-drop}
use Rattle.std.proofs.lemmas.List.Elements.{filter-append}
use Rattle.ds_base.specs.Keys.{KeyParts}
use Rattle.ds_base.specs.KeyOrder.{key_cmp, same_key}
use Rattle.ds_base.specs.KeyOrderLaws.{key_cmp-total}
use Rattle.ds_log.specs.declared.Commit.{Commit}
use Rattle.ds_log.specs.declared.Entry.{Entry}
use Rattle.ds_log.specs.declared.Write.{Write}
use Rattle.ds_log.specs.After.{after}
use Rattle.ds_log.specs.Conflicts.{writes_group}
use Rattle.ds_log.specs.GroupLaws.{any-groups_of}
use Rattle.ds_log.specs.Logs.{group_of, groups_of, group_writes, group_log, writes_of, entry_writes, commit_entries, entries_from}
use Rattle.ds_log.specs.Logs.{shard_list}
use Rattle.ds_log.specs.Shards.{shard_of}
use Rattle.ds_model.specs.Views.{counted, global_view}
use Rattle.ds_model.specs.Worlds.{shard_lists}
use Rattle.ds_model.proofs.GroupViews.{same_key-equal, unwritten, cut, cut_view}

-- ---- the groups of a commit ascend, so each stands once

abbrev AllAbove : KeyParts → List KeyParts → Type 0
AllAbove k [] = ⊤
AllAbove k (x ∷ xs) = (key_cmp k x ≡ Less) × AllAbove k xs

abbrev Ascending : List KeyParts → Type 0
Ascending [] = ⊤
Ascending (x ∷ xs) = AllAbove x xs × Ascending xs

above_too : (k x : KeyParts) (xs : List KeyParts) → key_cmp k x ≡ Less → AllAbove x xs → AllAbove k xs
above_too k x [] below all = tt
above_too k x (y ∷ ys) below all = (key_cmp-total.trans k x y below all.0, above_too k x ys below all.1)

above_inserted : (x k : KeyParts) (xs : List KeyParts) → key_cmp x k ≡ Less → AllAbove x xs → AllAbove x (insert_key key_cmp xs k)
above_inserted x k [] below all = (below, tt)
above_inserted x k (y ∷ ys) below all = by (above_inserted x k ys below all.1) (key_cmp k y) where
  by : AllAbove x (insert_key key_cmp ys k) → (r : Ordering) → AllAbove x (match_ordering r (k ∷ y ∷ ys) (y ∷ ys) (y ∷ insert_key key_cmp ys k))
  by rest Less = (below, all)
  by rest Equal = all
  by rest Greater = (all.0, rest)

ascending_inserted : (xs : List KeyParts) (k : KeyParts) → Ascending xs → Ascending (insert_key key_cmp xs k)
ascending_inserted [] k ascending = (tt, tt)
ascending_inserted (x ∷ xs) k ascending = by (ascending_inserted xs k ascending.1) (key_cmp k x) refl where
  by : Ascending (insert_key key_cmp xs k) → (r : Ordering) → key_cmp k x ≡ r → Ascending (match_ordering r (k ∷ x ∷ xs) (x ∷ xs) (x ∷ insert_key key_cmp xs k))
  by rest Less is = ((is, above_too k x xs is ascending.0), ascending)
  by rest Equal is = ascending
  by rest Greater is = (above_inserted x k xs (key_cmp-total.antisymm x k ∙ ap ordering_reverse is) ascending.0, rest)

ascending_all : (ks : List KeyParts) (gs : List KeyParts) → Ascending ks → Ascending (fold (insert_key key_cmp) ks gs)
ascending_all ks [] ascending = ascending
ascending_all ks (g ∷ gs) ascending = ascending_all (insert_key key_cmp ks g) gs (ascending_inserted ks g ascending)

none_above : (k : KeyParts) (xs : List KeyParts) → AllAbove k xs → list_any (λ x. same_key x k) xs ≡ false
none_above k [] all = refl
none_above k (x ∷ xs) all =
    ap (λ b. b || list_any (λ y. same_key y k) xs) (ap is_eq (key_cmp-total.antisymm x k ∙ ap ordering_reverse all.0)) ∙ none_above k xs all.1

module _ (g : KeyParts) where
  -- what stands for the group alone stands once
  at_group : (ws : List Write) (hs : List KeyParts) → Ascending hs → flat_map (λ h. cond (same_key h g) ws []) hs ≡ cond (list_any (λ h. same_key h g) hs) ws []
  at_group ws [] ascending = refl
  at_group ws (h ∷ hs) ascending = by (at_group ws hs ascending.1) (same_key h g) refl where
    by : flat_map (λ h. cond (same_key h g) ws []) hs ≡ cond (list_any (λ h. same_key h g) hs) ws [] → (b : Bool) → same_key h g ≡ b →
        cond b ws [] ++ flat_map (λ h. cond (same_key h g) ws []) hs ≡ cond (b || list_any (λ h. same_key h g) hs) ws []
    by rest true is =
        ap (λ vs. ws ++ vs) (rest ∙ ap (λ b. cond b ws []) (ap (λ k. list_any (λ x. same_key x k) hs) (sym (same_key-equal h g is)) ∙ none_above h hs ascending.0))
        ∙ append-nil ws
    by rest false is = rest

  -- the writes to the group among those to a group
  twice : (h : KeyParts) (ws : List Write) → group_writes g (group_writes h ws) ≡ cond (same_key h g) (group_writes g ws) []
  twice h [] = none (same_key h g) where
    none : (b : Bool) → [] ≡ cond {A = List Write} b [] []
    none true = refl
    none false = refl
  twice h (w ∷ ws) = by (twice h ws) (same_key (group_of w) h) refl (same_key h g) refl (same_key (group_of w) g) refl where
    by : group_writes g (group_writes h ws) ≡ cond (same_key h g) (group_writes g ws) [] → (a : Bool) → same_key (group_of w) h ≡ a → (b : Bool) → same_key h g ≡ b → (c : Bool) → same_key (group_of w) g ≡ c →
        group_writes g (cond a (w ∷ group_writes h ws) (group_writes h ws)) ≡ cond b (cond c (w ∷ group_writes g ws) (group_writes g ws)) []
    by rest true aw true bw true cw = ap (λ d. cond d (w ∷ group_writes g (group_writes h ws)) (group_writes g (group_writes h ws))) cw ∙ ap (λ vs. w ∷ vs) (rest ∙ ap (λ d. cond d (group_writes g ws) []) bw)
    by rest true aw true bw false cw = ap (λ d. cond d (w ∷ group_writes g (group_writes h ws)) (group_writes g (group_writes h ws))) cw ∙ rest ∙ ap (λ d. cond d (group_writes g ws) []) bw
    by rest true aw false bw true cw = absurd (different (sym bw ∙ ap (λ k. same_key k g) (sym (same_key-equal (group_of w) h aw)) ∙ cw)) where
      different : false ≡ true → ⊥
      different e = cc
    by rest true aw false bw false cw = ap (λ d. cond d (w ∷ group_writes g (group_writes h ws)) (group_writes g (group_writes h ws))) cw ∙ rest ∙ ap (λ d. cond d (group_writes g ws) []) bw
    by rest false aw true bw true cw = absurd (different (sym aw ∙ ap (λ k. same_key (group_of w) k) (same_key-equal h g bw) ∙ cw)) where
      different : false ≡ true → ⊥
      different e = cc
    by rest false aw true bw false cw = rest ∙ ap (λ d. cond d (group_writes g ws) []) bw
    by rest false aw false bw c cw = rest ∙ ap (λ d. cond d (group_writes g ws) []) bw

  -- the writes to the group in a list of entries
  abbrev among : List Entry → List Write
  among es = group_writes g (entry_writes es)

  among-append : (es fs : List Entry) → among (es ++ fs) ≡ among es ++ among fs
  among-append es fs = ap (group_writes g) (flat_map-append (λ (e : Entry). e.writes) es fs) ∙ filter-append (λ w. same_key (group_of w) g) (entry_writes es) (entry_writes fs)

  -- whatever of its entries were applied first, the writes among them begin those among all
  prefix : (a : ℕ) (es : List Entry) → among es ≡ among (take a es) ++ among (drop a es)
  prefix a es = ap among (sym (take-append-drop a es)) ∙ among-append (take a es) (drop a es)

  -- ---- the entries of one shard

  module _ (shards shard : ℕ) where
    here : List Write → List Write
    here ws = cond (shard_of g shards == shard) ws []

    piece : (ws : List Write) (h : KeyParts) (own : Bool) → (shard_of h shards == shard) ≡ own →
        cond own (cond (same_key h g) (group_writes g ws) []) [] ≡ cond (same_key h g) (here (group_writes g ws)) []
    unfolding here
    piece ws h own is = by (same_key h g) refl own is where
      by : (b : Bool) → same_key h g ≡ b → (own : Bool) → (shard_of h shards == shard) ≡ own → cond own (cond b (group_writes g ws) []) [] ≡ cond b (cond (shard_of g shards == shard) (group_writes g ws) []) []
      by true same own is = ap (λ d. cond d (group_writes g ws) []) (sym is ∙ ap (λ k. shard_of k shards == shard) (same_key-equal h g same))
      by false same true is = refl
      by false same false is = refl

    of_groups : (n : ℕ) (ws : List Write) (hs : List KeyParts) →
        among (filter (λ (e : Entry). shard_of e.group shards == shard) (map (λ h. record { commit = n; group = h; writes = group_writes h ws }) hs))
        ≡ flat_map (λ h. cond (same_key h g) (here (group_writes g ws)) []) hs
    of_groups n ws [] = refl
    of_groups n ws (h ∷ hs) = by (of_groups n ws hs) (shard_of h shards == shard) refl where
      by : group_writes g (entry_writes (filter (λ (e : Entry). shard_of e.group shards == shard) (map (λ h. record { commit = n; group = h; writes = group_writes h ws }) hs))) ≡ flat_map (λ h. cond (same_key h g) (here (group_writes g ws)) []) hs → (own : Bool) → (shard_of h shards == shard) ≡ own → group_writes g (entry_writes (cond own ((record { commit = n; group = h; writes = group_writes h ws }) ∷ filter (λ (e : Entry). shard_of e.group shards == shard) (map (λ h. record { commit = n; group = h; writes = group_writes h ws }) hs)) (filter (λ (e : Entry). shard_of e.group shards == shard) (map (λ h. record { commit = n; group = h; writes = group_writes h ws }) hs)))) ≡ cond (same_key h g) (here (group_writes g ws)) [] ++ flat_map (λ h. cond (same_key h g) (here (group_writes g ws)) []) hs
      by rest true is =
          filter-append (λ w. same_key (group_of w) g) (group_writes h ws) (entry_writes (filter (λ (e : Entry). shard_of e.group shards == shard) (map (λ h. record { commit = n; group = h; writes = group_writes h ws }) hs)))
          ∙ ap (λ vs. vs ++ group_writes g (entry_writes (filter (λ (e : Entry). shard_of e.group shards == shard) (map (λ h. record { commit = n; group = h; writes = group_writes h ws }) hs)))) (twice h ws ∙ piece ws h true is)
          ∙ ap (λ vs. cond (same_key h g) (here (group_writes g ws)) [] ++ vs) rest
      by rest false is = rest ∙ ap (λ vs. vs ++ flat_map (λ h. cond (same_key h g) (here (group_writes g ws)) []) hs) (piece ws h false is)

    of_commit : (n : ℕ) (c : Commit) → among (filter (λ (e : Entry). shard_of e.group shards == shard) (commit_entries n c)) ≡ here (group_writes g c.writes)
    unfolding here
    of_commit n c =
        of_groups n c.writes (groups_of c.writes)
        ∙ at_group (here (group_writes g c.writes)) (groups_of c.writes) (ascending_all [] (map group_of c.writes) tt)
        ∙ ap (λ b. cond b (here (group_writes g c.writes)) []) (any-groups_of g c.writes)
        ∙ by (writes_group g c.writes) refl
      where
        by : (b : Bool) → writes_group g c.writes ≡ b → cond b (cond (shard_of g shards == shard) (group_writes g c.writes) []) [] ≡ cond (shard_of g shards == shard) (group_writes g c.writes) []
        by true is = refl
        by false is = sym (ap (λ ws. cond (shard_of g shards == shard) ws []) (unwritten g c.writes is) ∙ nothing (shard_of g shards == shard)) where
          nothing : (d : Bool) → cond {A = List Write} d [] [] ≡ []
          nothing true = refl
          nothing false = refl

    of_journal : (n : ℕ) (journal : List Commit) → among (filter (λ (e : Entry). shard_of e.group shards == shard) (entries_from n journal)) ≡ here (group_log journal g)
    unfolding here
    of_journal n [] = nothing (shard_of g shards == shard) where
      nothing : (d : Bool) → [] ≡ cond {A = List Write} d [] []
      nothing true = refl
      nothing false = refl
    of_journal n (c ∷ journal) =
        ap among (filter-append (λ (e : Entry). shard_of e.group shards == shard) (commit_entries n c) (entries_from (n + 1) journal))
        ∙ among-append (filter (λ (e : Entry). shard_of e.group shards == shard) (commit_entries n c)) (filter (λ (e : Entry). shard_of e.group shards == shard) (entries_from (n + 1) journal))
        ∙ ap (λ ws. ws ++ among (filter (λ (e : Entry). shard_of e.group shards == shard) (entries_from (n + 1) journal))) (of_commit n c)
        ∙ ap (λ ws. here (group_writes g c.writes) ++ ws) (of_journal (n + 1) journal)
        ∙ by (shard_of g shards == shard)
      where
        by : (d : Bool) → cond d (group_writes g c.writes) [] ++ cond d (group_log journal g) [] ≡ cond d (group_writes g (c.writes ++ writes_of journal)) []
        by true = sym (filter-append (λ w. same_key (group_of w) g) c.writes (writes_of journal))
        by false = refl

  -- ---- all shards

  front : (xs ys : List Write) → xs ++ ys ≡ [] → xs ≡ []
  front [] ys none = refl
  front (x ∷ xs) ys none = cc

  module _ (shards : ℕ) (journal : List Commit) where
    abbrev lists_from : ℕ → ℕ → List (List Entry)
    lists_from first len = map (λ shard. shard_list journal shard shards) (range_with_len first len)

    whole_list : (shard : ℕ) (own : Bool) → (shard_of g shards == shard) ≡ own → among (shard_list journal shard shards) ≡ cond own (group_log journal g) []
    unfolding here
    whole_list shard own is = of_journal shards shard 1 journal ∙ ap (λ d. cond d (group_log journal g) []) is

    -- another shard has nothing of the group
    other_none : (shard a : ℕ) → (shard_of g shards == shard) ≡ false → among (take a (shard_list journal shard shards)) ≡ []
    other_none shard a other =
        let es : List Entry = shard_list journal shard shards in
        front (among (take a es)) (among (drop a es)) (sym (prefix a es) ∙ whole_list shard false other)

    later_none : (first len : ℕ) (counts : List ℕ) → shard_of g shards < first → among (counted (lists_from first len) counts) ≡ []
    later_none first zero counts later = refl
    later_none first (suc len) [] later = refl
    later_none first (suc len) (a ∷ counts) later =
        among-append (take a (shard_list journal first shards)) (counted (lists_from (first + 1) len) counts)
        ∙ ap (λ ws. ws ++ among (counted (lists_from (first + 1) len) counts)) (other_none first a (ne_eqb (shard_of g shards) first (λ same. absurd (omega arith))))
        ∙ later_none (first + 1) len counts (omega arith)

    -- the counted writes to the group begin its log
    begins : (first len : ℕ) (counts : List ℕ) → (behind : List Write) × (group_log journal g ≡ among (counted (lists_from first len) counts) ++ behind)
    begins first zero counts = (group_log journal g, refl)
    begins first (suc len) [] = (group_log journal g, refl)
    begins first (suc len) (a ∷ counts) = by (begins (first + 1) len counts) (shard_of g shards == first) refl where
      by : (behind : List Write) × (group_log journal g ≡ among (counted (lists_from (first + 1) len) counts) ++ behind) → (own : Bool) → (shard_of g shards == first) ≡ own →
          (behind : List Write) × (group_log journal g ≡ among (take a (shard_list journal first shards) ++ counted (lists_from (first + 1) len) counts) ++ behind)
      by rest true own =
          let es : List Entry = shard_list journal first shards in
          let same : shard_of g shards ≡ first = eqb-true (shard_of g shards) first own in (
            among (drop a es),
            sym (whole_list first true own) ∙ prefix a es
                ∙ ap (λ ws. ws ++ among (drop a es)) (sym (append-nil (among (take a es))) ∙ ap (λ ws. among (take a es) ++ ws) (sym (later_none (first + 1) len counts (omega arith))))
                ∙ ap (λ ws. ws ++ among (drop a es)) (sym (among-append (take a es) (counted (lists_from (first + 1) len) counts))),
          )
      by rest false other =
          let es : List Entry = shard_list journal first shards in (
            rest.0,
            rest.1 ∙ ap (λ ws. (ws ++ among (counted (lists_from (first + 1) len) counts)) ++ rest.0) (sym (other_none first a other))
                ∙ ap (λ ws. ws ++ rest.0) (sym (among-append (take a es) (counted (lists_from (first + 1) len) counts))),
          )

-- A global view, cut to one group, is what the first writes of the group's log leave.
pub global_prefix : (g : KeyParts) (shards : ℕ) (journal : List Commit) (counts : List ℕ) →
    (first behind : List Write) × (group_log journal g ≡ first ++ behind) × (cut g (global_view (shard_lists shards journal) counts) ≡ after first)
global_prefix g shards journal counts =
    let found = begins g shards journal 0 shards counts in
    (among g (counted (shard_lists shards journal) counts), found.0, found.1, cut_view g (entry_writes (counted (shard_lists shards journal) counts)))

-- The writes to a group among the entries of its shard are its whole log.
pub own_entries : (g : KeyParts) (shards : ℕ) (journal : List Commit) →
    group_writes g (entry_writes (shard_list journal (shard_of g shards) shards)) ≡ group_log journal g
own_entries g shards journal = whole_list g shards journal (shard_of g shards) true (eq-eqb (shard_of g shards) (shard_of g shards) refl)
