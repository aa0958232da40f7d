-- What writes leave at a key, looked for among the commits that wrote its group.
use Rattle.std.proofs.Common.{◌≡◌, ℕ, Bool, true, false, ◌||◌, cond, not, List, [], ◌∷◌, ◌++◌, take, refl, ap, sym, ◌∙◌, Option, Some, None}
use Rattle.std.specs.Prelude.{fold}
use Rattle.std.proofs.lemmas.Grind.{fold-append, flat_map-append}
use Rattle.ds_entity.specs.Entities.{EntityParts}
use Rattle.ds_entity.specs.EntityOrder.{sorted_by_key}
use Rattle.ds_base.specs.Keys.{KeyParts, root_of}
use Rattle.ds_base.specs.KeyOrder.{same_key}
use Rattle.ds_log.specs.declared.Commit.{Commit}
use Rattle.ds_log.specs.declared.Write.{Write}
use Rattle.ds_log.specs.declared.Write.TheVariants.{Put, Delete}
use Rattle.ds_log.specs.After.{after, apply_write, without}
use Rattle.ds_log.specs.Conflicts.{writes_group}
use Rattle.ds_log.specs.Logs.{group_of, key_of, writes_of}
use Rattle.ds_model.specs.Results.{entity_of}
use Rattle.ds_model.specs.Views.{strong_view}
use Rattle.ds_model.proofs.DistinctKeys.{same_key-itself}
use Rattle.ds_model.proofs.GroupViews.{same_key-equal}
use Rattle.ds_history.specs.Writers.{left_at, put_by, writing}

-- ---- one write

abbrev or_else : Option EntityParts → Option EntityParts → Option EntityParts
or_else (Some e) o = Some e
or_else None o = o

found-append : (k : KeyParts) (es fs : List EntityParts) → entity_of (es ++ fs) k ≡ or_else (entity_of es k) (entity_of fs k)
found-append k [] fs = refl
found-append k (e ∷ es) fs = by (found-append k es fs) (same_key e.key k) where
  by : entity_of (es ++ fs) k ≡ or_else (entity_of es k) (entity_of fs k) → (b : Bool)
      → cond b (Some e) (entity_of (es ++ fs) k) ≡ or_else (cond b (Some e) (entity_of es k)) (entity_of fs k)
  by rest true = refl
  by rest false = rest

-- the entity of a key that was taken out isn't found
taken : (k : KeyParts) (es : List EntityParts) → entity_of (without k es) k ≡ None
taken k [] = refl
taken k (e ∷ es) = by (taken k es) (same_key e.key k) refl where
  by : entity_of (without k es) k ≡ None → (b : Bool) → same_key e.key k ≡ b → entity_of (cond (not b) (e ∷ without k es) (without k es)) k ≡ None
  by rest true is = rest
  by rest false is = ap (λ b. cond b (Some e) (entity_of (without k es) k)) is ∙ rest

-- that of another key is
kept : (k l : KeyParts) (es : List EntityParts) → same_key l k ≡ false → entity_of (without l es) k ≡ entity_of es k
kept k l [] other = refl
kept k l (e ∷ es) other = by (kept k l es other) (same_key e.key l) refl where
  by : entity_of (without l es) k ≡ entity_of es k → (b : Bool) → same_key e.key l ≡ b
      → entity_of (cond (not b) (e ∷ without l es) (without l es)) k ≡ cond (same_key e.key k) (Some e) (entity_of es k)
  by rest true is =
      rest
      ∙ sym (ap (λ b. cond b (Some e) (entity_of es k)) (ap (λ m. same_key m k) (same_key-equal e.key l is) ∙ other))
  by rest false is = ap (λ o. cond (same_key e.key k) (Some e) o) rest

none_else : (o : Option EntityParts) → or_else o None ≡ o
none_else None = refl
none_else (Some e) = refl

one_write : (k : KeyParts) (es : List EntityParts) (w : Write) → entity_of (apply_write es w) k ≡ left_at k (entity_of es k) w
one_write k es (Put e) = found-append k (without e.key es) (e ∷ []) ∙ by (same_key e.key k) refl where
  by : (b : Bool) → same_key e.key k ≡ b → or_else (entity_of (without e.key es) k) (cond b (Some e) None) ≡ cond b (Some e) (entity_of es k)
  by true is =
      ap (λ o. or_else o (Some e)) (ap (λ l. entity_of (without l es) k) (same_key-equal e.key k is) ∙ taken k es)
  by false is = none_else (entity_of (without e.key es) k) ∙ kept k e.key es is
one_write k es (Delete l) = by (same_key l k) refl where
  by : (b : Bool) → same_key l k ≡ b → entity_of (without l es) k ≡ cond b None (entity_of es k)
  by true is = ap (λ m. entity_of (without m es) k) (same_key-equal l k is) ∙ taken k es
  by false is = kept k l es is

-- ---- writes in turn

pub found_writes : (k : KeyParts) (es : List EntityParts) (ws : List Write) → entity_of (fold apply_write es ws) k ≡ fold (left_at k) (entity_of es k) ws
found_writes k es [] = refl
found_writes k es (w ∷ ws) = found_writes k (apply_write es w) ws ∙ ap (λ o. fold (left_at k) o ws) (one_write k es w)

-- ---- the commits that wrote the group

-- a list of writes that leaves a group alone leaves its keys alone
untouched : (k : KeyParts) (o : Option EntityParts) (ws : List Write) → writes_group (root_of k) ws ≡ false → fold (left_at k) o ws ≡ o
untouched k o [] none = refl
untouched k o (w ∷ ws) none = by (untouched k o ws) (same_key (key_of w) k) refl (same_key (group_of w) (root_of k)) refl none where
  by : (writes_group (root_of k) ws ≡ false → fold (left_at k) o ws ≡ o) → (b : Bool) → same_key (key_of w) k ≡ b → (c : Bool) → same_key (group_of w) (root_of k) ≡ c → (c || writes_group (root_of k) ws) ≡ false
      → fold (left_at k) (cond b (put_by w) o) ws ≡ o
  by rest b is true own none = cc
  by rest true is false own none =
      let same : same_key (group_of w) (root_of k) ≡ true =
      ap (λ l. same_key (root_of l) (root_of k)) (same_key-equal (key_of w) k is) ∙ same_key-itself (root_of k) in cc
  by rest false is false own none = rest none

in_group : (k : KeyParts) (o : Option EntityParts) (cs : List Commit) → fold (left_at k) o (writes_of cs) ≡ fold (left_at k) o (writes_of (writing (root_of k) cs))
in_group k o [] = refl
in_group k o (c ∷ cs) =
    fold-append (left_at k) o c.writes (writes_of cs) ∙ by (λ p. in_group k p cs) (writes_group (root_of k) c.writes) refl
  where
    by : ((p : Option EntityParts) → fold (left_at k) p (writes_of cs) ≡ fold (left_at k) p (writes_of (writing (root_of k) cs))) → (b : Bool) → writes_group (root_of k) c.writes ≡ b
        → fold (left_at k) (fold (left_at k) o c.writes) (writes_of cs) ≡ fold (left_at k) o (writes_of (cond b (c ∷ writing (root_of k) cs) (writing (root_of k) cs)))
    by rest true is =
        rest (fold (left_at k) o c.writes)
        ∙ sym (fold-append (left_at k) o c.writes (writes_of (writing (root_of k) cs)))
    by rest false is = ap (λ p. fold (left_at k) p (writes_of cs)) (untouched k o c.writes is) ∙ rest o

-- what the first commits leave at a key
pub found : (journal : List Commit) (m : ℕ) (k : KeyParts) → entity_of (strong_view journal m) k ≡ fold (left_at k) None (writes_of (writing (root_of k) (take m journal)))
found journal m k = found_writes k [] (writes_of (take m journal)) ∙ in_group k None (take m journal)

-- further commits
pub found_more : (k : KeyParts) (o p : Option EntityParts) (cs ds : List Commit) → o ≡ fold (left_at k) None (writes_of cs)
    → p ≡ fold (left_at k) o (writes_of ds) → p ≡ fold (left_at k) None (writes_of (cs ++ ds))
found_more k o p cs ds so_far more =
    more ∙ ap (λ q. fold (left_at k) q (writes_of ds)) so_far
    ∙ sym (fold-append (left_at k) None (writes_of cs) (writes_of ds))
    ∙ ap (fold (left_at k) None) (sym (flat_map-append (λ (d : Commit). d.writes) cs ds))

pub view_more : (old new : List EntityParts) (cs ds : List Commit) → old ≡ sorted_by_key (after (writes_of cs))
    → ((es : List EntityParts) → old ≡ sorted_by_key es → new ≡ sorted_by_key (fold apply_write es (writes_of ds)))
    → new ≡ sorted_by_key (after (writes_of (cs ++ ds)))
view_more old new cs ds so_far more =
    more (after (writes_of cs)) so_far
    ∙ ap sorted_by_key (sym (fold-append apply_write [] (writes_of cs) (writes_of ds)) ∙ ap after (sym (flat_map-append (λ (d : Commit). d.writes) cs ds)))
