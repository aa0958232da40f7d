-- What a shard keeps, step by step.
use Rattle.std.proofs.Common.{◌≡◌, ℕ, zero, suc, ◌+◌, ◌<◌, ◌≤◌, List, [], ◌∷◌, ◌++◌, length, take, fold, get_or, refl, ap, sym, ◌∙◌}
use Rattle.std.proofs.Common.{append_assoc, append-nil, arith}
use Rattle.std.proofs.lemmas.List.{take_more, take_all, take-append-le}
use Rattle.std.proofs.lemmas.List.Sums.{fold-append}
use Rattle.ds_entity.specs.Entities.{EntityParts}
use Rattle.ds_log.specs.declared.Entry.{Entry}
use Rattle.ds_log.specs.declared.Write.{Write}
use Rattle.ds_log.specs.After.{after, apply_write}
use Rattle.ds_log.specs.Logs.{entry_writes}
use Rattle.ds_applied.specs.AppliedLists.{IsShard, writes_at}
use Rattle.ds_entity.specs.EntityOrder.{sorted_by_key}

-- ---- the entry at a place

pub writes_index : (es : List Entry) (i : ℕ) (e : Entry) → i < length es → e ≡ get_or es i e → e.writes ≡ writes_at es i
writes_index [] i e below is = absurd (omega (arith, below))
writes_index (x ∷ es) zero e below is = ap (λ (f : Entry). f.writes) is
writes_index (x ∷ es) (suc i) e below is = writes_index es i e (let w : i < length es = omega (arith, below) in w) is

writes_past : (es : List Entry) (i : ℕ) → length es ≤ i → writes_at es i ≡ []
writes_past [] i past = refl
writes_past (x ∷ es) zero past = absurd (omega (arith, past))
writes_past (x ∷ es) (suc i) past = writes_past es i (let w : length es ≤ i = omega (arith, past) in w)

writes_front : (es fs : List Entry) (i : ℕ) → i < length es → writes_at (es ++ fs) i ≡ writes_at es i
writes_front [] fs i below = absurd (omega (arith, below))
writes_front (x ∷ es) fs zero below = refl
writes_front (x ∷ es) fs (suc i) below = writes_front es fs i (let w : i < length es = omega (arith, below) in w)

writes_next : (es : List Entry) (i : ℕ) → i < length es → entry_writes (take (suc i) es) ≡ entry_writes (take i es) ++ writes_at es i
writes_next [] i below = absurd (omega (arith, below))
writes_next (x ∷ es) zero below = append-nil x.writes
writes_next (x ∷ es) (suc i) below =
    ap (λ ws. x.writes ++ ws) (writes_next es i (let w : i < length es = omega (arith, below) in w))
    ∙ sym (append_assoc x.writes (entry_writes (take i es)) (writes_at es i))

-- the writes up to the entry behind the one at a place
pub writes_more : (es : List Entry) (i : ℕ) → i < length es → entry_writes (take (i + 1) es) ≡ entry_writes (take i es) ++ writes_at es i
writes_more es i below = ap (λ n. entry_writes (take n es)) (let e : i + 1 ≡ suc i = omega arith in e) ∙ writes_next es i below

-- ---- steps

after-append : (ws vs : List Write) → after (ws ++ vs) ≡ fold apply_write (after ws) vs
after-append ws vs = fold-append apply_write [] ws vs

-- one write more
pub shard_written : (es : List Entry) (applied begun : ℕ) (old new : List EntityParts) (w : Write) → IsShard es applied begun old
    → begun < length (writes_at es applied) → w ≡ get_or (writes_at es applied) begun w
    → ((ds : List EntityParts) → old ≡ sorted_by_key ds → new ≡ sorted_by_key (apply_write ds w)) → IsShard es applied (begun + 1) new
shard_written es applied begun old new w was below is applies = record {
  within = was.within;
  begun_within = omega (arith, below);
  kept =
      applies (after (entry_writes (take applied es) ++ take begun (writes_at es applied))) was.kept
      ∙ ap sorted_by_key (sym (after-append (entry_writes (take applied es) ++ take begun (writes_at es applied)) (w ∷ []))
      ∙ ap after (append_assoc (entry_writes (take applied es)) (take begun (writes_at es applied)) (w ∷ [])
      ∙ ap (λ vs. entry_writes (take applied es) ++ vs)
      (sym (take_more (writes_at es applied) begun w below ∙ ap (λ v. take begun (writes_at es applied) ++ v ∷ []) (sym is)))));
}

-- the entry's end
pub shard_ended : (es : List Entry) (applied begun : ℕ) (kept : List EntityParts) → IsShard es applied begun kept → applied < length es
    → begun ≡ length (writes_at es applied) → IsShard es (applied + 1) 0 kept
shard_ended es applied begun kept was below all = record {
  within = omega (arith, below);
  begun_within = omega arith;
  kept =
      was.kept
      ∙ ap (λ ws. sorted_by_key (after (entry_writes (take applied es) ++ ws)))
      (take_all begun (writes_at es applied) (omega (arith, all)))
      ∙ ap (λ ws. sorted_by_key (after ws))
      (sym (writes_more es applied below) ∙ sym (append-nil (entry_writes (take (applied + 1) es))));
}

-- one entry more behind the others
pub shard_pushed : (es : List Entry) (e : Entry) (applied begun : ℕ) (kept : List EntityParts) → IsShard es applied begun kept
    → IsShard (es ++ e ∷ []) applied begun kept
shard_pushed es e applied begun kept was = record {
  within = omega (arith, was.within, longer es);
  begun_within = omega (arith, was.begun_within, still);
  kept =
      was.kept
      ∙ ap (λ ws. sorted_by_key (after (entry_writes ws ++ take begun (writes_at es applied))))
      (sym (take-append-le {A = Entry} applied es (e ∷ []) was.within))
      ∙ ap (λ ws. sorted_by_key (after (entry_writes (take applied (es ++ e ∷ [])) ++ ws))) (sym same);
} where
  longer : (fs : List Entry) → length fs ≤ length (fs ++ e ∷ [])
  longer [] = omega arith
  longer (f ∷ fs) = let rest = longer fs in omega (arith, rest)

  begun_same : (fs : List Entry) (i : ℕ) → begun ≤ length (writes_at fs i)
      → (length (writes_at fs i) ≤ length (writes_at (fs ++ e ∷ []) i)) ×
      (take begun (writes_at (fs ++ e ∷ []) i) ≡ take begun (writes_at fs i))
  begun_same [] i none = (omega arith, at_none begun (omega (arith, none))) where
    at_none : (b : ℕ) → b ≤ 0 → take b (writes_at (e ∷ []) i) ≡ take b []
    at_none zero none = refl
    at_none (suc b) none = absurd (omega (arith, none))
  begun_same (f ∷ fs) zero h = (omega arith, refl)
  begun_same (f ∷ fs) (suc i) h = begun_same fs i h

  still : length (writes_at es applied) ≤ length (writes_at (es ++ e ∷ []) applied)
  still = (begun_same es applied was.begun_within).0

  same : take begun (writes_at (es ++ e ∷ []) applied) ≡ take begun (writes_at es applied)
  same = (begun_same es applied was.begun_within).1
