-- What is told of a reply, and that nothing else is.
use Rattle.std.proofs.Common.{◌≡◌, ℕ, zero, suc, ◌+◌, ◌<◌, ◌≤◌, List, [], ◌∷◌, length, get_or, Option, Some, None, refl, ap, sym, ◌∙◌}
use Rattle.std.proofs.Common.{subst, arith}
use Rattle.std.specs.Prelude.{IfNone, IfSome}
use Rattle.std.proofs.lemmas.List.FromFn.{length-map-range_with_len}
use Rattle.ds_log.specs.declared.Commit.{Commit}
use Rattle.ds_log.specs.declared.Entry.{Entry}
use Rattle.ds_log.specs.Logs.{shard_list}
use Rattle.ds_model.specs.Answers.{CountsWithin}
use Rattle.ds_model.specs.Groups.{IsSeenPlace, StandsAt}
use Rattle.ds_model.specs.Sessions.{Session}
use Rattle.ds_model.specs.Worlds.{shard_lists}
use Rattle.ds_judging_lines.specs.Deciding.{IsCountWithin, IsOnlyTold}

pub none_told : {A : Type 0} (P : A → Type 0) (told : Option A) → told ≡ None → IsOnlyTold P told None
none_told P told none = λ k is h. let never : None ≡ Some k = sym none ∙ is in cc

some_same : {A : Type 0} (x y : A) → Some x ≡ Some y → x ≡ y
some_same x y is = cc

pub only_told : {A : Type 0} (P : A → Type 0) (told : Option A) (x : A) → told ≡ Some x → P x → IsOnlyTold P told (Some x)
only_told P told x is h = (h, λ k same p. some_same k x (sym same ∙ is))

pub not_told : {A : Type 0} (P : A → Type 0) (told : Option A) (x : A) → told ≡ Some x → (P x → ⊥) → IsOnlyTold P told None
not_told P told x is out = λ k same p. out (subst P (some_same k x (sym same ∙ is)) p)

-- ---- places

-- the told place is within the journal, and no lower than what was seen
pub place_within : (journal : List Commit) (s : Session) (told o : Option ℕ) (m : ℕ) → told ≡ Some m → s.place ≤ m
    → IfSome o (λ k. (k ≡ m) × (k ≤ length journal)) → IfNone o (m ≤ length journal → ⊥) → IsOnlyTold (IsSeenPlace journal s) told o
place_within journal s told (Some k) m is seen some none =
    let at : told ≡ Some k = is ∙ ap (λ (n : ℕ). Some n) (sym some.0) in
    only_told (IsSeenPlace journal s) told k at (record { seen = subst (λ (n : ℕ). s.place ≤ n) (sym some.0) seen; within = some.1 })
place_within journal s told None m is seen some none = not_told (IsSeenPlace journal s) told m is (λ p. none p.within)

-- a touched group stands at its place
pub touched_stands : (journal : List Commit) (s : Session) (p told o : Option ℕ) (place : ℕ) → Some place ≡ p
    → IfSome o (λ k. (k ≡ place) × (k ≤ length journal)) → IfNone o (place ≤ length journal → ⊥) → IsOnlyTold (StandsAt journal s p) told o
touched_stands journal s p told (Some k) place is some none =
    subst (λ (q : Option ℕ). IsOnlyTold (StandsAt journal s q) told (Some k)) is
    ((some.0, some.1), λ j same h. h.0 ∙ sym some.0)
touched_stands journal s p told None place is some none =
    subst (λ (q : Option ℕ). IsOnlyTold (StandsAt journal s q) told None) is
    (λ j same h. none (subst (λ (n : ℕ). n ≤ length journal) h.0 h.1))

-- ---- counts

pub record AreEachWithin (least : ℕ → ℕ) (offset : ℕ) (seen : List ℕ) (lists : List (List Entry)) (counts : List ℕ) : Type 0 where
  pub as_many : length seen ≡ length lists
  pub counted : length counts ≡ length lists
  pub each : (k : ℕ) → k < length lists → IsCountWithin (λ shard. least (offset + shard)) lists k (get_or seen k 0) (get_or counts k 0)

pub each_within : (least : ℕ → ℕ) (offset : ℕ) (seen : List ℕ) (lists : List (List Entry)) (counts : List ℕ)
    → CountsWithin least offset seen lists counts → AreEachWithin least offset seen lists counts
each_within least offset [] [] [] are = record { as_many = refl; counted = refl; each = λ k below. absurd (omega (arith, below)) }
each_within least offset [] [] (count ∷ counts) are = absurd are
each_within least offset [] (entries ∷ lists) counts are = absurd are
each_within least offset (s ∷ seen) [] counts are = absurd are
each_within least offset (s ∷ seen) (entries ∷ lists) [] are = absurd are
each_within least offset (s ∷ seen) (entries ∷ lists) (count ∷ counts) are =
    let later = each_within least (offset + 1) seen lists counts are.3 in
    record {
      as_many = ap suc later.as_many;
      counted = ap suc later.counted;
      each = by later.each;
    } where
      by : ((k : ℕ) → k < length lists → IsCountWithin (λ shard. least (offset + 1 + shard)) lists k (get_or seen k 0) (get_or counts k 0))
          → (k : ℕ) → k < suc (length lists)
          → IsCountWithin (λ shard. least (offset + shard)) (entries ∷ lists) k (get_or (s ∷ seen) k 0) (get_or (count ∷ counts) k 0)
      by later zero below = (are.0, subst (λ (n : ℕ). least n ≤ count) (let n : offset ≡ offset + 0 = omega arith in n) are.1, are.2)
      by later (suc k) below =
          let h = later k (omega (arith, below)) in
          (h.0, subst (λ (n : ℕ). least n ≤ get_or counts k 0) (let n : offset + 1 + k ≡ offset + suc k = omega arith in n) h.1, h.2)

pub all_within : (least : ℕ → ℕ) (offset : ℕ) (seen : List ℕ) (lists : List (List Entry)) (counts : List ℕ)
    → AreEachWithin least offset seen lists counts → CountsWithin least offset seen lists counts
all_within least offset [] [] [] are = tt
all_within least offset [] [] (count ∷ counts) are = absurd (omega (arith, are.counted))
all_within least offset [] (entries ∷ lists) counts are = absurd (omega (arith, are.as_many))
all_within least offset (s ∷ seen) [] counts are = absurd (omega (arith, are.as_many))
all_within least offset (s ∷ seen) (entries ∷ lists) [] are = absurd (omega (arith, are.counted))
all_within least offset (s ∷ seen) (entries ∷ lists) (count ∷ counts) are =
    let here = are.each 0 (omega arith) in (
      here.0,
      subst (λ (n : ℕ). least n ≤ count) (let n : offset + 0 ≡ offset = omega arith in n) here.1,
      here.2,
      all_within least (offset + 1) seen lists counts (record {
        as_many = omega (arith, are.as_many);
        counted = omega (arith, are.counted);
        each = λ k below.
            let h = are.each (suc k) (omega (arith, below)) in
            (h.0, subst (λ (n : ℕ). least n ≤ get_or counts k 0) (let n : offset + suc k ≡ offset + 1 + k = omega arith in n) h.1, h.2);
      }),
    )

-- ---- counts of all shards

pub each_of : (least : ℕ → ℕ) (seen : List ℕ) (lists : List (List Entry)) (counts : List ℕ) (shards : ℕ) → length lists ≡ shards
    → CountsWithin least 0 seen lists counts
    → (k : ℕ) → k < shards → IsCountWithin least lists k (get_or seen k 0) (get_or counts k 0)
each_of least seen lists counts shards many are k below =
    let h = (each_within least 0 seen lists counts are).each k (omega (arith, below, many)) in
    (h.0, subst (λ (n : ℕ). least n ≤ get_or counts k 0) (let n : 0 + k ≡ k = omega arith in n) h.1, h.2)

pub all_of : (least : ℕ → ℕ) (seen : List ℕ) (lists : List (List Entry)) (counts : List ℕ) (shards : ℕ) → length lists ≡ shards
    → length seen ≡ shards → length counts ≡ shards
    → ((k : ℕ) → k < shards → IsCountWithin least lists k (get_or seen k 0) (get_or counts k 0)) → CountsWithin least 0 seen lists counts
all_of least seen lists counts shards many as_many counted each = all_within least 0 seen lists counts (record {
  as_many = as_many ∙ sym many;
  counted = counted ∙ sym many;
  each = λ k below.
      let h = each k (omega (arith, below, many)) in
      (h.0, subst (λ (n : ℕ). least n ≤ get_or counts k 0) (let n : k ≡ 0 + k = omega arith in n) h.1, h.2);
})

-- too few or too many
pub no_counts : (least : ℕ → ℕ) (seen : List ℕ) (lists : List (List Entry)) (counts : List ℕ) (shards : ℕ) → length lists ≡ shards
    → (length seen ≡ shards → length counts ≡ shards → ⊥) → CountsWithin least 0 seen lists counts → ⊥
no_counts least seen lists counts shards many out are =
    let h = each_within least 0 seen lists counts are in out (h.as_many ∙ many) (h.counted ∙ many)

pub lists_many : (shards : ℕ) (journal : List Commit) → length (shard_lists shards journal) ≡ shards
lists_many shards journal = length-map-range_with_len (λ shard. shard_list journal shard shards) 0 shards
