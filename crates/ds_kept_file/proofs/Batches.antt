-- Batches one behind another.
use Rattle.std.proofs.Common.{◌≡◌, ℕ, ◌+◌, ◌<◌, ◌^◌, List, [], ◌∷◌, ◌++◌, length, true, false, refl, sym, ap, ◌∙◌, subst}
use Rattle.std.proofs.Common.{append_assoc, append-nil, length-append, arith}
use Rattle.ds_kept_file.specs.Files.{Kept, Batch, nothing, with_batch, next_number, body_of, opened, batches_bytes, is_open, Continues, AreContinuing, kept_after}
use Rattle.ds_kept_file.specs.Files.{Leads, BeginsWith, HasNoBatch, sized}
use Rattle.ds_kept_file.specs.Readings.{IsBodyRead}
use Rattle.ds_kept_file.proofs.Splits.{opened_alone}

-- ---- one batch more

pub bytes-push : (kept : Kept) (batches : List Batch) (batch : Batch) → batches_bytes kept (batches ++ batch ∷ [])
    ≡ batches_bytes kept batches ++ opened (body_of (next_number (kept_after kept batches)) batch)
bytes-push kept [] batch = append-nil (opened (body_of (next_number kept) batch))
bytes-push kept (b ∷ batches) batch =
    ap (λ (l : List ℕ). opened (body_of (next_number kept) b) ++ l) (bytes-push (with_batch kept b) batches batch)
    ∙ sym (append_assoc (opened (body_of (next_number kept) b)) (batches_bytes (with_batch kept b) batches) _)

continuing-push : (kept : Kept) (batches : List Batch) (batch : Batch) → AreContinuing kept batches → Continues (kept_after kept batches) batch
    → AreContinuing kept (batches ++ batch ∷ [])
continuing-push kept [] batch h c = (c, tt)
continuing-push kept (b ∷ batches) batch h c = (h.0, continuing-push (with_batch kept b) batches batch h.1 c)

after-push : (kept : Kept) (batches : List Batch) (batch : Batch) → kept_after kept (batches ++ batch ∷ []) ≡ with_batch (kept_after kept batches) batch
after-push kept [] batch = refl
after-push kept (b ∷ batches) batch = after-push (with_batch kept b) batches batch

-- a batch that may follow stands behind the others
pub batch_more : (file rest behind : List ℕ) (kept : Kept) (batch : Batch) → BeginsWith file kept rest
    → rest ≡ opened (body_of (next_number kept) batch) ++ behind → 0 < length behind → Continues kept batch → BeginsWith file (with_batch kept batch) behind
batch_more file rest behind kept batch front split gate continues =
    let front_bytes = batches_bytes nothing front.batches in
    let bytes_are : opened (body_of (next_number kept) batch) ≡ opened (body_of (next_number (kept_after nothing front.batches)) batch) =
    ap (λ (k : Kept). opened (body_of (next_number k) batch)) (sym front.after) in
    record {
      batches = front.batches ++ batch ∷ [];
      split = front.split ∙ ap (λ (l : List ℕ). front_bytes ++ l) (split ∙ ap (λ (l : List ℕ). l ++ behind) bytes_are)
          ∙ sym (append_assoc front_bytes (opened (body_of (next_number (kept_after nothing front.batches)) batch)) behind)
          ∙ ap (λ (l : List ℕ). l ++ behind) (sym (bytes-push nothing front.batches batch));
      continuing = continuing-push nothing front.batches batch front.continuing (subst (λ (k : Kept). Continues k batch) (sym front.after) continues);
      after = after-push nothing front.batches batch ∙ ap (λ (k : Kept). with_batch k batch) front.after;
      gate = λ some. gate;
    }

-- a batch that may follow was read behind the others
pub one_more : (file rest body behind : List ℕ) (kept now : Kept) → BeginsWith file kept rest → rest ≡ opened body ++ behind → 0 < length behind
    → IsBodyRead kept body now → BeginsWith file now behind
one_more file rest body behind kept now front split gate read =
    subst (λ (k : Kept). BeginsWith file k behind) (sym read.after)
    (batch_more file rest behind kept read.batch front (split ∙ ap (λ (l : List ℕ). opened l ++ behind) read.is) gate read.continues)

-- before the first batch
pub none_yet : (file : List ℕ) → BeginsWith file nothing file
none_yet file = record { batches = []; split = refl; continuing = tt; after = refl; gate = λ some. some }

-- ---- what a file keeps leads on from what was read

-- bytes lead from what is kept to all that is kept, and behind that stands no batch that may follow
abbrev pub LeadsTo : Kept → List ℕ → Kept → List ℕ → Type 0
LeadsTo kept bytes all behind = Leads kept bytes all behind × HasNoBatch all behind

-- behind a closed gate stands no batch
pub closed_none : (kept : Kept) (bytes : List ℕ) → is_open bytes ≡ false → HasNoBatch kept bytes
closed_none kept bytes closed batch gates is some continues = let both : false ≡ true = sym closed ∙ ap is_open is in cc both

some-bytes : (body rest bytes : List ℕ) → bytes ≡ opened body ++ rest → 0 < length bytes
some-bytes body rest bytes is =
    let long : length bytes ≡ length (1 ∷ sized body) + length rest = ap (λ (l : List ℕ). length l) is ∙ length-append (opened body) rest in
    omega (arith, long)

module _ (kept : Kept) (bytes : List ℕ) (all : Kept) (end : List ℕ) where
  more-split : (b : Batch) (batches : List Batch) → bytes ≡ batches_bytes kept (b ∷ batches) ++ end
      → bytes ≡ opened (body_of (next_number kept) b) ++ (batches_bytes (with_batch kept b) batches ++ end)
  more-split b batches split = split ∙ append_assoc (opened (body_of (next_number kept) b)) (batches_bytes (with_batch kept b) batches) end

  more-gate : (b : Batch) (batches : List Batch) → bytes ≡ batches_bytes kept (b ∷ batches) ++ end → (0 < length bytes → 0 < length end)
      → 0 < length (batches_bytes (with_batch kept b) batches ++ end)
  more-gate b batches split gate =
      omega (
        arith,
        length-append (batches_bytes (with_batch kept b) batches) end,
        gate (some-bytes (body_of (next_number kept) b) (batches_bytes (with_batch kept b) batches ++ end) bytes (more-split b batches split)),
      )

  -- the batch whose body was read is the first of those that lead on
  pub leads_on : (body behind : List ℕ) (now : Kept) → length bytes < 2 ^ 64 → bytes ≡ opened body ++ behind → 0 < length behind
      → IsBodyRead kept body now → LeadsTo kept bytes all end → LeadsTo now behind all end
  leads_on body behind now small split gate read leads = by leads.0.batches leads.0.split leads.0.continuing leads.0.after where
    by : (batches : List Batch) → bytes ≡ batches_bytes kept batches ++ end → AreContinuing kept batches → kept_after kept batches ≡ all
        → LeadsTo now behind all end
    by [] same continuing after =
        absurd (subst (λ (k : Kept). HasNoBatch k end) (sym after) leads.1 read.batch behind
        (sym same ∙ split ∙ ap (λ (l : List ℕ). opened l ++ behind) read.is) gate read.continues)
    by (b ∷ batches) same continuing after =
        let alone = opened_alone bytes body behind (body_of (next_number kept) b) (batches_bytes (with_batch kept b) batches ++ end) small split
        (more-split b batches same) in
        let now_is : now ≡ with_batch kept b = read.alone b alone.0 continuing.0 in
        subst (λ (k : Kept). LeadsTo k behind all end) (sym now_is)
        (subst (λ (l : List ℕ). LeadsTo (with_batch kept b) l all end) (sym alone.1) (
          record {
            batches = batches;
            split = refl;
            continuing = continuing.1;
            after = after;
            gate = λ some. leads.0.gate
                (some-bytes (body_of (next_number kept) b) (batches_bytes (with_batch kept b) batches ++ end) bytes (more-split b batches same));
          },
          leads.1,
        ))

  -- where no batch may follow, they end
  pub at_end : HasNoBatch kept bytes → LeadsTo kept bytes all end → (all ≡ kept) × (end ≡ bytes)
  at_end none leads = by leads.0.batches leads.0.split leads.0.continuing leads.0.after where
    by : (batches : List Batch) → bytes ≡ batches_bytes kept batches ++ end → AreContinuing kept batches → kept_after kept batches ≡ all
        → (all ≡ kept) × (end ≡ bytes)
    by [] split continuing after = (sym after, sym split)
    by (b ∷ batches) split continuing after =
        absurd (none b (batches_bytes (with_batch kept b) batches ++ end) (more-split b batches split)
        (more-gate b batches split leads.0.gate) continuing.0)
