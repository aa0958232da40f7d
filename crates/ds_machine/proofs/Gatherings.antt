-- What was gathered stays there while the state grows, and an answer that was due is one over every longer journal.
use Rattle.ds_machine.proofs.Words.{◌≡◌, ℕ, zero, suc, List, [], ◌∷◌, length, arith, Option, Some, None, slice_set, Call, Session}
use Rattle.ds_machine.proofs.Words.{count_of, IsGathered, AreViewed, GatheredParts, StateParts, AreUpTo, Grows, replicate}
use Rattle.ds_machine.proofs.Grown.{grows-longer}
use Rattle.ds_machine.proofs.ReadPlans.{up_to-count}

-- ---- growing

viewed-grown : (cs : List ℕ) (views : List (Option ℕ)) (ms bs : List ℕ) → AreUpTo ms bs → AreViewed cs views ms → AreViewed cs views bs
viewed-grown [] views ms bs up v = grind arith
viewed-grown (c ∷ cs) views ms bs up v = grind (arith, viewed-grown cs)

pub gathered-grown : (old new : StateParts) → Grows old new → (s : Session) (c : Call) (g : GatheredParts) → IsGathered old s c g
    → IsGathered new s c g
gathered-grown old new grows s c g is = record {
  place = grind (arith, is.place, grows-longer old new grows);
  first = grind (arith, is.first, grows.next);
  applied = grind (arith, is.applied, grows.counts, up_to-count);
  views = viewed-grown s.counts g.views old.applied.counts new.applied.counts grows.counts is.views;
}

-- ---- gathering

none-viewed : (cs ms : List ℕ) (n : ℕ) → length ms ≡ n → AreUpTo cs ms → AreViewed cs (replicate n None) ms
none-viewed [] ms n same up = grind arith
none-viewed (c ∷ cs) ms n same up = grind (arith, none-viewed cs)

pub gathered-nothing : (st : StateParts) (s : Session) (c : Call) (n : ℕ) → length st.applied.counts ≡ n
    → AreUpTo s.counts st.applied.counts
    → IsGathered st s c (record { place = None; first = None; applied = None; views = replicate n None })
gathered-nothing st s c n same up =
    record { place = tt; first = tt; applied = tt; views = none-viewed s.counts st.applied.counts n same up }

pub view-set : (cs : List ℕ) (views : List (Option ℕ)) (ms : List ℕ) (shard : ℕ) → AreViewed cs views ms → AreUpTo cs ms
    → AreViewed cs (slice_set views shard (Some (count_of ms shard))) ms
view-set [] views ms shard v up = grind arith
view-set (c ∷ cs) views ms zero v up = grind arith
view-set (c ∷ cs) views ms (suc shard) v up = grind (arith, view-set cs)
