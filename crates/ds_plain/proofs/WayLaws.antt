-- Ways grown from the front are the ways to take one value of each list.
use Rattle.std.proofs.Common.{◌≡◌, List, [], ◌∷◌, ◌++◌, map, fold, refl, sym, ap, ◌∙◌, append_assoc, append-nil}
use Rattle.std.specs.Prelude.{flat_map}
use Rattle.std.proofs.lemmas.Grind.{flat_map-append}
use Rattle.std.proofs.lemmas.List.{map-append}
use Rattle.ds_base.specs.declared.index_value.IndexValue.{IndexValue}
use Rattle.ds_rows.specs.IndexedValues.{each_way}
use Rattle.ds_plain.specs.Ways.{with_each}

-- each way with each of the values of one list more
abbrev pub grown : List (List IndexValue) → List IndexValue → List (List IndexValue)
grown ways values = flat_map (with_each values) ways

-- the ways of the lists, each behind this one
abbrev behind : List (List IndexValue) → List IndexValue → List (List IndexValue)
behind tails way = map (λ vs. way ++ vs) tails

alone : (ways : List (List IndexValue)) → flat_map (behind ([] ∷ [])) ways ≡ ways
alone [] = refl
alone (w ∷ ways) = λ i. append-nil w i ∷ alone ways i

shifted : (w : List IndexValue) (v : IndexValue) (tails : List (List IndexValue))
    → behind tails (w ++ v ∷ []) ≡ behind (map (λ vs. v ∷ vs) tails) w
shifted w v [] = refl
shifted w v (t ∷ tails) = λ i. append_assoc w (v ∷ []) t i ∷ shifted w v tails i

one : (w : List IndexValue) (tails : List (List IndexValue)) (values : List IndexValue)
    → flat_map (behind tails) (with_each values w) ≡ behind (flat_map (λ v. map (λ vs. v ∷ vs) tails) values) w
one w tails [] = refl
one w tails (v ∷ values) =
    (λ i. shifted w v tails i ++ one w tails values i)
    ∙ sym (map-append (λ (vs : List IndexValue). w ++ vs) (map (λ vs. v ∷ vs) tails) (flat_map (λ v. map (λ vs. v ∷ vs) tails) values))

all : (tails : List (List IndexValue)) (values : List IndexValue) (ways : List (List IndexValue))
    → flat_map (behind tails) (grown ways values) ≡ flat_map (behind (flat_map (λ v. map (λ vs. v ∷ vs) tails) values)) ways
all tails values [] = refl
all tails values (w ∷ ways) =
    flat_map-append (behind tails) (with_each values w) (grown ways values)
    ∙ (λ i. one w tails values i ++ all tails values ways i)

from : (ways lists : List (List IndexValue)) → fold grown ways lists ≡ flat_map (behind (each_way lists)) ways
from ways [] = sym (alone ways)
from ways (values ∷ lists) = from (grown ways values) lists ∙ all (each_way lists) values ways

nothing : (tails : List (List IndexValue)) → flat_map (behind tails) ([] ∷ []) ≡ tails
nothing tails = append-nil (behind tails []) ∙ same tails where
  same : (ts : List (List IndexValue)) → behind ts [] ≡ ts
  same [] = refl
  same (t ∷ ts) = ap (λ zs. t ∷ zs) (same ts)

pub each_way-grown : (lists : List (List IndexValue)) → fold grown ([] ∷ []) lists ≡ each_way lists
each_way-grown lists = from ([] ∷ []) lists ∙ nothing (each_way lists)
