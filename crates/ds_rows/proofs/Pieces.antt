-- Rows stay where they stand when bytes are put behind them.
use Rattle.std.proofs.Common.{◌≡◌, ℕ, ◌-◌, ◌≤◌, ◌++◌, ◌∷◌, [], List, length, take, drop, refl, ap, ◌∙◌, arith, length-append}
use Rattle.std.proofs.Common.{length-drop}
use Rattle.std.specs.Prelude.{All, Result, Ok, Err, OnOk}
use Rattle.std.proofs.lemmas.List.{drop-append-le, take-append-le}
use Rattle.std.proofs.lemmas.List.Elements.{All-head, All-tail}
use Rattle.ds_rows.specs.declared.row_set.Span.{Span}
use Rattle.ds_rows.specs.Spans.{piece, pieces, IsWithin, Written}

pub within_stays : (bytes more : List ℕ) (s : Span) → IsWithin bytes s → IsWithin (bytes ++ more) s
within_stays bytes more s within = record { rises = within.rises; ends = omega (arith, within.ends, length-append bytes more) }

pub piece_stays : (bytes more : List ℕ) (s : Span) → IsWithin bytes s → piece (bytes ++ more) s ≡ piece bytes s
piece_stays bytes more s within =
    let rises : s.from ≤ s.to = within.rises in
    let ends : s.to ≤ length bytes = within.ends in
    let inside : s.to - s.from ≤ length (drop s.from bytes) = omega (arith, length-drop s.from bytes) in
    ap (λ (bs : List ℕ). take (s.to - s.from) bs) (drop-append-le s.from bytes more (omega arith))
    ∙ take-append-le (s.to - s.from) (drop s.from bytes) more inside

pub pieces_stay : (bytes more : List ℕ) (spans : List Span) → All (IsWithin bytes) spans → pieces (bytes ++ more) spans ≡ pieces bytes spans
pieces_stay bytes more [] all = refl
pieces_stay bytes more (s ∷ spans) all =
    let first = piece_stays bytes more s (All-head (IsWithin bytes) s spans all) in
    let rest = pieces_stay bytes more spans (All-tail (IsWithin bytes) s spans all) in
    λ i. first i ∷ rest i

-- ---- a row that is being written

abbrev pub written_as : List ℕ → List Span → ℕ → Written
written_as bytes spans begun = record { rows = pieces bytes spans; begun = drop begun bytes }

-- what holds where a call succeeded holds of what follows from it
pub on_ok : {E A B : Type 0} (r : Result (Unit {0}) E) → (A → B) → OnOk r A → OnOk r B
on_ok (Ok x) follows a = follows a
on_ok (Err e) follows a = tt

-- bytes put at the end go to the row that is begun
pub put_behind : (bytes more new : List ℕ) (spans : List Span) (begun : ℕ) (old : Written) → All (IsWithin bytes) spans
    → begun ≤ length bytes
    → written_as bytes spans begun ≡ old → new ≡ bytes ++ more
    → written_as new spans begun ≡ record { rows = old.rows; begun = old.begun ++ more }
put_behind bytes more new spans begun old all inside seen is =
    ap (λ (bs : List ℕ). written_as bs spans begun) is
    ∙ (λ i. record { rows = pieces_stay bytes more spans all i; begun = drop-append-le begun bytes more inside i })
    ∙ ap (λ (w : Written). record { rows = w.rows; begun = w.begun ++ more }) seen
