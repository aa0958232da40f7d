-- Runs without zero bytes, a block at a time; and escaped texts, a run at a time.
use Rattle.std.proofs.Common.{◌≡◌, ◌≢◌, ℕ, zero, suc, ◌+◌, ◌-◌, ◌<◌, ◌≤◌, List, [], ◌∷◌, ◌++◌, length, take, drop, slice_get, Some}
use Rattle.std.proofs.Common.{length-append, append_assoc, sym, ap, ◌∙◌, subst, arith, inl, inr, add_assoc, add-one}
use Rattle.std.specs.Prelude.{flat_map}
use Rattle.std.proofs.lemmas.List.{map-append, length-map, length-take-le}
use Rattle.std.proofs.lemmas.Grind.{flat_map-append}
use Rattle.std.proofs.lemmas.List.Elements.{All-nil, All-cons, All-head, All-tail}
use Rattle.std.proofs.Math.Seq.{take-append-add, take-length}
use Rattle.ds_lanes.specs.Kernels.{first_zero, complement}
use Rattle.ds_bytes.specs.Encoding.{escaped_byte, escaped}
use Rattle.ds_base.specs.Bytes.{AreBytes}
use Rattle.ds_bytes.specs.Reading.{NoneBegins, Found}
use Rattle.ds_bytes.proofs.Escapes.{first_zero-suc, flat-run, zero_pair, behind_zero, text_begins}
use Rattle.ds_bytes.proofs.Readings.{begins_from}

-- ---- blocks

-- a zero byte of the front is the first of all
first_zero-front : (xs ys : List ℕ) (n : ℕ) → n ≡ first_zero xs → n < length xs → first_zero (xs ++ ys) ≡ n
first_zero-front [] ys n is below = absurd (omega arith)
first_zero-front (zero ∷ xs) ys n is below = sym is
first_zero-front (suc x ∷ xs) ys zero is below = absurd (omega (arith, first_zero-suc x xs))
first_zero-front (suc x ∷ xs) ys (suc n) is below = first_zero-suc x (xs ++ ys) ∙ ap suc (first_zero-front xs ys n (omega (arith, first_zero-suc x xs)) (omega arith))

-- without one it is looked for behind
first_zero-behind : (xs ys : List ℕ) → length xs ≤ first_zero xs → first_zero (xs ++ ys) ≡ length xs + first_zero ys
first_zero-behind [] ys none = omega arith
first_zero-behind (zero ∷ xs) ys none = absurd (omega arith)
first_zero-behind (suc x ∷ xs) ys none =
    let later : first_zero (xs ++ ys) ≡ length xs + first_zero ys = first_zero-behind xs ys (omega (arith, first_zero-suc x xs)) in
    omega (arith, first_zero-suc x (xs ++ ys))

pub block_ends : (block behind rest : List ℕ) (n : ℕ) → block ++ behind ≡ rest → n ≡ first_zero (complement block) → n < length block → first_zero (complement rest) ≡ n
block_ends block behind rest n is run below =
    ap (λ bs. first_zero (complement bs)) (sym is) ∙ ap first_zero (map-append (λ b. 255 - b) block behind)
    ∙ first_zero-front (complement block) (complement behind) n run (omega (arith, length-map block (λ b. 255 - b)))

pub block_passes : (block behind rest : List ℕ) (n : ℕ) → block ++ behind ≡ rest → n ≡ first_zero (complement block) → n ≡ length block → first_zero (complement rest) ≡ n + first_zero (complement behind)
block_passes block behind rest n is run whole =
    let long : length (complement block) ≡ length block = length-map block (λ b. 255 - b) in
    let behind_it : first_zero (complement block ++ complement behind) ≡ length (complement block) + first_zero (complement behind) =
    first_zero-behind (complement block) (complement behind) (omega arith) in
    ap (λ bs. first_zero (complement bs)) (sym is) ∙ ap first_zero (map-append (λ b. 255 - b) block behind) ∙ behind_it ∙ ap (λ (k : ℕ). k + first_zero (complement behind)) (long ∙ sym whole)

pub block_more : (block behind rest text longer before whole : List ℕ) (run n : ℕ) → block ++ behind ≡ rest → n ≡ length block → longer ≡ text ++ take n (complement block)
    → ((k : ℕ) → text ++ take k (complement rest) ≡ before ++ take (run + k) whole) → (k : ℕ) → longer ++ take k (complement behind) ≡ before ++ take (run + n + k) whole
block_more block behind rest text longer before whole run n is long more so_far k =
    let turned : complement block ++ complement behind ≡ complement rest = sym (map-append (λ b. 255 - b) block behind) ∙ ap complement is in
    let same : length (complement block) ≡ n = length-map block (λ b. 255 - b) ∙ sym long in
    let all : take n (complement block) ≡ complement block = ap (λ (m : ℕ). take m (complement block)) (sym same) ∙ take-length (complement block) in
    let front : take (n + k) (complement rest) ≡ complement block ++ take k (complement behind) =
    (λ i. take (sym same i + k) (sym turned i)) ∙ take-append-add (complement block) (complement behind) k in
    ap (λ (xs : List ℕ). xs ++ take k (complement behind)) (more ∙ ap (λ (xs : List ℕ). text ++ xs) all)
    ∙ append_assoc text (complement block) (take k (complement behind))
    ∙ ap (λ (xs : List ℕ). text ++ xs) (sym front)
    ∙ so_far (n + k)
    ∙ ap (λ (m : ℕ). before ++ take m whole) (sym (add_assoc run n k))

-- ---- escaped texts

-- the bytes of what is escaped are bytes
text_of_bytes : (t more : List ℕ) → AreBytes (flat_map escaped_byte t ++ more) → AreBytes t
text_of_bytes [] more p = All-nil (λ b. b < 256)
text_of_bytes (zero ∷ t) more p =
    let later : List ℕ = flat_map escaped_byte t ++ more in
    All-cons (λ b. b < 256) 0 t (omega arith) (text_of_bytes t more (All-tail (λ b. b < 256) 255 later (All-tail (λ b. b < 256) 0 (255 ∷ later) p)))
text_of_bytes (suc b ∷ t) more p =
    let later : List ℕ = flat_map escaped_byte t ++ more in
    All-cons (λ b. b < 256) (suc b) t (All-head (λ b. b < 256) (suc b) later p) (text_of_bytes t more (All-tail (λ b. b < 256) (suc b) later p))

-- the text so far and a run behind it
run_behind : (seen rest text longer : List ℕ) (run f : ℕ) → seen ≡ flat_map escaped_byte text ++ rest → run ≡ first_zero rest → longer ≡ text ++ take run rest → slice_get rest (run + 1) ≡ Some f
    → seen ≡ flat_map escaped_byte longer ++ (0 ∷ f ∷ drop (run + 2) rest)
run_behind seen rest text longer run f so_far first more found =
    let split : rest ≡ take run rest ++ 0 ∷ f ∷ drop (suc (suc run)) rest = zero_pair rest run f first (subst (λ (k : ℕ). slice_get rest k ≡ Some f) (add-one run) found) in
    let spelled : flat_map escaped_byte longer ≡ flat_map escaped_byte text ++ take run rest =
    ap (flat_map escaped_byte) more ∙ flat_map-append escaped_byte text (take run rest) ∙ ap (λ (xs : List ℕ). flat_map escaped_byte text ++ xs) (flat-run rest run first) in
    let two : suc (suc run) ≡ run + 2 = omega arith in
    so_far ∙ ap (λ (xs : List ℕ). flat_map escaped_byte text ++ xs) (split ∙ ap (λ (k : ℕ). take run rest ++ 0 ∷ f ∷ drop k rest) two)
    ∙ sym (append_assoc (flat_map escaped_byte text) (take run rest) (0 ∷ f ∷ drop (run + 2) rest))
    ∙ ap (λ (xs : List ℕ). xs ++ (0 ∷ f ∷ drop (run + 2) rest)) (sym spelled)

-- how much of the bytes the text so far and a run take
run_length : (rest text longer : List ℕ) (run taken : ℕ) → taken ≡ length (flat_map escaped_byte text) → run ≡ first_zero rest → run ≤ length rest → longer ≡ text ++ take run rest → length (flat_map escaped_byte longer) ≡ taken + run
run_length rest text longer run taken long first within more =
    ap length (ap (flat_map escaped_byte) more ∙ flat_map-append escaped_byte text (take run rest)) ∙ length-append (flat_map escaped_byte text) (flat_map escaped_byte (take run rest))
    ∙ (λ i. sym long i + length (flat-run rest run first i)) ∙ ap (λ (k : ℕ). taken + k) (length-take-le run rest within)

pub text_found : (seen rest text longer : List ℕ) (run taken n : ℕ) → AreBytes seen → seen ≡ flat_map escaped_byte text ++ rest → taken ≡ length (flat_map escaped_byte text) → run ≡ first_zero rest → run ≤ length rest
    → longer ≡ text ++ take run rest → slice_get rest (run + 1) ≡ Some 1 → n ≡ taken + (run + 2) → Found AreBytes escaped seen longer n
text_found seen rest text longer run taken n bytes so_far long first within more found sum =
    let spelled = run_behind seen rest text longer run 1 so_far first more found in
    record {
      begins = begins_from escaped seen (drop (run + 2) rest) longer n (spelled ∙ sym (append_assoc (flat_map escaped_byte longer) (0 ∷ 1 ∷ []) (drop (run + 2) rest)))
          (omega (arith, run_length rest text longer run taken long first within more, length-append (flat_map escaped_byte longer) (0 ∷ 1 ∷ [])));
      lawful = text_of_bytes longer (0 ∷ 1 ∷ drop (run + 2) rest) (subst AreBytes spelled bytes);
    }

-- a zero byte that belongs to the text
pub text_more : (seen rest behind text longer whole : List ℕ) (run : ℕ) → seen ≡ flat_map escaped_byte text ++ rest → run ≡ first_zero rest → longer ≡ text ++ take run rest → slice_get rest (run + 1) ≡ Some 255
    → whole ≡ longer ++ 0 ∷ [] → behind ≡ drop (run + 2) rest → seen ≡ flat_map escaped_byte whole ++ behind
text_more seen rest behind text longer whole run so_far first more found zero_byte at =
    run_behind seen rest text longer run 255 so_far first more found
    ∙ ap (λ (xs : List ℕ). flat_map escaped_byte longer ++ (0 ∷ 255 ∷ xs)) (sym at)
    ∙ sym (append_assoc (flat_map escaped_byte longer) (0 ∷ 255 ∷ []) behind)
    ∙ ap (λ (xs : List ℕ). xs ++ behind) (sym (ap (flat_map escaped_byte) zero_byte ∙ flat_map-append escaped_byte longer (0 ∷ [])))

pub text_longer : (rest text longer whole : List ℕ) (run taken n : ℕ) → taken ≡ length (flat_map escaped_byte text) → run ≡ first_zero rest → run ≤ length rest → longer ≡ text ++ take run rest → whole ≡ longer ++ 0 ∷ []
    → n ≡ taken + (run + 2) → n ≡ length (flat_map escaped_byte whole)
text_longer rest text longer whole run taken n long first within more zero_byte sum =
    omega (arith, run_length rest text longer run taken long first within more, ap length (ap (flat_map escaped_byte) zero_byte ∙ flat_map-append escaped_byte longer (0 ∷ [])), length-append (flat_map escaped_byte longer) (0 ∷ 255 ∷ []))

-- Where neither 1 nor 255 stands behind the first zero byte, no escaped text does.
pub no_text : (seen rest text : List ℕ) (run : ℕ) → seen ≡ flat_map escaped_byte text ++ rest → run ≡ first_zero rest → (slice_get rest (run + 1) ≢ Some 1) → (slice_get rest (run + 1) ≢ Some 255) → NoneBegins AreBytes escaped seen
no_text seen rest text run so_far first not_end not_zero s more p is =
    let goes = text_begins text s more rest (sym is ∙ so_far) in
    by goes.rest (sym goes.bytes) where
      by : (later : List ℕ) → rest ≡ escaped later ++ more → ⊥
      by later at = elim (behind_zero later more run (first ∙ ap first_zero at)) [
        | inl end ↦ not_end (back 1 end)
        | inr zero_byte ↦ not_zero (back 255 zero_byte)
      ] where
        back : (f : ℕ) → slice_get (escaped later ++ more) (suc run) ≡ Some f → slice_get rest (run + 1) ≡ Some f
        back f found = (λ i. slice_get (at i) (add-one run i)) ∙ found
