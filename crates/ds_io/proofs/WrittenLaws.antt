-- A text that is written piece by piece.
use Rattle.std.proofs.Common.{◌≡◌, ℕ, ◌+◌, ◌-◌, List, length, take, drop, sym, subst, arith, Option, length-drop}
use Rattle.std.specs.Io.KnownBytes.{Appends}
use Rattle.std.proofs.KnownBytes.{Appends-trans}
use Rattle.std.proofs.Math.Seq.{take-add}
use Rattle.std.proofs.lemmas.List.{take_all}

-- what is behind the first bytes, as a program takes it
pub rest_from : {A : Type 0} (n : ℕ) (l : List A) → take (length l - n) (drop n l) ≡ drop n l
rest_from n l = take_all (length l - n) (drop n l) (omega (arith, length-drop n l))

-- the first bytes of a text, and then some more of them
pub written_more : (h0 h1 h2 : Option (List ℕ)) (text : List ℕ) (sent n : ℕ) → Appends h0 h1 (take sent text)
    → Appends h1 h2 (take n (take (length text - sent) (drop sent text))) → Appends h0 h2 (take (sent + n) text)
written_more h0 h1 h2 text sent n before more =
    let rest : Appends h1 h2 (take n (drop sent text)) = subst (λ (bs : List ℕ). Appends h1 h2 (take n bs)) (rest_from sent text) more in
    subst (λ (bs : List ℕ). Appends h0 h2 bs) (sym (take-add sent n text))
    (Appends-trans h0 h1 h2 (take sent text) (take n (drop sent text)) before rest)
