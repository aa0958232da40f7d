-- What a read from memory takes: the next bytes, and none only at the end.
use Rattle.std.proofs.Common.{◌≡◌, ℕ, ◌+◌, ◌<◌, List, [], ◌++◌, length, take, drop, min, sym, ap, ◌∙◌, arith, length-drop}
use Rattle.std.proofs.lemmas.List.{nil_from_length}
use Rattle.std.proofs.lemmas.Simd.{chunk-drop}

-- where the buffer begins with the n bytes from `at` on, these and what follows them are all that was left
pub front_read : (bytes buf left : List ℕ) (at n : ℕ) → left ≡ drop at bytes → take n buf ≡ take n (drop at bytes) → left ≡ take n buf ++ drop (at + n) bytes
front_read bytes buf left at n is front = is ∙ chunk-drop at n bytes ∙ ap (λ xs. xs ++ drop (at + n) bytes) (sym front)

-- nothing was read although there was room: there is nothing left
pub end_read : (bytes : List ℕ) (at n most room : ℕ) → n ≡ min most (min (length (drop at bytes)) room) → 0 < most → n ≡ 0 → 0 < room → drop (at + n) bytes ≡ []
end_read bytes at n most room is some none roomy =
    nil_from_length (drop (at + n) bytes) (omega (arith, length-drop at bytes, length-drop (at + n) bytes))
