-- Lines piece by piece: bytes without a newline, and then a newline or the end.
use Rattle.std.proofs.Common.{◌≡◌, ℕ, suc, ◌+◌, ◌<◌, ◌≤◌, List, [], ◌∷◌, ◌++◌, length, take, drop, refl, ap, ◌∙◌, arith, Bool, true, false}
use Rattle.std.proofs.Common.{cond, not, Some, None, subst}
use Rattle.std.specs.Prelude.{◌==◌, nat_lt, nat_le, position}
use Rattle.std.specs.List.{prefix_len}
use Rattle.std.proofs.lemmas.Bool.{eqb-true, leb-true, leb-false, lt-leb, ltb-true, ltb-false}
use Rattle.std.proofs.lemmas.List.{length-take-le, take_all}
use Rattle.ds_base.specs.Limits.{most_line_bytes}
use Rattle.ds_rounds.specs.Drafts.{IsUnbroken}
use Rattle.ds_rounds.specs.Lines.{Kept, TooLong, content_of, in_front, kept_bytes, lines_in}

-- a line that a newline ends, and the lines behind it
pub lines_in-newline : (ended : Bool) (line more : List ℕ) → IsUnbroken line → lines_in ended (line ++ 10 ∷ more) ≡ line ∷ lines_in ended more
unfolding lines_in
lines_in-newline ended [] more whole = refl
lines_in-newline ended (b ∷ line) more whole =
    ap (λ here. cond here ([] ∷ lines_in ended (line ++ 10 ∷ more)) (in_front ended b (lines_in ended (line ++ 10 ∷ more)))) whole.0
    ∙ ap (in_front ended b) (lines_in-newline ended line more whole.1)

pub lines_in-nothing : (ended : Bool) → lines_in ended [] ≡ []
unfolding lines_in
lines_in-nothing ended = refl

-- bytes without a newline are no line while the input goes on
pub lines_in-open : (line : List ℕ) → IsUnbroken line → lines_in false line ≡ []
unfolding lines_in
lines_in-open [] whole = refl
lines_in-open (b ∷ line) whole =
    ap (λ here. cond here ([] ∷ lines_in false line) (in_front false b (lines_in false line))) whole.0 ∙ ap (in_front false b) (lines_in-open line whole.1)

-- and the last line where it has ended
pub lines_in-last : (b : ℕ) (line : List ℕ) → IsUnbroken (b ∷ line) → lines_in true (b ∷ line) ≡ (b ∷ line) ∷ []
unfolding lines_in
lines_in-last b [] whole = ap (λ here. cond here ([] ∷ lines_in true []) (in_front true b (lines_in true []))) whole.0
lines_in-last b (c ∷ line) whole =
    ap (λ here. cond here ([] ∷ lines_in true (c ∷ line)) (in_front true b (lines_in true (c ∷ line)))) whole.0 ∙ ap (in_front true b) (lines_in-last c line whole.1)

pub IsUnbroken-append : (a b : List ℕ) → IsUnbroken a → IsUnbroken b → IsUnbroken (a ++ b)
IsUnbroken-append [] b first second = second
IsUnbroken-append (x ∷ a) b first second = (first.0, IsUnbroken-append a b first.1 second)

-- how many bytes stand in front of the first newline
abbrev newline_at : List ℕ → ℕ
newline_at bytes = prefix_len (λ b. not (b == 10)) bytes

-- up to the first newline nothing is broken, and behind it come the others
pub record IsBroken (bytes : List ℕ) (at : ℕ) : Type 0 where
  pub front : IsUnbroken (take at bytes)
  pub whole : bytes ≡ take at bytes ++ 10 ∷ drop (at + 1) bytes
  pub within : at < length bytes

broken_at : (bytes : List ℕ) → newline_at bytes < length bytes → IsBroken bytes (newline_at bytes)
broken_at [] some = absurd (omega arith)
broken_at (b ∷ bytes) some = at (b == 10) refl some (broken_at bytes) where
  at : (here : Bool) → (b == 10) ≡ here → cond (not here) (1 + newline_at bytes) 0 < suc (length bytes) → (newline_at bytes < length bytes → IsBroken bytes (newline_at bytes)) → IsBroken (b ∷ bytes) (cond (not here) (1 + newline_at bytes) 0)
  at true is within below =
      let same : b ≡ 10 = eqb-true b 10 is in
      record { front = tt; whole = ap (λ c. c ∷ bytes) same; within = omega arith }
  at false is within below =
      let later : IsBroken bytes (newline_at bytes) = below (omega arith) in
      let one_more : suc (newline_at bytes) ≡ 1 + newline_at bytes = omega arith in
      let behind : suc (newline_at bytes + 1) ≡ suc (newline_at bytes) + 1 = omega arith in
      subst (λ k. IsBroken (b ∷ bytes) k) one_more (record {
        front = (is, later.front);
        whole = ap (λ bs. b ∷ bs) later.whole ∙ ap (λ k. b ∷ (take (newline_at bytes) bytes ++ 10 ∷ drop k (b ∷ bytes))) behind;
        within = omega (arith, later.within);
      })

unbroken_all : (bytes : List ℕ) → length bytes ≤ newline_at bytes → IsUnbroken bytes
unbroken_all [] none = tt
unbroken_all (b ∷ bytes) none = at (b == 10) refl none (unbroken_all bytes) where
  at : (here : Bool) → (b == 10) ≡ here → suc (length bytes) ≤ cond (not here) (1 + newline_at bytes) 0 → (length bytes ≤ newline_at bytes → IsUnbroken bytes) → IsUnbroken (b ∷ bytes)
  at true is all below = absurd (omega arith)
  at false is all below = (is, below (omega arith))

pub position-newline : (bytes : List ℕ) (at : ℕ) → position (λ b. b == 10) bytes ≡ Some at → IsBroken bytes at
position-newline bytes at is = by (nat_lt (newline_at bytes) (length bytes)) refl is where
  by : (b : Bool) → nat_lt (newline_at bytes) (length bytes) ≡ b → cond b (Some (newline_at bytes)) None ≡ Some at → IsBroken bytes at
  by false past e = cc
  by true holds e =
      let same : newline_at bytes ≡ at = cc in
      subst (λ k. IsBroken bytes k) same (broken_at bytes (ltb-true (newline_at bytes) (length bytes) holds))

pub position-no_newline : (bytes : List ℕ) → position (λ b. b == 10) bytes ≡ None → IsUnbroken bytes
position-no_newline bytes is = by (nat_lt (newline_at bytes) (length bytes)) refl is where
  by : (b : Bool) → nat_lt (newline_at bytes) (length bytes) ≡ b → cond b (Some (newline_at bytes)) None ≡ None → IsUnbroken bytes
  by true holds e = cc
  by false past e = unbroken_all bytes (ltb-false (newline_at bytes) (length bytes) past)

-- a front that shows whether a list is longer than a number
content_of-front : (most : ℕ) (line : List ℕ) → cond (nat_le (length (take (most + 1) line)) most) (Kept (take (most + 1) line)) TooLong ≡ cond (nat_le (length line) most) (Kept line) TooLong
content_of-front most line = by (nat_le (length line) most) refl where
  by : (b : Bool) → nat_le (length line) most ≡ b → cond (nat_le (length (take (most + 1) line)) most) (Kept (take (most + 1) line)) TooLong ≡ cond b (Kept line) TooLong
  by true is =
      let all : take (most + 1) line ≡ line = take_all (most + 1) line (omega (arith, leb-true (length line) most is)) in
      rw (all, is) refl
  by false is =
      let longer : most < length line = leb-false (length line) most is in
      let taken : length (take (most + 1) line) ≡ most + 1 = length-take-le (most + 1) line (omega arith) in
      let past : nat_le (length (take (most + 1) line)) most ≡ false = rw taken (lt-leb (most + 1) most (omega arith)) in
      rw past refl

-- of a line so many bytes are kept that it shows whether it is too long
pub content_of-kept : (line : List ℕ) → content_of (take (most_line_bytes + 1) line) ≡ content_of line
content_of-kept line = content_of-front most_line_bytes line

kept_bytes-front : (most : ℕ) (kept : List ℕ) → length kept ≤ most + 1 → cond (nat_le (length kept) most) (length kept) (most + 1) ≡ length kept
kept_bytes-front most kept within = by (nat_le (length kept) most) refl where
  by : (b : Bool) → nat_le (length kept) most ≡ b → cond b (length kept) (most + 1) ≡ length kept
  by true is = refl
  by false is = omega (arith, leb-false (length kept) most is)

pub kept_bytes-content_of : (kept : List ℕ) → length kept ≤ most_line_bytes + 1 → kept_bytes (content_of kept) ≡ length kept
kept_bytes-content_of kept within = by (nat_le (length kept) most_line_bytes) (kept_bytes-front most_line_bytes kept within) where
  by : (b : Bool) → cond b (length kept) (most_line_bytes + 1) ≡ length kept → kept_bytes (cond b (Kept kept) TooLong) ≡ length kept
  by true is = is
  by false is = is
