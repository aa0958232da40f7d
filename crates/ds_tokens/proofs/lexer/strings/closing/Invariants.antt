use Rattle.std.proofs.Common.{◌≡◌, ◌-◌, ◌<◌, ◌≤◌, drop, get_or, length}
use Rattle.std.specs.Prelude.{IfSome}
use Rattle.ds_tokens.specs.Tokens.{closing}
use Rattle.ds_tokens.proofs.ClosingLemmas.{best}
use Rattle.ds_tokens.proofs.lexer.strings.closing.Given as goal

abbrev pub invariant-loop-at : goal.invariant-loop-at
invariant-loop-at l =
    (l.at ≤ length l.bytes) × (best l.last l.at (closing (drop l.at l.bytes)) ≡ closing l.bytes)
    × IfSome l.last (λ n. 0 < n) × IfSome l.last (λ n. n ≤ length l.bytes) × IfSome l.last (λ n. get_or l.bytes (n - 1) 0 ≡ 39)

abbrev pub decreases-loop-at : goal.decreases-loop-at
decreases-loop-at l = length l.bytes - l.at
