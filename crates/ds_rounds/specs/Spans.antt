-- Where the lines of a round stand among its kept bytes.
use Rattle.std.specs.Prelude.{ℕ, ◌+◌, ◌-◌, ◌≤◌, List, All}
use Rattle.ds_base.specs.Limits.{most_line_bytes}
use Rattle.ds_rounds.specs.declared.lines.Span.{Span}

-- a span of at most so many bytes as are kept of a line, within the first bytes of a list where the line isn't too long
pub record IsWithin (bytes : ℕ) (span : Span) : Type 0 where
  pub ordered : span.from ≤ span.to
  pub within : span.to - span.from ≤ most_line_bytes → span.to ≤ bytes
  pub kept : span.to - span.from ≤ most_line_bytes + 1

abbrev pub AreWithin : ℕ → List Span → Type 0
AreWithin bytes spans = All (λ span. IsWithin bytes span) spans
