-- What is known of the forms over std: the reader or the writer, or the runtime, and the count of faults.
use Rattle.std.specs.Prelude.{ℕ}

pub record Wrapped (X : Type 0) : Type 0 where
  pub inner : X
  pub faults : ℕ
