-- The numbers of the commits of a shard's entries, as they are kept.
use Rattle.std.specs.Prelude.{ℕ, List}

pub record CommitsParts : Type 0 where
  -- of each entry the commit's number, in the entries' order
  pub commits : List ℕ
  -- how many numbers are put behind them without memory
  pub spare : ℕ
