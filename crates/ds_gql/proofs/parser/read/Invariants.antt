use Rattle.std.proofs.Common.{length}
use denote.Text.{Utf8}
use denote.Shadow.{shadow}
use Rattle.ds_gql.proofs.ReadingLemmas.{LeftToRead}
use Rattle.ds_gql.proofs.parser.read.Given as goal

abbrev pub invariant-tokens : goal.invariant-tokens
invariant-tokens l = shadow (Utf8 l.rest) × LeftToRead l.arguments l.text l.draft l.rest

abbrev pub decreases-tokens : goal.decreases-tokens
decreases-tokens l = length l.rest
