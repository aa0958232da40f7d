use Rattle.std.proofs.Common.{◌≡◌, ◌++◌, length}
use Rattle.std.specs.String.{string_bytes}
use denote.Text.{Utf8}
use denote.Shadow.{shadow}
use Rattle.ds_tokens.specs.Pieces.{undoubled}
use Rattle.ds_tokens.proofs.quotes.undoubled.Given as goal

abbrev pub invariant-quotes : goal.invariant-quotes
invariant-quotes l = shadow (Utf8 l.rest) × (string_bytes l.text ++ undoubled l.rest ≡ undoubled l.fn.raw)

abbrev pub decreases-quotes : goal.decreases-quotes
decreases-quotes l = length l.rest
