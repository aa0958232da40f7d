use Rattle.std.proofs.Common.{length, map}
use Rattle.std.specs.Prelude.{option_map}
use Rattle.std.specs.String.{string_bytes}
use Rattle.ds_words.proofs.ItemLaws.{Passed}
use Rattle.ds_words.proofs.words.value_in.Given as goal

abbrev pub decreases-items : goal.decreases-items
decreases-items l = length l.rest

-- the items so far, and the value that they give to the option
abbrev pub invariant-items : goal.invariant-items
invariant-items l = Passed (map string_bytes l.fn.words) (map string_bytes l.rest) l.fn.name (option_map (λ text. text.now) l.found)
