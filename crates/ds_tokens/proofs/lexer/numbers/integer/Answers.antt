use Rattle.std.proofs.Common.{◌≡◌, List, ℕ, subst, sym, refl, true}
use Rattle.ds_tokens.specs.Tokens.{is_integer}
use Rattle.ds_tokens.proofs.NumberLemmas.{is_integer-run}
use Rattle.ds_tokens.proofs.lexer.numbers.integer.Goals as goal

pub integer_of-requires : goal.integer_of-requires
integer_of-requires c = subst (λ (t : List ℕ). is_integer t ≡ true) (sym c.split_longer.ensures.run) (is_integer-run c.args.text.now _ c.requires refl)
