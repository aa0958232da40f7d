-- The definition of what an index file gives, in the words of the grammar.
use Rattle.std.proofs.Common.{◌≡◌, ◌+◌, ℕ, List, [], length, refl, sym, ◌∙◌, Ok, Err, Result}
use Rattle.ds_indexdef.specs.Refusals.{GivesUnlessNoMemory}
use Rattle.ds_indexdef.specs.Lines.{lines_of}
use Rattle.ds_indexdef.specs.Reading.{yaml_of, nothing_read}
use Rattle.ds_indexdef.specs.Grammar.{StandIn, IsRefusedAt, Tells, lines_in}
use Rattle.ds_indexdef.specs.declared.IndexDef.{IndexDef}
use Rattle.ds_indexdef.specs.declared.part.Part.TheVariants.{Start}
use Rattle.ds_indexdef.specs.declared.refused.YamlRefused.{YamlRefused}
use Rattle.ds_indexdef.specs.declared.refused.YamlRefused.TheVariants as refused
use Rattle.ds_indexdef.proofs.GrammarLaws.{start}
use Rattle.ds_indexdef.proofs.FileLaws.{read-from}
use Rattle.ds_indexdef.proofs.RefusalLaws.{reached-nothing, read-file, read-refused}

-- definitions are given exactly where they stand in the text
pub given-stand : (text : List ℕ) (defs : List IndexDef) → yaml_of text ≡ Ok defs → StandIn text defs
unfolding yaml_of
given-stand text defs e = read-file (lines_in text) [] nothing_read (length (lines_of text) + 1) defs reached-nothing e

pub stand-given : (text : List ℕ) (defs : List IndexDef) → StandIn text defs → yaml_of text ≡ Ok defs
unfolding yaml_of
stand-given text defs s = read-from (lines_in text) Start [] defs s.0 0 (length (lines_of text) + 1) (start (lines_in text) s.0 s.1) s.2

-- the refused line is that of the grammar
pub refused-at : (text : List ℕ) (n : ℕ) → yaml_of text ≡ Err n → IsRefusedAt text n
unfolding yaml_of
refused-at text n e = read-refused (lines_in text) [] nothing_read (length (lines_of text) + 1) n reached-nothing e

-- the same of an answer
pub answer-stands : (text : List ℕ) (r : Result (List IndexDef) YamlRefused) → GivesUnlessNoMemory r (yaml_of text) → Tells r text
answer-stands text (Ok defs) e = given-stand text defs e
answer-stands text (Err (refused.Line n)) e = refused-at text n e
answer-stands text (Err refused.NoMemory) e = tt

pub answer-given : (text : List ℕ) (r : Result (List IndexDef) YamlRefused) → GivesUnlessNoMemory r (yaml_of text) → (defs : List IndexDef) → StandIn text defs → GivesUnlessNoMemory r (Ok defs)
answer-given text (Ok defs) e more s = sym (stand-given text more s) ∙ e
answer-given text (Err (refused.Line n)) e more s = sym (stand-given text more s) ∙ e
answer-given text (Err refused.NoMemory) e more s = tt
