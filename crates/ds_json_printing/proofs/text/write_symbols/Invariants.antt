-- What is written from here on for the bytes that are left makes the whole text.
use Rattle.std.proofs.Common.{length}
use Rattle.base64.specs.Engines.{standard}
use Rattle.base64.specs.GeneralPurpose.{encode_of}
use Rattle.ds_json_printing.proofs.text.write_symbols.Given as goal

abbrev pub invariant-loop-rest : goal.invariant-loop-rest
invariant-loop-rest g l = (u : _) → g.O.Output.Writes (encode_of standard l.rest) l.out u → g.O.Output.Writes (encode_of standard l.fn.bytes) l.initial.out u

abbrev pub decreases-loop-rest : goal.decreases-loop-rest
decreases-loop-rest g l = length l.rest
