use Rattle.std.proofs.Common.{arith}
use Rattle.ds_journal_text.proofs.Bytes.{bytes_all}
use Rattle.ds_judging_lines.proofs.lawful.are_bytes.Goals as goal

pub returns : goal.returns
returns c = bytes_all c.args.bytes.now (λ i. omega (arith, c.type_inv.bytes i))
