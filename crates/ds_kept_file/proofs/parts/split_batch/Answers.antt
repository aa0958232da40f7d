use Rattle.std.proofs.Common.{arith}
use Rattle.ds_kept_file.proofs.Splits.{split_of}
use Rattle.ds_kept_file.proofs.parts.split_batch.Goals as goal

pub returns-then-size-rest-clause-split : goal.returns-then-size-rest-clause-split
returns-then-size-rest-clause-split c =
    split_of c.args.bytes.now c.from_be_bytes-size.result c.requires c.in-len9-up.len_at_least
    (λ i. omega (arith, c.type_inv.bytes i)) c.from_be_bytes-size.ensures c.if-size-rest.true
