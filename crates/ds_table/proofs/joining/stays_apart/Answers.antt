use Rattle.std.proofs.Common.{◌≡◌, [], length, get_or, ap, arith}
use Rattle.std.proofs.lemmas.List.{get_or_read}
use Rattle.ds_table.proofs.joining.stays_apart.Goals as goal

pub returns-then-len-was : goal.returns-then-len-was
returns-then-len-was c = λ _.
    let bs = c.args.blocks.now in
    let i = c.args.i in
    let n : length c.index-blocks-i.result ≡ length (get_or bs i []) = ap length (get_or_read bs i c.index-blocks-i.result c.requires c.index-blocks-i.is []) in
    record {
      some = λ k. omega (arith, k, n, c.len-len.ensures.value, c.if-len-was.true);
      before = λ j e k. omega (arith, k, n, c.len-len.ensures.value, c.if-len-was.true);
      behind = λ m k. omega (arith, k, n, c.len-len.ensures.value, c.if-len-was.true);
    }

pub returns-then-fits_before : goal.returns-then-fits_before
returns-then-fits_before c = λ t.
    let bs = c.args.blocks.now in
    let i = c.args.i in
    let n : length c.index-blocks-i.result ≡ length (get_or bs i []) = ap length (get_or_read bs i c.index-blocks-i.result c.requires c.index-blocks-i.is []) in
    record {
      some = λ k. omega (arith, n, c.len-len.ensures.value, c.if-len-eq0.false);
      before = λ j e k. omega (arith, n, c.len-len.ensures.value, c.fits_before.ensures c.if-fits_before.true j e);
      behind = λ m k. omega (arith, n, c.len-len.ensures.value, c.len-len.ensures.within, c.fits_behind.ensures t m);
    }
