use Rattle.std.proofs.Common.{◌≡◌, length, sym, arith}
use Rattle.ds_json_reading.proofs.KeysLemmas.{is_incomplete-not_two}
use Rattle.ds_json_reading.proofs.keys.lacks_ident.Goals as goal

pub returns-then-parts-ne2-clause-told : goal.returns-then-parts-ne2-clause-told
returns-then-parts-ne2-clause-told c = sym (is_incomplete-not_two c.args.parts.now (λ (h : length c.args.parts.now ≡ 2). omega arith))
