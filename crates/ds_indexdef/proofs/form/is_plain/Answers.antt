use Rattle.std.proofs.Common.{arith}
use Rattle.std.proofs.lemmas.Str.{is_utf8-from_IsUtf8}
use Rattle.ds_indexdef.proofs.form.is_plain.Goals as goal

pub returns-then-is_name : goal.returns-then-is_name
returns-then-is_name c = let u = is_utf8-from_IsUtf8 c.args.name.now c.utf8.name in grind (arith, u)

pub returns-else-is_name : goal.returns-else-is_name
returns-else-is_name c = let u = is_utf8-from_IsUtf8 c.args.name.now c.utf8.name in grind (arith, u)
