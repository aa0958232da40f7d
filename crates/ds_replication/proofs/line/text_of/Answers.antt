use Rattle.std.proofs.Common.{◌≡◌, List, ℕ, true, false, refl}
use Rattle.std.specs.Str.{is_utf8, IsUtf8}
use Rattle.std.proofs.lemmas.Str.{is_utf8-from_IsUtf8, IsUtf8-from_is_utf8}
use Rattle.ds_replication.proofs.line.text_of.Goals as goal

refuted : (bs : List ℕ) → ¬ (IsUtf8 bs) → is_utf8 bs ≡ false
refuted bs not_so = elim (is_utf8 bs) as (λ v. is_utf8 bs ≡ v → v ≡ false) [
  | true ↦ λ e. absurd (not_so (IsUtf8-from_is_utf8 bs e))
  | false ↦ λ e. refl
] refl

pub returns-in-Ok : goal.returns-in-Ok
returns-in-Ok c = (c.in-Ok.ensures.cases.0, is_utf8-from_IsUtf8 c.args.bytes.now c.in-Ok.ensures.cases.1)

pub returns-in-Err : goal.returns-in-Err
returns-in-Err c = refuted c.args.bytes.now c.in-Err.ensures.cases.0
