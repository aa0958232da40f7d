use Rattle.std.proofs.Common.{◌≡◌, List, ℕ, drop, sym, subst, ◌∙◌, false, true}
use Rattle.std.specs.Prelude.{IsUtf8}
use Rattle.ds_bytes.specs.Encoding.{directed, escaped}
use Rattle.ds_base.specs.Bytes.{AreBytes}
use Rattle.ds_bytes.specs.Reading.{Found}
use Rattle.ds_bytes.specs.AncestorLaws.{escaped-reads_once}
use Rattle.ds_bytes.proofs.input.read_text.Goals as goal

pub returns : goal.returns
returns c = λ s more p is.
    let seen : List ℕ = directed c.args.descending c.args.bytes.now in
    let found : Found AreBytes escaped seen c.in-Some.text c.in-Some.taken = rw c.in-Some.is at c.in_ok-read_bytes.ensures in
    let once = escaped-reads_once s c.in-Some.text more (drop c.in-Some.taken seen) (sym is ∙ found.begins.front) in
    apart (c.in-Err.ensures.succeeds (subst IsUtf8 (once.0 ∙ sym c.into_vec.ensures) p.utf8)) where
      apart : false ≡ true → ⊥
      apart e = cc
