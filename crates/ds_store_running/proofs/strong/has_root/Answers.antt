use Rattle.std.proofs.Common.{◌≡◌, ◌≤◌, length, subst}
use Rattle.ds_base.specs.Keys.{KeyParts}
use Rattle.ds_store_running.proofs.StrongReads.{has_root}
use Rattle.ds_store_running.proofs.strong.has_root.Goals as goal

pub returns : goal.returns
returns c = λ ancestor is.
    let key = c.in-Some.ancestor.now in
    let named : key ≡ ancestor = cc (c.in-Some.ensures, is) in
    subst (λ (k : KeyParts). 1 ≤ length k.elems) named (has_root key c.elems-elems.ensures.lawful)
