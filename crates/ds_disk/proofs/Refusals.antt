-- Calls for which there was no memory.
use Rattle.std.proofs.Common.{◌≡◌, Bool, true, false, ◌||◌, not, refl, sym, ap, ◌∙◌}
use Rattle.ds_disk.specs.Memory.{DiskParts, is_due, after_call}
use Rattle.ds_disk.specs.declared.call.Change.{Change}

or_true : (b : Bool) → (b || true) ≡ true
or_true true = refl
or_true false = refl

pub lacking : (d new : DiskParts) (c : Change) (refused : Bool) → new ≡ after_call d c true true
    → new ≡ after_call d c (refused || new.lacks) new.lacks
lacking d new c refused is =
    let lacks : true ≡ new.lacks = sym (ap (λ (s : DiskParts). s.lacks) is) in
    is ∙ ap (λ b. after_call d c b true) (sym (or_true refused)) ∙ ap (λ b. after_call d c (refused || b) b) lacks

pub lacking_fails : (d new : DiskParts) (c : Change) (refused : Bool) → new ≡ after_call d c true true
    → false ≡ not ((refused || new.lacks) || is_due d)
lacking_fails d new c refused is =
    let lacks : true ≡ new.lacks = sym (ap (λ (s : DiskParts). s.lacks) is) in
    ap (λ b. not (b || is_due d)) (sym (or_true refused)) ∙ ap (λ b. not ((refused || b) || is_due d)) lacks
