-- What the trait says of a call's answer, from what a disk in memory says.
use Rattle.std.proofs.Common.{subst, ◌≡◌, ℕ, Bool, true, false, ◌||◌, not, cond, Result, Ok, Err, refl, sym, ap, ◌∙◌}
use Rattle.std.specs.Prelude.{OnOk, OnErr, is_ok}
use Rattle.ds_io.specs.Faults.{Rose, next_count}
use Rattle.ds_io.specs.FaultLaws.{Rose-next_count}
use Rattle.ds_io.specs.declared.traits.Failed.{Failed}
use Rattle.ds_disk.specs.Memory.{DiskParts, is_due, after_call}
use Rattle.ds_disk.specs.declared.call.Change.{Change}

-- what holds where a call was done
pub where_done : {T : Type 0} (result : Result T Failed) (b : Bool) (P : Type 0) → is_ok result ≡ b → (b ≡ true → P) → OnOk result P
where_done (Ok x) b P is holds = holds (sym is)
where_done (Err e) b P is holds = tt

or_false : (a b : Bool) → true ≡ not (a || b) → (a || b) ≡ false
or_false true b is = cc
or_false false true is = cc
or_false false false is = refl

or_true : (a b : Bool) → false ≡ not (a || b) → (a || b) ≡ true
or_true true b is = refl
or_true false true is = refl
or_true false false is = cc

-- the count of faults
pub counts_ok : {T : Type 0} (result : Result T Failed) (d new : DiskParts) (c : Change) (refused lacks : Bool)
    → new ≡ after_call d c refused lacks
    → is_ok result ≡ not (refused || is_due d) → OnOk result (new.faults ≡ d.faults)
counts_ok (Ok x) d new c refused lacks is done =
    ap (λ (s : DiskParts). s.faults) is ∙ ap (λ b. cond b (next_count d.faults) d.faults) (or_false refused (is_due d) done)
counts_ok (Err e) d new c refused lacks is done = tt

pub counts_err : {T : Type 0} (result : Result T Failed) (d new : DiskParts) (c : Change) (refused lacks : Bool)
    → new ≡ after_call d c refused lacks
    → is_ok result ≡ not (refused || is_due d) → OnErr result (new.faults ≡ next_count d.faults)
counts_err (Ok x) d new c refused lacks is done = tt
counts_err (Err e) d new c refused lacks is done =
    ap (λ (s : DiskParts). s.faults) is ∙ ap (λ b. cond b (next_count d.faults) d.faults) (or_true refused (is_due d) done)

pub rises : {T : Type 0} (result : Result T Failed) (old new : ℕ) → OnErr result (new ≡ next_count old) → OnErr result (Rose old new)
rises (Ok x) old new counts = tt
rises (Err e) old new counts = subst (Rose old) (sym counts) (Rose-next_count old)
