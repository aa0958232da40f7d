use Rattle.std.proofs.Common.{◌≡◌, sym, refl, subst, ap}
use Rattle.ds_hub_tests.proofs.Popped.{IsAll, popped}
use Rattle.ds_hub_tests.proofs.opened.two_readers.Goals as goal

pub invariant_of-result : goal.invariant_of-result
invariant_of-result g c =
    let are = c.in_ok-writer.ensures.readers in
    let one = popped _ _ _ _ (subst (IsAll _) (sym are) (refl, (refl, tt))) c.in-Some-Some.ensures in
    let two = popped _ _ _ _ one.0 c.in-Some-Some.ensures' in
    let one_of = ap (λ r. r.hub) one.1 in
    let two_of = ap (λ r. r.hub) two.1 in record { of_hub = ((cc), (cc)) }
