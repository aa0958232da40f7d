use Rattle.std.proofs.Common.{◌≡◌, ◌+◌, ◌-◌, ◌∷◌, [], ◌++◌, take, get_or, sym, ◌∙◌, ap, subst, arith}
use Rattle.std.specs.Prelude.{None, Some}
use Rattle.ds_table.specs.Versions.{in_range}
use Rattle.ds_scan.specs.Ranges.{begins_with, prefix_end}
use Rattle.ds_scan.proofs.Ends.{end-risen, range-begins}
use Rattle.ds_scan.proofs.end.end_of_prefix.Goals as goal

pub returns-then-kept-eq0-clause-parts : goal.returns-then-kept-eq0-clause-parts
returns-then-kept-eq0-clause-parts c =
    let p = c.args.prefix.now in
    let e : None ≡ prefix_end p = ap (λ n. prefix_end (take n p)) (sym c.if-kept-eq0.true) ∙ c.without_greatest-kept.ensures.same_end in
    λ row b. subst (λ x. in_range p x row ≡ begins_with p row) (sym e) (range-begins p row b)

pub returns-clause-value : goal.returns-clause-value
returns-clause-value c =
    let p = c.args.prefix.now in
    let n = c.without_greatest-kept.result in
    let next : n ≡ n - 1 + 1 = omega arith in
    let e : prefix_end (take n p) ≡ Some (take (n - 1) p ++ (get_or p (n - 1) 0 + 1) ∷ []) =
    end-risen p n (n - 1) next c.without_greatest-kept.ensures.within (c.without_greatest-kept.ensures.rises (n - 1) next) in
    let cut : c.in_ok-end.end ≡ take (n - 1) p = first_of (assumption c.in_ok-end.ensures, grind (arith, c.in_ok-end.ensures)) in
    let joined : c.append.new.self ≡ take (n - 1) p ++ (get_or p (n - 1) 0 + 1) ∷ [] =
    c.in_ok-append.ensures.ok ∙ ap (λ l. l ++ (get_or p (n - 1) 0 + 1) ∷ []) cut in
    ap Some joined ∙ (sym e ∙ c.without_greatest-kept.ensures.same_end)

pub returns-clause-parts : goal.returns-clause-parts
returns-clause-parts c =
    λ row b. subst (λ x. in_range c.args.prefix.now x row ≡ begins_with c.args.prefix.now row) (sym (returns-clause-value c)) (range-begins c.args.prefix.now row b)
