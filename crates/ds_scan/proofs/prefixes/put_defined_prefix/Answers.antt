use Rattle.std.proofs.Common.{◌≡◌, ◌++◌, [], ap, ◌∙◌, subst, append_assoc}
use Rattle.std.specs.Prelude.{OnOk}
use Rattle.ds_rows.specs.Indexes.{Composite}
use Rattle.ds_rows.specs.Rows.{index_front, ancestor_bytes}
use Rattle.ds_scan.specs.Prefixes.{bound_bytes}
use Rattle.ds_scan.proofs.prefixes.put_defined_prefix.Goals as goal

pub returns-clause-put : goal.returns-clause-put
returns-clause-put c =
    let front = index_front (Composite c.args.position c.args.def.now) c.args.branch.now.namespace [] in
    let ancestor = ancestor_bytes c.args.scan.now.ancestor in
    let bound = bound_bytes c.args.scan.now.equal c.args.def.now.columns in
    let begun : c.put_composite_front.new.front.bytes ≡ front = c.in_ok-put_composite_front.ensures c.args.def.now in
    subst (λ bytes. OnOk c.put_bound_columns.result (c.put_bound_columns.new.prefix.bytes ≡ bytes))
    ((λ i. c.in_ok-put_ancestor.ensures.put i ++ bound_bytes (c.as_slice.ensures i) (c.as_slice-2.ensures i))
    ∙ ap (λ f. (f ++ ancestor) ++ bound) begun ∙ append_assoc front ancestor bound)
    c.put_bound_columns.ensures.put
