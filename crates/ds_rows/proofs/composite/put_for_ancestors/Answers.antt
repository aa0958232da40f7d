use Rattle.std.proofs.Common.{◌≡◌, ◌+◌, ◌++◌, ◌<◌, ◌≤◌, List, ℕ, length, take, map, [], ap, sym, subst, ◌∙◌}
use Rattle.std.proofs.lemmas.List.{take_at}
use Rattle.ds_bytes.specs.Encoding.{key_bytes, ancestor_of}
use Rattle.ds_rows.specs.Ways.{ancestor_rows, lists_of, row_of_way}
use Rattle.ds_rows.specs.IndexedValues.{each_way}
use Rattle.ds_rows.proofs.IndexedRows.{one_more_ancestor, all_ancestors}
use Rattle.ds_rows.proofs.composite.put_for_ancestors.Goals as goal

pub loop-place-preserved : goal.loop-place-preserved
loop-place-preserved c =
    let i = c.loop-place.place in
    let begun = c.truncate.new.self.bytes in
    let more = key_bytes (ancestor_of c.args.key.now (i + 1)) in
    let kept : begun ≡ c.args.front.now.bytes = c.truncate.ensures.bytes ∙ c.loop-place.invariant.front in
    let front_is : c.encode_ancestor.new.onto.bytes ≡ begun ++ more = c.in_ok-encode_ancestor.ensures.ok in
    record {
      so_far = one_more_ancestor c.args.rows.now.rows c.args.front.now.bytes c.args.columns.now c.args.last.now c.args.key.now i begun
          c.encode_ancestor.new.onto.bytes c.encode_ancestor.new.onto.bytes c.loop-place.rows c.put_rows.new.rows
          (subst (λ n. i < n) (c.len-place-end.ensures ∙ ap length c.elems.ensures.value) c.loop-place-test.true) kept front_is
          c.loop-place.invariant.so_far
          (c.in_ok-put_rows.ensures.put
          ∙ ap (λ (bs : List ℕ). record {
            rows = c.loop-place.rows.rows ++ map (row_of_way bs c.args.columns.now c.args.last.now)
                (each_way (lists_of c.args.columns.now));
            begun = [];
          }) c.bytes.ensures);
      front = ap (λ (bs : List ℕ). take (length c.bytes-begun.result.now) bs) (front_is ∙ ap (λ (bs : List ℕ). bs ++ more) kept)
          ∙ take_at c.args.front.now.bytes more (length c.bytes-begun.result.now) (ap length (sym c.bytes-begun.ensures));
    }

pub returns : goal.returns
returns c =
    all_ancestors c.args.rows.now.rows
    (ancestor_rows c.args.front.now.bytes c.args.columns.now c.args.last.now) c.args.key.now c.loop-place.place
    c.loop-place.rows
    (subst (λ n. n ≤ c.loop-place.place) (c.len-place-end.ensures
    ∙ ap length c.elems.ensures.value) c.loop-place-test.false) c.loop-place.invariant.so_far
