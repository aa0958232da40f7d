use Rattle.std.proofs.Common.{◌≡◌, suc, ◌-◌, length, ap, ◌∙◌, arith}
use Rattle.serde_json.specs.Data.{item, no_items}
use Rattle.serde_json.specs.View.{view}
use Rattle.ds_json_reading.specs.Keys.{completed, is_incomplete}
use Rattle.ds_json_reading.proofs.KeysLemmas.{completed-last, is_incomplete-last}
use Rattle.ds_json_reading.proofs.keys.complete.Goals as goal

pub returns-clause-completed : goal.returns-clause-completed
returns-clause-completed c =
    let items = c.args.items.now.items in
    let n : suc (c.len-len.result - 1) ≡ length items = omega arith in
    completed-last items (c.len-len.result - 1) c.index_mut.result.now c.take-elem.new.dest c.complete_elem-elem.result.0 n
    (c.complete_elem-elem.ensures.completed ∙ ap (λ v. completed (item (view v) no_items)) (c.take-elem.ensures.value ∙ c.index_mut.ensures.value))

pub returns-clause-told : goal.returns-clause-told
returns-clause-told c =
    let items = c.args.items.now.items in
    let n : suc (c.len-len.result - 1) ≡ length items = omega arith in
    c.complete_elem-elem.ensures.told ∙ ap (λ v. is_incomplete (item (view v) no_items)) (c.take-elem.ensures.value ∙ c.index_mut.ensures.value)
    ∙ is_incomplete-last items (c.len-len.result - 1) c.index_mut.result.now n
