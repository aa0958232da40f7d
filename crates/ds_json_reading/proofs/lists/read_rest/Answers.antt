use Rattle.std.proofs.Common.{◌≡◌, [], ◌∷◌, ◌++◌, Err, rules}
use Rattle.serde_json.specs.View.{items_view}
use Rattle.ds_json_reading.proofs.Each.{each_after, item_read, item_refused}
use Rattle.ds_json_reading.proofs.lists.read_rest.Goals as goal

pub returns-in_err-item : goal.returns-in_err-item
returns-in_err-item g c =
    let reads = g.F.Form.reads c.args.form.now in
    let r : c.from_residual.result ≡ Err c.in_err-item.field-0.0 = search rules in
    rw r (λ known. item_refused reads (each_after reads c.args.read.items (items_view c.args.rest.rest.items)) c.loop-item.read.items c.loop-item.item-iterator.rest.items c.in-Some.item c.next.new.self.rest.items c.in_err-item.field-0.0 c.loop-item.invariant c.in-Some.ensures.steps.0 (c.in_err-item.ensures known))

pub loop-item-preserved : goal.loop-item-preserved
loop-item-preserved g c =
    let reads = g.F.Form.reads c.args.form.now in
    let pushed : c.push.new.self.items ≡ c.loop-item.read.items ++ c.in_ok-item.item ∷ [] = c.in_default.ensures.items in
    rw pushed (item_read reads (each_after reads c.args.read.items (items_view c.args.rest.rest.items)) c.loop-item.read.items c.loop-item.item-iterator.rest.items c.in-Some.item c.next.new.self.rest.items c.in_ok-item.item c.loop-item.invariant c.in-Some.ensures.steps.0 c.in_ok-item.ensures)
