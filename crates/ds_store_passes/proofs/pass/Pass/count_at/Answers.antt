use Rattle.std.proofs.Common.{◌<◌, length, ap, sym, ◌∙◌, arith}
use Rattle.std.proofs.lemmas.List.{length-map}
use Rattle.ds_hub.specs.Holding.{known_in}
use Rattle.ds_log.specs.declared.Entry.{Entry}
use Rattle.ds_store_passes.specs.Passes.{PassParts}
use Rattle.std.specs.Prelude.{List, map}
use Rattle.ds_store_passes.proofs.SlotLists.{count_there, list_there}
use Rattle.ds_store_passes.proofs.pass.Pass.count_at.Goals as goal

pub returns : goal.returns
returns g c =
    let slots = c.self.inside.shards.items in
    let lt : c.args.shard < length slots = omega (
      arith,
      c.requires,
      ap (λ (p : PassParts). length p.lists) c.self.view_is,
      length-map slots known_in,
    ) in
    let list = list_there slots c.args.shard c.index.result.now lt c.index.ensures in
    rw (← c.self.view_is) (c.len.ensures ∙ sym (count_there (map known_in slots) c.args.shard ∙ ap (λ (es : List Entry). length es) list))
