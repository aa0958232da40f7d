use Rattle.std.proofs.Common.{◌≡◌, ◌≤◌, ap, arith, length}
use Rattle.ds_store_passes.specs.Loads.{LoadingParts}
use Rattle.ds_store_passes.specs.Passes.{PassParts}
use Rattle.ds_store.proofs.Loads.{by_its_counter, drawn_up}
use Rattle.ds_store.proofs.loading.Loading.draw_up_to.Goals as goal

pub invariant_of-self : goal.invariant_of-self
invariant_of-self g c =
    let inv = c.self.invariant in
    let before = c.self.inside.pass in
    let after = c.draw_ids.new.self in
    let many = length c.self.inside.shards.items in
    let journal = c.self.inside.desk.book.journal in
    let high : before.next ≤ c.args.next = omega (arith, ap (λ (l : LoadingParts). l.next) c.self.view_is, c.requires.rises) in
    let drew = drawn_up before after many journal c.next-before.result c.args.next inv.2.0 high c.next-before.ensures.value inv.0
    c.draw_ids.ensures in
    let next : after.next ≡ c.args.next = ap (λ (p : PassParts). p.next) drew in (
      by_its_counter after many journal c.catch_up.new.self.book.journal c.args.next drew c.catch_up.ensures.journal,
      omega (arith, next, c.catch_up.ensures.next),
      (omega (arith, next, inv.2.0, high), omega (arith, next, c.requires.bounded)),
      inv.3,
      inv.4,
    )
