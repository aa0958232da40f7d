use Rattle.std.proofs.Common.{refl, ◌∙◌, arith}
use Rattle.ds_store_passes.proofs.Seeing.{HasRead-itself, HasRead-through}
use Rattle.ds_store_passes.proofs.SlotLists.{as_many}
use Rattle.ds_store_running.proofs.store.Store.meet_count.Goals as goal

pub loop-init : goal.loop-init
loop-init g c = record { read = HasRead-itself c.args.pass.now; place = refl; next = refl }

pub count_at-requires : goal.count_at-requires
count_at-requires g c =
    omega (arith, c.requires.seen, as_many c.args.pass.now.lists c.loop.pass.lists c.loop.invariant.read.lists)

pub loop-preserved : goal.loop-preserved
loop-preserved g c = record {
  read = HasRead-through c.args.pass.now c.loop.pass c.see_published.new.pass c.loop.invariant.read c.see_published.ensures.read;
  place = c.see_published.ensures.place ∙ c.loop.invariant.place;
  next = c.see_published.ensures.next ∙ c.loop.invariant.next;
}
