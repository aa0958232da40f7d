use Rattle.std.proofs.Common.{◌≡◌, ◌≤◌, length, get_or, ap, sym, subst, ◌∙◌, arith}
use Rattle.std.proofs.lemmas.List.{length-map}
use Rattle.std.specs.Prelude.{List}
use Rattle.ds_log.specs.declared.Entry.{Entry}
use Rattle.ds_model.specs.Sessions.{count_of}
use Rattle.ds_store_passes.specs.Passes.{PassParts, StoreParts, counts_of}
use Rattle.ds_store_running.proofs.Meets.{met_all, met_more}
use Rattle.ds_store_passes.proofs.PassReads.{read_next, read_place}
use Rattle.ds_store_passes.proofs.Seeing.{HasRead-through}
use Rattle.ds_store_passes.proofs.SlotLists.{as_many}
use Rattle.ds_store_running.proofs.store.Store.meet.Goals as goal

pub loop-shard-init : goal.loop-shard-init
loop-shard-init g c =
    let before = c.args.pass.now in
    let stood = c.stand.new.self in
    let looked = c.look_up_to.new.pass in
    record {
      read = HasRead-through before stood looked (read_place before stood c.args.place c.stand.ensures)
          (read_next stood looked c.look_up_to.ensures.pass c.look_up_to.ensures.next.0);
      place = omega (arith, ap (λ (p : PassParts). p.place) c.look_up_to.ensures.pass, ap (λ (p : PassParts). p.place) c.stand.ensures);
      next = c.look_up_to.ensures.next.1;
      all = ap (λ (p : PassParts). length p.lists) c.look_up_to.ensures.pass ∙ ap (λ (p : PassParts). length p.lists) c.stand.ensures
          ∙ sym c.slots-shards.ensures.0 ∙ c.slots-shards.ensures.1 ∙ sym c.self.invariant.0
          ∙ ap (λ (s : StoreParts). s.shards) c.self.view_is;
      met = λ k lt. absurd (omega (arith, lt));
    }

pub loop-shard-preserved : goal.loop-shard-preserved
loop-shard-preserved g c =
    let inv = c.loop-shard.invariant in
    let before = c.loop-shard.pass in
    let after = c.meet_count.new.pass in
    let shard = c.loop-shard.shard in
    let here : get_or c.args.counts.now shard 0 ≤ count_of (counts_of after) shard =
    subst (λ xs. get_or xs shard 0 ≤ count_of (counts_of after) shard) c.as_slice-count-items.ensures c.meet_count.ensures.met in
    record {
      read = HasRead-through c.args.pass.now before after inv.read c.meet_count.ensures.read;
      place = omega (arith, inv.place, c.meet_count.ensures.place);
      next = omega (arith, inv.next, c.meet_count.ensures.next);
      all = as_many before.lists after.lists c.meet_count.ensures.read.lists ∙ inv.all;
      met = met_more c.args.counts.now before.lists after.lists shard inv.met c.meet_count.ensures.read.lists here;
    }

pub returns-clause-counts : goal.returns-clause-counts
returns-clause-counts g c =
    let inv = c.loop-shard.invariant in
    let pass = c.loop-shard.pass in
    let long : length c.args.counts.now ≡ length (counts_of pass) =
    c.requires ∙ sym inv.all ∙ sym (length-map pass.lists (λ (es : List Entry). length es)) in
    met_all c.args.counts.now (counts_of pass) long
    (λ k lt. inv.met k (omega (arith, lt, c.loop-shard-test.false, ap length c.as_slice-count-items.ensures)))
