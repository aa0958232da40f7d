use Rattle.std.proofs.Common.{◌≡◌, ◌≤◌, List, length, ap, sym, subst, ◌∙◌, arith}
use Rattle.std.proofs.lemmas.List.{length-map}
use Rattle.std.proofs.lemmas.Option.{unwrap_or-slice_get}
use Rattle.ds_log.specs.declared.Entry.{Entry}
use Rattle.ds_model.specs.Sessions.{count_of}
use Rattle.ds_store_passes.specs.Passes.{PassParts, StoreParts, counts_of}
use Rattle.ds_store_running.proofs.Meets.{met_all, met_more_of}
use Rattle.ds_store_passes.proofs.PassReads.{read_next, read_place}
use Rattle.ds_store_passes.proofs.Seeing.{HasRead-through}
use Rattle.ds_store_passes.proofs.SlotLists.{as_many}
use Rattle.ds_store_running.proofs.store.Store.meet_other.Goals as goal

pub loop-shard-init : goal.loop-shard-init
loop-shard-init g c =
    let before = c.args.pass.now in
    let stood = c.stand.new.self in
    let looked = c.look_up_to.new.pass in
    record {
      read = HasRead-through before stood looked (read_place before stood c.place.result c.stand.ensures)
          (read_next stood looked c.look_up_to.ensures.pass c.look_up_to.ensures.next.0);
      place = omega (
        arith,
        ap (λ (p : PassParts). p.place) c.look_up_to.ensures.pass,
        ap (λ (p : PassParts). p.place) c.stand.ensures,
        c.place.ensures,
      );
      next = omega (arith, c.look_up_to.ensures.next.1, c.next.ensures.value);
      many = c.slots-many.ensures.0;
      all = ap (λ (p : PassParts). length p.lists) c.look_up_to.ensures.pass ∙ ap (λ (p : PassParts). length p.lists) c.stand.ensures
          ∙ sym c.slots-shards.ensures.0 ∙ c.slots-shards.ensures.1 ∙ sym c.self.invariant.0
          ∙ ap (λ (s : StoreParts). s.shards) c.self.view_is;
      met = λ k lt. absurd (omega (arith, lt));
    }

pub loop-shard-preserved : goal.loop-shard-preserved
loop-shard-preserved g c =
    let inv = c.loop-shard.invariant in
    let before = c.loop-shard.pass in
    let after = c.meet_count.new.pass in
    let shard = c.loop-shard.shard in
    let other = c.args.other.now in
    let here : count_of (counts_of other) shard ≤ count_of (counts_of after) shard =
    subst (λ n. n ≤ count_of (counts_of after) shard) c.count_at.ensures c.meet_count.ensures.met in
    record {
      read = HasRead-through c.args.pass.now before after inv.read c.meet_count.ensures.read;
      place = omega (arith, inv.place, c.meet_count.ensures.place);
      next = omega (arith, inv.next, c.meet_count.ensures.next);
      many = inv.many;
      all = as_many before.lists after.lists c.meet_count.ensures.read.lists ∙ inv.all;
      met = met_more_of (count_of (counts_of other)) before.lists after.lists shard inv.met c.meet_count.ensures.read.lists here;
    }

pub returns-clause-counts : goal.returns-clause-counts
returns-clause-counts g c =
    let inv = c.loop-shard.invariant in
    let pass = c.loop-shard.pass in
    let other = c.args.other.now in
    let long : length (counts_of other) ≡ length (counts_of pass) =
    length-map other.lists (λ (es : List Entry). length es) ∙ c.requires ∙ sym inv.all
    ∙ sym (length-map pass.lists (λ (es : List Entry). length es)) in
    met_all (counts_of other) (counts_of pass) long
    (λ k lt. subst (λ n. n ≤ count_of (counts_of pass) k) (unwrap_or-slice_get (counts_of other) k 0)
    (inv.met k (omega (
      arith,
      lt,
      c.loop-shard-test.false,
      c.loop-shard.auto.shard-end,
      inv.many,
      length-map other.lists (λ (es : List Entry). length es),
    ))))
