use Rattle.std.proofs.Common.{◌≡◌, ◌+◌, max, length, refl, ap, sym, subst, ◌∙◌, arith}
use Rattle.std.specs.Prelude.{List}
use Rattle.ds_log.specs.declared.Entry.{Entry}
use Rattle.ds_store_passes.specs.Passes.{StoreParts, HasRead}
use Rattle.ds_store_passes.proofs.PassReads.{on_err}
use Rattle.ds_store_passes.proofs.Seeing.{HasRead-through}
use Rattle.ds_store_running.proofs.Settles.{AreSettled, settled_all, settled_more}
use Rattle.ds_store_running.proofs.store.Store.settle.Goals as goal

pub loop-shard-init : goal.loop-shard-init
loop-shard-init g c =
    let looked = c.touch-place.ensures.looked in
    let all : c.slots-shards.result ≡ c.args.self.now.shards =
    c.slots-shards.ensures.1 ∙ sym c.self.invariant.0 ∙ ap (λ (s : StoreParts). s.shards) c.self.view_is in
    record {
      all = all;
      settled = record {
        read = looked.read;
        seen = omega (arith, looked.read.place, looked.stands);
        within = omega (arith, looked.whole);
        place_shown = omega (arith, looked.stands);
        commit_shown = omega arith;
        all = ap (λ (ls : List (List Entry)). length ls) c.touch-place.ensures.same.0 ∙ sym c.slots-shards.ensures.0 ∙ all;
        counts_are = c.new-counts.ensures;
        applied = tt;
        commit_is = refl;
      };
    }

pub returns-in_err-applied-clause-read : goal.returns-in_err-applied-clause-read
returns-in_err-applied-clause-read g c =
    on_err c.from_residual.result (HasRead c.args.pass.now c.settle_shard.new.pass)
    (HasRead-through c.args.pass.now c.loop-shard.pass c.settle_shard.new.pass c.loop-shard.invariant.settled.read
    c.in_err-applied.ensures.read)

pub returns-in_default-clause-read : goal.returns-in_default-clause-read
returns-in_default-clause-read g c =
    HasRead-through c.args.pass.now c.loop-shard.pass c.settle_shard.new.pass c.loop-shard.invariant.settled.read
    c.in_ok-applied.ensures.settled.read

pub loop-shard-preserved : goal.loop-shard-preserved
loop-shard-preserved g c =
    let inv = c.loop-shard.invariant in
    let shards = c.args.self.now.shards in
    let place = c.touch-place.result in
    let applied = c.in_ok-applied.applied in
    let after = c.settle_shard.new.pass in
    let done = c.loop-shard.shard in
    let more = settled_more shards place c.args.pass.now c.loop-shard.pass after done c.loop-shard.counts c.loop-shard.commit applied.count
    applied.commit
    inv.settled (omega (arith, c.loop-shard-test.true, inv.all)) c.in_ok-applied.ensures.settled in
    record {
      all = inv.all;
      settled = subst (λ n. AreSettled shards place c.args.pass.now after (done + 1) c.push.new.self n) (sym c.max-greatest.ensures)
          (subst (λ ns. AreSettled shards place c.args.pass.now after (done + 1) ns (max applied.commit c.loop-shard.commit))
          (sym c.in-Ok.ensures.ok) more);
    }

pub returns-clause-settled : goal.returns-clause-settled
returns-clause-settled g c =
    let inv = c.loop-shard.invariant in
    let shards = c.args.self.now.shards in
    let whole : c.loop-shard.shard ≡ shards = omega (arith, c.loop-shard-test.false, c.loop-shard.auto.shard-end, inv.all) in
    settled_all shards c.touch-place.result c.args.pass.now c.loop-shard.pass c.loop-shard.counts c.loop-shard.commit
    (subst (λ n. AreSettled shards c.touch-place.result c.args.pass.now c.loop-shard.pass n c.loop-shard.counts c.loop-shard.commit) whole
    inv.settled)
