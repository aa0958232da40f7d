use Rattle.std.proofs.Common.{◌≡◌, ◌+◌, ◌-◌, ◌<◌, ◌≤◌, length, set, arith, sym, ap, ◌∙◌}
use Rattle.std.specs.Prelude.{None, suc}
use Rattle.ds_disk.specs.Memory.{wiped}
use Rattle.ds_disk.specs.MemoryLaws.{length-wiped}
use Rattle.ds_disk.proofs.StateLaws.{wiped_none, wiped_more, wiped_rest}
use Rattle.ds_disk.proofs.state.wipe.Goals as goal

pub loop-i-init : goal.loop-i-init
loop-i-init c =
    let none : c.args.at - c.args.at ≡ 0 = omega arith in
    record {
      start = omega arith;
      within = omega arith;
      done = sym (wiped_none c.args.stays.now c.args.at)
          ∙ ap (wiped c.args.stays.now c.args.at) (sym none);
    }

pub loop-i-preserved : goal.loop-i-preserved
loop-i-preserved c =
    let k = c.loop-i.i - c.args.at in
    let start = c.loop-i.invariant.start in
    let next : suc k ≡ c.loop-i.i + 1 - c.args.at = omega arith in
    let test : c.loop-i.i < length c.loop-i.stays = omega arith in
    let long = ap length c.loop-i.invariant.done ∙ length-wiped c.args.stays.now c.args.at k in
    record {
      start = omega arith;
      within = omega arith;
      done = ap (λ xs. set xs c.loop-i.i None) c.loop-i.invariant.done
          ∙ wiped_more c.args.stays.now c.args.at k c.loop-i.i (omega arith) (omega (arith, long, test))
          ∙ ap (wiped c.args.stays.now c.args.at) next;
    }

pub returns-after-loop-i : goal.returns-after-loop-i
returns-after-loop-i c =
    let start = c.loop-i.invariant.start in
    let test = c.loop-i-test.false in
    let past : length c.args.stays.now ≤ c.args.at + (c.loop-i.i - c.args.at) = omega (arith, c.loop-i.auto.stays) in
    c.loop-i.invariant.done ∙ wiped_rest c.args.stays.now c.args.at (c.loop-i.i - c.args.at) c.args.n past c.loop-i.invariant.within
