use Rattle.std.proofs.Common.{◌≡◌, ◌+◌, ◌*◌, ◌-◌, ◌≤◌, suc, refl, sym, ◌∙◌, arith, add-one, subst}
use Rattle.ds_table.specs.Heads.{number_behind}
use Rattle.ds_table.proofs.Heads.{filled_behind, filled_more, filled_least, number_next}
use Rattle.ds_table.proofs.rows.number_at_front.Goals as goal

pub loop-i-init : goal.loop-i-init
loop-i-init c = record {
  fits = λ k e. let q : 8 ≡ k = omega (arith, e) in subst (λ n. filled_behind 0 n ≤ 18446744073709551615) q (omega arith);
  same = λ k e. let q : 8 ≡ k = omega (arith, e) in subst (λ n. number_behind 0 n c.args.bytes.now ≡ number_behind 0 8 c.args.bytes.now) q refl;
}

pub overflow_mul-number : goal.overflow_mul-number
overflow_mul-number c =
    let n = c.loop-i.number in
    let i = c.loop-i.i in
    let f : filled_behind (n * 256 + 255) (7 - i) ≤ 18446744073709551615 = c.loop-i.invariant.fits (suc (7 - i)) (omega (arith, c.loop-i-test.true)) in
    omega (arith, f, filled_least (7 - i) (n * 256 + 255))

pub overflow_add-number : goal.overflow_add-number
overflow_add-number c =
    let n = c.loop-i.number in
    let i = c.loop-i.i in
    let f : filled_behind (n * 256 + 255) (7 - i) ≤ 18446744073709551615 = c.loop-i.invariant.fits (suc (7 - i)) (omega (arith, c.loop-i-test.true)) in
    omega (arith, f, filled_least (7 - i) (n * 256 + 255), c.byte_at.type_inv)

pub loop-i-preserved : goal.loop-i-preserved
loop-i-preserved c =
    let n = c.loop-i.number in
    let i = c.loop-i.i in
    let bs = c.args.bytes.now in
    let b = c.byte_at.result in
    record {
      fits = λ k e.
          let f : filled_behind (n * 256 + 255) k ≤ 18446744073709551615 = c.loop-i.invariant.fits (suc k) (omega (arith, e)) in
          omega (arith, f, filled_more k (n * 256 + b) (n * 256 + 255) (omega (arith, c.byte_at.type_inv)));
      same = λ k e.
          let g = c.loop-i.invariant.same (suc k) (omega (arith, e)) in
          rw (add-one, c.byte_at.ensures) (sym (number_next k n i bs) ∙ g);
    }

pub returns : goal.returns
returns c = c.loop-i.invariant.same 0 (omega (arith, c.loop-i-test.false, c.loop-i.auto.i-end))
