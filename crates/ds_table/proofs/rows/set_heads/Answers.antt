use Rattle.std.proofs.Common.{◌≡◌, ◌<◌, ◌≤◌, ◌++◌, [], suc, length, take, drop, get_or, ap, sym, ◌∙◌, subst, arith, add-one}
use Rattle.std.proofs.Math.ListN.{set, length-set}
use Rattle.std.proofs.lemmas.List.{get_or_read, take_all, drop_all, append-nil}
use Rattle.ds_table.specs.Heads.{head_of, heads_of}
use Rattle.ds_table.proofs.Lists.{each_at}
use Rattle.ds_table.proofs.Heads.{heads_at, heads_long, written_next}
use Rattle.ds_table.proofs.rows.set_heads.Goals as goal

pub head_of-requires : goal.head_of-requires
head_of-requires c =
    let rs = c.args.rows.now in
    let i = c.loop-i.i in
    let l : i < length rs = c.loop-i-test.true in
    let f = c.bytes.ensures ∙ get_or_read rs i c.index-rows-i.result l c.index-rows-i.is [] in
    subst (λ r. c.args.shared ≤ length r) (sym f) (each_at (λ r. c.args.shared ≤ length r) rs i [] l c.requires.long)

pub loop-i-preserved : goal.loop-i-preserved
loop-i-preserved c =
    let rs = c.args.rows.now in
    let s = c.args.shared in
    let i = c.loop-i.i in
    let ys = heads_of s rs in
    let xs = c.args.heads.now.items in
    let y = c.head_of.result in
    let l : i < length rs = c.loop-i-test.true in
    let f = c.bytes.ensures ∙ get_or_read rs i c.index-rows-i.result l c.index-rows-i.is [] in
    let e : y ≡ get_or ys i 0 = c.head_of.ensures ∙ (ap (head_of s) f ∙ sym (heads_at s i rs 0 l)) in
    let n = heads_long s rs in
    record {
      long = length-set c.loop-i.heads.items i y ∙ c.loop-i.invariant.long;
      same = rw add-one (subst (λ h. set h i y ≡ take (suc i) ys ++ drop (suc i) xs) (sym c.loop-i.invariant.same)
          (written_next i ys xs y (omega (arith, n, c.requires.as_many)) (omega (arith, n, l)) e));
      room = c.loop-i.invariant.room;
    }

pub returns-clause-headed : goal.returns-clause-headed
returns-clause-headed c =
    let rs = c.args.rows.now in
    let s = c.args.shared in
    let i = c.loop-i.i in
    let ys = heads_of s rs in
    let xs = c.args.heads.now.items in
    let n = heads_long s rs in
    let e = take_all i ys (omega (arith, n, c.loop-i-test.false)) in
    let d = drop_all i xs (omega (arith, c.requires.as_many, c.loop-i-test.false)) in
    c.loop-i.invariant.same ∙ rw (e, d) (append-nil ys)
