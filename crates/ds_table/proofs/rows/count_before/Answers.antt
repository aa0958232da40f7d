use Rattle.std.proofs.Common.{◌≡◌, ◌<◌, ◌≤◌, false, true, [], take, length, get_or, sym, ◌∙◌, subst, arith}
use Rattle.std.proofs.lemmas.List.{get_or_read}
use Rattle.std.specs.declared.cmp.Ordering.TheVariants.{Less, Equal, Greater}
use Rattle.ds_base.specs.KeyOrder.{bytes_cmp}
use Rattle.ds_base.specs.KeyOrderLaws.{bytes_cmp-same}
use Rattle.ds_table.specs.Heads.{Shares}
use Rattle.ds_table.specs.Places.{row_before}
use Rattle.ds_table.proofs.Lists.{all_then, each_at}
use Rattle.ds_table.proofs.Heads.{alike_first, alike_long, long_too, place_of_none, place_first, place_last, start_below, start_above}
use Rattle.ds_table.proofs.rows.count_before.Goals as goal

pub returns-then-many-eq0 : goal.returns-then-many-eq0
returns-then-many-eq0 c = place_of_none (row_before c.args.row.now c.args.same_too) c.args.rows.now (omega (arith, c.if-many-eq0.true))

pub returns-in-Less : goal.returns-in-Less
returns-in-Less c =
    let rs = c.args.rows.now in
    let s = c.args.shared in
    let o = c.args.row.now in
    let first = get_or rs 0 [] in
    let l : 0 < length rs = omega (arith, c.if-many-eq0.false) in
    let f = c.bytes.ensures ∙ get_or_read rs 0 c.index-rows-0.result l c.index-rows-0.is [] in
    let e : bytes_cmp (take s o) (take s first) ≡ Less = subst (λ x. bytes_cmp (take s o) (take s x) ≡ Less) f (sym c.in-Less.ensures) in
    place_first (row_before o c.args.same_too) rs
    (all_then (Shares s first) (λ r. row_before o c.args.same_too r ≡ false) (λ r g. start_below s o first r c.args.same_too g e) rs (alike_first s rs c.requires.alike))

pub returns-in-Greater : goal.returns-in-Greater
returns-in-Greater c =
    let rs = c.args.rows.now in
    let s = c.args.shared in
    let o = c.args.row.now in
    let first = get_or rs 0 [] in
    let l : 0 < length rs = omega (arith, c.if-many-eq0.false) in
    let f = c.bytes.ensures ∙ get_or_read rs 0 c.index-rows-0.result l c.index-rows-0.is [] in
    let e : bytes_cmp (take s o) (take s first) ≡ Greater = subst (λ x. bytes_cmp (take s o) (take s x) ≡ Greater) f (sym c.in-Greater.ensures) in
    place_last (row_before o c.args.same_too) rs
    (all_then (Shares s first) (λ r. row_before o c.args.same_too r ≡ true) (λ r g. start_above s o first r c.args.same_too g e) rs (alike_first s rs c.requires.alike))

pub place_among-requires : goal.place_among-requires
place_among-requires c =
    let rs = c.args.rows.now in
    let s = c.args.shared in
    let o = c.args.row.now in
    let first = get_or rs 0 [] in
    let l : 0 < length rs = omega (arith, c.if-many-eq0.false) in
    let f = c.bytes.ensures ∙ get_or_read rs 0 c.index-rows-0.result l c.index-rows-0.is [] in
    let q : bytes_cmp (take s o) (take s first) ≡ Equal = subst (λ x. bytes_cmp (take s o) (take s x) ≡ Equal) f (sym c.in-Equal.ensures) in
    let e : take s o ≡ take s first = bytes_cmp-same (take s o) (take s first) q in
    record {
      headed = c.requires.headed;
      alike = all_then (Shares s first) (Shares s o) (λ r g. record { long = g.long; same = g.same ∙ sym e }) rs (alike_first s rs c.requires.alike);
      long = long_too s o first (each_at (λ r. s ≤ length r) rs 0 [] l (alike_long s rs c.requires.alike)) e;
      rising = c.requires.rising;
    }
