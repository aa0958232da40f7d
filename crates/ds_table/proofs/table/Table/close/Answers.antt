use Rattle.std.proofs.Common.{◌≡◌, ◌-◌, ◌<◌, ◌≤◌, true, [], suc, length, get_or, ap, sym, ◌∙◌, arith, subst}
use Rattle.std.proofs.Math.ListN.{set, length-set}
use Rattle.std.proofs.lemmas.List.{get_or_read}
use Rattle.ds_table.specs.Versions.{RowVersion, has_alive, ended_at}
use Rattle.ds_table.specs.Blocks.{Tabled, joined}
use Rattle.ds_table.specs.Places.{comes_before, IsPlace, IsPlaced}
use Rattle.ds_table.proofs.Placing.{block_ordered}
use Rattle.ds_table.proofs.Spacing.{spaced_longer, filled_set}
use Rattle.ds_table.proofs.Splitting.{closed_joined, closed_in_order, closed_all_given, closed_long, some_before, some_blocks}
use Rattle.ds_table.proofs.Bytes.{closed_of_bytes}
use Rattle.ds_table.proofs.Due.{closed_later}
use Rattle.ds_table.proofs.table.Table.close.Goals as goal

pub place-place-requires : goal.place-place-requires
place-place-requires c =
    let bs = c.self.inside.blocks.items in
    let i = c.block_of-i.result in
    let row = c.args.row.now in
    let stamp = c.args.stamp in
    let inv = c.self.invariant in
    let alive : has_alive row (joined bs) ≡ true = subst (λ (t : Tabled). has_alive row (joined t.blocks) ≡ true) (sym c.self.view_is) c.requires.alive in
    let q : IsPlaced (comes_before row true) bs i = subst (λ x. IsPlaced (comes_before row true) x i) c.as_slice.ensures.value c.block_of-i.ensures in
    let l : i < length bs = q.within (some_blocks row bs alive) in
    let e₁ : c.index.result.now ≡ get_or bs i [] = get_or_read bs i c.index.result.now l c.index.ensures [] in
    rw e₁ (block_ordered bs i inv.ordered)

pub overflow_sub-place : goal.overflow_sub-place
overflow_sub-place c =
    let bs = c.self.inside.blocks.items in
    let i = c.block_of-i.result in
    let row = c.args.row.now in
    let stamp = c.args.stamp in
    let inv = c.self.invariant in
    let alive : has_alive row (joined bs) ≡ true = subst (λ (t : Tabled). has_alive row (joined t.blocks) ≡ true) (sym c.self.view_is) c.requires.alive in
    let q : IsPlaced (comes_before row true) bs i = subst (λ x. IsPlaced (comes_before row true) x i) c.as_slice.ensures.value c.block_of-i.ensures in
    let l : i < length bs = q.within (some_blocks row bs alive) in
    let e₁ : c.index.result.now ≡ get_or bs i [] = get_or_read bs i c.index.result.now l c.index.ensures [] in
    let p = c.place-place.result in
    let r : IsPlace (comes_before row true) (get_or bs i []) p = subst (λ x. IsPlace (comes_before row true) x p) e₁ c.place-place.ensures in
    let some = some_before row bs i p inv.filled q l r alive in
    omega (arith, some)

pub invariant_of-self : goal.invariant_of-self
invariant_of-self c =
    let bs = c.self.inside.blocks.items in
    let i = c.block_of-i.result in
    let row = c.args.row.now in
    let stamp = c.args.stamp in
    let inv = c.self.invariant in
    let alive : has_alive row (joined bs) ≡ true = subst (λ (t : Tabled). has_alive row (joined t.blocks) ≡ true) (sym c.self.view_is) c.requires.alive in
    let q : IsPlaced (comes_before row true) bs i = subst (λ x. IsPlaced (comes_before row true) x i) c.as_slice.ensures.value c.block_of-i.ensures in
    let l : i < length bs = q.within (some_blocks row bs alive) in
    let e₁ : c.index.result.now ≡ get_or bs i [] = get_or_read bs i c.index.result.now l c.index.ensures [] in
    let p = c.place-place.result in
    let r : IsPlace (comes_before row true) (get_or bs i []) p = subst (λ x. IsPlace (comes_before row true) x p) e₁ c.place-place.ensures in
    let some = some_before row bs i p inv.filled q l r alive in
    let j = p - 1 in
    let k : p ≡ suc j = omega (arith, some) in
    let s : IsPlace (comes_before row true) (get_or bs i []) (suc j) = subst (λ n. IsPlace (comes_before row true) (get_or bs i []) n) k r in
    let d : RowVersion = record { row = []; from = 0; to = 0 } in
    let e : c.index_mut.result.now ≡ get_or bs i [] = get_or_read bs i c.index_mut.result.now l c.index_mut.ensures.value [] in
    let new : c.close.new.self ≡ set (get_or bs i []) j (ended_at stamp (get_or (get_or bs i []) j d)) = rw (← e) (c.close.ensures d) in
    let h : c.self.inside.last ≤ stamp = subst (λ (t : Tabled). t.last ≤ stamp) (sym c.self.view_is) c.requires.not_before in
    let long = length-set (get_or bs i []) j (ended_at stamp (get_or (get_or bs i []) j d)) in
    record {
      ordered = rw new (closed_in_order row bs i j l q s stamp inv.ordered);
      of_bytes = rw (new, closed_joined row bs i j l q s stamp c.self.inside.last inv.below_never inv.ordered inv.given alive) (closed_of_bytes row stamp (joined bs) inv.of_bytes);
      given = rw new (closed_all_given row bs i j l q s stamp c.self.inside.last h inv.given);
      spaced = spaced_longer bs i c.close.new.self inv.spaced (omega (arith, ap length new, long));
      filled = filled_set bs i c.close.new.self inv.filled (omega (arith, ap length new, long, r.within, some));
      below_never = c.requires.a_stamp;
      counted = rw new (inv.counted ∙ sym (closed_long row bs i j l q s stamp));
      not_due = rw (new, closed_joined row bs i j l q s stamp c.self.inside.last inv.below_never inv.ordered inv.given alive)
          (closed_later c.self.inside.due c.min-self-inside.result row stamp (joined bs) (omega (arith, c.min-self-inside.ensures)) (omega (arith, c.min-self-inside.ensures)) inv.not_due);
      due_within = omega (arith, c.min-self-inside.ensures, inv.due_within);
    }

pub returns-clause-closed : goal.returns-clause-closed
returns-clause-closed c =
    let bs = c.self.inside.blocks.items in
    let i = c.block_of-i.result in
    let row = c.args.row.now in
    let stamp = c.args.stamp in
    let inv = c.self.invariant in
    let alive : has_alive row (joined bs) ≡ true = subst (λ (t : Tabled). has_alive row (joined t.blocks) ≡ true) (sym c.self.view_is) c.requires.alive in
    let q : IsPlaced (comes_before row true) bs i = subst (λ x. IsPlaced (comes_before row true) x i) c.as_slice.ensures.value c.block_of-i.ensures in
    let l : i < length bs = q.within (some_blocks row bs alive) in
    let e₁ : c.index.result.now ≡ get_or bs i [] = get_or_read bs i c.index.result.now l c.index.ensures [] in
    let p = c.place-place.result in
    let r : IsPlace (comes_before row true) (get_or bs i []) p = subst (λ x. IsPlace (comes_before row true) x p) e₁ c.place-place.ensures in
    let some = some_before row bs i p inv.filled q l r alive in
    let j = p - 1 in
    let k : p ≡ suc j = omega (arith, some) in
    let s : IsPlace (comes_before row true) (get_or bs i []) (suc j) = subst (λ n. IsPlace (comes_before row true) (get_or bs i []) n) k r in
    let d : RowVersion = record { row = []; from = 0; to = 0 } in
    let e : c.index_mut.result.now ≡ get_or bs i [] = get_or_read bs i c.index_mut.result.now l c.index_mut.ensures.value [] in
    let new : c.close.new.self ≡ set (get_or bs i []) j (ended_at stamp (get_or (get_or bs i []) j d)) = rw (← e) (c.close.ensures d) in
    rw (← c.self.view_is, new) (closed_joined row bs i j l q s stamp c.self.inside.last inv.below_never inv.ordered inv.given alive)
