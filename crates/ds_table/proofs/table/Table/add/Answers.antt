use Rattle.std.proofs.Common.{◌≡◌, ◌<◌, ◌≤◌, true, false, [], length, get_or, ap, sym, ◌∙◌, arith, subst}
use Rattle.std.specs.List.{insert}
use Rattle.std.proofs.lemmas.List.{get_or_read}
use Rattle.std.specs.List.{AllByRecursion as Each}
use Rattle.ds_table.specs.Versions.{RowVersion, IsOfBytes, never, has_alive, added}
use Rattle.ds_table.proofs.Due.{added_later}
use Rattle.ds_table.specs.Blocks.{EndFrom, Tabled, joined, IsOrdered, IsGiven}
use Rattle.ds_table.specs.Places.{comes_before, IsPlace, IsPlaced}
use Rattle.ds_table.proofs.Placing.{block_ordered}
use Rattle.ds_table.proofs.Spacing.{spaced_longer, long_insert}
use Rattle.ds_table.proofs.Splitting.{added_joined, added_in_order, added_given, added_long}
use Rattle.ds_table.proofs.Bytes.{slice_of_bytes, added_of_bytes}
use Rattle.ds_table.proofs.table.Table.add.Goals as goal

pub place-place-requires : goal.place-place-requires
place-place-requires c =
    let bs = c.block_to_add.new.blocks.items in
    let i = c.in_ok-i.i in
    let row = c.args.row.now in
    let stamp = c.args.stamp in
    let inv = c.self.invariant in
    let same : joined bs ≡ joined c.self.inside.blocks.items = c.in_ok-i.ensures.same in
    let o : IsOrdered (joined bs) = subst IsOrdered (sym same) inv.ordered in
    let l : i < length bs = c.in_ok-i.ensures.within in
    let q : IsPlaced (comes_before row true) bs i = c.in_ok-i.ensures.placed in
    let e₁ : c.index.result.now ≡ get_or bs i [] = get_or_read bs i c.index.result.now l c.index.ensures [] in
    rw e₁ (block_ordered bs i o)

pub invariant_of-self-2 : goal.invariant_of-self-2
invariant_of-self-2 c =
    let bs = c.block_to_add.new.blocks.items in
    let i = c.in_ok-i.i in
    let row = c.args.row.now in
    let stamp = c.args.stamp in
    let inv = c.self.invariant in
    let same : joined bs ≡ joined c.self.inside.blocks.items = c.in_ok-i.ensures.same in
    let o : IsOrdered (joined bs) = subst IsOrdered (sym same) inv.ordered in
    let l : i < length bs = c.in_ok-i.ensures.within in
    let q : IsPlaced (comes_before row true) bs i = c.in_ok-i.ensures.placed in
    let e₁ : c.index.result.now ≡ get_or bs i [] = get_or_read bs i c.index.result.now l c.index.ensures [] in
    let p = c.place-place.result in
    let r : IsPlace (comes_before row true) (get_or bs i []) p = subst (λ x. IsPlace (comes_before row true) x p) e₁ c.place-place.ensures in
    let e : c.index_mut.result.now ≡ get_or bs i [] = get_or_read bs i c.index_mut.result.now l c.index_mut.ensures.value [] in
    let v : RowVersion = record { row = row; from = stamp; to = never } in
    let new : c.insert.new.self ≡ insert (get_or bs i []) p v = rw (← e, ← c.in_ok-copy.ensures) c.insert.ensures in
    let given : Each (IsGiven c.self.inside.last) (joined bs) = subst (Each (IsGiven c.self.inside.last)) (sym same) inv.given in
    let alive : has_alive row (joined bs) ≡ false = rw same (subst (λ (t : Tabled). has_alive row (joined t.blocks) ≡ false) (sym c.self.view_is) c.requires.not_alive) in
    let h : c.self.inside.last ≤ stamp = subst (λ (t : Tabled). t.last ≤ stamp) (sym c.self.view_is) c.requires.not_before in
    let long = long_insert (get_or bs i []) p v r.within in
    let bytes = slice_of_bytes row (λ k. omega (arith, c.type_inv.row k)) in
    record {
      ordered = rw new (added_in_order row bs i p l q r stamp c.self.inside.last h o given alive);
      of_bytes = rw (new, added_joined row bs i p l q r stamp) (added_of_bytes row stamp (joined bs) bytes (subst (Each IsOfBytes) (sym same) inv.of_bytes));
      given = rw new (added_given row bs i p l q r stamp c.self.inside.last h given);
      spaced = spaced_longer bs i c.insert.new.self c.in_ok-i.ensures.spaced (omega (arith, ap length new, long));
      filled = c.in_ok-i.ensures.filled c.insert.new.self (omega (arith, ap length new, long));
      below_never = c.requires.a_stamp;
      counted = rw new (omega (arith, added_long row bs i p l q r v, ap length same, inv.counted));
      not_due = rw (new, added_joined row bs i p l q r stamp) (added_later c.self.inside.due row stamp (joined bs) inv.due_within (subst (EndFrom c.self.inside.due) (sym same) inv.not_due));
      due_within = inv.due_within;
    }

pub returns-clause-added : goal.returns-clause-added
returns-clause-added c =
    let bs = c.block_to_add.new.blocks.items in
    let i = c.in_ok-i.i in
    let row = c.args.row.now in
    let stamp = c.args.stamp in
    let inv = c.self.invariant in
    let same : joined bs ≡ joined c.self.inside.blocks.items = c.in_ok-i.ensures.same in
    let o : IsOrdered (joined bs) = subst IsOrdered (sym same) inv.ordered in
    let l : i < length bs = c.in_ok-i.ensures.within in
    let q : IsPlaced (comes_before row true) bs i = c.in_ok-i.ensures.placed in
    let e₁ : c.index.result.now ≡ get_or bs i [] = get_or_read bs i c.index.result.now l c.index.ensures [] in
    let p = c.place-place.result in
    let r : IsPlace (comes_before row true) (get_or bs i []) p = subst (λ x. IsPlace (comes_before row true) x p) e₁ c.place-place.ensures in
    let e : c.index_mut.result.now ≡ get_or bs i [] = get_or_read bs i c.index_mut.result.now l c.index_mut.ensures.value [] in
    let v : RowVersion = record { row = row; from = stamp; to = never } in
    let new : c.insert.new.self ≡ insert (get_or bs i []) p v = rw (← e, ← c.in_ok-copy.ensures) c.insert.ensures in
    rw (← c.self.view_is, new) (added_joined row bs i p l q r stamp ∙ ap (added row stamp) same)
