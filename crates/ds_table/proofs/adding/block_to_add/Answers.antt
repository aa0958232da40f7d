use Rattle.std.proofs.Common.{◌≡◌, ◌<◌, ◌≤◌, true, [], ◌∷◌, ◌++◌, suc, length, take, drop, get_or, ap, arith, add-one, subst}
use Rattle.std.proofs.lemmas.List.{get_or_read, length-take, length-drop, take-append-drop}
use Rattle.ds_table.specs.Blocks.{IsCut}
use Rattle.ds_table.specs.Places.{comes_before, IsPlace, IsPlaced}
use Rattle.ds_table.proofs.Placing.{block_ordered}
use Rattle.ds_table.proofs.Spacing.{spaced_cut, joined_split, filled_split, filled_set}
use Rattle.ds_table.proofs.Splitting.{placed_first, placed_second, room_first, room_second}
use Rattle.ds_table.proofs.adding.block_to_add.Goals as goal

pub place-place-requires : goal.place-place-requires
place-place-requires c =
    let bs = c.args.blocks.now.items in
    let i = c.block_of-i.result in
    let row = c.args.row.now in
    let any : 0 < length bs = omega (arith, c.if-len-eq0.false, c.len.ensures, c.args.blocks.now.ok.0) in
    let q : IsPlaced (comes_before row true) bs i = subst (λ x. IsPlaced (comes_before row true) x i) c.as_slice.ensures.value c.block_of-i.ensures in
    let l : i < length bs = q.within any in
    let b = get_or bs i [] in
    let e : c.index-2.result.now ≡ b = get_or_read bs i c.index-2.result.now l c.index-2.ensures [] in
    let e₁ : c.index.result.now ≡ b = get_or_read bs i c.index.result.now l c.index.ensures [] in
    rw e (block_ordered bs i c.requires.ordered)

pub returns-then-place-cut-clause-same : goal.returns-then-place-cut-clause-same
returns-then-place-cut-clause-same c =
    let bs = c.args.blocks.now.items in
    let i = c.block_of-i.result in
    let row = c.args.row.now in
    let any : 0 < length bs = omega (arith, c.if-len-eq0.false, c.len.ensures, c.args.blocks.now.ok.0) in
    let q : IsPlaced (comes_before row true) bs i = subst (λ x. IsPlaced (comes_before row true) x i) c.as_slice.ensures.value c.block_of-i.ensures in
    let l : i < length bs = q.within any in
    let b = get_or bs i [] in
    let e : c.index-2.result.now ≡ b = get_or_read bs i c.index-2.result.now l c.index-2.ensures [] in
    let e₁ : c.index.result.now ≡ b = get_or_read bs i c.index.result.now l c.index.ensures [] in
    let r : IsPlace (comes_before row true) b c.place-place.result = subst (λ x. IsPlace (comes_before row true) x c.place-place.result) e c.place-place.ensures in
    let most : length b ≤ 256 = omega (arith, ap length e₁, c.len-2.ensures.value, c.len-2.ensures.within) in
    let full : 256 ≤ length b = omega (arith, ap length e₁, c.len-2.ensures.value, c.if-len-lt-MOST_VERSIONS.false) in
    let k = c.cut_of-cut.result in
    let z : IsCut bs i k = subst (λ x. IsCut x i k) c.as_slice-2.ensures.value c.cut_of-cut.ensures in
    let some = z.some in
    let in_it : k < length b = omega (arith, full, z.not_all) in
    let parts : c.split_block.new.blocks.items ≡ take i bs ++ take k b ∷ drop k b ∷ drop (suc i) bs = rw add-one at c.in_ok-split_block.ensures.parts in
    rw parts (joined_split bs i (take k b) (drop k b) l (take-append-drop k b))

pub returns-then-place-cut-clause-spaced : goal.returns-then-place-cut-clause-spaced
returns-then-place-cut-clause-spaced c =
    let bs = c.args.blocks.now.items in
    let i = c.block_of-i.result in
    let row = c.args.row.now in
    let any : 0 < length bs = omega (arith, c.if-len-eq0.false, c.len.ensures, c.args.blocks.now.ok.0) in
    let q : IsPlaced (comes_before row true) bs i = subst (λ x. IsPlaced (comes_before row true) x i) c.as_slice.ensures.value c.block_of-i.ensures in
    let l : i < length bs = q.within any in
    let b = get_or bs i [] in
    let e : c.index-2.result.now ≡ b = get_or_read bs i c.index-2.result.now l c.index-2.ensures [] in
    let e₁ : c.index.result.now ≡ b = get_or_read bs i c.index.result.now l c.index.ensures [] in
    let r : IsPlace (comes_before row true) b c.place-place.result = subst (λ x. IsPlace (comes_before row true) x c.place-place.result) e c.place-place.ensures in
    let most : length b ≤ 256 = omega (arith, ap length e₁, c.len-2.ensures.value, c.len-2.ensures.within) in
    let full : 256 ≤ length b = omega (arith, ap length e₁, c.len-2.ensures.value, c.if-len-lt-MOST_VERSIONS.false) in
    let k = c.cut_of-cut.result in
    let z : IsCut bs i k = subst (λ x. IsCut x i k) c.as_slice-2.ensures.value c.cut_of-cut.ensures in
    let some = z.some in
    let in_it : k < length b = omega (arith, full, z.not_all) in
    let parts : c.split_block.new.blocks.items ≡ take i bs ++ take k b ∷ drop k b ∷ drop (suc i) bs = rw add-one at c.in_ok-split_block.ensures.parts in
    rw parts (spaced_cut bs i k c.requires.spaced l z full)

pub returns-then-place-cut-clause-placed : goal.returns-then-place-cut-clause-placed
returns-then-place-cut-clause-placed c =
    let bs = c.args.blocks.now.items in
    let i = c.block_of-i.result in
    let row = c.args.row.now in
    let any : 0 < length bs = omega (arith, c.if-len-eq0.false, c.len.ensures, c.args.blocks.now.ok.0) in
    let q : IsPlaced (comes_before row true) bs i = subst (λ x. IsPlaced (comes_before row true) x i) c.as_slice.ensures.value c.block_of-i.ensures in
    let l : i < length bs = q.within any in
    let b = get_or bs i [] in
    let e : c.index-2.result.now ≡ b = get_or_read bs i c.index-2.result.now l c.index-2.ensures [] in
    let e₁ : c.index.result.now ≡ b = get_or_read bs i c.index.result.now l c.index.ensures [] in
    let r : IsPlace (comes_before row true) b c.place-place.result = subst (λ x. IsPlace (comes_before row true) x c.place-place.result) e c.place-place.ensures in
    let most : length b ≤ 256 = omega (arith, ap length e₁, c.len-2.ensures.value, c.len-2.ensures.within) in
    let full : 256 ≤ length b = omega (arith, ap length e₁, c.len-2.ensures.value, c.if-len-lt-MOST_VERSIONS.false) in
    let k = c.cut_of-cut.result in
    let z : IsCut bs i k = subst (λ x. IsCut x i k) c.as_slice-2.ensures.value c.cut_of-cut.ensures in
    let some = z.some in
    let in_it : k < length b = omega (arith, full, z.not_all) in
    let parts : c.split_block.new.blocks.items ≡ take i bs ++ take k b ∷ drop k b ∷ drop (suc i) bs = rw add-one at c.in_ok-split_block.ensures.parts in
    rw parts (placed_first (comes_before row true) bs i c.place-place.result k l q r some in_it (omega (arith, c.if-place-cut.true)))

pub returns-then-place-cut-clause-room : goal.returns-then-place-cut-clause-room
returns-then-place-cut-clause-room c =
    let bs = c.args.blocks.now.items in
    let i = c.block_of-i.result in
    let row = c.args.row.now in
    let any : 0 < length bs = omega (arith, c.if-len-eq0.false, c.len.ensures, c.args.blocks.now.ok.0) in
    let q : IsPlaced (comes_before row true) bs i = subst (λ x. IsPlaced (comes_before row true) x i) c.as_slice.ensures.value c.block_of-i.ensures in
    let l : i < length bs = q.within any in
    let b = get_or bs i [] in
    let e : c.index-2.result.now ≡ b = get_or_read bs i c.index-2.result.now l c.index-2.ensures [] in
    let e₁ : c.index.result.now ≡ b = get_or_read bs i c.index.result.now l c.index.ensures [] in
    let r : IsPlace (comes_before row true) b c.place-place.result = subst (λ x. IsPlace (comes_before row true) x c.place-place.result) e c.place-place.ensures in
    let most : length b ≤ 256 = omega (arith, ap length e₁, c.len-2.ensures.value, c.len-2.ensures.within) in
    let full : 256 ≤ length b = omega (arith, ap length e₁, c.len-2.ensures.value, c.if-len-lt-MOST_VERSIONS.false) in
    let k = c.cut_of-cut.result in
    let z : IsCut bs i k = subst (λ x. IsCut x i k) c.as_slice-2.ensures.value c.cut_of-cut.ensures in
    let some = z.some in
    let in_it : k < length b = omega (arith, full, z.not_all) in
    let parts : c.split_block.new.blocks.items ≡ take i bs ++ take k b ∷ drop k b ∷ drop (suc i) bs = rw add-one at c.in_ok-split_block.ensures.parts in
    rw parts (room_first (comes_before row true) bs i c.place-place.result k l q r some in_it z.not_all)

pub returns-then-place-cut-clause-filled : goal.returns-then-place-cut-clause-filled
returns-then-place-cut-clause-filled c =
    let bs = c.args.blocks.now.items in
    let i = c.block_of-i.result in
    let row = c.args.row.now in
    let any : 0 < length bs = omega (arith, c.if-len-eq0.false, c.len.ensures, c.args.blocks.now.ok.0) in
    let q : IsPlaced (comes_before row true) bs i = subst (λ x. IsPlaced (comes_before row true) x i) c.as_slice.ensures.value c.block_of-i.ensures in
    let l : i < length bs = q.within any in
    let b = get_or bs i [] in
    let e : c.index-2.result.now ≡ b = get_or_read bs i c.index-2.result.now l c.index-2.ensures [] in
    let e₁ : c.index.result.now ≡ b = get_or_read bs i c.index.result.now l c.index.ensures [] in
    let r : IsPlace (comes_before row true) b c.place-place.result = subst (λ x. IsPlace (comes_before row true) x c.place-place.result) e c.place-place.ensures in
    let most : length b ≤ 256 = omega (arith, ap length e₁, c.len-2.ensures.value, c.len-2.ensures.within) in
    let full : 256 ≤ length b = omega (arith, ap length e₁, c.len-2.ensures.value, c.if-len-lt-MOST_VERSIONS.false) in
    let k = c.cut_of-cut.result in
    let z : IsCut bs i k = subst (λ x. IsCut x i k) c.as_slice-2.ensures.value c.cut_of-cut.ensures in
    let some = z.some in
    let in_it : k < length b = omega (arith, full, z.not_all) in
    let parts : c.split_block.new.blocks.items ≡ take i bs ++ take k b ∷ drop k b ∷ drop (suc i) bs = rw add-one at c.in_ok-split_block.ensures.parts in
    λ x n. rw parts (filled_set (take i bs ++ take k b ∷ drop k b ∷ drop (suc i) bs) i x (filled_split bs i (take k b) (drop k b) c.requires.filled (simp length-take (omega (arith, some, in_it))) (simp length-drop (omega (arith, in_it)))) n)

pub returns-else-place-cut-clause-same : goal.returns-else-place-cut-clause-same
returns-else-place-cut-clause-same c =
    let bs = c.args.blocks.now.items in
    let i = c.block_of-i.result in
    let row = c.args.row.now in
    let any : 0 < length bs = omega (arith, c.if-len-eq0.false, c.len.ensures, c.args.blocks.now.ok.0) in
    let q : IsPlaced (comes_before row true) bs i = subst (λ x. IsPlaced (comes_before row true) x i) c.as_slice.ensures.value c.block_of-i.ensures in
    let l : i < length bs = q.within any in
    let b = get_or bs i [] in
    let e : c.index-2.result.now ≡ b = get_or_read bs i c.index-2.result.now l c.index-2.ensures [] in
    let e₁ : c.index.result.now ≡ b = get_or_read bs i c.index.result.now l c.index.ensures [] in
    let r : IsPlace (comes_before row true) b c.place-place.result = subst (λ x. IsPlace (comes_before row true) x c.place-place.result) e c.place-place.ensures in
    let most : length b ≤ 256 = omega (arith, ap length e₁, c.len-2.ensures.value, c.len-2.ensures.within) in
    let full : 256 ≤ length b = omega (arith, ap length e₁, c.len-2.ensures.value, c.if-len-lt-MOST_VERSIONS.false) in
    let k = c.cut_of-cut.result in
    let z : IsCut bs i k = subst (λ x. IsCut x i k) c.as_slice-2.ensures.value c.cut_of-cut.ensures in
    let some = z.some in
    let in_it : k < length b = omega (arith, full, z.not_all) in
    let parts : c.split_block.new.blocks.items ≡ take i bs ++ take k b ∷ drop k b ∷ drop (suc i) bs = rw add-one at c.in_ok-split_block.ensures.parts in
    rw parts (joined_split bs i (take k b) (drop k b) l (take-append-drop k b))

pub returns-else-place-cut-clause-spaced : goal.returns-else-place-cut-clause-spaced
returns-else-place-cut-clause-spaced c =
    let bs = c.args.blocks.now.items in
    let i = c.block_of-i.result in
    let row = c.args.row.now in
    let any : 0 < length bs = omega (arith, c.if-len-eq0.false, c.len.ensures, c.args.blocks.now.ok.0) in
    let q : IsPlaced (comes_before row true) bs i = subst (λ x. IsPlaced (comes_before row true) x i) c.as_slice.ensures.value c.block_of-i.ensures in
    let l : i < length bs = q.within any in
    let b = get_or bs i [] in
    let e : c.index-2.result.now ≡ b = get_or_read bs i c.index-2.result.now l c.index-2.ensures [] in
    let e₁ : c.index.result.now ≡ b = get_or_read bs i c.index.result.now l c.index.ensures [] in
    let r : IsPlace (comes_before row true) b c.place-place.result = subst (λ x. IsPlace (comes_before row true) x c.place-place.result) e c.place-place.ensures in
    let most : length b ≤ 256 = omega (arith, ap length e₁, c.len-2.ensures.value, c.len-2.ensures.within) in
    let full : 256 ≤ length b = omega (arith, ap length e₁, c.len-2.ensures.value, c.if-len-lt-MOST_VERSIONS.false) in
    let k = c.cut_of-cut.result in
    let z : IsCut bs i k = subst (λ x. IsCut x i k) c.as_slice-2.ensures.value c.cut_of-cut.ensures in
    let some = z.some in
    let in_it : k < length b = omega (arith, full, z.not_all) in
    let parts : c.split_block.new.blocks.items ≡ take i bs ++ take k b ∷ drop k b ∷ drop (suc i) bs = rw add-one at c.in_ok-split_block.ensures.parts in
    rw parts (spaced_cut bs i k c.requires.spaced l z full)

pub returns-else-place-cut-clause-placed : goal.returns-else-place-cut-clause-placed
returns-else-place-cut-clause-placed c =
    let bs = c.args.blocks.now.items in
    let i = c.block_of-i.result in
    let row = c.args.row.now in
    let any : 0 < length bs = omega (arith, c.if-len-eq0.false, c.len.ensures, c.args.blocks.now.ok.0) in
    let q : IsPlaced (comes_before row true) bs i = subst (λ x. IsPlaced (comes_before row true) x i) c.as_slice.ensures.value c.block_of-i.ensures in
    let l : i < length bs = q.within any in
    let b = get_or bs i [] in
    let e : c.index-2.result.now ≡ b = get_or_read bs i c.index-2.result.now l c.index-2.ensures [] in
    let e₁ : c.index.result.now ≡ b = get_or_read bs i c.index.result.now l c.index.ensures [] in
    let r : IsPlace (comes_before row true) b c.place-place.result = subst (λ x. IsPlace (comes_before row true) x c.place-place.result) e c.place-place.ensures in
    let most : length b ≤ 256 = omega (arith, ap length e₁, c.len-2.ensures.value, c.len-2.ensures.within) in
    let full : 256 ≤ length b = omega (arith, ap length e₁, c.len-2.ensures.value, c.if-len-lt-MOST_VERSIONS.false) in
    let k = c.cut_of-cut.result in
    let z : IsCut bs i k = subst (λ x. IsCut x i k) c.as_slice-2.ensures.value c.cut_of-cut.ensures in
    let some = z.some in
    let in_it : k < length b = omega (arith, full, z.not_all) in
    let parts : c.split_block.new.blocks.items ≡ take i bs ++ take k b ∷ drop k b ∷ drop (suc i) bs = rw add-one at c.in_ok-split_block.ensures.parts in
    rw (add-one, parts) (placed_second (comes_before row true) bs i c.place-place.result k l q r some in_it (omega (arith, c.if-place-cut.false)))

pub returns-else-place-cut-clause-room : goal.returns-else-place-cut-clause-room
returns-else-place-cut-clause-room c =
    let bs = c.args.blocks.now.items in
    let i = c.block_of-i.result in
    let row = c.args.row.now in
    let any : 0 < length bs = omega (arith, c.if-len-eq0.false, c.len.ensures, c.args.blocks.now.ok.0) in
    let q : IsPlaced (comes_before row true) bs i = subst (λ x. IsPlaced (comes_before row true) x i) c.as_slice.ensures.value c.block_of-i.ensures in
    let l : i < length bs = q.within any in
    let b = get_or bs i [] in
    let e : c.index-2.result.now ≡ b = get_or_read bs i c.index-2.result.now l c.index-2.ensures [] in
    let e₁ : c.index.result.now ≡ b = get_or_read bs i c.index.result.now l c.index.ensures [] in
    let r : IsPlace (comes_before row true) b c.place-place.result = subst (λ x. IsPlace (comes_before row true) x c.place-place.result) e c.place-place.ensures in
    let most : length b ≤ 256 = omega (arith, ap length e₁, c.len-2.ensures.value, c.len-2.ensures.within) in
    let full : 256 ≤ length b = omega (arith, ap length e₁, c.len-2.ensures.value, c.if-len-lt-MOST_VERSIONS.false) in
    let k = c.cut_of-cut.result in
    let z : IsCut bs i k = subst (λ x. IsCut x i k) c.as_slice-2.ensures.value c.cut_of-cut.ensures in
    let some = z.some in
    let in_it : k < length b = omega (arith, full, z.not_all) in
    let parts : c.split_block.new.blocks.items ≡ take i bs ++ take k b ∷ drop k b ∷ drop (suc i) bs = rw add-one at c.in_ok-split_block.ensures.parts in
    rw (add-one, parts) (room_second (comes_before row true) bs i c.place-place.result k l q r some in_it most)

pub returns-else-place-cut-clause-filled : goal.returns-else-place-cut-clause-filled
returns-else-place-cut-clause-filled c =
    let bs = c.args.blocks.now.items in
    let i = c.block_of-i.result in
    let row = c.args.row.now in
    let any : 0 < length bs = omega (arith, c.if-len-eq0.false, c.len.ensures, c.args.blocks.now.ok.0) in
    let q : IsPlaced (comes_before row true) bs i = subst (λ x. IsPlaced (comes_before row true) x i) c.as_slice.ensures.value c.block_of-i.ensures in
    let l : i < length bs = q.within any in
    let b = get_or bs i [] in
    let e : c.index-2.result.now ≡ b = get_or_read bs i c.index-2.result.now l c.index-2.ensures [] in
    let e₁ : c.index.result.now ≡ b = get_or_read bs i c.index.result.now l c.index.ensures [] in
    let r : IsPlace (comes_before row true) b c.place-place.result = subst (λ x. IsPlace (comes_before row true) x c.place-place.result) e c.place-place.ensures in
    let most : length b ≤ 256 = omega (arith, ap length e₁, c.len-2.ensures.value, c.len-2.ensures.within) in
    let full : 256 ≤ length b = omega (arith, ap length e₁, c.len-2.ensures.value, c.if-len-lt-MOST_VERSIONS.false) in
    let k = c.cut_of-cut.result in
    let z : IsCut bs i k = subst (λ x. IsCut x i k) c.as_slice-2.ensures.value c.cut_of-cut.ensures in
    let some = z.some in
    let in_it : k < length b = omega (arith, full, z.not_all) in
    let parts : c.split_block.new.blocks.items ≡ take i bs ++ take k b ∷ drop k b ∷ drop (suc i) bs = rw add-one at c.in_ok-split_block.ensures.parts in
    λ x n. rw (add-one, parts) (filled_set (take i bs ++ take k b ∷ drop k b ∷ drop (suc i) bs) (suc i) x (filled_split bs i (take k b) (drop k b) c.requires.filled (simp length-take (omega (arith, some, in_it))) (simp length-drop (omega (arith, in_it)))) n)
