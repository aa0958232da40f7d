use Rattle.std.proofs.Common.{◌≡◌, ◌+◌, ◌-◌, ◌<◌, [], ◌++◌, suc, length, take, drop, get_or, ap, sym, ◌∙◌, arith, subst}
use Rattle.std.proofs.Math.ListN.{set}
use Rattle.std.proofs.lemmas.List.{get_or_read, length-append}
use Rattle.ds_table.specs.Blocks.{joined, IsSpaced}
use Rattle.ds_table.proofs.Spacing.{spaced_on, joined_next, spaced_next, at_removed, long_removed}
use Rattle.ds_table.proofs.joining.join_small.Goals as goal

pub loop-i-preserved-then-are_apart : goal.loop-i-preserved-then-are_apart
loop-i-preserved-then-are_apart c =
    let bs = c.loop-i.blocks.items in
    let i = c.loop-i.i in
    let j = i - 1 in
    let k : i ≡ suc j = omega (arith, c.loop-i.invariant.begun) in
    let l : i < length bs = omega (arith, c.loop-i-test.true, c.len.ensures, c.loop-i.blocks.ok.0) in
    let l₁ : j < length bs = omega (arith, l) in
    let a : c.index.result.now ≡ get_or bs j [] = get_or_read bs j c.index.result.now l₁ c.index.ensures [] in
    let b : c.index-in-loop-i.result.now ≡ get_or bs (suc j) [] = subst (λ n. c.index-in-loop-i.result.now ≡ get_or bs n []) k (get_or_read bs i c.index-in-loop-i.result.now l c.index-in-loop-i.ensures []) in
    let h = c.are_apart.ensures.apart c.if-are_apart.true in
    let s : IsSpaced (take (suc (suc j)) bs) = spaced_on bs j (omega (arith, l, k)) (subst (λ n. IsSpaced (take n bs)) k c.loop-i.invariant.spaced)
    (omega (arith, h.0, ap length a, c.len-in-loop-i.ensures.value))
    (omega (arith, h.1, ap length b, c.len-in-loop-i-2.ensures.value))
    (omega (arith, h.2, ap length a, ap length b, c.len-in-loop-i.ensures.value, c.len-in-loop-i-2.ensures.value)) in
    let m : suc (suc j) ≡ i + 1 = omega (arith, k) in
    record {
      begun = omega arith;
      same = c.loop-i.invariant.same;
      spaced = subst (λ n. IsSpaced (take n bs)) m s;
    }

pub loop-i-preserved : goal.loop-i-preserved
loop-i-preserved c =
    let bs = c.loop-i.blocks.items in
    let i = c.loop-i.i in
    let j = i - 1 in
    let k : suc j ≡ i = omega (arith, c.loop-i.invariant.begun) in
    let l : i < length bs = omega (arith, c.loop-i-test.true, c.len.ensures, c.loop-i.blocks.ok.0) in
    let l₂ : suc j < length bs = omega (arith, l, k) in
    let rs = take i bs ++ drop (suc i) bs in
    let lr : j < length rs = omega (arith, long_removed bs i l, l, k) in
    let a : c.index_mut.result.now ≡ get_or bs j [] =
    get_or_read rs j c.index_mut.result.now lr (rw c.remove-next.ensures.items at c.index_mut.ensures.value) []
    ∙ subst (λ n. get_or (take n bs ++ drop (suc n) bs) j [] ≡ get_or bs j []) k (at_removed bs j l₂) in
    let b : c.remove-next.result ≡ get_or bs i [] = get_or_read bs i c.remove-next.result l c.remove-next.ensures.value [] in
    let new : c.append.new.self ≡ get_or bs j [] ++ get_or bs i [] = rw (← a, ← b) c.append.ensures in
    record {
      begun = c.loop-i.invariant.begun;
      same = rw (c.remove-next.ensures.items, new) (subst (λ n. joined (set (take n bs ++ drop (suc n) bs) j (get_or bs j [] ++ get_or bs n [])) ≡ joined bs) k (joined_next bs j l₂)) ∙ c.loop-i.invariant.same;
      spaced = rw c.remove-next.ensures.items (subst (λ n. IsSpaced (take n (set (take n bs ++ drop (suc n) bs) j c.append.new.self))) k
          (spaced_next bs j c.append.new.self l₂ (subst (λ n. IsSpaced (take n bs)) (sym k) c.loop-i.invariant.spaced) (omega (arith, ap length new, length-append (get_or bs j []) (get_or bs i [])))));
    }
