use Rattle.std.proofs.Common.{◌≡◌, List, ℕ, length, take, drop, min, ap, ◌∙◌, sym}
use Rattle.ds_io.specs.Memory.{SourceParts}
use Rattle.ds_io.proofs.NextBytes.{front_read, end_read}
use Rattle.ds_io.proofs.memory_source.MemorySourceSource.read.Goals as goal

pub returns-clause-bytes : goal.returns-clause-bytes
returns-clause-bytes c =
    let bytes = c.self.inside.bytes in
    let at = c.self.inside.at in
    let n = c.copy_front-n.result in
    let buf = c.copy_front-n.new.buf in
    let rest : c.split_at.result.1.now ≡ drop at bytes = c.split_at.ensures.back ∙ ap (drop at) c.bytes.ensures in
    let left : c.args.self.now.left ≡ drop at bytes = sym (ap (λ (s : SourceParts). s.left) c.self.view_is) in
    let room : List ℕ → ℕ = λ xs. min c.self.inside.most (min (length xs) (length buf)) in (
      front_read bytes buf c.args.self.now.left at n left (c.copy_front-n.ensures.front ∙ ap (take n) rest),
      λ none roomy. end_read bytes at n c.self.inside.most (length buf) (c.copy_front-n.ensures.amount ∙ ap room rest) c.self.invariant.1 none roomy,
    )
