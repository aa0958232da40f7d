use Rattle.std.proofs.Common.{◌≡◌, ◌∙◌, ◌++◌, ◌∷◌, [], ap, drop, sym, take}
use Rattle.ds_rounds.specs.Lines.{contents, lines_of_chunks}
use Rattle.ds_rounds.proofs.SpanLaws.{IsDraft-chunk, lines-chunk}
use Rattle.ds_rounds.proofs.draft.Draft.end_chunk.Goals as goal

pub invariant_of-self-2 : goal.invariant_of-self-2
invariant_of-self-2 c =
    let d = c.self.inside in
    let bytes = d.bytes.items in
    let spans = d.spans.items in
    let fresh : c.replace-bytes.new.dest.items ≡ [] = ap (λ v. v.items) c.replace-bytes.ensures.after ∙ c.new.ensures.items in
    let none : c.replace-spans.new.dest.items ≡ [] = ap (λ v. v.items) c.replace-spans.ensures.after ∙ c.new-2.ensures.items in
    let chunk : contents c.replace-bytes.result.items c.replace-spans.result.items ≡ contents bytes spans =
    ap (λ v. contents v.items c.replace-spans.result.items) c.replace-bytes.ensures.value
    ∙ ap (λ v. contents bytes v.items) c.replace-spans.ensures.value
    in
    let chunks : c.push_reserved.new.self.items ≡ d.chunks.items ++ contents bytes spans ∷ [] =
    c.push_reserved.ensures.items
    ∙ ap (λ cs. cs ++ contents c.replace-bytes.result.items c.replace-spans.result.items ∷ []) c.reserve.ensures.items
    ∙ ap (λ k. d.chunks.items ++ k ∷ []) chunk
    in
    let lines : lines_of_chunks c.push_reserved.new.self.items ++ contents (take 0 c.replace-bytes.new.dest.items) c.replace-spans.new.dest.items ≡ lines_of_chunks d.chunks.items ++ contents (take d.start bytes) spans =
    ap (λ cs. lines_of_chunks cs ++ contents (take 0 c.replace-bytes.new.dest.items) c.replace-spans.new.dest.items) chunks
    ∙ ap (λ ss. lines_of_chunks (d.chunks.items ++ contents bytes spans ∷ []) ++ contents (take 0 c.replace-bytes.new.dest.items) ss) none
    ∙ lines-chunk d.chunks.items d.start bytes spans c.self.invariant.ordered
    in
    IsDraft-chunk c.self.invariant fresh none lines

pub returns : goal.returns
returns c =
    let d = c.self.inside in
    let bytes = d.bytes.items in
    let spans = d.spans.items in
    let fresh : c.replace-bytes.new.dest.items ≡ [] = ap (λ v. v.items) c.replace-bytes.ensures.after ∙ c.new.ensures.items in
    let none : c.replace-spans.new.dest.items ≡ [] = ap (λ v. v.items) c.replace-spans.ensures.after ∙ c.new-2.ensures.items in
    let chunk : contents c.replace-bytes.result.items c.replace-spans.result.items ≡ contents bytes spans =
    ap (λ v. contents v.items c.replace-spans.result.items) c.replace-bytes.ensures.value
    ∙ ap (λ v. contents bytes v.items) c.replace-spans.ensures.value
    in
    let chunks : c.push_reserved.new.self.items ≡ d.chunks.items ++ contents bytes spans ∷ [] =
    c.push_reserved.ensures.items
    ∙ ap (λ cs. cs ++ contents c.replace-bytes.result.items c.replace-spans.result.items ∷ []) c.reserve.ensures.items
    ∙ ap (λ k. d.chunks.items ++ k ∷ []) chunk
    in
    let lines : lines_of_chunks c.push_reserved.new.self.items ++ contents (take 0 c.replace-bytes.new.dest.items) c.replace-spans.new.dest.items ≡ lines_of_chunks d.chunks.items ++ contents (take d.start bytes) spans =
    ap (λ cs. lines_of_chunks cs ++ contents (take 0 c.replace-bytes.new.dest.items) c.replace-spans.new.dest.items) chunks
    ∙ ap (λ ss. lines_of_chunks (d.chunks.items ++ contents bytes spans ∷ []) ++ contents (take 0 c.replace-bytes.new.dest.items) ss) none
    ∙ lines-chunk d.chunks.items d.start bytes spans c.self.invariant.ordered
    in
    record {
      first = ap (λ d. d.first) c.self.view_is;
      lines = lines ∙ ap (λ d. d.lines) c.self.view_is;
      kept = ap (drop 0) fresh ∙ sym c.requires;
      blank = ap (λ d. d.blank) c.self.view_is;
    }
