use Rattle.std.proofs.Common.{◌≡◌, ◌∙◌, ◌-◌, ◌≤◌, ◌++◌, ap, arith, length, length-drop, sym, take, drop}
use Rattle.std.proofs.lemmas.List.{drop-append-le, length-take, take_min}
use Rattle.ds_rounds.specs.Lines.{lines_of_chunks}
use Rattle.ds_rounds.proofs.SpanLaws.{IsDraft-extend}
use Rattle.ds_rounds.proofs.draft.Draft.extend.Goals as goal

pub invariant_of-self-2 : goal.invariant_of-self-2
invariant_of-self-2 c =
    let first = c.self.inside.start in
    let bytes = c.self-2.inside.bytes.items in
    let start = c.self-2.inside.start in
    let more = take c.min-most.result c.args.piece.now in
    let same : drop start bytes ≡ drop first c.self.inside.bytes.items =
    ap (λ d. d.kept) c.self-2.view_is
    ∙ c.make_byte_room.ensures.same.kept
    ∙ sym (ap (λ d. d.kept) c.self.view_is)
    in
    let kept : length bytes - start ≡ c.len.result - first =
    omega (arith, ap length same, length-drop start bytes, length-drop first c.self.inside.bytes.items, c.len.ensures, c.self.inside.bytes.ok.0)
    in
    let short : length more ≤ 2097153 - (c.len.result - first) =
    omega (arith, length-take c.min-most.result c.args.piece.now, c.min-most.ensures)
    in
    IsDraft-extend (lines_of_chunks c.self-2.inside.chunks.items) more c.self-2.invariant c.in_ok-extend_from_slice.ensures.items (omega (arith, short, kept, c.self-2.invariant.kept))

pub returns-clause-kept : goal.returns-clause-kept
returns-clause-kept c =
    let first = c.self.inside.start in
    let bytes = c.self-2.inside.bytes.items in
    let start = c.self-2.inside.start in
    let piece = c.args.piece.now in
    let before : drop first c.self.inside.bytes.items ≡ c.args.self.now.kept = ap (λ d. d.kept) c.self.view_is in
    let kept : drop start bytes ≡ c.args.self.now.kept = ap (λ d. d.kept) c.self-2.view_is ∙ c.make_byte_room.ensures.same.kept in
    let room : 2097153 - (c.len.result - first) ≡ 2097153 - length c.args.self.now.kept =
    omega (arith, ap length before, length-drop first c.self.inside.bytes.items, c.len.ensures, c.self.inside.bytes.ok.0)
    in
    ap (drop start) c.in_ok-extend_from_slice.ensures.items
    ∙ drop-append-le start bytes (take c.min-most.result piece) c.self-2.invariant.within
    ∙ ap (λ l. l ++ take c.min-most.result piece) kept
    ∙ ap (λ k. c.args.self.now.kept ++ take k piece) c.min-most.ensures
    ∙ ap (λ l. c.args.self.now.kept ++ l) (take_min (2097153 - (c.len.result - first)) piece)
    ∙ ap (λ k. c.args.self.now.kept ++ take k piece) room
