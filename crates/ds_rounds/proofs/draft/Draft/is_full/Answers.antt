use Rattle.std.proofs.Common.{◌<◌, ◌≤◌, ◌∙◌, ◌++◌, ap, arith, sym, length, take}
use Rattle.std.specs.Prelude.{nat_le}
use Rattle.std.proofs.lemmas.Bool.{le-leb}
use Rattle.ds_base.specs.Limits.{most_round_bytes, most_round_lines}
use Rattle.ds_rounds.specs.Drafts.{so_far}
use Rattle.ds_rounds.specs.Rounds.{is_full}
use Rattle.ds_rounds.specs.Lines.{contents, lines_of_chunks}
use Rattle.ds_rounds.proofs.DraftLaws.{is_full-many, is_full-much}
use Rattle.ds_rounds.proofs.draft.Draft.is_full.Goals as goal

pub returns-then-self-ge-MAX_ROUND_LINES : goal.returns-then-self-ge-MAX_ROUND_LINES
returns-then-self-ge-MAX_ROUND_LINES c =
    let d = c.self.inside in
    let lines = lines_of_chunks d.chunks.items ++ contents (take d.start d.bytes.items) d.spans.items in
    let many : most_round_lines ≤ length lines = omega (arith, c.self.invariant.counted, c.if-self-ge-MAX_ROUND_LINES.true) in
    le-leb 65536 d.count c.if-self-ge-MAX_ROUND_LINES.true
    ∙ sym (is_full-many d.first lines many)
    ∙ ap (λ d. is_full (so_far d)) c.self.view_is

pub returns-else-self-ge-MAX_ROUND_LINES : goal.returns-else-self-ge-MAX_ROUND_LINES
returns-else-self-ge-MAX_ROUND_LINES c =
    let d = c.self.inside in
    let lines = lines_of_chunks d.chunks.items ++ contents (take d.start d.bytes.items) d.spans.items in
    let few : length lines < most_round_lines = omega (arith, c.self.invariant.counted, c.if-self-ge-MAX_ROUND_LINES.false) in
    ap (λ k. nat_le most_round_bytes k) c.self.invariant.summed
    ∙ sym (is_full-much d.first lines few)
    ∙ ap (λ d. is_full (so_far d)) c.self.view_is
