use Rattle.std.proofs.Common.{◌≡◌, ◌+◌, ap, sym, ◌∙◌, length, rules}
use Rattle.std.specs.Vec.{vec_len}
use Rattle.ds_branch.proofs.KeptLaws.{behind_told, marks_told}
use Rattle.ds_branch.proofs.kept.KeptRows.len.Goals as goal

pub returns-then-is_whole : goal.returns-then-is_whole
returns-then-is_whole c = λ columns rows kept.
    let long : vec_len c.args.self.now.whole ≡ length c.args.self.now.whole.items = search rules in
    ap (λ n. c.args.self.now.skipped + n) (c.len.ensures ∙ long)
    ∙ (behind_told columns c.args.self.now rows kept.told (sym c.is_whole.ensures ∙ c.if-is_whole.true)).long

pub returns-else-is_whole : goal.returns-else-is_whole
returns-else-is_whole c = λ columns rows kept.
    c.len-else-is_whole.ensures ∙ ap length (marks_told columns c.args.self.now rows kept.told (sym c.is_whole.ensures
    ∙ c.if-is_whole.false))
