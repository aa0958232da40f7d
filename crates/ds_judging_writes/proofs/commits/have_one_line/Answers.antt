use Rattle.std.proofs.Common.{◌<◌, ◌^◌, ap, sym, ◌∙◌, arith}
use Rattle.ds_log.specs.declared.Commit.{Commit}
use Rattle.ds_journal_text.specs.Texts.{commit_text}
use Rattle.ds_judging_writes.proofs.CommitLines.{one_line}
use Rattle.ds_judging_writes.proofs.commits.have_one_line.Goals as goal

pub returns : goal.returns
returns c =
    let n = c.args.number in
    let fits : n < 2 ^ 64 = omega arith in
    let first = c.in_ok-own.ensures in
    let second = c.in_ok-other.ensures in (
      λ same. one_line n c.args.first.now c.args.second.now fits first.lawful second.lawful
          (sym first.text ∙ sym c.bytes.ensures ∙ c.are_same.ensures.0 same ∙ c.bytes-2.ensures ∙ second.text),
      λ is. c.are_same.ensures.1
          (c.bytes.ensures ∙ first.text ∙ ap (λ (d : Commit). commit_text n d) is ∙ sym second.text ∙ sym c.bytes-2.ensures),
    )
