use Rattle.std.proofs.Common.{◌≡◌, ◌++◌, length, map, option_map}
use Rattle.ds_reply_lines.specs.ReplyLines.{whole_lines}
use Rattle.ds_reply_lines.proofs.lines.whole_lines.Given as goal

-- the lines so far stand in front of those of the rest
abbrev pub invariant-lines : goal.invariant-lines
invariant-lines l = whole_lines l.text ≡ option_map (λ lines. map (λ line. line.now) l.lines.items ++ lines) (whole_lines l.rest)

-- each line shortens what is left
abbrev pub decreases-lines : goal.decreases-lines
decreases-lines l = length l.rest
