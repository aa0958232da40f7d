-- The numbers so far stand in front of those of the other items.
use Rattle.std.proofs.Common.{◌≡◌, ◌++◌, drop, option_map}
use Rattle.serde_json.specs.View.{items_view}
use Rattle.ds_reply_lines.specs.ReplyLines.{naturals}
use Rattle.ds_reply_lines.proofs.members.naturals.Given as goal

abbrev pub invariant-loop-item : goal.invariant-loop-item
invariant-loop-item l = naturals (items_view l.items) ≡ option_map (λ ns. l.numbers.items ++ ns) (naturals (items_view (drop l.item-index l.items)))
