-- What is written from here on for the elements that are left makes the whole text.
use Rattle.std.proofs.Common.{drop}
use Rattle.serde_json.specs.Written.{items_text}
use Rattle.ds_json_printing.specs.Printing.{elem_items}
use Rattle.ds_json_printing.proofs.keys.write_elems.Given as goal

abbrev pub invariant-loop-elem : goal.invariant-loop-elem
invariant-loop-elem g l = (u : _) → g.O.Output.Writes (items_text l.later (elem_items (drop l.elem-index l.elems))) l.out u → g.O.Output.Writes (items_text l.fn.later (elem_items l.elems)) l.initial.out u
