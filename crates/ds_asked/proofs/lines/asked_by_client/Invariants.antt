use Rattle.ds_rounds.specs.Lines.{lines_of_chunks}
use Rattle.ds_asked.proofs.Asking.{AsksOn}
use Rattle.ds_asked.proofs.lines.asked_by_client.Given as goal

-- of the lines of all chunks but the last one those of the chunks so far are read
abbrev pub invariant-loop-chunk : goal.invariant-loop-chunk
invariant-loop-chunk l =
    AsksOn l.shards l.fn.round.first (lines_of_chunks l.initial.chunk-iterator.rest.items) l.number
    (lines_of_chunks l.chunk-iterator.rest.items) l.lists.items
