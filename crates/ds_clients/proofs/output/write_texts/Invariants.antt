-- The texts so far were taken, and no write failed.
use Rattle.std.proofs.Common.{◌≡◌, map, take}
use Rattle.std.specs.Io.KnownBytes.{Appends}
use Rattle.ds_clients.specs.Runs.{texts_of}
use Rattle.ds_clients.proofs.output.write_texts.Given as goal

abbrev pub invariant-loop-client : goal.invariant-loop-client
invariant-loop-client g l =
    Appends (g.O.Sink.held l.fn.output) (g.O.Sink.held l.output) (texts_of (take l.client (map (λ c. c.session) l.clients)))
    × (g.O.Sink.faults l.output ≡ g.O.Sink.faults l.fn.output)
