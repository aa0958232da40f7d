use Rattle.std.proofs.Common.{List, ℕ, ap, subst}
use Rattle.std.specs.Io.KnownBytes.{Appends}
use Rattle.ds_clients.specs.Runs.{texts_of}
use Rattle.ds_clients.proofs.TextLaws.{appends_kept, wrote_all, wrote_part}
use Rattle.ds_clients.proofs.output.write_round.Goals as goal

pub returns-in-Err-flush-clause-err : goal.returns-in-Err-flush-clause-err
returns-in-Err-flush-clause-err g c =
    wrote_all _ _ (texts_of c.args.sessions.now) c.nothing_unsent.result c.nothing_unsent.ensures
    (appends_kept _ _ _ (texts_of c.args.sessions.now)
    (subst (λ (bs : List ℕ). Appends (g.O.Sink.held c.args.output.now) (g.O.Sink.held c.write_texts.new.output) bs)
    (ap texts_of c.clients.ensures) c.in-Ok.ensures.ok) c.flush.ensures.bytes)

pub returns-in-Err-clause-err : goal.returns-in-Err-clause-err
returns-in-Err-clause-err g c =
    wrote_part _ _ _ c.args.sessions.now c.in-Err.cut c.take_unsent.result c.clients.ensures c.in-Err.ensures.err
    c.take_unsent.ensures.unsent
