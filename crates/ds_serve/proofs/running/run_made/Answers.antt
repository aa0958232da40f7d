use Rattle.std.proofs.Common.{◌≡◌, ◌∙◌, All, List, ap, arith, length, subst, sym}
use Rattle.std.proofs.lemmas.List.{length-replicate}
use Rattle.std.proofs.lemmas.List.Elements.{All-replicate}
use Rattle.ds_clients.specs.Clients.{AreNew}
use Rattle.ds_store.specs.Passes.{nothing_seen}
use Rattle.ds_store.specs.Passes.{PassParts}
use Rattle.ds_serve.proofs.Ends.{nothing_ran}
use Rattle.ds_serve.proofs.running.run_made.Goals as goal

pub begin-requires-clause-new : goal.begin-requires-clause-new
begin-requires-clause-new g c =
    subst (λ (ps : List PassParts). All (λ p. p ≡ nothing_seen c.shards.result) ps) (sym c.requires.passes)
    (All-replicate (λ p. p ≡ nothing_seen c.shards.result) c.args.made.store.passes (nothing_seen c.args.made.store.shards)
    (ap nothing_seen (sym c.shards.ensures.value)))

pub begin-requires-clause-enough : goal.begin-requires-clause-enough
begin-requires-clause-enough g c =
    let many = ap (λ (ps : List PassParts). length ps) c.requires.passes
    ∙ length-replicate c.args.made.store.passes (nothing_seen c.args.made.store.shards) in
    omega (arith, many, c.requires.enough)

pub run_begun-requires-clause-sessions : goal.run_begun-requires-clause-sessions
run_begun-requires-clause-sessions g c κs within =
    subst (λ n. AreNew n c.in-Ok.begun.sessions) c.shards.ensures.value c.in-Ok.ensures.sessions

pub run_begun-requires-clause-all : goal.run_begun-requires-clause-all
run_begun-requires-clause-all g c κs within =
    c.in-Ok.ensures.all ∙ ap (λ (ps : List PassParts). length ps) c.requires.passes
    ∙ length-replicate c.args.made.store.passes (nothing_seen c.args.made.store.shards)

pub run_begun-requires-clause-room : goal.run_begun-requires-clause-room
run_begun-requires-clause-room g c κs within =
    let many = ap (λ (ps : List PassParts). length ps) c.requires.passes
    ∙ length-replicate c.args.made.store.passes (nothing_seen c.args.made.store.shards) in
    omega (arith, many, c.in-Ok.ensures.room)

pub returns-in-Err : goal.returns-in-Err
returns-in-Err g c =
    nothing_ran (record { shards = c.args.made.store.shards; window = g.J.Names.window; defs = g.J.Names.definitions })
    (g.I.Source.left c.args.input.now) (g.O.Sink.held c.args.output.now) (g.I.Source.faults c.args.input.now)
    (g.O.Sink.faults c.args.output.now) c.nothing_run.result c.nothing_run.ensures.status c.nothing_run.ensures.journal
    c.nothing_run.ensures.unsent
