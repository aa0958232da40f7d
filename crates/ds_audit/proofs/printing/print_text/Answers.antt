use Rattle.std.proofs.Common.{List, ℕ, subst}
use Rattle.std.specs.Io.KnownBytes.{Appends}
use Rattle.ds_audit.proofs.WritingLaws.{printed_as, written_as}
use Rattle.ds_audit.proofs.printing.print_text.Goals as goal

pub returns-then-write_whole-clause-printed : goal.returns-then-write_whole-clause-printed
returns-then-write_whole-clause-printed g c =
    printed_as c.args.verdict (g.O.Sink.held c.args.output.now) (g.O.Sink.held c.write_whole.new.output) (g.O.Sink.faults c.args.output.now)
    (g.O.Sink.faults c.write_whole.new.output) c.status_of.result c.status_of.ensures
    (subst (λ (bs : List ℕ). Appends (g.O.Sink.held c.args.output.now) (g.O.Sink.held c.write_whole.new.output) bs) c.requires
    (c.write_whole.ensures.whole c.if-write_whole.true))

pub returns-then-write_whole-clause-unwritten : goal.returns-then-write_whole-clause-unwritten
returns-then-write_whole-clause-unwritten g c = written_as c.args.verdict c.status_of.result _ c.status_of.ensures
