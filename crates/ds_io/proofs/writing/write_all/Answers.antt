use Rattle.std.proofs.Common.{◌∙◌, arith, refl}
use Rattle.std.proofs.KnownBytes.{Appends-nil}
use Rattle.ds_io.proofs.WrittenLaws.{written_more}
use Rattle.ds_io.proofs.writing.write_all.Goals as goal

pub write-init : goal.write-init
write-init g c = (omega arith, Appends-nil (g.O.Sink.held c.args.output.now), refl)

pub write-preserved : goal.write-preserved
write-preserved g c = (
  omega (arith, c.in-Ok.ensures.within),
  written_more (g.O.Sink.held c.args.output.now) (g.O.Sink.held c.write.output) (g.O.Sink.held c.write-in-write.new.self)
      c.args.text.now c.write.sent c.in-Ok.n c.write.invariant.1 c.in-Ok.ensures.bytes,
  c.in-Ok.ensures.counts_nothing_else ∙ c.write.invariant.2,
)
