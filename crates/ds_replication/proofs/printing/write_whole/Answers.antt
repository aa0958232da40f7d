use Rattle.std.proofs.Common.{List, ℕ, length, sym, subst, arith}
use Rattle.std.specs.Io.KnownBytes.{Appends}
use Rattle.std.proofs.KnownBytes.{Appends-kept}
use Rattle.std.proofs.lemmas.List.{take_all}
use Rattle.ds_replication.proofs.printing.write_whole.Goals as goal

pub returns-in-Ok-clause-front : goal.returns-in-Ok-clause-front
returns-in-Ok-clause-front g c = λ failed. (
  length c.args.text.now,
  subst (λ (bs : List ℕ). Appends (g.O.Sink.held c.args.output.now) (g.O.Sink.held c.flush.new.self) bs)
      (sym (take_all (length c.args.text.now) c.args.text.now (omega arith)))
      (Appends-kept (g.O.Sink.held c.args.output.now) (g.O.Sink.held c.write_all.new.output) (g.O.Sink.held c.flush.new.self) c.args.text.now
      c.in-Ok.ensures.ok c.flush.ensures.bytes),
)

pub returns-in-Err-clause-front : goal.returns-in-Err-clause-front
returns-in-Err-clause-front g c = λ failed. (c.in-Err.field-0, c.in-Err.ensures.err)
