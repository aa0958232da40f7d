use Rattle.std.proofs.Common.{List, ℕ, Option, ap, map}
use Rattle.std.specs.Prelude.{option_map}
use Rattle.std.specs.String.{string_bytes}
use Rattle.ds_durable.proofs.Outcomes.{kept_complete, limit_kept}
use Rattle.ds_durable.proofs.top.serve_kept.Goals as goal

pub returns-in-Ok-clause-legal : goal.returns-in-Ok-clause-legal
returns-in-Ok-clause-legal g c =
    c.serve_disk.ensures.run.legal (map string_bytes c.args.words.now) (g.F.Files.content c.args.files.now) (
      map string_bytes c.in-Some.kept.rest.now,
      ap (λ (k : Option (List ℕ × List (List ℕ))). option_map (λ parts. parts.1) k) c.in-Some.ensures,
      c.in-Ok.ensures.ok,
    )

pub returns-in-Ok-clause-input_limit : goal.returns-in-Ok-clause-input_limit
returns-in-Ok-clause-input_limit g c = λ is.
    let words = map string_bytes c.args.words.now in
    let content = g.F.Files.content c.args.files.now in
    let run = c.serve_disk.result in
    let after = c.serve_disk.new in
    limit_kept words content run.status run.start (g.I.Source.left c.args.input.now) (g.I.Source.left after.input)
    (g.O.Sink.held c.args.output.now) (g.O.Sink.held after.output) run.journal run.unsent (g.D.Disk.is_honest c.args.disk.now)
    (g.D.Disk.contents c.args.disk.now) (g.D.Disk.images c.args.disk.now) (g.D.Disk.images after.disk)
    c.serve_disk.ensures.run.journal
    (c.serve_disk.ensures.run.legal words content (
      map string_bytes c.in-Some.kept.rest.now,
      ap (λ (k : Option (List ℕ × List (List ℕ))). option_map (λ parts. parts.1) k) c.in-Some.ensures,
      c.in-Ok.ensures.ok,
    ))
    is

pub returns-in-Ok-clause-complete : goal.returns-in-Ok-clause-complete
returns-in-Ok-clause-complete g c = λ given fine below in_steady out_steady disk_steady.
    let words = map string_bytes c.args.words.now in
    let content = g.F.Files.content c.args.files.now in
    let run = c.serve_disk.result in
    let after = c.serve_disk.new in
    kept_complete run.status (g.I.Source.left c.args.input.now) (g.I.Source.left after.input) (g.I.Source.faults c.args.input.now)
    (g.I.Source.faults after.input) (g.O.Sink.faults c.args.output.now) (g.O.Sink.faults after.output)
    (g.D.Disk.faults c.args.disk.now) (g.D.Disk.faults after.disk) c.serve_disk.ensures.run.opened
    (limit_kept words content run.status run.start (g.I.Source.left c.args.input.now) (g.I.Source.left after.input)
    (g.O.Sink.held c.args.output.now) (g.O.Sink.held after.output) run.journal run.unsent (g.D.Disk.is_honest c.args.disk.now)
    (g.D.Disk.contents c.args.disk.now) (g.D.Disk.images c.args.disk.now) (g.D.Disk.images after.disk)
    c.serve_disk.ensures.run.journal
    (c.serve_disk.ensures.run.legal words content (
      map string_bytes c.in-Some.kept.rest.now,
      ap (λ (k : Option (List ℕ × List (List ℕ))). option_map (λ parts. parts.1) k) c.in-Some.ensures,
      c.in-Ok.ensures.ok,
    )))
    c.serve_disk.ensures.run.read_fault c.serve_disk.ensures.run.write_fault c.serve_disk.ensures.run.disk_fault below in_steady
    out_steady disk_steady
