use Rattle.std.proofs.Common.{◌∙◌, ap, map, Some}
use Rattle.std.specs.String.{string_bytes}
use Rattle.ds_io.specs.Memory.{content_of}
use Rattle.ds_fill.proofs.LegalRuns.{replied}
use Rattle.ds_fill.proofs.fill.replies_of.Goals as goal

pub returns-in-Done : goal.returns-in-Done
returns-in-Done g c =
    replied c.args.items (map string_bytes c.as_slice.result.now) (content_of c.in_ok-files.files) c.serve-run.result.status
    c.in_ok-input.input.left (Some c.serve-run.new.input.left) c.serve-run.result.journal c.make-output.result.held
    c.serve-run.new.output.held c.serve-run.result.unsent
    (ap (map string_bytes) c.as_slice.ensures.value ∙ c.in_ok-words.ensures) c.in-Done.is c.in_ok-input.ensures
    c.make-output.ensures.held c.serve-run.ensures.journal c.serve-run.ensures.unsent c.serve-run.ensures.legal
