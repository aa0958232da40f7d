use Rattle.std.proofs.Common.{◌∙◌}
use Rattle.std.specs.Option.{option_copied}
use Rattle.ds_cursor.specs.CursorLaws.{read_back, of_one_query}
use Rattle.ds_cursor.proofs.writer.write.Goals as goal

pub returns-clause-own : goal.returns-clause-own
returns-clause-own c = read_back c.args.branch.now (option_copied c.args.place) c.as_slice.result.now c.encode.result
    (c.as_slice.ensures.value ∙ c.in_ok-bytes.ensures.bytes) c.in_ok-bytes.ensures.short c.encode.ensures.back

pub returns-clause-others : goal.returns-clause-others
returns-clause-others c = of_one_query c.args.branch.now (option_copied c.args.place) c.as_slice.result.now c.encode.result
    (c.as_slice.ensures.value ∙ c.in_ok-bytes.ensures.bytes) c.in_ok-bytes.ensures.short c.encode.ensures.back
