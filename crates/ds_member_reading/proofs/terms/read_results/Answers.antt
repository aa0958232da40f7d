use Rattle.ds_base.specs.Limits.{most_results}
use Rattle.ds_member_reading.proofs.TermLaws.{results_if}
use Rattle.ds_member_reading.proofs.terms.read_results.Goals as goal

pub returns : goal.returns
returns c = λ depth.
    let one = c.in_ok-number.ensures in
    results_if depth most_results c.args.reader.now c.read_natural.new.reader one.0 c.in_ok-number.number c.results.result one.1 one.2 c.results.ensures
