use Rattle.std.proofs.Common.{◌∙◌, ap, sym, take}
use Rattle.std.proofs.lemmas.List.{length-take-le}
use Rattle.ds_log.specs.Conflicts.{conflict_from, last_writer}
use Rattle.ds_history.proofs.history.History.conflict.Goals as goal

pub returns : goal.returns
returns c =
    let journal = c.args.self.now.journal in
    c.conflict_at.ensures
    ∙ ap (λ n. conflict_from (last_writer (take c.args.place journal)) n 0 c.args.touched.now) (sym (length-take-le c.args.place journal c.requires.place))
