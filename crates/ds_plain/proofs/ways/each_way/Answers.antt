use Rattle.std.proofs.Common.{◌∙◌, ap, fold, [], ◌∷◌}
use Rattle.std.proofs.lemmas.List.{take_all}
use Rattle.ds_plain.proofs.WayLaws.{grown, each_way-grown}
use Rattle.ds_plain.proofs.ways.each_way.Goals as goal

pub returns : goal.returns
returns c =
    c.loop-list.invariant ∙ ap (fold grown ([] ∷ [])) (take_all c.loop-list.list-index c.args.lists.now c.loop-list-test.false)
    ∙ each_way-grown c.args.lists.now
