use Rattle.std.proofs.Common.{◌≡◌, ◌∙◌, Err, rules, sym}
use Rattle.ds_store_passes.proofs.SlotLists.{as_many}
use Rattle.ds_feeding.proofs.CatchingUpLaws.{cut_over}
use Rattle.ds_feeding.proofs.reindex.Reindex.finish.Goals as goal

pub returns-in_err-fed-clause-refused : goal.returns-in_err-fed-clause-refused
returns-in_err-fed-clause-refused g c =
    let r : c.from_residual.result ≡ Err c.in_err-fed.field-0.0 = search rules in rw r c.in_err-fed.ensures.refused

pub shared-requires : goal.shared-requires
shared-requires g c =
    c.in_ok-fed.ensures.all.fed.shards ∙ c.requires.shards
    ∙ sym (as_many c.args.pass.now.lists c.fed_all.new.pass.lists c.fed_all.ensures.read.lists)

pub returns-in-Ok-clause-cut : goal.returns-in-Ok-clause-cut
returns-in-Ok-clause-cut g c =
    cut_over g.K.Names.definitions c.args.self c.in_ok-fed.fed c.fed_all.new.pass c.in_ok-fed.place c.in-Ok.cut.place c.in-Ok.cut.store
    c.in-Ok.cut.passes c.in_ok-fed.ensures.all c.in-Ok.ensures.shared c.in-Ok.ensures.place
