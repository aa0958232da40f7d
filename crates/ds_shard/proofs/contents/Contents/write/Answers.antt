use Rattle.std.proofs.Common.{◌≡◌, ◌∙◌, sym, ap, subst}
use Rattle.ds_base.specs.Keys.{KeyParts}
use Rattle.ds_log.specs.Logs.{key_of}
use Rattle.ds_shard.specs.Histories.{IsOverAt, ended}
use Rattle.std.specs.List.{AllByRecursion as Each}
use Rattle.ds_shard.proofs.Writing.{over-ended}
use Rattle.ds_shard.proofs.contents.Contents.write.Goals as goal

pub begin-requires-clause-over : goal.begin-requires-clause-over
begin-requires-clause-over c =
    let stamp = c.args.stamp in
    let k = c.in-Put.entity.key in
    let same : c.key.result.now ≡ k = c.key.ensures ∙ ap key_of c.in-Put.is in
    let vs = c.args.self.now.entities in
    subst (Each (IsOverAt stamp k)) (sym c.in_ok-end.ensures.entities)
    (subst (λ (l : KeyParts). Each (IsOverAt stamp k) (ended stamp l vs)) (sym same) (over-ended stamp k vs c.requires.given))
