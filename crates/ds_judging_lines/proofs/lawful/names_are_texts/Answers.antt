use Rattle.std.proofs.Common.{◌≡◌, take, subst, arith}
use Rattle.std.specs.Prelude.{All, IsUtf8}
use Rattle.std.proofs.lemmas.List.{take_all}
use Rattle.std.proofs.lemmas.List.Elements.{All-more}
use Rattle.ds_judging_lines.proofs.lawful.names_are_texts.Goals as goal

pub loop-name-preserved : goal.loop-name-preserved
loop-name-preserved c =
    All-more IsUtf8 c.args.names.now c.loop-name.name-index c.name-item.result c.loop-name-test.true c.loop-name.invariant
    (subst IsUtf8 c.name-item.is c.name_is_text.ensures)

pub returns : goal.returns
returns c =
    let all : take c.loop-name.name-index c.args.names.now ≡ c.args.names.now =
    take_all c.loop-name.name-index c.args.names.now (omega arith) in
    subst (All IsUtf8) all c.loop-name.invariant
