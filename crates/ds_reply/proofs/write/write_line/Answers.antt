use Rattle.std.proofs.Common.{◌∷◌, ◌++◌, [], List, map, ap, ◌∙◌, subst}
use Rattle.serde_json.specs.Written.{compact_text}
use Rattle.ds_reply.specs.declared.member.Member.{Member}
use Rattle.ds_json_printing.specs.Objects.{Named, object_of}
use Rattle.ds_reply.specs.Shown.{member_named}
use Rattle.ds_reply.proofs.write.write_line.Goals as goal

pub returns : goal.returns
returns g c =
    let j = g.met.O.Output.joined in
    let told = ap (λ (ms : List Member). map member_named ms) c.as_slice.ensures.value ∙ c.members_of-members.ensures.items in
    subst (λ (ms : List Named). g.O.Output.Writes (compact_text (object_of ms) ++ 10 ∷ []) c.args.out.now c.put.new.self) told
    (j _ _ _ _ _ c.write_object.ensures c.put.ensures)
