use Rattle.std.proofs.Common.{◌≡◌, true, cond, Ok, Err, ap, arith}
use Rattle.serde_json.specs.Data.{string}
use Rattle.ds_base.specs.Keys.{is_namespace}
use Rattle.ds_json_reading.specs.declared.refusal.Refusal.TheVariants as refusal
use Rattle.ds_line_reading.proofs.PartLaws.{scalar_read}
use Rattle.ds_member_reading.specs.Forms.{namespace_of}
use Rattle.ds_member_reading.proofs.query_members.NamespaceMemberMember.read.Goals as goal

pub returns : goal.returns
returns c =
    let s = c.in_ok-namespace.namespace in
    let ok : is_namespace s ≡ true = grind arith in
    scalar_read c.args._depth namespace_of c.args.reader.now (string s) s c.read_text.new.reader c.in_ok-namespace.ensures (ap (λ b. cond b (Ok s) (Err refusal.Request)) ok)
