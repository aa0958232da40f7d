use Rattle.std.proofs.Common.{◌≡◌, true, Some, None, arith}
use Rattle.json.specs.Json.{read_key}
use Rattle.serde_json.specs.Data.{put}
use Rattle.ds_line_reading.proofs.PartLaws.{object_turn, object_over, object_shorter}
use Rattle.ds_line_reading.proofs.objects.fill_members.Goals as goal

pub returns-in_default-next : goal.returns-in_default-next
returns-in_default-next g c = λ filled.
    let so = c.members.invariant in
    let new = c.next_key.new.self in
    let key : read_key c.members.reader ≡ Some (None, new) = grind arith in (
      so.0,
      object_over c.args.depth c.args.reader.now c.members.reader so.0 so.1 new key,
      object_shorter c.args.depth c.args.reader.now c.members.reader so.0 so.1 new key,
      so.2,
    )

pub members-preserved : goal.members-preserved
members-preserved g c =
    let so = c.members.invariant in
    let name = c.in-Some.name.now in
    let mid = c.next_key.new.self in
    let key : read_key c.members.reader ≡ Some (Some name, mid) = grind arith in
    let filled : c.fill.result ≡ true = grind arith in
    let one = c.fill.ensures filled so.0 so.2 in
    (put name one.0 so.0, object_turn c.args.depth c.args.reader.now c.members.reader so.0 so.1 mid c.fill.new.reader name one.0 key one.1 one.2, one.3)
