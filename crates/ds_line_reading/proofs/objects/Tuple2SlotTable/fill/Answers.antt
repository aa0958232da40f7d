use Rattle.std.proofs.Common.{sym, ◌∙◌}
use Rattle.ds_line_reading.specs.TableLaws.{slot_kept, slot_filled, apart_first}
use Rattle.ds_line_reading.proofs.objects.Tuple2SlotTable.fill.Goals as goal

pub returns-then-is_named : goal.returns-then-is_named
returns-then-is_named g c = λ filled before h.
    let name = c.args.name.now in
    let named = sym c.is_named.ensures ∙ c.if-is_named.true in
    let read = c.fill_slot.ensures filled in
    let one = read.2 in
    let called = g.M.Member.called in (
      one.0,
      one.1,
      one.3,
      (
        slot_filled g.M.Member.reads called name one.0 read.0 c.fill_slot.new.slot.found before named (g.met.M.Member.never_null read.0) one.2 read.1,
        g.met.B.Table.keeps c.args.self.now.1 name one.0 before (apart_first called g.B.Table.names name c.requires named) h.1,
      ),
    )

pub returns : goal.returns
returns g c = λ filled before h.
    let one = c.fill.ensures filled before h.1 in
    let other = sym c.is_named.ensures ∙ c.if-is_named.false in
    (one.0, one.1, one.2, (slot_kept g.M.Member.reads g.M.Member.called c.args.self.now.0.found c.args.name.now one.0 before other h.0, one.3))
