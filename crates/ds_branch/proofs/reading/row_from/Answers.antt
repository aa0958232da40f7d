use Rattle.std.proofs.Common.{ap, sym, subst, ◌∙◌}
use Rattle.ds_bytes.specs.Encoding.{key_encoding}
use Rattle.ds_branch.specs.Reading.{KeyStands}
use Rattle.ds_branch.proofs.Readings.{key_stands, row_made}
use Rattle.ds_branch.proofs.reading.row_from.Goals as goal

pub key_of-requires : goal.key_of-requires
key_of-requires c =
    subst (λ d. KeyStands d c.args.bytes.now) (sym c.key_descends.ensures)
    (key_stands c.args.columns.now c.args.place.now c.args.values.items c.args.bytes.now c.requires.row (c.requires.key c.requires.row))

pub returns : goal.returns
returns c = λ r.
    let stand = c.requires.key r in
    row_made c.args.columns.now c.args.place.now c.args.values.items c.args.bytes.now c.in_ok-key.key
    (record { key = c.in_ok-key.key; values = c.from.result; place = record { bytes = c.in_ok-copy.copy } }) r stand
    (c.in_ok-key.ensures r.row.key r.key (stand.stands ∙ ap (λ d. key_encoding d r.row.key) (sym c.key_descends.ensures)))
    (λ i. record { key = c.in_ok-key.key; values = c.from.ensures i; place = record { bytes = c.in_ok-copy.ensures i } })
