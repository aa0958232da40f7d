use Rattle.std.proofs.Common.{◌≡◌, codes, IfSome, sym, subst, rules}
use Rattle.ds_json_reading.specs.Values.{tagged_value_of}
use Rattle.ds_line_reading.specs.Parts.{IsRead}
use Rattle.ds_line_reading.proofs.values.read_tagged_value.Goals as goal

pub returns-in-date : goal.returns-in-date
returns-in-date c =
    let named : c.args.name.now ≡ codes "date" = search rules in
    subst (λ n. IfSome c.read_date.result (λ v. IsRead c.args.depth (tagged_value_of n) c.args.reader.now v c.read_date.new.reader)) (sym named) (c.read_date.ensures c.args.depth)

pub returns-in-text : goal.returns-in-text
returns-in-text c =
    let named : c.args.name.now ≡ codes "text" = search rules in
    subst (λ n. IfSome c.read_long_text.result (λ v. IsRead c.args.depth (tagged_value_of n) c.args.reader.now v c.read_long_text.new.reader)) (sym named) (c.read_long_text.ensures c.args.depth)

pub returns-in-key : goal.returns-in-key
returns-in-key c =
    let named : c.args.name.now ≡ codes "key" = search rules in
    subst (λ n. IfSome c.read_key.result (λ v. IsRead c.args.depth (tagged_value_of n) c.args.reader.now v c.read_key.new.reader)) (sym named) c.read_key.ensures
