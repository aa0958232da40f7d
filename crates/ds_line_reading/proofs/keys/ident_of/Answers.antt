use Rattle.std.proofs.Common.{Ok, option_map, sym, ap, ◌∙◌}
use Rattle.std.specs.Option.{ok_or}
use Rattle.json.specs.Reads.{token_of}
use Rattle.serde_json.specs.Data.{number, string}
use Rattle.ds_base.specs.declared.key.Ident.TheVariants.{Id, Name}
use Rattle.ds_json_reading.specs.declared.refusal.Refusal.TheVariants as refusal
use Rattle.ds_json_reading.specs.Reading.{read_as}
use Rattle.ds_line_reading.specs.Parts.{data_of}
use Rattle.ds_line_reading.proofs.keys.ident_of.Goals as goal

pub returns-in-Some : goal.returns-in-Some
returns-in-Some c =
    let h = c.in-Some.ensures in
    (number h.0, ap (λ t. data_of (token_of t)) c.in-Number.is ∙ ap (option_map number) h.1, ap (λ r. read_as Id (ok_or r refusal.Key)) h.2)

pub returns-in-Some-copied : goal.returns-in-Some-copied
returns-in-Some-copied c =
    (string c.in-String.name.now, ap (λ t. data_of (token_of t)) c.in-String.is, ap (λ n. Ok (Name n)) (sym c.in-Some-copied.ensures))
