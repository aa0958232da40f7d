use Rattle.std.proofs.Common.{◌≡◌, Err, sym, ◌∙◌, rules}
use Rattle.ds_json_reading.specs.Keys.{lawful_key}
use Rattle.ds_json_reading.proofs.KeysLemmas.{path_read, path_refused}
use Rattle.ds_json_reading.proofs.ReadsLemmas.{Reads-exact}
use Rattle.ds_json_reading.proofs.keys.read_path.Goals as goal

pub returns-in_err-path : goal.returns-in_err-path
returns-in_err-path c =
    let r : c.from_residual.result ≡ Err c.in_err-path.field-0.0 = search rules in
    rw r (λ known. path_refused _ c.args.begun.items (lawful_key c.args.namespace) c.in_err-path.field-0.0 (c.in_err-path.ensures known))

pub returns : goal.returns
returns c =
    Reads-exact _ _ c.lawful.result
    (path_read _ c.args.begun.items c.in_ok-path.path (lawful_key c.args.namespace) c.in_ok-path.ensures ∙ sym c.lawful.ensures)
