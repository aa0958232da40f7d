use Rattle.std.proofs.Common.{◌≡◌, [], true, Some, subst, arith}
use Rattle.json.specs.Json.{value}
use Rattle.json.specs.Lex.{tokens}
use Rattle.serde_json.specs.Data.{object}
use Rattle.serde_json.specs.Read.{of_json, max_depth}
use Rattle.ds_json_values.specs.Outcomes.{Gives}
use Rattle.ds_request.proofs.CommonLaws.{whole_text}
use Rattle.ds_request.proofs.common.fill_from.Goals as goal

pub returns : goal.returns
returns g c = λ h.
    let text = c.args.text.now in
    let filled : c.fill_object.result ≡ true = grind arith in
    let all = c.fill_object.ensures filled in
    let left = c.fill_object.new.reader in
    let begun : c.in-Ok.reader ≡ tokens text = grind arith in
    let over : left ≡ [] = grind arith in
    let given = subst (λ ts. Gives of_json (value max_depth ts) (Some (object all.0)) left) begun all.1 in
    (all.0, whole_text text all.0 left given over, all.3)
