use Rattle.std.proofs.Common.{◌≡◌, ℕ, List, Bool, true, false, cond, Option, None, IfOk, option_map, refl, subst}
use Rattle.std.specs.Str.{is_utf8, IsUtf8}
use Rattle.std.proofs.lemmas.Str.{IsUtf8-from_is_utf8}
use Rattle.serde_json.specs.Data.{Data}
use Rattle.serde_json.specs.Read.{read}
use Rattle.serde_json.specs.View.{view}
use Rattle.ds_request.proofs.CommonLaws.{text_data}
use Rattle.ds_request.proofs.line.parse.Goals as goal

no_text : (line : List ℕ) (b : Bool) → is_utf8 line ≡ b → ¬ IsUtf8 line → cond b (read line) None ≡ None
no_text line true is none = absurd (none (IsUtf8-from_is_utf8 line is))
no_text line false is none = refl

pub returns-in-Ok : goal.returns-in-Ok
returns-in-Ok c =
    let line = c.args.line.now in
    subst (λ (found : Option Data). IfOk c.read_text.result (λ d. found ≡ option_map view d)) (text_data line c.in-Ok.text.now c.in-Ok.ensures.cases.0 c.in-Ok.ensures.cases.1) c.read_text.ensures

pub returns-in-Err : goal.returns-in-Err
returns-in-Err c = no_text c.args.line.now (is_utf8 c.args.line.now) refl c.in-Err.ensures.cases.0
