use Rattle.std.proofs.Common.{◌≡◌, ◌∷◌, ◌++◌, [], List, ℕ, ap, ◌∙◌, append_assoc, subst}
use Rattle.json.specs.Print.{quoted}
use Rattle.serde_json.specs.Written.{compact_text, comma_if}
use Rattle.ds_reply.specs.MemberNames.{name_text}
use Rattle.ds_reply.specs.Shown.{shown_data}
use Rattle.ds_reply.proofs.object.write_member.Goals as goal

pub returns : goal.returns
returns g c =
    let j = g.met.O.Output.joined in
    let comma : List ℕ = comma_if c.args.later in
    let name : List ℕ = quoted (name_text c.args.member.now.name) in
    let shown : List ℕ = compact_text (shown_data c.args.member.now.shown) in
    let whole : (comma ++ (name ++ 58 ∷ [])) ++ shown ≡ comma ++ (name ++ 58 ∷ shown) =
    append_assoc comma (name ++ 58 ∷ []) shown ∙ ap (λ (l : List ℕ). comma ++ l) (append_assoc name (58 ∷ []) shown) in
    subst (λ (l : List ℕ). g.O.Output.Writes l c.args.out.now c.write_shown.new.out) whole (j _ _ _ _ _ c.write_name.ensures c.write_shown.ensures)
