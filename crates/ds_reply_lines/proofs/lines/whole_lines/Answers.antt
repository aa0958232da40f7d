use Rattle.std.proofs.Common.{◌≡◌, ℕ, List, [], ◌∷◌, ◌++◌, ◌==◌, length, map, refl, ap, sym, ◌∙◌, subst, Bor, option_map, Option, None}
use Rattle.std.proofs.Common.{Some, true}
use Rattle.std.specs.Prelude.{IfNone}
use Rattle.std.proofs.lemmas.List.{map-append}
use Rattle.ds_reply_lines.specs.ReplyLines.{whole_lines}
use Rattle.ds_reply_lines.proofs.Splitting.{line_more, no_more}
use Rattle.ds_reply_lines.proofs.lines.whole_lines.Goals as goal

if_none : {A P : Type 0} (o : Option A) → ((x : A) → o ≡ Some x → ⊥) → IfNone o P → P
if_none None never is = is
if_none (Some x) never is = absurd (never x refl)

abbrev texts : List (Bor (List ℕ)) → List (List ℕ)
texts = map (λ line. line.now)

pub lines-preserved : goal.lines-preserved
lines-preserved c =
    let text = c.args.text.now in
    let line = c.in-Some.line.now in
    let behind = c.in-Some.behind.now in
    let pushed : texts c.push.new.self.items ≡ texts c.lines.lines.items ++ line ∷ [] =
    ap texts c.in_ok-push.ensures.items ∙ map-append (λ l. l.now) c.lines.lines.items (c.in-Some.line ∷ []) in
    subst (λ (ls : List (List ℕ)). whole_lines text ≡ option_map (λ more. ls ++ more) (whole_lines behind)) (sym pushed)
    (line_more text c.lines.rest.now line behind (texts c.lines.lines.items) c.in-Some.ensures.whole c.in-Some.ensures.split c.lines.invariant)

pub returns : goal.returns
returns c =
    let rest = c.lines.rest.now in
    let some : rest ≡ [] → ⊥ = λ e. let t : c.is_empty.result ≡ true = c.is_empty.ensures ∙ ap (λ (r : List ℕ). length r == 0) e in cc in
    sym (c.lines.invariant ∙ ap (option_map (λ more. texts c.lines.lines.items ++ more))
    (no_more rest (if_none c.split_line.result c.in_default.not-Some c.split_line.ensures.none) some))
