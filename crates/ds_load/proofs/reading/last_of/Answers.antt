use Rattle.std.proofs.Common.{◌≡◌, suc, ◌-◌, List, [], ◌∷◌, length, refl, ap, sym, ◌∙◌, arith, Option, Some, None, Bor}
use Rattle.std.specs.Prelude.{option_map, slice_get}
use Rattle.std.specs.Option.{option_copied}
use Rattle.serde_json.specs.View.{items_view, view}
use Rattle.serde_json.specs.declared.value.Value.{Value}
use Rattle.ds_reply_lines.specs.ReplyLines.{last_item}
use Rattle.ds_load.proofs.reading.last_of.Goals as goal

copied : (o : Option (Bor Value)) → option_map (λ v. view v.now) o ≡ option_map view (option_copied o)
copied None = refl
copied (Some v) = refl

last_view : (xs : List Value) → option_map view (slice_get xs (length xs - 1)) ≡ last_item (items_view xs)
last_view [] = refl
last_view (x ∷ []) = refl
last_view (x ∷ y ∷ xs) =
    let one_less : suc (suc (length xs)) - 1 ≡ suc (length xs) = omega arith in
    let here : suc (length xs) - 1 ≡ length xs = omega arith in
    ap (λ k. option_map view (slice_get (x ∷ y ∷ xs) k)) one_less
    ∙ ap (λ k. option_map view (slice_get (y ∷ xs) k)) (sym here)
    ∙ last_view (y ∷ xs)

pub returns : goal.returns
returns c =
    copied c.last.result ∙ ap (option_map view) c.last.ensures.value ∙ last_view c.args.items.now
