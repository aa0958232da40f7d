-- A table of groups and places, read as touches.
use Rattle.std.proofs.Common.{◌≡◌, ℕ, ◌≤◌, Bool, true, false, cond, if◌then◌else◌, List, [], ◌∷◌, ◌++◌, Some, None, refl, ap, sym}
use Rattle.std.proofs.Common.{◌∙◌, arith}
use Rattle.std.proofs.lemmas.Option.{slice_get-map}
use Rattle.std.specs.Prelude.{slice_get}
use Rattle.std.specs.Option.{option_map}
use Rattle.std.specs.Map.{lookup}
use Rattle.indexmap.specs.IndexMap.{insert_entry}
use Rattle.ds_base.specs.Keys.{KeyParts}
use Rattle.ds_base.specs.KeyOrder.{same_key}
use Rattle.ds_log.specs.Touches.{touch_place}
use Rattle.ds_txn.specs.Transactions.{touch_of, touches_of, most_touched}

pub lookup_place : (g : KeyParts) (es : List (KeyParts × ℕ)) → lookup (same_key g) es ≡ touch_place g (touches_of es)
lookup_place g [] = refl
lookup_place g (e ∷ es) = ap (λ place. cond (same_key g e.0) (Some e.1) place) (lookup_place g es)

-- a group that isn't touched goes last
pub insert_untouched : (es : List (KeyParts × ℕ)) (g : KeyParts) (m : ℕ) → touch_place g (touches_of es) ≡ None
    → touches_of (insert_entry same_key es g m) ≡ touches_of es ++ record { group = g; place = m } ∷ []
insert_untouched [] g m none = refl
insert_untouched (e ∷ es) g m none = by (same_key g e.0) refl none (λ none'. insert_untouched es g m none') where
  by : (b : Bool) → same_key g e.0 ≡ b → cond b (Some e.1) (touch_place g (touches_of es)) ≡ None
      → (touch_place g (touches_of es) ≡ None
      → touches_of (insert_entry same_key es g m) ≡ touches_of es ++ record { group = g; place = m } ∷ [])
      → touches_of (if b then ((e.0, m) ∷ es) else (e ∷ insert_entry same_key es g m)) ≡ touches_of
      (e ∷ es) ++ record { group = g; place = m } ∷ []
  by true is none' rest = cc
  by false is none' rest = ap (λ ts. record { group = e.0; place = e.1 } ∷ ts) (rest none')

pub touch_at : (es : List (KeyParts × ℕ)) (i : ℕ) (g : KeyParts) (m : ℕ) → Some (g, m) ≡ slice_get es i
    → slice_get (touches_of es) i ≡ Some (record { group = g; place = m })
touch_at es i g m at = slice_get-map touch_of es i ∙ ap (option_map touch_of) (sym at)

pub most_touched-few : (several : Bool) → most_touched several ≤ 25
most_touched-few true = omega arith
most_touched-few false = omega arith
