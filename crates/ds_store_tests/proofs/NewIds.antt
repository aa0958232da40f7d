-- Ids in written keys: which writes have none that wasn't drawn. The id that a put gets when it is committed is below the counter that is
-- one more.
use Rattle.std.proofs.Common.{◌≡◌, ℕ, ◌+◌, ◌≤◌, Bool, true, false, List, [], ◌∷◌, refl, ap, ◌∙◌, arith, Option, Some, None}
use Rattle.std.specs.Prelude.{nat_le, ◌&&◌, cond}
use Rattle.std.specs.Option.{option_or}
use Rattle.std.proofs.lemmas.Bool.{leb-true}
use Rattle.std.proofs.lemmas.List.Elements.{All-nil, All-cons}
use Rattle.ds_base.specs.declared.key.Elem.{Elem}
use Rattle.ds_base.specs.Keys.{with_last_id}
use Rattle.ds_base.specs.Limits.{first_drawn_id}
use Rattle.ds_log.specs.declared.Write.{Write}
use Rattle.ds_log.specs.Ids.{unissued_id, first_unissued, AreIssued}
use Rattle.ds_log.specs.Logs.{key_of}

drawn-issued : (id : ℕ) → unissued_id (id + 1) id ≡ None
drawn-issued id = by (nat_le first_drawn_id id) (nat_le (id + 1) id) refl where
  by : (a b : Bool) → nat_le (id + 1) id ≡ b → cond (a && b) (Some id) None ≡ None
  by true true is = let low : id + 1 ≤ id = leb-true (id + 1) id is in absurd (omega arith)
  by true false is = refl
  by false b is = refl

pub single_issued : (id : ℕ) (e : Elem) → first_unissued (id + 1) (with_last_id (e ∷ []) id) ≡ None
single_issued id e = ap (λ o. option_or o None) (drawn-issued id)

-- one write alone, whose key has no such id
pub issued_alone : (next : ℕ) (w : Write) → first_unissued next (key_of w).elems ≡ None → AreIssued next (w ∷ [])
issued_alone next w none = All-cons (λ (v : Write). first_unissued next (key_of v).elems ≡ None) w [] none (All-nil (λ (v : Write). first_unissued next (key_of v).elems ≡ None))
