-- What a journal keeps when a commit is appended, and written ids when the counter rises.
use Rattle.std.specs.Prelude.{◌≡◌, ℕ, ◌<◌, ◌≤◌, List, [], ◌∷◌, ◌++◌, Bool, true, false, ◌&&◌, cond, nat_le, nat_lt, length, take}
use Rattle.std.specs.Prelude.{slice_get, Option, Some, None, refl}
use Rattle.std.proofs.Common.{zero, suc, sym, ap, ◌∙◌, subst, get_or, length-append, arith}
use Rattle.std.proofs.Math.Seq.{take-append_seam}
use Rattle.std.proofs.lemmas.Bool.{leb-true, leb-false, ltb-true, ltb-false}
use Rattle.std.proofs.lemmas.List.{take-append-le}
use Rattle.std.proofs.lemmas.Option.{slice_get_within}
use Rattle.std.proofs.lemmas.List.Elements.{All-push}
use Rattle.std.specs.Option.{option_or}
use Rattle.ds_base.specs.declared.key.Ident.{Ident}
use Rattle.ds_base.specs.declared.key.Ident.TheVariants.{Id, Name}
use Rattle.ds_base.specs.declared.key.Elem.{Elem}
use Rattle.ds_base.specs.Limits.{first_drawn_id}
use Rattle.ds_log.specs.declared.Write.{Write}
use Rattle.ds_log.specs.declared.Commit.{Commit}
use Rattle.ds_log.specs.Logs.{key_of}
use Rattle.ds_log.specs.Conflicts.{IsCommitted, IsSerial}
use Rattle.ds_log.specs.Ids.{unissued, unissued_id, first_unissued, AreIssued, AllIssued}

slice_get_front : (xs ys : List Commit) (n : ℕ) → n < length xs → slice_get (xs ++ ys) n ≡ slice_get xs n
slice_get_front [] ys n below = absurd (omega arith)
slice_get_front (x ∷ xs) ys zero below = refl
slice_get_front (x ∷ xs) ys (suc n) below = slice_get_front xs ys n (omega arith)

slice_get_last : (xs : List Commit) (c : Commit) → slice_get (xs ++ c ∷ []) (length xs) ≡ Some c
slice_get_last [] c = refl
slice_get_last (x ∷ xs) c = slice_get_last xs c

-- a serial journal stays serial where a commit is appended that conflicts with nothing
pub IsSerial-push : (journal : List Commit) (c : Commit) → IsSerial journal → IsCommitted journal c → IsSerial (journal ++ c ∷ [])
IsSerial-push journal c serial committed n d at = by (nat_lt n (length journal)) refl where
  by : (b : Bool) → nat_lt n (length journal) ≡ b → IsCommitted (take n (journal ++ c ∷ [])) d
  by true is =
      let below : n < length journal = ltb-true n (length journal) is in
      subst (λ before. IsCommitted before d) (sym (take-append-le n journal (c ∷ []) (omega arith)))
      (serial n d (sym (slice_get_front journal (c ∷ []) n below) ∙ at))
  by false is =
      let past : length journal ≤ n = ltb-false n (length journal) is in
      let within : n < length (journal ++ c ∷ []) = slice_get_within (journal ++ c ∷ []) n d at in
      let here : n ≡ length journal = omega (arith, length-append journal (c ∷ [])) in
      let found : Some c ≡ Some d = sym (slice_get_last journal c) ∙ ap (slice_get (journal ++ c ∷ [])) (sym here) ∙ at in
      let same : c ≡ d = cc in
      let before : journal ≡ take n (journal ++ c ∷ []) = sym (take-append_seam journal (c ∷ []))
      ∙ ap (λ m. take m (journal ++ c ∷ [])) (sym here) in
      subst (λ js. IsCommitted js d) before (subst (IsCommitted journal) same committed)

-- what was issued stays issued while the counter rises
unissued_id-rises : (next later n : ℕ) → next ≤ later → unissued_id next n ≡ None → unissued_id later n ≡ None
unissued_id-rises next later n rise none = by (nat_le first_drawn_id n) (nat_le next n) (nat_le later n) refl refl none where
  by : (a b c : Bool) → nat_le next n ≡ b → nat_le later n ≡ c → cond (a && b) (Some n) None ≡ None → cond (a && c) (Some n) None ≡ None
  by false b c is after e = refl
  by true b false is after e = refl
  by true true true is after e = e
  by true false true is after e =
      let low : later ≤ n = leb-true later n after in
      let high : n < next = leb-false next n is in
      absurd (omega arith)

unissued-rises : (next later : ℕ) (i : Ident) → next ≤ later → unissued next i ≡ None → unissued later i ≡ None
unissued-rises next later (Id n) rise none = unissued_id-rises next later n rise none
unissued-rises next later (Name x) rise none = refl

both_none : (a b : Option ℕ) → option_or a b ≡ None → (a ≡ None) × (b ≡ None)
both_none None b none = (refl, none)
both_none (Some n) b none = cc

pub first_unissued-rises : (next later : ℕ) (es : List Elem) → next ≤ later → first_unissued next es ≡ None → first_unissued later es ≡ None
first_unissued-rises next later [] rise none = refl
first_unissued-rises next later (e ∷ es) rise none =
    let both = both_none (unissued next e.ident) (first_unissued next es) none in
    ap (λ a. option_or a (first_unissued later es)) (unissued-rises next later e.ident rise both.0)
    ∙ first_unissued-rises next later es rise both.1

pub AreIssued-rises : (next later : ℕ) (ws : List Write) → next ≤ later → AreIssued next ws → AreIssued later ws
AreIssued-rises next later ws rise issued k d below = first_unissued-rises next later (key_of (get_or ws k d)).elems rise (issued k d below)

pub AllIssued-rises : (next later : ℕ) (journal : List Commit) → next ≤ later → AllIssued next journal → AllIssued later journal
AllIssued-rises next later journal rise issued k d below = AreIssued-rises next later (get_or journal k d).writes rise (issued k d below)

pub AllIssued-push : (next : ℕ) (journal : List Commit) (c : Commit) → AllIssued next journal → AreIssued next c.writes
    → AllIssued next (journal ++ c ∷ [])
AllIssued-push next journal c all last = All-push (λ (b : Commit). AreIssued next b.writes) journal c all last
