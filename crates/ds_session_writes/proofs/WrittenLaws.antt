-- The ids of a written key, and a commit that was appended.
use Rattle.std.proofs.Common.{◌≡◌, ℕ, ◌+◌, ◌-◌, ◌<◌, ◌≤◌, List, [], ◌∷◌, ◌++◌, length, refl, ap, sym, ◌∙◌, subst, arith}
use Rattle.std.proofs.Common.{Bool, true, false, cond, Option, Some, None}
use Rattle.std.specs.Prelude.{max, fold, slice_get, All, nat_le, ◌&&◌}
use Rattle.std.specs.Option.{option_or}
use Rattle.std.proofs.lemmas.Bool.{leb-false, leb-true}
use Rattle.std.proofs.lemmas.List.Elements.{All-nil, All-cons, All-append}
use mathlib.Core.List.{IsPrefix}
use Rattle.ds_base.specs.declared.key.Ident.{Ident}
use Rattle.ds_base.specs.declared.key.Ident.TheVariants.{Id, Name}
use Rattle.ds_base.specs.declared.key.Elem.{Elem}
use Rattle.ds_base.specs.Keys.{ends_in_id, with_last_id}
use Rattle.ds_log.specs.declared.Commit.{Commit}
use Rattle.ds_log.specs.Ids.{unissued, first_unissued}
use Rattle.ds_log.specs.JournalLaws.{first_unissued-rises}
use Rattle.ds_model.specs.Legal.{counter_id, counter_ids, last_id}
use Rattle.ds_model.specs.Sessions.{Session, first_id, next_above, saw_place}
use Rattle.ds_store.specs.Answered.{IsAppended}
use Rattle.ds_store.specs.Passes.{PassParts}
use Rattle.ds_session_state.specs.Sessions.{HasGrown, IsWithin}
use Rattle.ds_session_state.proofs.GrowthLaws.{begins_through, begins_more, longer_same}
use Rattle.ds_session_state.proofs.SeeingLaws.{within_later, within_place}

-- ---- the ids of a path that are issued

first_none : (a b : Option ℕ) → option_or a b ≡ None → (a ≡ None) × (b ≡ None)
first_none None b none = (refl, none)
first_none (Some n) b none = cc

-- the counter above an identifier that only the server gives
abbrev id_above : Ident → ℕ
id_above (Id n) = cond (nat_le first_id n) (n + 1) 0
id_above (Name x) = 0

above-within : (bound : ℕ) (i : Ident) → unissued bound i ≡ None → id_above i ≤ bound
above-within bound (Name x) none = omega arith
above-within bound (Id n) none = by (nat_le first_id n) (nat_le bound n) refl none where
  by : (a b : Bool) → nat_le bound n ≡ b → cond (a && b) (Some n) None ≡ None → cond a (n + 1) 0 ≤ bound
  by true true is none = cc
  by true false is none = let below : n < bound = leb-false bound n is in omega arith
  by false b is none = omega arith

next-within : (bound : ℕ) (es : List Elem) (m : ℕ) → first_unissued bound es ≡ None → m ≤ bound
    → fold (λ next (e : Elem). max next (id_above e.ident)) m es ≤ bound
next-within bound [] m none low = low
next-within bound (e ∷ es) m none low =
    let both = first_none (unissued bound e.ident) (first_unissued bound es) none in
    let here = above-within bound e.ident both.0 in
    next-within bound es (max m (id_above e.ident)) both.1 (omega arith)

-- the counter above the ids of a path whose ids are below a bound isn't above it
pub next_above_within : (bound : ℕ) (es : List Elem) → first_unissued bound es ≡ None → next_above es ≤ bound
next_above_within bound es none = next-within bound es 0 none (omega arith)

below-own : (bound : ℕ) (i : Ident) → unissued bound i ≡ None → All (λ id. id < bound) (counter_id i)
below-own bound (Name x) none = All-nil (λ id. id < bound)
below-own bound (Id n) none = by (nat_le first_id n) (nat_le bound n) refl none where
  by : (a b : Bool) → nat_le bound n ≡ b → cond (a && b) (Some n) None ≡ None → All (λ id. id < bound) (cond a (n ∷ []) [])
  by true true is none = cc
  by true false is none = All-cons (λ id. id < bound) n [] (leb-false bound n is) (All-nil (λ id. id < bound))
  by false b is none = All-nil (λ id. id < bound)

pub ids_below : (bound : ℕ) (es : List Elem) → first_unissued bound es ≡ None → All (λ id. id < bound) (counter_ids es)
ids_below bound [] none = All-nil (λ id. id < bound)
ids_below bound (e ∷ es) none =
    let both = first_none (unissued bound e.ident) (first_unissued bound es) none in
    All-append (λ id. id < bound) (counter_id e.ident) (counter_ids es) (below-own bound e.ident both.0) (ids_below bound es both.1)

-- a path that is completed ends in its drawn id
pub last_id_completed : (es : List Elem) (id : ℕ) → ends_in_id es ≡ true → last_id (with_last_id es id) ≡ id ∷ []
last_id_completed [] id ends = cc
last_id_completed (e ∷ []) id ends = refl
last_id_completed (e ∷ f ∷ []) id ends = refl
last_id_completed (e ∷ f ∷ g ∷ es) id ends = last_id_completed (f ∷ g ∷ es) id ends

own_issued : (id : ℕ) → unissued (id + 1) (Id id) ≡ None
own_issued id = by (nat_le first_id id) (nat_le (id + 1) id) refl where
  by : (a b : Bool) → nat_le (id + 1) id ≡ b → cond (a && b) (Some id) None ≡ None
  by true true is = let above : id + 1 ≤ id = leb-true (id + 1) id is in absurd (omega arith)
  by true false is = refl
  by false b is = refl

-- a path whose ids are issued is so too once a drawn id, no lower than the counter, completes it
pub completed_issued : (next id : ℕ) (es : List Elem) → next ≤ id → first_unissued next es ≡ None
    → first_unissued (id + 1) (with_last_id es id) ≡ None
completed_issued next id [] low none = refl
completed_issued next id (e ∷ []) low none = ap (λ o. option_or o None) (own_issued id)
completed_issued next id (e ∷ f ∷ es) low none =
    let both = first_none (unissued next e.ident) (first_unissued next (f ∷ es)) none in
    let alone : first_unissued next (e ∷ []) ≡ None = ap (λ o. option_or o None) both.0 in
    let higher : next ≤ id + 1 = omega (arith, low) in
    let later = first_none (unissued (id + 1) e.ident) None (first_unissued-rises next (id + 1) (e ∷ []) higher alone) in
    ap (λ o. option_or o (first_unissued (id + 1) (with_last_id (f ∷ es) id))) later.0 ∙ completed_issued next id (f ∷ es) low both.1

-- ---- a commit that was appended

at_length : (cs : List Commit) (c : Commit) → slice_get (cs ++ c ∷ []) (length cs) ≡ Some c
at_length [] c = refl
at_length (d ∷ ds) c = at_length ds c

module _ (p q : PassParts) (c : Commit) (n : ℕ) (drawn : List ℕ) (done : IsAppended p q c n drawn) where
  pub appended_at : slice_get q.journal (n - 1) ≡ Some c
  appended_at =
      let here : length done.front ≡ n - 1 = omega (arith, done.number) in
      ap (λ cs. slice_get cs (n - 1)) done.journal ∙ ap (λ i. slice_get (done.front ++ c ∷ []) i) (sym here) ∙ at_length done.front c

  pub grown_appended : HasGrown p q
  grown_appended = record {
    journal = subst (λ cs. IsPrefix p.journal cs) (sym done.journal)
        (begins_through p.journal done.front (done.front ++ c ∷ []) done.seen (begins_more done.front (c ∷ [])));
    lists = longer_same p.lists q.lists done.lists;
    place = omega (arith, done.later, done.stands);
    next = done.next;
  }

  -- the client has seen the commit's place
  pub within_appended : (s : Session) → IsWithin s p → IsWithin (saw_place n s) q
  within_appended s within = within_place s q n (omega (arith, done.stands)) (within_later s p q grown_appended within)
