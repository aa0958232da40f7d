-- Replies that draw ids, or tell that none are left.
use Rattle.std.proofs.Common.{◌≡◌, ℕ, ◌+◌, ◌^◌, ◌<◌, ◌≤◌, refl, ap, sym, ◌∙◌, subst, arith, Option, Some, None, Bool, true}
use Rattle.std.specs.Prelude.{codes}
use Rattle.ds_base.specs.Keys.{KeyParts}
use Rattle.ds_base.specs.Limits.{greatest_id}
use Rattle.ds_bytes.specs.Lawful.{IsLawfulKey}
use Rattle.ds_log.specs.Ids.{first_unissued}
use Rattle.ds_request.specs.declared.call.Call.TheVariants as call
use Rattle.ds_reply.specs.declared.reply.Body.{Body}
use Rattle.ds_reply.specs.declared.reply.Body.TheVariants as body
use Rattle.ds_reply_lines.specs.ReplyLines.{number_at, told_by}
use Rattle.ds_model.specs.Answers.{CallAnswers}
use Rattle.ds_model.specs.Sessions.{Session, saw_next}
use Rattle.ds_judging_lines.specs.Deciding.{DecidesTurn, HasCounter, IsTurn, NoAnswer, SaysThen, world_in}
use Rattle.ds_judging_writes.specs.Writing.{IsIdNotIssued, IsIdsExhausted, IsPutExhausted}
use Rattle.ds_judging_lines.specs.declared.turn.Turn.{Turn}
use Rattle.ds_judging_lines.proofs.Decisions.{decides_as, decides_one}
use Rattle.ds_judging_writes.proofs.WritesTold.{Error, Says, allocated_tells, exhausted_tells, not_issued_tells, unissued_small}

module _ (turn : Turn) (s : Session) (read : IsTurn turn) where
  abbrev pub Told : Option ℕ
  Told = number_at (codes "next") (told_by turn.told)

  -- ---- an id that wasn't issued

  not_issued_told : (key : KeyParts) (other : Body) (later : Session) → IsLawfulKey key → Says turn other → IsIdNotIssued s key other later
      → (id : ℕ) × (next : ℕ) × (other ≡ body.IdNotIssued id next) × (Error turn ≡ Some 21) × (Told ≡ Some next) × (s.next_id ≤ next)
      × (first_unissued next key.elems ≡ Some id) × (later ≡ saw_next next s)
  not_issued_told key (body.IdNotIssued id next) later lawful said answered =
      let bounds = unissued_small next key.elems id lawful.elems answered.first in
      let small : next < 2 ^ 64 = omega (arith, bounds.0, bounds.1) in
      let told = not_issued_tells turn read id next bounds.1 small said in
      (id, next, refl, told.0, told.1, answered.shown, answered.first, answered.raised)
  not_issued_told key _ later lawful said answered = absurd answered

  pub not_issued_none : (key : KeyParts) → IsLawfulKey key
      → ((id next : ℕ) → Told ≡ Some next → s.next_id ≤ next → first_unissued next key.elems ≡ Some id → ⊥)
      → NoAnswer (IsIdNotIssued s key) turn.client turn.number turn.line.now
  not_issued_none key lawful never = λ other later counter said answered.
      let h = not_issued_told key other later lawful said answered in
      never h.0 h.1 h.4 h.5 h.6

  pub not_issued_decided : (key : KeyParts) (id next : ℕ) (found : Option Body) (after : Session) → IsLawfulKey key → Told ≡ Some next
      → s.next_id ≤ next → first_unissued next key.elems ≡ Some id → SaysThen turn (body.IdNotIssued id next) (saw_next next s) found after
      → DecidesTurn turn (IsIdNotIssued s key) found after
  not_issued_decided key id next found after lawful told shown first says =
      decides_one (IsIdNotIssued s key) turn (body.IdNotIssued id next) (saw_next next s) after found tt
      (record { shown = shown; first = first; raised = refl }) only says
    where
      only : (other : Body) (later : Session) → HasCounter other → Says turn other → IsIdNotIssued s key other later
          → (other ≡ body.IdNotIssued id next) × (later ≡ saw_next next s)
      only other later counter said answered =
          let h = not_issued_told key other later lawful said answered in
          let same : h.1 ≡ next = cc (h.4, told) in
          let both : h.0 ≡ id = cc (sym h.6 ∙ ap (λ n. first_unissued n key.elems) same ∙ first) in
          (h.2 ∙ ap (λ i. body.IdNotIssued i h.1) both ∙ ap (λ n. body.IdNotIssued id n) same, h.7 ∙ ap (λ n. saw_next n s) same)

  -- ---- no ids left

  exhausted_told : (count : ℕ) (other : Body) (later : Session) → HasCounter other → Says turn other → IsIdsExhausted s count other later
      → (next : ℕ) × (other ≡ body.IdsExhausted next) × (Error turn ≡ Some 22) × (Told ≡ Some next) × (s.next_id ≤ next)
      × (greatest_id < next + count) × (later ≡ saw_next next s)
  exhausted_told count (body.IdsExhausted next) later counter said answered =
      let told = exhausted_tells turn read next counter said in
      (next, refl, told.0, told.1, answered.shown, answered.beyond, answered.raised)
  exhausted_told count _ later counter said answered = absurd answered

  pub exhausted_none : (count : ℕ) → ((next : ℕ) → Told ≡ Some next → s.next_id ≤ next → greatest_id < next + count → ⊥)
      → NoAnswer (IsIdsExhausted s count) turn.client turn.number turn.line.now
  exhausted_none count never = λ other later counter said answered.
      let h = exhausted_told count other later counter said answered in
      never h.0 h.3 h.4 h.5

  pub exhausted_decided : (count next : ℕ) (found : Option Body) (after : Session) → next < 2 ^ 64 → Told ≡ Some next → s.next_id ≤ next
      → greatest_id < next + count → SaysThen turn (body.IdsExhausted next) (saw_next next s) found after
      → DecidesTurn turn (IsIdsExhausted s count) found after
  exhausted_decided count next found after small told shown beyond says =
      decides_one (IsIdsExhausted s count) turn (body.IdsExhausted next) (saw_next next s) after found small
      (record { shown = shown; beyond = beyond; raised = refl }) only says
    where
      only : (other : Body) (later : Session) → HasCounter other → Says turn other → IsIdsExhausted s count other later
          → (other ≡ body.IdsExhausted next) × (later ≡ saw_next next s)
      only other later counter said answered =
          let h = exhausted_told count other later counter said answered in
          let same : h.0 ≡ next = cc (h.3, told) in
          (h.1 ∙ ap (λ n. body.IdsExhausted n) same, h.6 ∙ ap (λ n. saw_next n s) same)

  -- ---- none left for an incomplete put

  pub put_exhausted_none : (incomplete : Bool) (key : KeyParts)
      → ((next : ℕ) → incomplete ≡ true → Told ≡ Some next → first_unissued next key.elems ≡ None → ⊥)
      → NoAnswer (IsPutExhausted s incomplete key) turn.client turn.number turn.line.now
  put_exhausted_none incomplete key never = by where
    by : (other : Body) (later : Session) → HasCounter other → Says turn other → IsPutExhausted s incomplete key other later → ⊥
    by (body.IdsExhausted next) later counter said answered =
        never next answered.0 (exhausted_tells turn read next counter said).1 answered.1
    by _ later counter said answered = answered

  pub put_exhausted_as : (incomplete : Bool) (key : KeyParts) (next : ℕ) (found : Option Body) (after : Session) → incomplete ≡ true
      → Told ≡ Some next → first_unissued next key.elems ≡ None → DecidesTurn turn (IsIdsExhausted s 1) found after
      → DecidesTurn turn (IsPutExhausted s incomplete key) found after
  put_exhausted_as incomplete key next found after asked told issued =
      decides_as (IsIdsExhausted s 1) turn (IsPutExhausted s incomplete key) after found there back
    where
      there : (b : Body) (t : Session) → HasCounter b → Says turn b → IsIdsExhausted s 1 b t → IsPutExhausted s incomplete key b t
      there (body.IdsExhausted n) t counter said answered =
          let same : next ≡ n = cc (told, (exhausted_tells turn read n counter said).1) in
          (asked, subst (λ m. first_unissued m key.elems ≡ None) same issued, answered)
      there _ t counter said answered = absurd answered

      back : (b : Body) (t : Session) → HasCounter b → Says turn b → IsPutExhausted s incomplete key b t → IsIdsExhausted s 1 b t
      back (body.IdsExhausted n) t counter said answered = answered.2
      back _ t counter said answered = absurd answered

  -- ---- allocated ids

  abbrev pub IsAllocated : ℕ → Body → Session → Type 0
  IsAllocated count = CallAnswers (world_in turn) turn.client s (call.AllocateIds count)

  pub allocate_as_exhausted : (count : ℕ) (found : Option Body) (after : Session) → Error turn ≡ Some 22
      → DecidesTurn turn (IsIdsExhausted s count) found after → DecidesTurn turn (IsAllocated count) found after
  allocate_as_exhausted count found after error =
      decides_as (IsIdsExhausted s count) turn (IsAllocated count) after found there back
    where
      there : (b : Body) (t : Session) → HasCounter b → Says turn b → IsIdsExhausted s count b t → IsAllocated count b t
      there (body.IdsExhausted n) t counter said answered = answered
      there _ t counter said answered = absurd answered

      back : (b : Body) (t : Session) → HasCounter b → Says turn b → IsAllocated count b t → IsIdsExhausted s count b t
      back (body.IdsExhausted n) t counter said answered = answered
      back (body.AllocateIds first printed) t counter said answered =
          let within : first + count ≤ greatest_id = answered.1.within in
          let same : printed ≡ count = answered.0 in
          let small : first < 2 ^ 64 = omega arith in
          let few : printed < 2 ^ 64 = omega arith in
          let told = allocated_tells turn read first printed small few said in
          cc (told.0, error)
      back _ t counter said answered = absurd answered

  abbrev pub First : Option ℕ
  First = number_at (codes "first") (told_by turn.told)

  allocated_told : (count : ℕ) (other : Body) (later : Session) → (Error turn ≡ Some 22 → ⊥) → HasCounter other → Says turn other
      → IsAllocated count other later
      → (first : ℕ) × (other ≡ body.AllocateIds first count) × (First ≡ Some first) × (s.next_id ≤ first) × (first + count ≤ greatest_id)
      × (later ≡ saw_next (first + count) s)
  allocated_told count (body.AllocateIds first printed) later fine counter said answered =
      let within : first + count ≤ greatest_id = answered.1.within in
      let same : printed ≡ count = answered.0 in
      let small : first < 2 ^ 64 = omega arith in
      let few : printed < 2 ^ 64 = omega arith in
      let told = allocated_tells turn read first printed small few said in
      (first, ap (λ n. body.AllocateIds first n) same, told.1, answered.1.shown, within, answered.1.raised)
  allocated_told count (body.IdsExhausted n) later fine counter said answered =
      absurd (fine (exhausted_tells turn read n counter said).0)
  allocated_told count _ later fine counter said answered = absurd answered

  pub allocate_none : (count : ℕ) → (Error turn ≡ Some 22 → ⊥)
      → ((first : ℕ) → First ≡ Some first → s.next_id ≤ first → first + count ≤ greatest_id → ⊥)
      → NoAnswer (IsAllocated count) turn.client turn.number turn.line.now
  allocate_none count fine never = λ other later counter said answered.
      let h = allocated_told count other later fine counter said answered in
      never h.0 h.2 h.3 h.4

  pub allocate_decided : (count first : ℕ) (found : Option Body) (after : Session) → (Error turn ≡ Some 22 → ⊥) → First ≡ Some first
      → s.next_id ≤ first → first + count ≤ greatest_id
      → SaysThen turn (body.AllocateIds first count) (saw_next (first + count) s) found after
      → DecidesTurn turn (IsAllocated count) found after
  allocate_decided count first found after fine told shown within says =
      decides_one (IsAllocated count) turn (body.AllocateIds first count) (saw_next (first + count) s) after found tt
      (refl, record { shown = shown; within = within; raised = refl }) only says
    where
      only : (other : Body) (later : Session) → HasCounter other → Says turn other → IsAllocated count other later
          → (other ≡ body.AllocateIds first count) × (later ≡ saw_next (first + count) s)
      only other later counter said answered =
          let h = allocated_told count other later fine counter said answered in
          let same : h.0 ≡ first = cc (h.2, told) in
          (h.1 ∙ ap (λ n. body.AllocateIds n count) same, h.5 ∙ ap (λ n. saw_next (n + count) s) same)
