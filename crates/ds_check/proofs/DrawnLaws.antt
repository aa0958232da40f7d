-- The ids that an answer tells as drawn are below the greatest one.
use Rattle.std.proofs.Common.{◌≡◌, ℕ, suc, zero, ◌+◌, ◌<◌, ◌≤◌, List, [], ◌∷◌, Bool, true, false, cond, Option, Some, None, refl, sym}
use Rattle.std.proofs.Common.{subst, arith, All}
use Rattle.std.specs.Prelude.{Result, Ok, Err, ⊤}
use Rattle.std.specs.List.{range_with_len, AllByRecursion}
use Rattle.std.proofs.lemmas.List.Elements.{All-nil, All-cons}
use Rattle.ds_base.specs.Keys.{KeyParts, with_last_id}
use Rattle.ds_base.specs.Limits.{greatest_id}
use Rattle.ds_entity.specs.declared.entity.EntityRefused.{EntityRefused}
use Rattle.ds_entity.specs.declared.entity.EntityRefused.TheVariants as entity
use Rattle.ds_entity.specs.declared.entity.Property.{Property}
use Rattle.ds_base.specs.declared.key.Elem.{Elem}
use Rattle.ds_entity.specs.Entities.{entity_refusal}
use Rattle.ds_log.specs.Touches.{touch_place}
use Rattle.ds_request.specs.declared.call.Call.{Call}
use Rattle.ds_request.specs.declared.call.Call.TheVariants as call
use Rattle.ds_request.specs.declared.call.Request.{Request}
use Rattle.ds_reply.specs.declared.reply.Body.{Body}
use Rattle.ds_reply.specs.declared.reply.Body.TheVariants as body
use Rattle.ds_model.specs.Answers.{BodyAnswers, CallAnswers, UnlessRefused}
use Rattle.ds_model.specs.Groups.{group_refusal, new_group_refusal, unless_touched, write_refusal}
use Rattle.ds_model.specs.Legal.{drawn_by, last_id}
use Rattle.ds_model.specs.Refusals.{entity_body, first_refusal, group_asked, refusal_of, row_refusal}
use Rattle.ds_model.specs.Sessions.{Session, Transaction}
use Rattle.ds_model.specs.Worlds.{World}
use Rattle.ds_asked.specs.AskedLines.{read_as}
use Rattle.ds_told.specs.Told.{CanBeDrawn, draws_by, draws_of, drawn_told}
use Rattle.ds_told.specs.declared.draws.Draws.{Draws}
use Rattle.ds_told.specs.declared.draws.Draws.TheVariants as draws
use Rattle.ds_told.proofs.ToldLaws.{told_drawn}

-- ---- a refusal tells no drawn id

abbrev IsFree : Option Body → Type 0
IsFree None = ⊤
IsFree (Some b) = CanBeDrawn draws.Key b

first-free : (os : List (Option Body)) → AllByRecursion IsFree os → IsFree (first_refusal os)
first-free [] all = tt
first-free (None ∷ os) all = first-free os all.1
first-free (Some b ∷ os) all = all.0

cond-free : (b : Bool) (x y : Option Body) → IsFree x → IsFree y → IsFree (cond b x y)
cond-free true x y first second = first
cond-free false x y first second = second

entity-free : (o : Option EntityRefused) → IsFree (entity_body o)
entity-free None = tt
entity-free (Some entity.BadKey) = tt
entity-free (Some (entity.BadValue i)) = tt
entity-free (Some (entity.TooLarge size)) = tt
entity-free (Some entity.NoMemory) = tt

new-free : (t : Transaction) (g : Option KeyParts) → IsFree (new_group_refusal t g)
new-free t g = cond-free t.several_groups _ _ (cond-free _ (Some body.TooManyGroups) None tt tt)
    (cond-free _ None (Some (body.SecondGroup g)) tt tt)

unless-free : (place : Option ℕ) (refusal : Option Body) → IsFree refusal → IsFree (unless_touched place refusal)
unless-free (Some m) refusal free = tt
unless-free None refusal free = free

group-free : (t : Option Transaction) (g : Option KeyParts) → IsFree (group_refusal t g)
group-free None g = tt
group-free (Some t) None = new-free t None
group-free (Some t) (Some g) = unless-free (touch_place g t.touched) (new_group_refusal t (Some g)) (new-free t (Some g))

write-free : (t : Option Transaction) → IsFree (write_refusal t)
write-free None = tt
write-free (Some t) = cond-free _ (Some body.TooManyWrites) None tt tt

put-free : (w : World) (s : Session) (key : KeyParts) (incomplete : Bool) (properties : List Property)
    → IsFree (refusal_of w.definitions s (call.Put key incomplete properties))
put-free w s key incomplete properties =
    first-free
    (entity_body (entity_refusal key properties)
    ∷ row_refusal w.definitions (record { key = key; properties = properties })
    ∷ group_refusal s.transaction (group_asked incomplete key)
    ∷ write_refusal s.transaction
    ∷ []) (
      entity-free (entity_refusal key properties),
      (
        cond-free _ (Some (body.TooManyRows _)) None tt tt,
        (group-free s.transaction (group_asked incomplete key), (write-free s.transaction, tt)),
      ),
    )

-- ---- ids

completed-below : (es : List Elem) (id : ℕ) → id < greatest_id → All (λ n. n < greatest_id) (last_id (with_last_id es id))
completed-below [] id low = All-nil (λ n. n < greatest_id)
completed-below (e ∷ []) id low = All-cons (λ n. n < greatest_id) id [] low (All-nil (λ n. n < greatest_id))
completed-below (e ∷ f ∷ []) id low = All-cons (λ n. n < greatest_id) id [] low (All-nil (λ n. n < greatest_id))
completed-below (e ∷ f ∷ g ∷ es) id low = completed-below (f ∷ g ∷ es) id low

range-below : (first count : ℕ) → first + count ≤ greatest_id → All (λ n. n < greatest_id) (range_with_len first count)
range-below first zero within = All-nil (λ n. n < greatest_id)
range-below first (suc count) within =
    All-cons (λ n. n < greatest_id) first (range_with_len (first + 1) count) (omega (arith, within))
    (range-below (first + 1) count (omega (arith, within)))

call-drawn : (w : World) (client : ℕ) (s : Session) (c : Call) (said : Body) (after : Session)
    → BodyAnswers w s (Ok (record { client = client; call = c })) said after → CanBeDrawn (draws_by c) said
call-drawn w client s (call.Put key true properties) (body.Put printed place) after answers =
    by (refusal_of w.definitions s (call.Put key true properties)) (put-free w s key true properties) answers where
      by : (o : Option Body) → IsFree o
          → UnlessRefused o s (body.Put printed place) after (CallAnswers w client s (call.Put key true properties)
          (body.Put printed place) after)
          → CanBeDrawn draws.Key (body.Put printed place)
      by (Some refusal) free refused = subst (λ b. CanBeDrawn draws.Key b) (sym refused.0) free
      by None free answer =
          subst (λ (k : KeyParts). All (λ n. n < greatest_id) (last_id k.elems)) (sym answer.completed.3)
          (completed-below key.elems answer.completed.0 answer.completed.2)
call-drawn w client s (call.Put key true properties) _ after answers = tt
call-drawn w client s (call.Put key false properties) said after answers = tt
call-drawn w client s (call.AllocateIds count) (body.AllocateIds first printed) after (same, answer) =
    subst (λ n. first + n ≤ greatest_id) (sym same) answer.within
call-drawn w client s (call.AllocateIds count) _ after answers = tt
call-drawn w client s _ said after answers = tt

-- what an answer tells as drawn can be drawn
pub can_be_drawn : (w : World) (s : Session) (client : ℕ) (line : Result Request Body) (said : Body) (after : Session)
    → BodyAnswers w s (read_as client line) said after → CanBeDrawn (draws_of line) said
can_be_drawn w s client (Ok r) said after answers = call-drawn w r.client s r.call said after answers
can_be_drawn w s client (Err b) said after answers = tt

drawn-below : (d : Draws) (said : Body) → CanBeDrawn d said → All (λ n. n < greatest_id) (drawn_told d said)
drawn-below draws.Key (body.Put printed place) can = can
drawn-below draws.Key _ can = All-nil (λ n. n < greatest_id)
drawn-below draws.Range (body.AllocateIds first count) can = range-below first count can
drawn-below draws.Range _ can = All-nil (λ n. n < greatest_id)
drawn-below draws.Nothing said can = All-nil (λ n. n < greatest_id)

-- what is noted as drawn is what a legal run says is drawn
pub noted_drawn : (client : ℕ) (line : Result Request Body) (said : Body)
    → drawn_by (read_as client line) said ≡ drawn_told (draws_of line) said
noted_drawn client (Ok r) said = told_drawn r.call said
noted_drawn client (Err b) said = refl

pub answer_drawn : (w : World) (s : Session) (client : ℕ) (line : Result Request Body) (said : Body) (after : Session)
    → BodyAnswers w s (read_as client line) said after → All (λ n. n < greatest_id) (drawn_by (read_as client line) said)
answer_drawn w s client line said after answers =
    subst (λ ids. All (λ n. n < greatest_id) ids) (sym (noted_drawn client line said))
    (drawn-below (draws_of line) said (can_be_drawn w s client line said after answers))
