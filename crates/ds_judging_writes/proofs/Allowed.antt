-- A put that nothing refuses may be written under its drawn id.
use Rattle.std.proofs.Common.{◌≡◌, ℕ, ◌-◌, List, [], ◌∷◌, length, take, refl}
use Rattle.std.proofs.Common.{Option, Some, None, Bool, true, false, cond}
use Rattle.std.specs.Prelude.{nat_le}
use Rattle.ds_base.specs.declared.key.Elem.{Elem}
use Rattle.ds_base.specs.declared.key.Ident.TheVariants.{Id}
use Rattle.ds_entity.specs.Entities.{EntityParts, entity_refusal}
use Rattle.ds_base.specs.Keys.{KeyParts, renumbered, root_of, with_last_id}
use Rattle.ds_base.specs.Limits.{most_groups}
use Rattle.ds_indexdef.specs.declared.IndexDef.{IndexDef}
use Rattle.ds_log.specs.declared.Touch.{Touch}
use Rattle.ds_log.specs.Touches.{touch_place}
use Rattle.ds_request.specs.declared.call.Call.TheVariants as call
use Rattle.ds_reply.specs.declared.reply.Body.{Body}
use Rattle.ds_reply.specs.declared.reply.Body.TheVariants as body
use Rattle.ds_model.specs.Groups.{group_refusal, has_none, new_group_refusal, unless_touched, write_refusal}
use Rattle.ds_model.specs.Refusals.{entity_body, first_refusal, group_asked, is_root, refusal_of, row_refusal}
use Rattle.ds_model.specs.Sessions.{Session, Transaction}
use Rattle.ds_judging_writes.specs.Committing.{MayWriteIn}

refusals-none : (a : Option Body) (rest : List (Option Body)) → first_refusal (a ∷ rest) ≡ None
    → (a ≡ None) × (first_refusal rest ≡ None)
refusals-none None rest none = (refl, none)
refusals-none (Some b) rest none = cc

write-allowed : (o : Option Transaction) (group : KeyParts) → group_refusal o (Some group) ≡ None → write_refusal o ≡ None
    → MayWriteIn o group
write-allowed None group first second = tt
write-allowed (Some t) group first second = (first, second)

put_parts : (definitions : List IndexDef) (s : Session) (e : EntityParts) (incomplete : Bool)
    → refusal_of definitions s (call.Put e.key incomplete e.properties) ≡ None
    → (group_refusal s.transaction (group_asked incomplete e.key) ≡ None) × (write_refusal s.transaction ≡ None)
put_parts definitions s e incomplete unrefused =
    let group = group_refusal s.transaction (group_asked incomplete e.key) in
    let entity = refusals-none (entity_body (entity_refusal e.key e.properties))
    (row_refusal definitions e ∷ group ∷ write_refusal s.transaction ∷ []) unrefused in
    let rows = refusals-none (row_refusal definitions e) (group ∷ write_refusal s.transaction ∷ []) entity.1 in
    let groups = refusals-none group (write_refusal s.transaction ∷ []) rows.1 in
    (groups.0, (refusals-none (write_refusal s.transaction) [] groups.1).0)

new-any : (t : Transaction) (g h : Option KeyParts) → new_group_refusal t g ≡ None → new_group_refusal t h ≡ None
new-any t g h none = by t.several_groups (nat_le most_groups (length t.touched)) t.touched none where
  by : (several full : Bool) (ts : List Touch) →
      cond several (cond full (Some body.TooManyGroups) None) (cond (has_none ts) None (Some (body.SecondGroup g))) ≡ None →
      cond several (cond full (Some body.TooManyGroups) None) (cond (has_none ts) None (Some (body.SecondGroup h))) ≡ None
  by true true ts none = none
  by true false ts none = refl
  by false full [] none = refl
  by false full (u ∷ us) none = cc

new-known : (t : Transaction) (g : KeyParts) → new_group_refusal t None ≡ None → group_refusal (Some t) (Some g) ≡ None
new-known t g none = by (touch_place g t.touched) where
  by : (o : Option ℕ) → unless_touched o (new_group_refusal t (Some g)) ≡ None
  by None = new-any t None (Some g) none
  by (Some place) = refl

-- the group of the completed key may be touched where that of the asked one may
group_completed : (o : Option Transaction) (key : KeyParts) (id : ℕ) → group_refusal o (group_asked true key) ≡ None
    → group_refusal o (Some (root_of (renumbered key id))) ≡ None
group_completed None key id none = refl
group_completed (Some t) key id none = by key.elems none where
  by : (es : List Elem) → group_refusal (Some t) (cond (is_root es) None (Some (record { namespace = key.namespace; elems = take 1 es })))
      ≡ None →
      group_refusal (Some t) (Some (record { namespace = key.namespace; elems = take 1 (with_last_id es id) })) ≡ None
  by [] none = none
  by (e ∷ []) none = new-known t (record { namespace = key.namespace; elems = (record e { ident = Id id }) ∷ [] }) none
  by (e ∷ f ∷ es) none = none

pub new_allowed : (definitions : List IndexDef) (s : Session) (e : EntityParts) (id : ℕ)
    → refusal_of definitions s (call.Put e.key true e.properties) ≡ None → MayWriteIn s.transaction (root_of (renumbered e.key id))
new_allowed definitions s e id unrefused =
    let parts = put_parts definitions s e true unrefused in
    write-allowed s.transaction (root_of (renumbered e.key id)) (group_completed s.transaction e.key id parts.0) parts.1
