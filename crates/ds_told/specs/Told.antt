-- The numbers that the replies of a run tell together: acknowledged commits, drawn and accepted ids, printed counters.
use Rattle.std.specs.Prelude.{◌≡◌, ℕ, ◌+◌, ◌-◌, ◌<◌, ◌≤◌, List, [], ◌∷◌, true, ◌&&◌, ◌==◌, not, nat_lt, cond, flat_map, All, IsPermutation}
use Rattle.std.specs.Prelude.{Option, Some, None, Result, Ok, Err, ⊤}
use Rattle.std.specs.List.{range_with_len}
use Rattle.ds_base.specs.Limits.{greatest_id}
use Rattle.ds_request.specs.declared.call.Call.{Call}
use Rattle.ds_request.specs.declared.call.Call.TheVariants as call
use Rattle.ds_request.specs.declared.call.Request.{Request}
use Rattle.ds_reply.specs.declared.reply.Body.{Body}
use Rattle.ds_reply.specs.declared.reply.Body.TheVariants as body
use Rattle.ds_model.specs.Legal.{last_id}
use Rattle.ds_model.specs.Sessions.{first_id, next_above}
use Rattle.ds_told.specs.declared.draws.Draws.{Draws}
use Rattle.ds_told.specs.declared.draws.Draws.TheVariants as draws

pub record ToldParts : Type 0 where
  -- acknowledged commits
  pub commits : List ℕ
  -- ranges of drawn ids: the first one of each, and how many they are
  pub drawn : List (ℕ × ℕ)
  -- one more than the greatest accepted id of 2^52 or more; 0 where there is none
  pub accepted : ℕ
  -- the greatest printed counter; 0 where there is none
  pub printed : ℕ

-- the ids of ranges
abbrev pub ids_of : List (ℕ × ℕ) → List ℕ
ids_of = flat_map (λ (r : ℕ × ℕ). range_with_len r.0 r.1)

-- none of the ids is above the greatest one
abbrev pub EndWithin : (ℕ × ℕ) → Type 0
EndWithin r = r.0 + r.1 ≤ greatest_id

-- where ranges end of which each begins where the one before it ends; a range without ids may stand anywhere
abbrev pub end_from : ℕ → List (ℕ × ℕ) → Option ℕ
end_from end [] = Some end
end_from end (r ∷ rs) = cond (nat_lt 0 r.1 && not (r.0 == end)) None (end_from (end + r.1) rs)

-- the ids of ranges are those from the first one up to this end, each once; where there is none, they are so up to no bound
abbrev pub AreUpTo : List (ℕ × ℕ) → Option ℕ → Type 0
AreUpTo drawn (Some end) = (first_id ≤ end) × IsPermutation (ids_of drawn) (range_with_len first_id (end - first_id))
AreUpTo drawn None = (bound : ℕ) → first_id ≤ bound → IsPermutation (ids_of drawn) (range_with_len first_id (bound - first_id)) → ⊥

-- ---- one reply

-- which ids the reply to a request may tell as drawn
abbrev pub draws_by : Call → Draws
draws_by (call.Put key true properties) = draws.Key
draws_by (call.AllocateIds count) = draws.Range
draws_by _ = draws.Nothing

abbrev pub draws_of : Result Request Body → Draws
draws_of (Ok r) = draws_by r.call
draws_of (Err b) = draws.Nothing

-- the ids that it tells so
abbrev pub drawn_told : Draws → Body → List ℕ
drawn_told draws.Key (body.Put printed place) = last_id printed.elems
drawn_told draws.Range (body.AllocateIds first count) = range_with_len first count
drawn_told _ _ = []

-- they can be drawn: none of them is the greatest id
abbrev pub CanBeDrawn : Draws → Body → Type 0
CanBeDrawn draws.Key (body.Put printed place) = All (λ id. id < greatest_id) (last_id printed.elems)
CanBeDrawn draws.Range (body.AllocateIds first count) = first + count ≤ greatest_id
CanBeDrawn _ _ = ⊤

-- one more than the greatest accepted id of 2^52 or more
abbrev pub above_in : Body → ℕ
above_in (body.Put key at) = next_above key.elems
above_in (body.Delete key at) = next_above key.elems
above_in _ = 0

-- the printed counter
abbrev pub printed_in : Body → ℕ
printed_in (body.IdNotIssued id next) = next
printed_in (body.IdsExhausted next) = next
printed_in _ = 0

-- ---- all of them

-- the drawn ids are those from the first one up to a bound, each once; accepted ids are below it, printed counters not above
pub record AreIssued (drawn : List (ℕ × ℕ)) (accepted printed : ℕ) : Type 0 where
  pub bound : ℕ
  pub from_first : first_id ≤ bound
  pub each_once : IsPermutation (ids_of drawn) (range_with_len first_id (bound - first_id))
  pub accepted_below : accepted ≤ bound
  pub printed_within : printed ≤ bound
