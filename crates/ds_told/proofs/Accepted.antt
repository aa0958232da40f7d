-- Accepted ids are below a bound exactly where the counter above them isn't above it; and printed counters likewise.
use Rattle.std.proofs.Common.{◌≡◌, ℕ, ◌+◌, ◌<◌, ◌≤◌, List, [], ◌∷◌, ◌++◌, refl, arith, Bool, true, false, cond, All}
use Rattle.std.specs.Prelude.{max, fold, flat_map, nat_le}
use Rattle.std.proofs.lemmas.List.Elements.{All-nil, All-cons, All-append, All-head, All-tail}
use Rattle.ds_base.specs.declared.key.Ident.{Ident}
use Rattle.ds_base.specs.declared.key.Ident.TheVariants.{Id, Name}
use Rattle.ds_base.specs.declared.key.Elem.{Elem}
use Rattle.ds_reply.specs.declared.reply.Body.{Body}
use Rattle.ds_reply.specs.declared.reply.Body.TheVariants as body
use Rattle.ds_reply.specs.declared.reply.Reply.{Reply}
use Rattle.ds_model.specs.Legal.{accepted, accepted_in, counter_id, counter_ids, printed_next, printed_next_in}
use Rattle.ds_model.specs.Sessions.{first_id, next_above}
use Rattle.ds_told.specs.Told.{above_in, printed_in}

-- the parts of what holds of two lists
pub All-first : {X : Type 0} (P : X → Type 0) (xs ys : List X) → All P (xs ++ ys) → All P xs
All-first P [] ys all = All-nil P
All-first P (x ∷ xs) ys all = All-cons P x xs (All-head P x (xs ++ ys) all) (All-first P xs ys (All-tail P x (xs ++ ys) all))

pub All-second : {X : Type 0} (P : X → Type 0) (xs ys : List X) → All P (xs ++ ys) → All P ys
All-second P [] ys all = all
All-second P (x ∷ xs) ys all = All-second P xs ys (All-tail P x (xs ++ ys) all)

module _ (bound : ℕ) where
  abbrev Below : List ℕ → Type 0
  Below = All (λ id. id < bound)

  abbrev AreWithin : List ℕ → Type 0
  AreWithin = All (λ next. next ≤ bound)

  -- ---- one identifier

  -- the counter above an identifier that only the server gives
  abbrev id_above : Ident → ℕ
  id_above (Id n) = cond (nat_le first_id n) (n + 1) 0
  id_above (Name x) = 0

  own-above : (i : Ident) → Below (counter_id i) → id_above i ≤ bound
  own-above (Name x) below = omega arith
  own-above (Id n) below = by (nat_le first_id n) below where
    by : (b : Bool) → Below (cond b (n ∷ []) []) → cond b (n + 1) 0 ≤ bound
    by true all = let low : n < bound = All-head (λ id. id < bound) n [] all in omega (arith, low)
    by false all = omega arith

  own-below : (i : Ident) → id_above i ≤ bound → Below (counter_id i)
  own-below (Name x) within = All-nil (λ id. id < bound)
  own-below (Id n) within = by (nat_le first_id n) within where
    by : (b : Bool) → cond b (n + 1) 0 ≤ bound → Below (cond b (n ∷ []) [])
    by true low = All-cons (λ id. id < bound) n [] (omega (arith, low)) (All-nil (λ id. id < bound))
    by false low = All-nil (λ id. id < bound)

  -- ---- a path

  path-above : (m : ℕ) (es : List Elem) → m ≤ bound → Below (counter_ids es)
      → fold (λ next (e : Elem). max next (id_above e.ident)) m es ≤ bound
  path-above m [] low below = low
  path-above m (e ∷ es) low below =
      let here = own-above e.ident (All-first (λ id. id < bound) (counter_id e.ident) (counter_ids es) below) in
      path-above (max m (id_above e.ident)) es (omega (arith, low, here)) (All-second (λ id. id < bound) (counter_id e.ident) (counter_ids es) below)

  path-below : (m : ℕ) (es : List Elem) → fold (λ next (e : Elem). max next (id_above e.ident)) m es ≤ bound
      → (m ≤ bound) × Below (counter_ids es)
  path-below m [] within = (within, All-nil (λ id. id < bound))
  path-below m (e ∷ es) within =
      let rest = path-below (max m (id_above e.ident)) es within in
      let low = rest.0 in (
        omega (arith, low),
        All-append (λ id. id < bound) (counter_id e.ident) (counter_ids es) (own-below e.ident (omega (arith, low))) rest.1,
      )

  -- ---- one reply

  body-above : (said : Body) → Below (accepted_in said) → above_in said ≤ bound
  body-above (body.Put key at) below = path-above 0 key.elems (omega arith) below
  body-above (body.Delete key at) below = path-above 0 key.elems (omega arith) below
  body-above _ below = omega arith

  body-below : (said : Body) → above_in said ≤ bound → Below (accepted_in said)
  body-below (body.Put key at) within = (path-below 0 key.elems within).1
  body-below (body.Delete key at) within = (path-below 0 key.elems within).1
  body-below _ within = All-nil (λ id. id < bound)

  body-printed : (said : Body) → AreWithin (printed_next_in said) → printed_in said ≤ bound
  body-printed (body.IdNotIssued id next) all = All-head (λ n. n ≤ bound) next [] all
  body-printed (body.IdsExhausted next) all = All-head (λ n. n ≤ bound) next [] all
  body-printed _ all = omega arith

  body-prints : (said : Body) → printed_in said ≤ bound → AreWithin (printed_next_in said)
  body-prints (body.IdNotIssued id next) within = All-cons (λ n. n ≤ bound) next [] within (All-nil (λ n. n ≤ bound))
  body-prints (body.IdsExhausted next) within = All-cons (λ n. n ≤ bound) next [] within (All-nil (λ n. n ≤ bound))
  body-prints _ within = All-nil (λ n. n ≤ bound)

  -- ---- all replies

  pub accepted_above : (m : ℕ) (replies : List Reply) → m ≤ bound → Below (flat_map accepted replies)
      → fold (λ n (r : Reply). max n (above_in r.body)) m replies ≤ bound
  accepted_above m [] low below = low
  accepted_above m (r ∷ replies) low below =
      let here = body-above r.body (All-first (λ id. id < bound) (accepted r) (flat_map accepted replies) below) in
      accepted_above (max m (above_in r.body)) replies (omega (arith, low, here))
      (All-second (λ id. id < bound) (accepted r) (flat_map accepted replies) below)

  pub accepted_below : (m : ℕ) (replies : List Reply) → fold (λ n (r : Reply). max n (above_in r.body)) m replies ≤ bound
      → (m ≤ bound) × Below (flat_map accepted replies)
  accepted_below m [] within = (within, All-nil (λ id. id < bound))
  accepted_below m (r ∷ replies) within =
      let rest = accepted_below (max m (above_in r.body)) replies within in
      let low = rest.0 in (
        omega (arith, low),
        All-append (λ id. id < bound) (accepted r) (flat_map accepted replies) (body-below r.body (omega (arith, low))) rest.1,
      )

  pub printed_above : (m : ℕ) (replies : List Reply) → m ≤ bound → AreWithin (flat_map printed_next replies)
      → fold (λ n (r : Reply). max n (printed_in r.body)) m replies ≤ bound
  printed_above m [] low all = low
  printed_above m (r ∷ replies) low all =
      let here = body-printed r.body (All-first (λ n. n ≤ bound) (printed_next r) (flat_map printed_next replies) all) in
      printed_above (max m (printed_in r.body)) replies (omega (arith, low, here))
      (All-second (λ n. n ≤ bound) (printed_next r) (flat_map printed_next replies) all)

  pub printed_within : (m : ℕ) (replies : List Reply) → fold (λ n (r : Reply). max n (printed_in r.body)) m replies ≤ bound
      → (m ≤ bound) × AreWithin (flat_map printed_next replies)
  printed_within m [] within = (within, All-nil (λ n. n ≤ bound))
  printed_within m (r ∷ replies) within =
      let rest = printed_within (max m (printed_in r.body)) replies within in
      let low = rest.0 in (
        omega (arith, low),
        All-append (λ n. n ≤ bound) (printed_next r) (flat_map printed_next replies) (body-prints r.body (omega (arith, low))) rest.1,
      )
