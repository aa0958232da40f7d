-- The hubs of the shards by number, and what waits for one of them.
use Rattle.std.proofs.Common.{◌≡◌, ℕ, zero, suc, ◌+◌, ◌<◌, List, [], ◌∷◌, ◌++◌, length, map, drop, refl, ap, sym}
use Rattle.std.proofs.Common.{◌∙◌, subst, arith, append_assoc}
use Rattle.std.specs.Prelude.{Option, Some, None, slice_get, All, IfSome}
use Rattle.std.proofs.lemmas.List.Elements.{All-tail}
use Rattle.ds_hub.specs.Line.{HubId}
use Rattle.ds_indexdef.specs.declared.IndexDef.{IndexDef}
use Rattle.ds_log.specs.declared.Entry.{Entry}
use Rattle.ds_shard.specs.States.{IsOfShard, StateParts, begun}
use Rattle.ds_store_hubs.specs.Origins.{origin_of, origins, origins_from}

module _ (ledger shards : ℕ) (definitions : List IndexDef) (window : ℕ) where
  -- the shard of this number, which has absorbed nothing
  abbrev Begins : ℕ → Option StateParts → Type 0
  Begins number start = start ≡ Some (begun ledger (record { shards = shards; number = number }) definitions window)

  -- the hub of the next shard, where these are left
  next-from : (number : ℕ) (hubs : List HubId) (n : ℕ) (x : HubId × Option StateParts) (rest : List (HubId × Option StateParts))
      → x ∷ rest ≡ drop n (origins_from ledger shards definitions window number hubs)
      → (slice_get hubs n ≡ Some x.0) × Begins (number + n) x.1
      × (rest ≡ drop (suc n) (origins_from ledger shards definitions window number hubs))
      × (n < length hubs)
  next-from number [] zero x rest are = absurd (cc are)
  next-from number [] (suc n) x rest are = absurd (cc are)
  next-from number (h ∷ hs) zero x rest are =
      let head : x ≡ origin_of ledger (record { shards = shards; number = number }) definitions window h = cc are in
      let same : number ≡ number + 0 = omega arith in (
        ap (λ (o : HubId × Option StateParts). Some o.0) (sym head),
        subst (λ m. Begins m x.1) same (ap (λ (o : HubId × Option StateParts). o.1) head),
        (cc are),
        omega arith,
      )
  next-from number (h ∷ hs) (suc n) x rest are =
      let later = next-from (number + 1) hs n x rest are in
      let same : number + 1 + n ≡ number + suc n = omega arith in
      (later.0, subst (λ m. Begins m x.1) same later.1, later.2, omega (arith, later.3))

  -- one more shard, that of the next number
  pub origins-push : (number : ℕ) (opened : List (HubId × Option StateParts)) (x : HubId × Option StateParts)
      → opened ≡ origins_from ledger shards definitions window number (map (λ shard. shard.0) opened)
      → Begins (number + length opened) x.1
      → opened ++ x ∷ [] ≡ origins_from ledger shards definitions window number (map (λ shard. shard.0) (opened ++ x ∷ []))
  origins-push number [] x are is =
      let same : number + 0 ≡ number = omega arith in
      ap (λ (o : Option StateParts). (x.0, o) ∷ []) (subst (λ m. Begins m x.1) same is)
  origins-push number (y ∷ ys) x are is =
      let same : number + length (y ∷ ys) ≡ number + 1 + length ys = omega arith in
      let head : y ≡ origin_of ledger (record { shards = shards; number = number }) definitions window y.0 = cc are in
      let rest = origins-push (number + 1) ys x (cc are) (subst (λ m. Begins m x.1) same is) in
      ap (λ o. o ∷ ys ++ x ∷ []) head
      ∙ ap (λ os. origin_of ledger (record { shards = shards; number = number }) definitions window y.0 ∷ os) rest

-- there are as many as hubs
pub origins-many : (ledger shards : ℕ) (definitions : List IndexDef) (window number : ℕ) (hubs : List HubId)
    → length (origins_from ledger shards definitions window number hubs) ≡ length hubs
origins-many ledger shards definitions window number [] = refl
origins-many ledger shards definitions window number (h ∷ hs) = ap suc (origins-many ledger shards definitions window (number + 1) hs)

-- the hub of the shard of number n, where the shards from there on are left
pub origin-next : (ledger : ℕ) (definitions : List IndexDef) (window : ℕ) (hubs : List HubId) (n : ℕ) (x : HubId × Option StateParts)
    (rest : List (HubId × Option StateParts)) → x ∷ rest ≡ drop n (origins ledger definitions window hubs)
    → (slice_get hubs n ≡ Some x.0) × (x.1 ≡ Some (begun ledger (record { shards = length hubs; number = n }) definitions window))
    × (rest ≡ drop (suc n) (origins ledger definitions window hubs))
    × (n < length hubs)
origin-next ledger definitions window hubs n x rest are =
    let next = next-from ledger (length hubs) definitions window 0 hubs n x rest are in
    let same : 0 + n ≡ n = omega arith in
    (next.0, subst (λ m. Begins ledger (length hubs) definitions window m x.1) same next.1, next.2, next.3)

-- the first that waits is put behind what is pending
pub moved_over : {E : Type 0} (published pending rest : List E) (x : E)
    → (published ++ (pending ++ x ∷ [])) ++ rest ≡ (published ++ pending) ++ (x ∷ rest)
moved_over published pending rest x =
    append_assoc published (pending ++ x ∷ []) rest ∙ ap (λ xs. published ++ xs) (append_assoc pending (x ∷ []) rest)
    ∙ sym (append_assoc published pending (x ∷ rest))

-- what waits behind the first is of the shard, where all that waits is
pub rest_belong : (start : Option StateParts) (x : Entry) (xs : List Entry) → IfSome start (λ s. All (IsOfShard s.place) (x ∷ xs))
    → IfSome start (λ s. All (IsOfShard s.place) xs)
rest_belong None x xs own = tt
rest_belong (Some s) x xs own = All-tail (IsOfShard s.place) x xs own
