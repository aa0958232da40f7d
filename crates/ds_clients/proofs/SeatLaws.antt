-- New clients, one after another.
use Rattle.std.proofs.Common.{◌≡◌, ℕ, zero, suc, ◌+◌, ◌-◌, ◌≤◌, take, length-append, length-take-le, List, [], ◌∷◌, ◌++◌, length, map}
use Rattle.std.proofs.Common.{replicate, refl, ap, sym, ◌∙◌, subst, arith}
use Rattle.std.specs.Prelude.{All}
use Rattle.std.specs.List.{range_with_len}
use Rattle.std.proofs.lemmas.List.{length-replicate}
use Rattle.std.proofs.lemmas.List.Elements.{All-nil, All-cons, All-head, All-tail}
use Rattle.ds_base.specs.Limits.{greatest_client}
use Rattle.ds_model.specs.Sessions.{Session, first_session}
use Rattle.ds_protocol.specs.Watermarks.{nothing_seen as no_counts}
use Rattle.ds_store.specs.Passes.{nothing_seen}
use Rattle.ds_store.specs.Passes.{PassParts}
use Rattle.ds_clients.specs.Clients.{AreSeated, clients_of}
use Rattle.ds_clients.specs.Runs.{AreWritten, passes_of, seen_of}
use Rattle.ds_client.specs.Sessions.{SessionParts}

pub record SeatedSoFar (shards n : ℕ) (sessions : List SessionParts) : Type 0 where
  pub seen : seen_of sessions ≡ replicate n (first_session shards)
  pub passes : passes_of sessions ≡ replicate n (nothing_seen shards)
  pub written : AreWritten sessions
  pub clients : clients_of sessions ≡ range_with_len 0 n

pub none_seated : (shards : ℕ) → SeatedSoFar shards 0 []
none_seated shards = record { seen = refl; passes = refl; written = tt; clients = refl }

pub mapped-push : {A B : Type 0} (f : A → B) (xs : List A) (x : A) → map f (xs ++ x ∷ []) ≡ map f xs ++ f x ∷ []
mapped-push f [] x = refl
mapped-push f (y ∷ xs) x = ap (λ ys. f y ∷ ys) (mapped-push f xs x)

same-push : {A : Type 0} (n : ℕ) (x : A) → replicate n x ++ x ∷ [] ≡ replicate (n + 1) x
same-push n x = by n ∙ ap (λ m. replicate m x) (let e : suc n ≡ n + 1 = omega arith in e) where
  by : (m : ℕ) → replicate m x ++ x ∷ [] ≡ replicate (suc m) x
  by zero = refl
  by (suc m) = ap (λ ys. x ∷ ys) (by m)

numbers-push : (from n : ℕ) → range_with_len from n ++ (from + n) ∷ [] ≡ range_with_len from (n + 1)
numbers-push from n = by from n ∙ ap (range_with_len from) (let e : suc n ≡ n + 1 = omega arith in e) where
  by : (a m : ℕ) → range_with_len a m ++ (a + m) ∷ [] ≡ range_with_len a (suc m)
  by a zero = ap (λ k. k ∷ []) (let e : a + zero ≡ a = omega arith in e)
  by a (suc m) =
      ap (λ k. a ∷ (range_with_len (a + 1) m ++ k ∷ [])) (let e : a + suc m ≡ a + 1 + m = omega arith in e)
      ∙ ap (λ ks. a ∷ ks) (by (a + 1) m)

written-push : (sessions : List SessionParts) (s : SessionParts) → AreWritten sessions → s.text ≡ [] → AreWritten (sessions ++ s ∷ [])
written-push [] s h is = (is, tt)
written-push (t ∷ sessions) s h is = (h.0, written-push sessions s h.1 is)

pub one_seated : {A : Type 0} (session : A → SessionParts) (shards n : ℕ) (xs : List A) (x : A) → SeatedSoFar shards n (map session xs)
    → (session x).seen ≡ first_session shards → (session x).pass ≡ nothing_seen shards → (session x).text ≡ []
    → (session x).client ≡ n → SeatedSoFar shards (n + 1) (map session (xs ++ x ∷ []))
one_seated session shards n xs x h seen pass text client = subst (SeatedSoFar shards (n + 1)) (sym (mapped-push session xs x)) (record {
  seen = mapped-push (λ (s : SessionParts). s.seen) (map session xs) (session x) ∙ (λ i. h.seen i ++ seen i ∷ [])
      ∙ same-push n (first_session shards);
  passes = mapped-push (λ (s : SessionParts). s.pass) (map session xs) (session x) ∙ (λ i. h.passes i ++ pass i ∷ [])
      ∙ same-push n (nothing_seen shards);
  written = written-push (map session xs) (session x) h.written text;
  clients = mapped-push (λ (s : SessionParts). s.client) (map session xs) (session x) ∙ (λ i. h.clients i ++ client i ∷ [])
      ∙ ap (λ k. range_with_len 0 n ++ k ∷ []) (let e : n ≡ 0 + n = omega arith in e) ∙ numbers-push 0 n;
})

pub all_seated : (shards n : ℕ) (sessions : List SessionParts) → n ≡ greatest_client + 1 → SeatedSoFar shards n sessions
    → AreSeated shards sessions
all_seated shards n sessions whole h = record {
  new = record {
    seen = h.seen ∙ ap (λ m. replicate m (first_session shards)) whole;
    passes = h.passes ∙ ap (λ m. replicate m (nothing_seen shards)) whole;
    written = h.written;
  };
  clients = h.clients ∙ ap (range_with_len 0) whole;
}

-- ---- the marks and the passes that are left

pub first_mark : (shards : ℕ) (mark : Session) (more rest : List Session) → rest ≡ mark ∷ more
    → All (λ m. m ≡ first_session shards) rest → mark ≡ first_session shards
first_mark shards mark more rest is all =
    All-head (λ m. m ≡ first_session shards) mark more (subst (All (λ m. m ≡ first_session shards)) is all)

pub last-is : {A : Type 0} (P : A → Type 0) (xs : List A) (x : A) → All P (xs ++ x ∷ []) → P x
last-is P [] x all = All-head P x [] all
last-is P (y ∷ xs) x all = last-is P xs x (All-tail P y (xs ++ x ∷ []) all)

pub front-is : {A : Type 0} (P : A → Type 0) (xs : List A) (x : A) → All P (xs ++ x ∷ []) → All P xs
front-is P [] x all = All-nil P
front-is P (y ∷ xs) x all =
    All-cons P y xs (All-head P y (xs ++ x ∷ []) all) (front-is P xs x (All-tail P y (xs ++ x ∷ []) all))

pub last_pass : (shards : ℕ) (passes others : List PassParts) (p : PassParts) → passes ≡ others ++ p ∷ []
    → All (λ q. q ≡ nothing_seen shards) passes → (p ≡ nothing_seen shards) × (length p.lists ≡ shards)
last_pass shards passes others p is all =
    let same : p ≡ nothing_seen shards =
    last-is (λ (q : PassParts). q ≡ nothing_seen shards) others p (subst (All (λ (q : PassParts). q ≡ nothing_seen shards)) is all) in
    (same, ap (λ (q : PassParts). length q.lists) same ∙ length-replicate shards [])

pub passes_new : (shards : ℕ) (passes others : List PassParts) (p : PassParts) → passes ≡ others ++ p ∷ []
    → All (λ q. q ≡ nothing_seen shards) passes → All (λ q. q ≡ nothing_seen shards) others
passes_new shards passes others p is all =
    front-is (λ (q : PassParts). q ≡ nothing_seen shards) others p (subst (All (λ (q : PassParts). q ≡ nothing_seen shards)) is all)

pub last_none : (shards : ℕ) (missed others : List Session) (m : Session) → missed ≡ others ++ m ∷ []
    → All (λ k. k ≡ no_counts shards) missed → m ≡ no_counts shards
last_none shards missed others m is all =
    last-is (λ (k : Session). k ≡ no_counts shards) others m (subst (All (λ (k : Session). k ≡ no_counts shards)) is all)

pub front_none : (shards : ℕ) (missed others : List Session) (m : Session) → missed ≡ others ++ m ∷ []
    → All (λ k. k ≡ no_counts shards) missed → All (λ k. k ≡ no_counts shards) others
front_none shards missed others m is all =
    front-is (λ (k : Session). k ≡ no_counts shards) others m (subst (All (λ (k : Session). k ≡ no_counts shards)) is all)

taken-front : {A : Type 0} (all others : List A) (x : A) (n : ℕ) → take (suc n) all ≡ others ++ x ∷ [] → suc n ≤ length all
    → others ≡ take n all
taken-front [] others x n is few = absurd (omega (arith, few))
taken-front (y ∷ all) [] x zero is few = refl
taken-front (y ∷ all) (z ∷ others) x zero is few =
    let long = ap (λ (ys : List _). length ys) is in absurd (omega (arith, long, length-append others (x ∷ [])))
taken-front (y ∷ all) [] x (suc n) is few =
    let long = ap (λ (ys : List _). length ys) is in absurd (omega (arith, long, few, length-take-le (suc n) all (omega (arith, few))))
taken-front (y ∷ all) (z ∷ others) x (suc n) is few =
    let first : z ≡ y = cc in
    let rest : take (suc n) all ≡ others ++ x ∷ [] = cc in
    λ i. first i ∷ taken-front all others x n rest (omega (arith, few)) i

pub passes_left : (all passes others : List PassParts) (p : PassParts) (long client : ℕ) → passes ≡ others ++ p ∷ []
    → client + 1 ≤ long → long ≡ length all → passes ≡ take (long - client) all → others ≡ take (long - (client + 1)) all
passes_left all passes others p long client is few whole taken =
    taken-front all others p (long - (client + 1))
    (ap (λ n. take n all) (let e : suc (long - (client + 1)) ≡ long - client = omega (arith, few) in e) ∙ sym taken ∙ is)
    (omega (arith, few, whole))
