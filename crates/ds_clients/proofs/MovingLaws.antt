-- Clients that move to another store one after another, and a pass that meets them.
use Rattle.std.proofs.Common.{◌≡◌, ℕ, ◌+◌, ◌-◌, ◌<◌, ◌≤◌, List, [], ◌∷◌, ◌++◌, length, map, take, reverse, refl, ap, sym, ◌∙◌, subst, arith}
use Rattle.std.proofs.Common.{append_assoc, length-append}
use Rattle.std.specs.Prelude.{All}
use Rattle.std.proofs.lemmas.List.{append-nil, length-map, length-reverse, reverse-append}
use Rattle.std.proofs.lemmas.List.Elements.{All-head, All-nil, All-push, All-tail, All-weaker}
use Rattle.std.proofs.Math.Seq.{take-append_seam}
use Rattle.ds_store.specs.Answered.{AreAtLeast}
use Rattle.ds_store.specs.Lower.{IsNoLower}
use Rattle.ds_store.specs.Passes.{HasRead, PassParts, counts_of}
use Rattle.ds_client.specs.Sessions.{SessionParts}
use Rattle.ds_client.proofs.SeeingLaws.{least_longer, least_through}
use Rattle.ds_clients.specs.Clients.{clients_of}
use Rattle.ds_clients.specs.Moving.{AreMoved, HaveBeenMet, IsMetBy}
use Rattle.ds_clients.specs.Runs.{AreWritten, IsIdle, passes_of, seen_of}
use Rattle.ds_clients.proofs.RunLaws.{clients_mapped}
use Rattle.ds_clients.proofs.SeatLaws.{front-is, last-is, mapped-push}

-- Of all sessions some have moved, each with the last pass that was left, and the rest are to move; the passes that they had stand behind
-- others.
pub record MovedSoFar (all : List SessionParts) (passes_first passes old_first old : List PassParts) (rest moved : List SessionParts)
    : Type 0 where
  pub clients : clients_of moved ++ clients_of rest ≡ clients_of all
  pub seen : seen_of moved ++ seen_of rest ≡ seen_of all
  pub texts : map (λ s. s.text) moved ++ map (λ s. s.text) rest ≡ map (λ s. s.text) all
  pub idle : All (λ s. IsIdle s.pass) moved
  pub taken : passes_first ≡ passes ++ reverse (passes_of moved)
  pub given : old ++ passes_of rest ≡ old_first ++ passes_of all
  pub no_lower : All (λ p. All (λ s. IsNoLower s.pass p) rest) passes
  pub idle_left : All IsIdle passes

pub none_moved : (all : List SessionParts) (passes old : List PassParts) → All (λ p. All (λ s. IsNoLower s.pass p) all) passes
    → All IsIdle passes → MovedSoFar all passes passes old old all []
none_moved all passes old no_lower idle = record {
  clients = refl;
  seen = refl;
  texts = refl;
  idle = All-nil (λ s. IsIdle s.pass);
  taken = sym (append-nil passes);
  given = refl;
  no_lower = no_lower;
  idle_left = idle;
}

-- the next one's pass is no lower than that of the session
pub next_lower : {C : Type 0} (session : C → SessionParts) (c : C) (rest more : List C) (passes others : List PassParts) (p : PassParts)
    → rest ≡ c ∷ more → passes ≡ others ++ p ∷ [] → All (λ q. All (λ s. IsNoLower s.pass q) (map session rest)) passes
    → IsNoLower (session c).pass p
next_lower session c rest more passes others p is_rest is_passes all =
    All-head (λ s. IsNoLower s.pass p) (session c) (map session more)
    (subst (λ (cs : List _). All (λ s. IsNoLower s.pass p) (map session cs)) is_rest
    (last-is (λ q. All (λ s. IsNoLower s.pass q) (map session rest)) others p
    (subst (All (λ q. All (λ s. IsNoLower s.pass q) (map session rest))) is_passes all)))

-- something that stays the same of the one that moves
same-push : {A : Type 0} (f : SessionParts → A) (moved rest : List SessionParts) (s t : SessionParts) → f t ≡ f s
    → map f (moved ++ t ∷ []) ++ map f rest ≡ map f moved ++ map f (s ∷ rest)
same-push f [] rest s t same = ap (λ b. b ∷ map f rest) same
same-push f (m ∷ moved) rest s t same = ap (λ bs. f m ∷ bs) (same-push f moved rest s t same)

one-moved : (all : List SessionParts) (passes_first old_first : List PassParts) (s : SessionParts) (p : PassParts)
    (others old : List PassParts) (rest moved : List SessionParts)
    → MovedSoFar all passes_first (others ++ p ∷ []) old_first old (s ∷ rest) moved
    → MovedSoFar all passes_first others old_first (old ++ s.pass ∷ []) rest (moved ++ record s { pass = p } ∷ [])
one-moved all passes_first old_first s p others old rest moved h = record {
  clients = same-push (λ s. s.client) moved rest s (record s { pass = p }) refl ∙ h.clients;
  seen = same-push (λ s. s.seen) moved rest s (record s { pass = p }) refl ∙ h.seen;
  texts = same-push (λ s. s.text) moved rest s (record s { pass = p }) refl ∙ h.texts;
  idle = All-push (λ s. IsIdle s.pass) moved (record s { pass = p }) h.idle (last-is IsIdle others p h.idle_left);
  taken = h.taken ∙ append_assoc others (p ∷ []) (reverse (passes_of moved))
      ∙ ap (λ ps. others ++ ps) (sym (ap reverse (mapped-push (λ (s : SessionParts). s.pass) moved (record s { pass = p }))
      ∙ reverse-append (passes_of moved) (p ∷ [])));
  given = append_assoc old (s.pass ∷ []) (passes_of rest) ∙ h.given;
  no_lower = All-weaker (λ q. All (λ s. IsNoLower s.pass q) (s ∷ rest)) (λ q. All (λ s. IsNoLower s.pass q) rest)
      (λ q. All-tail (λ s. IsNoLower s.pass q) s rest) others
      (front-is (λ q. All (λ s. IsNoLower s.pass q) (s ∷ rest)) others p h.no_lower);
  idle_left = front-is IsIdle others p h.idle_left;
}

-- the next client moves
pub one_moved : {C D : Type 0} (before : C → SessionParts) (after : D → SessionParts) (all : List SessionParts)
    (passes_first old_first : List PassParts) (rest more : List C) (c : C) (passes others : List PassParts) (p : PassParts)
    (moved now : List D) (d : D) (old new : List PassParts) (q : PassParts) → rest ≡ c ∷ more → passes ≡ others ++ p ∷ []
    → now ≡ moved ++ d ∷ [] → after d ≡ record (before c) { pass = p } → new ≡ old ++ q ∷ [] → q ≡ (before c).pass
    → MovedSoFar all passes_first passes old_first old (map before rest) (map after moved)
    → MovedSoFar all passes_first others old_first new (map before more) (map after now)
one_moved before after all passes_first old_first rest more c passes others p moved now d old new q is_rest is_passes is_now is_after is_new
    is_pass h =
    subst (λ (ds : List _). MovedSoFar all passes_first others old_first new (map before more) (map after ds)) (sym is_now)
    (subst (MovedSoFar all passes_first others old_first new (map before more)) (sym (mapped-push after moved d))
    (subst (λ s. MovedSoFar all passes_first others old_first new (map before more) (map after moved ++ s ∷ [])) (sym is_after)
    (subst (λ qs. MovedSoFar all passes_first others old_first qs (map before more)
    (map after moved ++ record (before c) { pass = p } ∷ [])) (sym (is_new ∙ ap (λ r. old ++ r ∷ []) is_pass))
    (one-moved all passes_first old_first (before c) p others old (map before more) (map after moved)
    (subst (λ ps. MovedSoFar all passes_first ps old_first old (before c ∷ map before more) (map after moved)) is_passes
    (subst (λ (cs : List _). MovedSoFar all passes_first passes old_first old (map before cs) (map after moved)) is_rest h))))))

written-same : (before after : List SessionParts) → map (λ s. s.text) after ≡ map (λ s. s.text) before → AreWritten before
    → AreWritten after
written-same [] [] is written = tt
written-same [] (t ∷ after) is written = cc
written-same (s ∷ before) [] is written = tt
written-same (s ∷ before) (t ∷ after) is written =
    let head : t.text ≡ s.text = cc in
    let tail : map (λ s. s.text) after ≡ map (λ s. s.text) before = cc in
    (head ∙ written.0, written-same before after tail written.1)

-- all have moved
pub all_moved : {all moved : List SessionParts} {passes_first passes old_first old : List PassParts}
    → MovedSoFar all passes_first passes old_first old [] moved → AreMoved all moved
all_moved {all} {moved} h = record {
  clients = sym (append-nil (clients_of moved)) ∙ h.clients;
  seen = sym (append-nil (seen_of moved)) ∙ h.seen;
  texts = texts;
  idle = h.idle;
  written = written-same all moved texts;
} where
  texts : map (λ s. s.text) moved ≡ map (λ s. s.text) all
  texts = sym (append-nil (map (λ s. s.text) moved)) ∙ h.texts

-- the passes that are left are those in front
pub passes_before : (all passes : List PassParts) (before after : List SessionParts) (many : ℕ) → AreMoved before after
    → length before ≡ many → all ≡ passes ++ reverse (passes_of after) → passes ≡ take (length all - many) all
passes_before all passes before after many moved so_many is =
    sym (take-append_seam passes (reverse (passes_of after))) ∙ ap (λ (ps : List PassParts). take (length passes) ps) (sym is)
    ∙ ap (λ n. take n all) left where
      long : length all ≡ length passes + length (reverse (passes_of after))
      long = ap (λ (ps : List PassParts). length ps) is ∙ length-append passes (reverse (passes_of after))

      as_many : length (clients_of after) ≡ length (clients_of before)
      as_many = ap (λ (ns : List ℕ). length ns) moved.clients

      left : length passes ≡ length all - many
      left =
          omega (
            arith,
            long,
            length-reverse (passes_of after),
            length-map after (λ (s : SessionParts). s.pass),
            as_many,
            length-map after (λ (s : SessionParts). s.client),
            length-map before (λ (s : SessionParts). s.client),
            so_many,
          )

-- who has moved has the same number
pub numbers_moved : {C D : Type 0} (before : C → SessionParts) (after : D → SessionParts) (cs : List C) (ds : List D)
    → AreMoved (map before cs) (map after ds) → map (λ d. (after d).client) ds ≡ map (λ c. (before c).client) cs
numbers_moved before after cs ds moved =
    sym (clients_mapped after (λ d. []) ds) ∙ moved.clients ∙ clients_mapped before (λ c. []) cs

-- ---- a pass that meets all clients

-- what was met stays met
met-later : (p q : PassParts) (s : SessionParts) → HasRead p q → IsMetBy p s → IsMetBy q s
met-later p q s read met = (
  omega (arith, met.0, read.place),
  least_through (counts_of s.pass) (counts_of p) (counts_of q) met.1 (least_longer p.lists q.lists read.lists),
  omega (arith, met.2, read.next),
  All-weaker (λ n. n ≤ p.place) (λ n. n ≤ q.place) (λ n le. omega (arith, le, read.place)) s.pass.commits met.3,
  All-weaker (λ id. id < p.next) (λ id. id < q.next) (λ id lt. omega (arith, lt, read.next)) s.pass.draws met.4,
)

-- the pass meets one more, whose own pass this is
pub met_more : {A : Type 0} (session : A → SessionParts) (p q own : PassParts) (xs : List A) (x : A) → HasRead p q
    → HaveBeenMet p (map session xs) → own ≡ (session x).pass → own.place ≤ q.place → AreAtLeast (counts_of own) (counts_of q)
    → own.next ≤ q.next → All (λ n. n ≤ own.place) own.commits → All (λ id. id < own.next) own.draws
    → HaveBeenMet q (map session (xs ++ x ∷ []))
met_more session p q own xs x read met is place counts next commits draws =
    subst (HaveBeenMet q) (sym (mapped-push session xs x))
    (All-push (IsMetBy q) (map session xs) (session x) (All-weaker (IsMetBy p) (IsMetBy q) (λ s. met-later p q s read) (map session xs) met)
    (subst (λ (o : PassParts). (o.place ≤ q.place) × AreAtLeast (counts_of o) (counts_of q) × (o.next ≤ q.next)
    × All (λ n. n ≤ q.place) o.commits × All (λ id. id < q.next) o.draws) is (
      place,
      counts,
      next,
      All-weaker (λ n. n ≤ own.place) (λ n. n ≤ q.place) (λ n le. omega (arith, le, place)) own.commits commits,
      All-weaker (λ id. id < own.next) (λ id. id < q.next) (λ id lt. omega (arith, lt, next)) own.draws draws,
    )))
