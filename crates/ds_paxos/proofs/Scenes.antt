-- A step of the world, seen at each place: there it is a step of the instance, and everywhere else nothing happens.
use Rattle.std.proofs.Common.{◌≡◌, ◌≢◌, inl, inr, ℕ, zero, suc, ◌+◌, ◌%◌, ◌<◌, arith, List, [], ◌∷◌, length, map, mod-lt}
use Rattle.std.proofs.Common.{refl, sym, ap, ◌∙◌, subst, get_or-set_other, get_or-set_same, length-set}
use Rattle.std.proofs.lemmas.Bool.Decides.{eqb_tells}
use Rattle.std.specs.List.{range_with_len}
use Rattle.ds_paxos.specs.declared.change.Change.{Change}
use Rattle.ds_paxos.specs.declared.instance.Instance.{Instance}
use Rattle.ds_paxos.specs.declared.message.Content.{Content}
use Rattle.ds_paxos.specs.declared.message.Message.{Message}
use Rattle.ds_paxos.specs.declared.message.Place.{Place}
use Rattle.ds_paxos.specs.Members.{idle, instance_in, restarted, with_instance}
use Rattle.ds_paxos.specs.Rules.{answer, to_all}
use Rattle.ds_paxos.specs.Worlds.{WorldParts, changed, instance_of, kept_by, restarting}
use Rattle.ds_paxos.proofs.Facts.{Lawful, Scene}
use Rattle.ds_paxos.proofs.Lists.{Member, member_cases, member_left, member_right}
use Rattle.ds_paxos.proofs.Moves.{Moves, News, Quiet, Said}
use Rattle.ds_paxos.proofs.Places.{restarted_here, tells_place, with_elsewhere, with_here}
use Rattle.ds_paxos.proofs.Steps.{idles, stays}

-- the instances of a place
abbrev pub scene : WorldParts → Place → Scene
scene w place = record {
  at_member = λ k. instance_of w k place;
  sent = λ b c. (to : ℕ) × Member (record { to = to; place = place; ballot = b; content = c }) w.sent;
}

-- each message is for a member, and each instance is as Lamport's proof has it; `V` is true of what was proposed for a place
pub record Safe (n : ℕ) (V : Place → List ℕ → Type 0) (w : WorldParts) : Type 0 where
  pub size : length w.members ≡ n
  pub addressed : (message : Message) → Member message w.sent → message.to < n
  pub lawful : (place : Place) → Lawful n (V place) (scene w place)

-- ---- what is sent

-- the messages of a change are those news
pub record Sends (n : ℕ) (place : Place) (news : News) (sends : List Message) : Type 0 where
  pub out : (message : Message) → Member message sends → (message.place ≡ place) × (news ≡ Said message.ballot message.content) × (message.to < n)
  pub inside : (b : ℕ) (c : Content) → news ≡ Said b c → (to : ℕ) × Member (record { to = to; place = place; ballot = b; content = c }) sends

pub sends_nothing : (n : ℕ) (place : Place) → Sends n place Quiet []
sends_nothing n place = record { out = λ message m. absurd m; inside = λ b c e. absurd (cc e) }

said_ballot : (b d : ℕ) (c e : Content) → Said b c ≡ Said d e → d ≡ b
said_ballot b d c e s = cc

said_content : (b d : ℕ) (c e : Content) → Said b c ≡ Said d e → e ≡ c
said_content b d c e s = cc

pub sends_answer : (n : ℕ) (place : Place) (b : ℕ) (c : Content) → 0 < n → Sends n place (Said b c) (answer n place b c)
sends_answer n place b c some = record {
  out = λ message m. elim m [
    | inl e ↦ (
      ap (λ (t : Message). t.place) e,
      sym (ap (λ (t : Message). Said t.ballot t.content) e),
      (let to : message.to ≡ b % n = ap (λ (t : Message). t.to) e in let less = mod-lt b {m = n} some in omega arith),
    )
    | inr none ↦ absurd none
  ];
  inside = λ d e s. (b % n, inl (λ i. record { to = b % n; place = place; ballot = said_ballot b d c e s i; content = said_content b d c e s i }));
}

member_map : {A B : Type 0} (f : A → B) (y : B) (xs : List A) → Member y (map f xs) → (x : A) × (Member x xs × (y ≡ f x))
member_map f y [] m = absurd m
member_map f y (x ∷ xs) (inl e) = (x, (inl refl, e))
member_map f y (x ∷ xs) (inr m) = let found = member_map f y xs m in (found.0, (inr found.1.0, found.1.1))

range_below : (a n k : ℕ) → Member k (range_with_len a n) → k < a + n
range_below a zero k m = absurd m
range_below a (suc n) k (inl e) = omega arith
range_below a (suc n) k (inr m) = let below = range_below (a + 1) n k m in omega arith

pub sends_all : (n : ℕ) (place : Place) (b : ℕ) (c : Content) → 0 < n → Sends n place (Said b c) (to_all n place b c)
sends_all n place b c some = record {
  out = λ message m. let found = member_map to message (range_with_len 0 n) m in (
    ap (λ (t : Message). t.place) found.1.1,
    sym (ap (λ (t : Message). Said t.ballot t.content) found.1.1),
    (let same : message.to ≡ found.0 = ap (λ (t : Message). t.to) found.1.1 in let below = range_below 0 n found.0 found.1.0 in omega arith),
  );
  inside = λ d e s. (0, first n some d e s);
}
  where
    to : ℕ → Message
    to = λ k. record { to = k; place = place; ballot = b; content = c }

    first : (j : ℕ) → 0 < j → (d : ℕ) (e : Content) → Said b c ≡ Said d e
        → Member (record { to = 0; place = place; ballot = d; content = e }) (map to (range_with_len 0 j))
    first zero less d e s = absurd (omega arith)
    first (suc j) less d e s =
        inl (λ i. record { to = 0; place = place; ballot = said_ballot b d c e s i; content = said_content b d c e s i })

-- ---- a change

module _ (n : ℕ) (w : WorldParts) (m : ℕ) (place : Place) (change : Change) (news : News)
    (inside : m < length w.members) (sends : Sends n place news change.sends) where
  now : WorldParts
  now = changed w m place change

  kept_here : kept_by (changed w m place change) m ≡ with_instance (kept_by w m) place change.instance
  kept_here = get_or-set_same w.members m (with_instance (kept_by w m) place change.instance) [] inside

  kept_elsewhere : (k : ℕ) → k ≢ m → kept_by (changed w m place change) k ≡ kept_by w k
  kept_elsewhere k other = get_or-set_other w.members m k (with_instance (kept_by w m) place change.instance) [] other

  -- the place of the change
  pub moves_here : Moves m change.instance news (scene w place) (scene (changed w m place change) place)
  moves_here = record {
    kept = λ b c s. (s.0, member_left (record { to = s.0; place = place; ballot = b; content = c }) w.sent change.sends s.1);
    split = λ b c s. elim (member_cases (record { to = s.0; place = place; ballot = b; content = c }) w.sent change.sends s.1) [
      | inl old ↦ inl (s.0, old)
      | inr new ↦ inr (sends.out (record { to = s.0; place = place; ballot = b; content = c }) new).1
    ];
    added = λ b c e. let found = sends.inside b c e in
        (found.0, member_right (record { to = found.0; place = place; ballot = b; content = c }) w.sent change.sends found.1);
    cases = λ k. elim (eqb_tells k m) [
      | inl same ↦ inl (
        same.1,
        subst (λ (j : ℕ). instance_of (changed w m place change) j place ≡ change.instance) (sym same.1)
            (ap (λ (l : List (Place × Instance)). instance_in l place) kept_here ∙ with_here (kept_by w m) place change.instance),
      )
      | inr other ↦ inr (other.1, ap (λ (l : List (Place × Instance)). instance_in l place) (kept_elsewhere k other.1))
    ];
  }

  -- any other place
  pub moves_elsewhere : (p : Place) → p ≢ place → Moves m (instance_of w m p) Quiet (scene w p) (scene (changed w m place change) p)
  moves_elsewhere p apart = record {
    kept = λ b c s. (s.0, member_left (record { to = s.0; place = p; ballot = b; content = c }) w.sent change.sends s.1);
    split = λ b c s. elim (member_cases (record { to = s.0; place = p; ballot = b; content = c }) w.sent change.sends s.1) [
      | inl old ↦ inl (s.0, old)
      | inr new ↦ absurd (apart (sends.out (record { to = s.0; place = p; ballot = b; content = c }) new).0)
    ];
    added = λ b c e. absurd (cc e);
    cases = λ k. elim (eqb_tells k m) [
      | inl same ↦ inl (
        same.1,
        subst (λ (j : ℕ). instance_of (changed w m place change) j p ≡ instance_of w m p) (sym same.1)
            (ap (λ (l : List (Place × Instance)). instance_in l p) kept_here ∙ with_elsewhere (kept_by w m) p place change.instance apart),
      )
      | inr other ↦ inr (other.1, ap (λ (l : List (Place × Instance)). instance_in l p) (kept_elsewhere k other.1))
    ];
  }

  -- where the step of the instance is one of Paxos, the world stays as the proof has it
  pub safe_changed : (V : Place → List ℕ → Type 0) → Safe n V w
      → (Moves m change.instance news (scene w place) (scene (changed w m place change) place) → Lawful n (V place) (scene w place)
      → Lawful n (V place) (scene (changed w m place change) place))
      → Safe n V (changed w m place change)
  safe_changed V safe keeps = record {
    size = length-set w.members m (with_instance (kept_by w m) place change.instance) ∙ safe.size;
    addressed = λ message i. elim (member_cases message w.sent change.sends i) [
      | inl old ↦ safe.addressed message old
      | inr new ↦ (sends.out message new).2
    ];
    lawful = λ p. elim (tells_place p place) [
      | inl same ↦ subst (λ (q : Place). Lawful n (V q) (scene (changed w m place change) q)) (sym same) (keeps moves_here (safe.lawful place))
      | inr other ↦ stays n (V p) m (scene w p) (scene (changed w m place change) p) (moves_elsewhere p other) (safe.lawful p)
    ];
  }

-- ---- a restart

pub safe_restarted : (n : ℕ) (V : Place → List ℕ → Type 0) (w : WorldParts) (m : ℕ) → m < length w.members → Safe n V w → Safe n V (restarting w m)
safe_restarted n V w m inside safe = record {
  size = length-set w.members m (restarted (kept_by w m)) ∙ safe.size;
  addressed = safe.addressed;
  lawful = λ p. idles n (V p) m (scene w p) (scene (restarting w m) p) (moves p) (safe.lawful p);
}
  where
    moves : (p : Place) → Moves m (idle (instance_of w m p)) Quiet (scene w p) (scene (restarting w m) p)
    moves p = record {
      kept = λ b c s. s;
      split = λ b c s. inl s;
      added = λ b c e. absurd (cc e);
      cases = λ k. elim (eqb_tells k m) [
        | inl same ↦ inl (
          same.1,
          subst (λ (j : ℕ). instance_of (restarting w m) j p ≡ idle (instance_of w m p)) (sym same.1)
              (ap (λ (l : List (Place × Instance)). instance_in l p) (get_or-set_same w.members m (restarted (kept_by w m)) [] inside)
              ∙ restarted_here (kept_by w m) p),
        )
        | inr other ↦ inr (
          other.1,
          ap (λ (l : List (Place × Instance)). instance_in l p) (get_or-set_other w.members m k (restarted (kept_by w m)) [] other.1),
        )
      ];
    }
