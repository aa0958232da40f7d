-- Every list of events keeps the world as Lamport's proof has it.
use Rattle.std.proofs.Common.{◌≡◌, inl, inr, ℕ, zero, suc, ◌<◌, max, arith, List, [], ◌∷◌, length, slice_get, Bool, true, false, nat_le, nat_lt}
use Rattle.std.proofs.Common.{Option, Some, None, Ok, Err, refl, sym, ap, ◌∙◌, subst, leb-true, ltb-true, cond}
use Rattle.std.specs.List.{Contains}
use Rattle.std.proofs.lemmas.List.{length-replicate}
use Rattle.ds_paxos.specs.declared.change.Change.{Change}
use Rattle.ds_paxos.specs.declared.event.Event.{Event}
use Rattle.ds_paxos.specs.declared.event.Event.TheVariants.{Propose, Deliver, Restart}
use Rattle.ds_paxos.specs.declared.event.StepRefused.TheVariants.{NoMember, NoBallot}
use Rattle.ds_paxos.specs.declared.instance.Attempt.{Attempt}
use Rattle.ds_paxos.specs.declared.instance.Instance.{Instance}
use Rattle.ds_paxos.specs.declared.message.Content.{Content}
use Rattle.ds_paxos.specs.declared.message.Content.TheVariants.{Prepare, Promise, Accept, Accepted, Chosen}
use Rattle.ds_paxos.specs.declared.message.Message.{Message}
use Rattle.ds_paxos.specs.declared.message.Place.{Place}
use Rattle.ds_paxos.specs.declared.message.Promised.{Promised}
use Rattle.ds_paxos.specs.Ballots.{is_majority}
use Rattle.ds_paxos.specs.Members.{blank, instance_in}
use Rattle.ds_paxos.specs.Rules.{answer, ballot_of, counts_accepted, counts_promise, entry_of, on_accept, on_accepted, on_chosen, on_content, on_prepare, on_promise, on_propose}
use Rattle.ds_paxos.specs.Rules.{to_all, with_accepter, with_promise}
use Rattle.ds_paxos.specs.Runs.{Agree, HoldsProposed, IsProposed, after_all, after_step, run}
use Rattle.ds_paxos.specs.Worlds.{WorldParts, changed, changed_if, delivering, fresh, greatest_ballot, instance_of, kept_by, restarting, step_of}
use Rattle.ds_paxos.proofs.Agreed.{chosen_proposed, chosen_same}
use Rattle.ds_paxos.proofs.Ballots.{next_own}
use Rattle.ds_paxos.proofs.Lists.{Member}
use Rattle.ds_paxos.proofs.Moves.{Quiet, Said}
use Rattle.ds_paxos.proofs.Scenes.{Safe, Sends, safe_changed, safe_restarted, scene, sends_all, sends_answer, sends_nothing}
use Rattle.ds_paxos.proofs.Steps.{accepts, asked_news, chosen_news, hears, learns, prepares, promises, proposes}

-- a message that was sent
pub sent_at : (xs : List Message) (k : ℕ) (x : Message) → slice_get xs k ≡ Some x → Member x xs
sent_at [] k x e = absurd (cc e)
sent_at (y ∷ ys) zero x e = inl (let same : y ≡ x = cc in sym same)
sent_at (y ∷ ys) (suc k) x e = inr (sent_at ys k x e)

-- ---- what comes to a member

module _ (n : ℕ) (V : Place → List ℕ → Type 0) (w : WorldParts) (m : ℕ) (place : Place) (b : ℕ) (inside : m < n) (safe : Safe n V w) where
  within : m < length w.members
  within = let e = safe.size in omega arith

  prepared : Safe n V (changed_if w m place (on_prepare n m place b (instance_of w m place)))
  prepared = by (nat_le (instance_of w m place).promised b) refl
    where
      change : Change
      change = record {
        instance = record (instance_of w m place) { promised = b };
        sends = answer n place b (Promise (record { member = m; accepted = (instance_of w m place).accepted }));
      }

      by : (o : Bool) → nat_le (instance_of w m place).promised b ≡ o → Safe n V (changed_if w m place (cond o (Some change) None))
      by true e = safe_changed n w m place change (Said b (Promise (record { member = m; accepted = (instance_of w m place).accepted }))) within
          (sends_answer n place b (Promise (record { member = m; accepted = (instance_of w m place).accepted })) (omega arith)) V safe
          (λ move law. prepares n (V place) m b (scene w place) (scene (changed w m place change) place) inside (leb-true _ _ e) move law)
      by false e = safe

  accepted : (v : List ℕ) → (scene w place).sent b (Accept v) → Safe n V (changed_if w m place (on_accept n m place b v (instance_of w m place)))
  accepted v said = by (nat_le (instance_of w m place).promised b) refl
    where
      change : Change
      change = record {
        instance = record (instance_of w m place) { promised = b; accepted = Some (record { ballot = b; entry = v }) };
        sends = answer n place b (Accepted m);
      }

      by : (o : Bool) → nat_le (instance_of w m place).promised b ≡ o → Safe n V (changed_if w m place (cond o (Some change) None))
      by true e = safe_changed n w m place change (Said b (Accepted m)) within (sends_answer n place b (Accepted m) (omega arith)) V safe
          (λ move law. accepts n (V place) m b v (scene w place) (scene (changed w m place change) place) inside (leb-true _ _ e) said move law)
      by false e = safe

  promised : (r : Promised) → (scene w place).sent b (Promise r)
      → Safe n V (changed_if w m place (on_promise n place b r (instance_of w m place) (instance_of w m place).attempt))
  promised r said = at (instance_of w m place).attempt refl
    where
      change : Bool → Attempt → Change
      change o a = record {
        instance = record (instance_of w m place) { attempt = Some a };
        sends = cond o (to_all n place a.ballot (Accept (entry_of a))) [];
      }

      sends : (o : Bool) (a : Attempt) → Sends n place (asked_news o a) (change o a).sends
      sends true a = sends_all n place a.ballot (Accept (entry_of a)) (omega arith)
      sends false a = sends_nothing n place

      counted : (a : Attempt) → (instance_of w m place).attempt ≡ Some a → counts_promise n b r a ≡ true → (o : Bool)
          → is_majority n (length (with_promise r a).promises) ≡ o → Safe n V (changed w m place (change o (with_promise r a)))
      counted a e counts o h = safe_changed n w m place (change o (with_promise r a)) (asked_news o (with_promise r a)) within (sends o (with_promise r a)) V safe
          (λ move law. promises n (V place) m b a r (scene w place) (scene (changed w m place (change o (with_promise r a))) place) e said counts o h move law)

      by : (a : Attempt) → (instance_of w m place).attempt ≡ Some a → (o : Bool) → counts_promise n b r a ≡ o
          → Safe n V (changed_if w m place (cond o (Some (change (is_majority n (length (with_promise r a).promises)) (with_promise r a))) None))
      by a e true counts = counted a e counts (is_majority n (length (with_promise r a).promises)) refl
      by a e false counts = safe

      at : (o : Option Attempt) → (instance_of w m place).attempt ≡ o → Safe n V (changed_if w m place (on_promise n place b r (instance_of w m place) o))
      at None e = safe
      at (Some a) e = by a e (counts_promise n b r a) refl

  heard : (k : ℕ) → (scene w place).sent b (Accepted k)
      → Safe n V (changed_if w m place (on_accepted n place b k (instance_of w m place) (instance_of w m place).attempt))
  heard k said = at (instance_of w m place).attempt refl
    where
      change : Bool → Attempt → Change
      change true a = record {
        instance = record (instance_of w m place) { held = Some (entry_of a); attempt = Some a };
        sends = to_all n place a.ballot (Chosen (entry_of a));
      }
      change false a = record { instance = record (instance_of w m place) { attempt = Some a }; sends = [] }

      counted : (a : Attempt) → (instance_of w m place).attempt ≡ Some a → counts_accepted n b k a ≡ true → (o : Bool)
          → is_majority n (length (with_accepter k a).accepters) ≡ o → Safe n V (changed w m place (cond o (change true (with_accepter k a)) (change false (with_accepter k a))))
      counted a e counts true h = safe_changed n w m place (change true (with_accepter k a)) (chosen_news true (with_accepter k a)) within
          (sends_all n place a.ballot (Chosen (entry_of a)) (omega arith)) V safe
          (λ move law. hears n (V place) m b a k (scene w place) (scene (changed w m place (change true (with_accepter k a))) place) e said counts true h move law)
      counted a e counts false h = safe_changed n w m place (change false (with_accepter k a)) (chosen_news false (with_accepter k a)) within
          (sends_nothing n place) V safe
          (λ move law. hears n (V place) m b a k (scene w place) (scene (changed w m place (change false (with_accepter k a))) place) e said counts false h move law)

      by : (a : Attempt) → (instance_of w m place).attempt ≡ Some a → (o : Bool) → counts_accepted n b k a ≡ o
          → Safe n V (changed_if w m place (cond o
          (Some (cond (is_majority n (length (with_accepter k a).accepters)) (change true (with_accepter k a)) (change false (with_accepter k a)))) None))
      by a e true counts = counted a e counts (is_majority n (length (with_accepter k a).accepters)) refl
      by a e false counts = safe

      at : (o : Option Attempt) → (instance_of w m place).attempt ≡ o → Safe n V (changed_if w m place (on_accepted n place b k (instance_of w m place) o))
      at None e = safe
      at (Some a) e = by a e (counts_accepted n b k a) refl

  learned : (v : List ℕ) → (scene w place).sent b (Chosen v) → Safe n V (changed w m place (on_chosen v (instance_of w m place)))
  learned v said = safe_changed n w m place (on_chosen v (instance_of w m place)) Quiet within (sends_nothing n place) V safe
      (λ move law. learns n (V place) m b v (scene w place) (scene (changed w m place (on_chosen v (instance_of w m place))) place) said move law)

  pub comes : (c : Content) → (scene w place).sent b c → Safe n V (changed_if w m place (on_content n m place b c (instance_of w m place)))
  comes Prepare said = prepared
  comes (Promise r) said = promised r said
  comes (Accept v) said = accepted v said
  comes (Accepted k) said = heard k said
  comes (Chosen v) said = learned v said

  pub begins : (v : List ℕ) → V place v → Safe n V (changed w m place (on_propose n m place v (instance_of w m place)))
  begins v proposed =
      let next = next_own n m (max (instance_of w m place).used (instance_of w m place).promised) inside in
      let ballot = ballot_of n m (instance_of w m place) in
      safe_changed n w m place (on_propose n m place v (instance_of w m place)) (Said (ballot_of n m (instance_of w m place)) Prepare) within
      (sends_all n place (ballot_of n m (instance_of w m place)) Prepare (omega arith)) V safe
      (λ move law. proposes n (V place) m (ballot_of n m (instance_of w m place)) v (scene w place)
      (scene (changed w m place (on_propose n m place v (instance_of w m place))) place) next.0 (omega arith) proposed move law)

-- ---- a step, and all steps

-- what the event proposes, `V` is true of
abbrev pub Proposes : (Place → List ℕ → Type 0) → Event → Type 0
Proposes V event = (member log position : ℕ) (entry : List ℕ) → event ≡ Propose member log position entry → V (record { log = log; position = position }) entry

pub safe_step : (n : ℕ) (V : Place → List ℕ → Type 0) (w : WorldParts) (event : Event) → Proposes V event → Safe n V w → Safe n V (after_step w (step_of w event))
safe_step n V w (Propose member log position entry) valid safe = by (nat_lt member (length w.members)) refl
  where
    place : Place
    place = record { log = log; position = position }

    ballots : member < length w.members → (o : Bool) → Safe n V (after_step w (cond o (Err NoBallot)
        (Ok (changed w member place (on_propose (length w.members) member place entry (instance_of w member place))))))
    ballots inside true = safe
    ballots inside false =
        subst (λ (k : ℕ). Safe n V (changed w member place (on_propose k member place entry (instance_of w member place)))) (sym safe.size)
        (begins n V w member place 0 (let e = safe.size in omega arith) safe entry (valid member log position entry refl))

    by : (o : Bool) → nat_lt member (length w.members) ≡ o → Safe n V (after_step w (cond o (cond (nat_lt greatest_ballot (ballot_of (length w.members) member (instance_of w member place)))
        (Err NoBallot) (Ok (changed w member place (on_propose (length w.members) member place entry (instance_of w member place))))) (Err NoMember)))
    by true e = ballots (ltb-true member (length w.members) e) (nat_lt greatest_ballot (ballot_of (length w.members) member (instance_of w member place)))
    by false e = safe
safe_step n V w (Deliver number) valid safe = by (slice_get w.sent number) refl
  where
    by : (o : Option Message) → slice_get w.sent number ≡ o → Safe n V (after_step w (delivering w o))
    by None e = safe
    by (Some message) e =
        let sent = sent_at w.sent number message e in
        subst (λ (k : ℕ). Safe n V (changed_if w message.to message.place
        (on_content k message.to message.place message.ballot message.content (instance_of w message.to message.place)))) (sym safe.size)
        (comes n V w message.to message.place message.ballot (safe.addressed message sent) safe message.content (message.to, sent))
safe_step n V w (Restart member) valid safe = by (nat_lt member (length w.members)) refl
  where
    by : (o : Bool) → nat_lt member (length w.members) ≡ o → Safe n V (after_step w (cond o (Ok (restarting w member)) (Err NoMember)))
    by true e = safe_restarted n V w member (ltb-true member (length w.members) e) safe
    by false e = safe

pub safe_all : (n : ℕ) (V : Place → List ℕ → Type 0) (events : List Event) (w : WorldParts) → ((event : Event) → Member event events → Proposes V event)
    → Safe n V w → Safe n V (after_all w events)
safe_all n V [] w valid safe = safe
safe_all n V (e ∷ es) w valid safe =
    safe_all n V es (after_step w (step_of w e)) (λ event m. valid event (inr m)) (safe_step n V w e (valid e (inl refl)) safe)

-- ---- the start

none_kept : (n k : ℕ) → kept_by (fresh n) k ≡ []
none_kept zero k = refl
none_kept (suc n) zero = refl
none_kept (suc n) (suc k) = none_kept n k

nothing : (n k : ℕ) (place : Place) → instance_of (fresh n) k place ≡ blank
nothing n k place = ap (λ (l : List (Place × Instance)). instance_in l place) (none_kept n k)

pub safe_fresh : (n : ℕ) (V : Place → List ℕ → Type 0) → Safe n V (fresh n)
safe_fresh n V = record {
  size = length-replicate n [];
  addressed = λ message m. absurd m;
  lawful = λ place. record {
    votes = record {
      voter = λ b m s. absurd s.1;
      asked = λ b m s. absurd s.1;
      last = λ b m s. absurd s.1;
      accepted = λ m q e. absurd (let no : None ≡ Some q = sym (ap (λ (s : Instance). s.accepted) (nothing n m place)) ∙ e in cc);
      told = λ b r s. absurd s.1;
    };
    asks = record {
      asks = λ b v s. absurd s.1;
      one = λ b v w s t. absurd s.1;
      running = λ m a e. absurd (let no : None ≡ Some a = sym (ap (λ (s : Instance). s.attempt) (nothing n m place)) ∙ e in cc);
    };
    choices = record {
      told = λ b v s. absurd s.1;
      holds = λ m v e. absurd (let no : None ≡ Some v = sym (ap (λ (s : Instance). s.held) (nothing n m place)) ∙ e in cc);
    };
  };
}

-- ---- the promises

contained : {A : Type 0} (x : A) (xs : List A) → Member x xs → Contains xs x
contained x [] m = absurd m
contained x (y ∷ ys) (inl e) = (0, omega arith, sym e)
contained x (y ∷ ys) (inr m) = let found = contained x ys m in (suc found.0, (let less = found.1 in omega arith), found.2)

abbrev pub of_events : List Event → Place → List ℕ → Type 0
of_events events place entry = IsProposed events place.log place.position entry

proposed_by : (events : List Event) (event : Event) → Member event events → Proposes (of_events events) event
proposed_by events event m member log position entry e =
    (member, contained (Propose member log position entry) events (subst (λ (t : Event). Member t events) e m))

pub safe_run : (n : ℕ) (events : List Event) → Safe n (of_events events) (run n events)
safe_run n events = safe_all n (of_events events) events (fresh n) (proposed_by events) (safe_fresh n (of_events events))

pub agree : (n : ℕ) (V : Place → List ℕ → Type 0) (w : WorldParts) → Safe n V w → Agree w
agree n V w safe one other log position entry second e f =
    let place : Place = record { log = log; position = position } in
    let law = safe.lawful place in
    chosen_same n (V place) (scene w place) law entry second (law.choices.holds one entry e) (law.choices.holds other second f)

pub holds_proposed : (events : List Event) (n : ℕ) (w : WorldParts) → Safe n (of_events events) w → HoldsProposed events w
holds_proposed events n w safe member log position entry e =
    let place : Place = record { log = log; position = position } in
    let law = safe.lawful place in
    chosen_proposed n (of_events events place) (scene w place) law entry (law.choices.holds member entry e)
