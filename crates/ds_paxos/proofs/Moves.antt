-- A step of one instance: one member keeps another instance, and one message may be sent. What a step leaves alone stays true.
use Rattle.std.proofs.Common.{◌≡◌, ◌≢◌, ◌⊎◌, inl, inr, ℕ, ◌%◌, ◌≤◌, arith, List, Some, None, sym, ap, ◌∙◌, subst}
use Rattle.ds_paxos.specs.declared.instance.Attempt.{Attempt}
use Rattle.ds_paxos.specs.declared.instance.Instance.{Instance}
use Rattle.ds_paxos.specs.declared.message.Content.{Content}
use Rattle.ds_paxos.specs.declared.message.Content.TheVariants.{Promise, Accept, Accepted, Chosen}
use Rattle.ds_paxos.specs.declared.message.Promised.{Promised}
use Rattle.ds_paxos.specs.Rules.{entry_of}
use Rattle.ds_paxos.proofs.Facts.{Asked, Asks, Choices, Given, IsChosen, Running, Scene, Shown, Votes}

-- what is sent: the ballot, and the content of the message or messages
pub data News : Type 0 where
  Quiet : News
  Said : (ballot : ℕ) → (content : Content) → News

-- the step at member m, which keeps `next` afterwards
pub record Moves (m : ℕ) (next : Instance) (news : News) (x y : Scene) : Type 0 where
  pub kept : (b : ℕ) (c : Content) → x.sent b c → y.sent b c
  pub split : (b : ℕ) (c : Content) → y.sent b c → x.sent b c ⊎ (news ≡ Said b c)
  pub added : (b : ℕ) (c : Content) → news ≡ Said b c → y.sent b c
  pub cases : (k : ℕ) → ((k ≡ m) × (y.at_member k ≡ next)) ⊎ ((k ≢ m) × (y.at_member k ≡ x.at_member k))

module _ (m : ℕ) (next : Instance) (news : News) (x y : Scene) (move : Moves m next news x y) where
  -- what the step leaves of an instance it leaves at each member
  pub same_at : {A : Type 0} (part : Instance → A) → part next ≡ part (x.at_member m) → (k : ℕ) → part (y.at_member k) ≡ part (x.at_member k)
  same_at part e k = elim (move.cases k) [
    | inl here ↦ ap part here.1 ∙ e ∙ ap (λ (j : ℕ). part (x.at_member j)) (sym here.0)
    | inr there ↦ ap part there.1
  ]

  -- a number that the step doesn't lower grows at each member
  pub grows_at : (part : Instance → ℕ) → part (x.at_member m) ≤ part next → (k : ℕ) → part (x.at_member k) ≤ part (y.at_member k)
  grows_at part e k = elim (move.cases k) [
    | inl here ↦
        let before : part (x.at_member k) ≡ part (x.at_member m) = ap (λ (j : ℕ). part (x.at_member j)) here.0 in
        let after : part (y.at_member k) ≡ part next = ap part here.1 in
        omega arith
    | inr there ↦ let after : part (y.at_member k) ≡ part (x.at_member k) = ap part there.1 in omega arith
  ]

  -- what was sent before, where the news are something else
  pub old_sent : (b : ℕ) (c : Content) → (news ≡ Said b c → ⊥) → y.sent b c → x.sent b c
  old_sent b c none s = elim (move.split b c s) [ inl old ↦ old | inr new ↦ absurd (none new) ]

  -- ---- what only grows

  pub given_stays : (b : ℕ) (rs : List Promised) → Given x b rs → Given y b rs
  given_stays b rs g = record { each = λ r i. move.kept b (Promise r) (g.each r i); apart = g.apart }

  pub shown_stays : (n b : ℕ) (v : List ℕ) → Shown n x b v → Shown n y b v
  shown_stays n b v s =
      record { promises = s.promises; majority = s.majority; given = given_stays b s.promises s.given; below = s.below; entry = s.entry }

  pub chosen_stays : (n : ℕ) (v : List ℕ) → IsChosen n x v → IsChosen n y v
  chosen_stays n v c = record {
    ballot = c.ballot;
    voters = c.voters;
    majority = c.majority;
    apart = c.apart;
    voted = λ k i. move.kept c.ballot (Accepted k) (c.voted k i);
    asked = move.kept c.ballot (Accept v) c.asked;
  }

  -- ---- what the step doesn't touch

  pub votes_stay : (n : ℕ) → ((b k : ℕ) → news ≡ Said b (Accepted k) → ⊥) → ((b : ℕ) (r : Promised) → news ≡ Said b (Promise r) → ⊥)
      → next.accepted ≡ (x.at_member m).accepted → next.promised ≡ (x.at_member m).promised → Votes n x → Votes n y
  votes_stay n no_vote no_promise same_accepted same_promised votes = record {
    voter = λ b k s. votes.voter b k (old b k s);
    asked = λ b k s. let found = votes.asked b k (old b k s) in (found.0, move.kept b (Accept found.0) found.1);
    last = λ b k s. let found = votes.last b k (old b k s) in (found.0, (accepted k ∙ found.1.0, found.1.1));
    accepted = λ k q e. let found = votes.accepted k q (sym (accepted k) ∙ e) in
        (move.kept q.ballot (Accept q.entry) found.0, subst (λ (p : ℕ). q.ballot ≤ p) (sym (promised k)) found.1);
    told = λ b r s. let t = votes.told b r (old_sent b (Promise r) (no_promise b r) s) in record {
      known = t.known;
      kept = subst (λ (p : ℕ). b ≤ p) (sym (promised r.member)) t.kept;
      below = t.below;
      from = λ q e. move.kept q.ballot (Accept q.entry) (t.from q e);
      silent = λ c l h s. t.silent c l h (old c r.member s);
    };
  }
    where
      old : (b k : ℕ) → y.sent b (Accepted k) → x.sent b (Accepted k)
      old b k s = old_sent b (Accepted k) (no_vote b k) s

      accepted : (k : ℕ) → (y.at_member k).accepted ≡ (x.at_member k).accepted
      accepted k = same_at (λ s. s.accepted) same_accepted k

      promised : (k : ℕ) → (y.at_member k).promised ≡ (x.at_member k).promised
      promised k = same_at (λ s. s.promised) same_promised k

  -- an attempt that was running goes on, where the news ask for nothing under its ballot
  pub running_stays : (n : ℕ) (V : List ℕ → Type 0) (k : ℕ) (a : Attempt) → (x.at_member k).used ≤ (y.at_member k).used
      → ((v : List ℕ) → news ≡ Said a.ballot (Accept v) → ⊥) → Running n V x k a → Running n V y k a
  running_stays n V k a grown none r = record {
    own = r.own;
    positive = r.positive;
    used = let u = r.used in omega arith;
    proposed = r.proposed;
    given = given_stays a.ballot a.promises r.given;
    heard = λ j i. move.kept a.ballot (Accepted j) (r.heard j i);
    apart = r.apart;
    before = λ h v s. r.before h v (old_sent a.ballot (Accept v) (none v) s);
    after = λ h. move.kept a.ballot (Accept (entry_of a)) (r.after h);
  }

  pub asked_stays : (n : ℕ) (V : List ℕ → Type 0) (b : ℕ) (v : List ℕ) → ((k : ℕ) → (x.at_member k).used ≤ (y.at_member k).used)
      → Asked n V x b v → Asked n V y b v
  asked_stays n V b v grown a = record {
    proposed = a.proposed;
    positive = a.positive;
    used = let u = a.used in let g = grown (b % n) in omega arith;
    shown = shown_stays n b v a.shown;
  }

  pub asks_stay : (n : ℕ) (V : List ℕ → Type 0) → ((b : ℕ) (v : List ℕ) → news ≡ Said b (Accept v) → ⊥)
      → next.used ≡ (x.at_member m).used → (next.attempt ≡ (x.at_member m).attempt) ⊎ (next.attempt ≡ None) → Asks n V x → Asks n V y
  asks_stay n V none same_used attempt asks = record {
    asks = λ b v s. asked_stays n V b v grown (asks.asks b v (old b v s));
    one = λ b v w s t. asks.one b v w (old b v s) (old b w t);
    running = λ k a e. running_stays n V k a (grown k) (λ v. none a.ballot v) (asks.running k a (was k a e));
  }
    where
      old : (b : ℕ) (v : List ℕ) → y.sent b (Accept v) → x.sent b (Accept v)
      old b v s = old_sent b (Accept v) (none b v) s

      grown : (k : ℕ) → (x.at_member k).used ≤ (y.at_member k).used
      grown k = grows_at (λ s. s.used) (let e = same_used in omega arith) k

      was : (k : ℕ) (a : Attempt) → (y.at_member k).attempt ≡ Some a → (x.at_member k).attempt ≡ Some a
      was k a e = elim attempt [
        | inl same ↦ sym (same_at (λ s. s.attempt) same k) ∙ e
        | inr gone ↦ elim (move.cases k) [
          | inl here ↦ absurd (let no : None ≡ Some a = sym gone ∙ sym (ap (λ (s : Instance). s.attempt) here.1) ∙ e in cc)
          | inr there ↦ sym (ap (λ (s : Instance). s.attempt) there.1) ∙ e
        ]
      ]

  pub choices_stay : (n : ℕ) → ((b : ℕ) (v : List ℕ) → news ≡ Said b (Chosen v) → ⊥) → next.held ≡ (x.at_member m).held
      → Choices n x → Choices n y
  choices_stay n none same choices = record {
    told = λ b v s. chosen_stays n v (choices.told b v (old_sent b (Chosen v) (none b v) s));
    holds = λ k v e. chosen_stays n v (choices.holds k v (sym (same_at (λ s. s.held) same k) ∙ e));
  }
