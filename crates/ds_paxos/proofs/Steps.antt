-- Each step of an instance keeps what is true of it.
use Rattle.std.proofs.Common.{◌≡◌, ◌≢◌, ◌⊎◌, inl, inr, ℕ, ◌*◌, ◌%◌, ◌<◌, ◌≤◌, arith, List, [], ◌∷◌, ◌++◌, length, Bool, true, false, not, ◌&&◌, ◌||◌, ◌==◌, unwrap_or, option_map}
use Rattle.std.proofs.Common.{Option, Some, None, refl, sym, ap, ◌∙◌, subst, eqb-true, ltb-true}
use Rattle.std.proofs.lemmas.Bool.Decides.{eqb_tells}
use Rattle.std.specs.List.{list_any}
use Rattle.ds_paxos.specs.declared.instance.Attempt.{Attempt}
use Rattle.ds_paxos.specs.declared.instance.Instance.{Instance}
use Rattle.ds_paxos.specs.declared.message.Content.TheVariants.{Prepare, Promise, Accept, Accepted, Chosen}
use Rattle.ds_paxos.specs.declared.message.Promised.{Promised}
use Rattle.ds_paxos.specs.declared.message.Proposal.{Proposal}
use Rattle.ds_paxos.specs.Ballots.{is_majority}
use Rattle.ds_paxos.specs.Members.{idle}
use Rattle.ds_paxos.specs.Rules.{begun, counts_accepted, counts_promise, entry_of, greatest, with_accepter, with_promise}
use Rattle.ds_paxos.proofs.Agreed.{greatest_from}
use Rattle.ds_paxos.proofs.Facts.{Asked, Asks, Given, IsChosen, Lawful, Running, Scene, Told, Votes, floor, members_of}
use Rattle.ds_paxos.proofs.Lists.{Apart, Member, apart_more, each_more}
use Rattle.ds_paxos.proofs.Moves.{Moves, News, Quiet, Said, asked_stays, asks_stay, choices_stay, chosen_stays, given_stays, grows_at, old_sent, running_stays, same_at, votes_stay}

-- ---- small facts

no_majority : (n : ℕ) → is_majority n 0 ≡ true → ⊥
no_majority n e = let none : n < 0 = ltb-true n 0 e in omega arith

both : (a b : Bool) → (a && b) ≡ true → (a ≡ true) × (b ≡ true)
both true b e = (refl, e)
both false b e = absurd (cc e)

off : (b : Bool) → not b ≡ true → b ≡ false
off true e = absurd (cc e)
off false e = refl

-- the member that moves keeps what is said
moved : (m : ℕ) (next : Instance) (news : News) (x y : Scene) → Moves m next news x y → y.at_member m ≡ next
moved m next news x y move = elim (move.cases m) [ inl here ↦ here.1 | inr there ↦ absurd (there.0 refl) ]

-- what was accepted was promised
floor_promised : (n : ℕ) (x : Scene) (votes : Votes n x) (m : ℕ) → floor (x.at_member m).accepted ≤ (x.at_member m).promised
floor_promised n x votes m = of (x.at_member m).accepted refl
  where
    of : (o : Option Proposal) → (x.at_member m).accepted ≡ o → floor o ≤ (x.at_member m).promised
    of None e = omega arith
    of (Some q) e = (votes.accepted m q e).1

-- a vote is below what was accepted last
vote_floor : (n : ℕ) (x : Scene) (votes : Votes n x) (b m : ℕ) → x.sent b (Accepted m) → b ≤ floor (x.at_member m).accepted
vote_floor n x votes b m s = let found = votes.last b m s in subst (λ (o : Option Proposal). b ≤ floor o) (sym found.1.0) found.1.1

-- ---- nothing happens, or a member restarts

pub stays : (n : ℕ) (V : List ℕ → Type 0) (m : ℕ) (x y : Scene) → Moves m (x.at_member m) Quiet x y → Lawful n V x → Lawful n V y
stays n V m x y move law = record {
  votes = votes_stay m (x.at_member m) Quiet x y move n (λ b k e. absurd (cc e)) (λ b r e. absurd (cc e)) refl refl law.votes;
  asks = asks_stay m (x.at_member m) Quiet x y move n V (λ b v e. absurd (cc e)) refl (inl refl) law.asks;
  choices = choices_stay m (x.at_member m) Quiet x y move n (λ b v e. absurd (cc e)) refl law.choices;
}

pub idles : (n : ℕ) (V : List ℕ → Type 0) (m : ℕ) (x y : Scene) → Moves m (idle (x.at_member m)) Quiet x y → Lawful n V x → Lawful n V y
idles n V m x y move law = record {
  votes = votes_stay m (idle (x.at_member m)) Quiet x y move n (λ b k e. absurd (cc e)) (λ b r e. absurd (cc e)) refl refl law.votes;
  asks = asks_stay m (idle (x.at_member m)) Quiet x y move n V (λ b v e. absurd (cc e)) refl (inr refl) law.asks;
  choices = choices_stay m (idle (x.at_member m)) Quiet x y move n (λ b v e. absurd (cc e)) refl law.choices;
}

-- ---- Chosen

abbrev pub learned : List ℕ → Instance → Instance
learned entry s = record s { held = Some entry }

pub learns : (n : ℕ) (V : List ℕ → Type 0) (m b : ℕ) (v : List ℕ) (x y : Scene) → x.sent b (Chosen v)
    → Moves m (learned v (x.at_member m)) Quiet x y → Lawful n V x → Lawful n V y
learns n V m b v x y said move law = record {
  votes = votes_stay m next Quiet x y move n (λ b k e. absurd (cc e)) (λ b r e. absurd (cc e)) refl refl law.votes;
  asks = asks_stay m next Quiet x y move n V (λ b v e. absurd (cc e)) refl (inl refl) law.asks;
  choices = record {
    told = λ c w s. chosen_stays m next Quiet x y move n w (law.choices.told c w (old_sent m next Quiet x y move c (Chosen w) (λ e. absurd (cc e)) s));
    holds = λ k w e. chosen_stays m next Quiet x y move n w (elim (move.cases k) [
      | inl here ↦ let same : v ≡ w = some_same (sym (ap (λ (s : Instance). s.held) here.1) ∙ e) in subst (λ (u : List ℕ). IsChosen n x u) same (law.choices.told b v said)
      | inr there ↦ law.choices.holds k w (sym (ap (λ (s : Instance). s.held) there.1) ∙ e)
    ]);
  };
}
  where
    next : Instance
    next = learned v (x.at_member m)

    some_same : {w : List ℕ} → Some v ≡ Some w → v ≡ w
    some_same e = cc

-- ---- Prepare

pub prepares : (n : ℕ) (V : List ℕ → Type 0) (m b : ℕ) (x y : Scene) → m < n → (x.at_member m).promised ≤ b
    → Moves m (record (x.at_member m) { promised = b }) (Said b (Promise (record { member = m; accepted = (x.at_member m).accepted }))) x y
    → Lawful n V x → Lawful n V y
prepares n V m b x y below free move law = record {
  votes = record {
    voter = λ c k s. votes.voter c k (old c k s);
    asked = λ c k s. let found = votes.asked c k (old c k s) in (found.0, move.kept c (Accept found.0) found.1);
    last = λ c k s. let found = votes.last c k (old c k s) in (found.0, (accepted k ∙ found.1.0, found.1.1));
    accepted = λ k q e. let found = votes.accepted k q (sym (accepted k) ∙ e) in
        (move.kept q.ballot (Accept q.entry) found.0, (let f = found.1 in let g = grown k in omega arith));
    told = λ c r s. elim (move.split c (Promise r) s) [
      | inl before ↦ let t = votes.told c r before in record {
        known = t.known;
        kept = let g = grown r.member in let f = t.kept in omega arith;
        below = t.below;
        from = λ q e. move.kept q.ballot (Accept q.entry) (t.from q e);
        silent = λ d l h s. t.silent d l h (old d r.member s);
      }
      | inr now ↦ at_new c r now
    ];
  };
  asks = asks_stay m next news x y move n V (λ b v e. absurd (cc e)) refl (inl refl) law.asks;
  choices = choices_stay m next news x y move n (λ b v e. absurd (cc e)) refl law.choices;
}
  where
    next : Instance
    next = record (x.at_member m) { promised = b }

    given : Promised
    given = record { member = m; accepted = (x.at_member m).accepted }

    news : News
    news = Said b (Promise given)

    votes : Votes n x
    votes = law.votes

    old : (c k : ℕ) → y.sent c (Accepted k) → x.sent c (Accepted k)
    old c k s = old_sent m next news x y move c (Accepted k) (λ e. absurd (cc e)) s

    accepted : (k : ℕ) → (y.at_member k).accepted ≡ (x.at_member k).accepted
    accepted k = same_at m next news x y move (λ s. s.accepted) refl k

    grown : (k : ℕ) → (x.at_member k).promised ≤ (y.at_member k).promised
    grown k = grows_at m next news x y move (λ s. s.promised) free k

    new : Told n y b given
    new = record {
      known = below;
      kept = let e : (y.at_member m).promised ≡ b = ap (λ (s : Instance). s.promised) (moved m next news x y move) in omega arith;
      below = let f = floor_promised n x votes m in omega arith;
      from = λ q e. move.kept q.ballot (Accept q.entry) (votes.accepted m q e).0;
      silent = λ c l h s. let f = vote_floor n x votes c m (old c m s) in omega arith;
    }

    at_new : (c : ℕ) (r : Promised) → news ≡ Said c (Promise r) → Told n y c r
    at_new c r e =
        let same : b ≡ c = cc in
        let alike : given ≡ r = cc in
        subst (λ (d : ℕ). Told n y d r) same (subst (λ (p : Promised). Told n y b p) alike new)

-- ---- Accept

abbrev pub voted : ℕ → List ℕ → Instance → Instance
voted b v s = record s { promised = b; accepted = Some (record { ballot = b; entry = v }) }

pub accepts : (n : ℕ) (V : List ℕ → Type 0) (m b : ℕ) (v : List ℕ) (x y : Scene) → m < n → (x.at_member m).promised ≤ b → x.sent b (Accept v)
    → Moves m (voted b v (x.at_member m)) (Said b (Accepted m)) x y → Lawful n V x → Lawful n V y
accepts n V m b v x y below free said move law = record {
  votes = record {
    voter = λ c k s. elim (move.split c (Accepted k) s) [
      | inl before ↦ votes.voter c k before
      | inr now ↦ let same : m ≡ k = cc in subst (λ (j : ℕ). j < n) same below
    ];
    asked = λ c k s. elim (move.split c (Accepted k) s) [
      | inl before ↦ let found = votes.asked c k before in (found.0, move.kept c (Accept found.0) found.1)
      | inr now ↦ let same : b ≡ c = cc in (v, subst (λ (d : ℕ). y.sent d (Accept v)) same (move.kept b (Accept v) said))
    ];
    last = λ c k s. elim (move.cases k) [
      | inl here ↦ (record { ballot = b; entry = v }, (ap (λ (s : Instance). s.accepted) here.1, bound c k here.0 (move.split c (Accepted k) s)))
      | inr there ↦ elim (move.split c (Accepted k) s) [
        | inl before ↦ let found = votes.last c k before in (found.0, (ap (λ (s : Instance). s.accepted) there.1 ∙ found.1.0, found.1.1))
        | inr now ↦ absurd (let same : m ≡ k = cc in there.0 (sym same))
      ]
    ];
    accepted = λ k q e. elim (move.cases k) [
      | inl here ↦
          let took : record { ballot = b; entry = v } ≡ q = some_same q (sym (ap (λ (s : Instance). s.accepted) here.1) ∙ e) in
          let now : (y.at_member k).promised ≡ b = ap (λ (s : Instance). s.promised) here.1 in
          subst (λ (p : Proposal). y.sent p.ballot (Accept p.entry) × (p.ballot ≤ (y.at_member k).promised)) took (move.kept b (Accept v) said, omega arith)
      | inr there ↦
          let found = votes.accepted k q (sym (ap (λ (s : Instance). s.accepted) there.1) ∙ e) in
          let f = found.1 in let g = grown k in (move.kept q.ballot (Accept q.entry) found.0, omega arith)
    ];
    told = λ c r s. let t = votes.told c r (old_sent m next news x y move c (Promise r) (λ e. absurd (cc e)) s) in record {
      known = t.known;
      kept = let g = grown r.member in let f = t.kept in omega arith;
      below = t.below;
      from = λ q e. move.kept q.ballot (Accept q.entry) (t.from q e);
      silent = λ d l h s. elim (move.split d (Accepted r.member) s) [
        | inl before ↦ t.silent d l h before
        | inr now ↦
            let same : b ≡ d = cc in
            let who : m ≡ r.member = cc in
            let kept = t.kept in
            let at : (x.at_member r.member).promised ≡ (x.at_member m).promised = ap (λ (j : ℕ). (x.at_member j).promised) (sym who) in
            omega arith
      ];
    };
  };
  asks = asks_stay m next news x y move n V (λ b v e. absurd (cc e)) refl (inl refl) law.asks;
  choices = choices_stay m next news x y move n (λ b v e. absurd (cc e)) refl law.choices;
}
  where
    next : Instance
    next = voted b v (x.at_member m)

    news : News
    news = Said b (Accepted m)

    votes : Votes n x
    votes = law.votes

    grown : (k : ℕ) → (x.at_member k).promised ≤ (y.at_member k).promised
    grown k = grows_at m next news x y move (λ s. s.promised) free k

    some_same : (q : Proposal) → Some (record { ballot = b; entry = v }) ≡ Some q → record { ballot = b; entry = v } ≡ q
    some_same q e = cc

    bound : (c k : ℕ) → k ≡ m → x.sent c (Accepted k) ⊎ (news ≡ Said c (Accepted k)) → c ≤ b
    bound c k e (inl before) =
        let f = vote_floor n x votes c k before in
        let g = floor_promised n x votes k in
        let h : (x.at_member k).promised ≡ (x.at_member m).promised = ap (λ (j : ℕ). (x.at_member j).promised) e in
        omega arith
    bound c k e (inr now) = let same : b ≡ c = cc in omega arith

-- ---- Propose

pub proposes : (n : ℕ) (V : List ℕ → Type 0) (m b : ℕ) (v : List ℕ) (x y : Scene) → b % n ≡ m → (x.at_member m).used < b → V v
    → Moves m (begun b v (x.at_member m)) (Said b Prepare) x y → Lawful n V x → Lawful n V y
proposes n V m b v x y own above proposed move law = record {
  votes = votes_stay m next news x y move n (λ b k e. absurd (cc e)) (λ b r e. absurd (cc e)) refl refl law.votes;
  asks = record {
    asks = λ c w s. asked_stays m next news x y move n V c w grown (asks.asks c w (old c w s));
    one = λ c w u s t. asks.one c w u (old c w s) (old c u t);
    running = λ k a e. elim (move.cases k) [
      | inl here ↦
          let same = some_same a (sym (ap (λ (s : Instance). s.attempt) here.1) ∙ e) in
          subst (λ (j : ℕ). Running n V y j a) (sym here.0) (subst (λ (t : Attempt). Running n V y m t) same fresh)
      | inr there ↦ running_stays m next news x y move n V k a (grown k) (λ w e. absurd (cc e))
          (asks.running k a (sym (ap (λ (s : Instance). s.attempt) there.1) ∙ e))
    ];
  };
  choices = choices_stay m next news x y move n (λ b v e. absurd (cc e)) refl law.choices;
}
  where
    next : Instance
    next = begun b v (x.at_member m)

    news : News
    news = Said b Prepare

    asks : Asks n V x
    asks = law.asks

    attempt : Attempt
    attempt = record { ballot = b; entry = v; promises = []; accepters = [] }

    some_same : (a : Attempt) → Some attempt ≡ Some a → attempt ≡ a
    some_same a e = cc

    old : (c : ℕ) (w : List ℕ) → y.sent c (Accept w) → x.sent c (Accept w)
    old c w s = old_sent m next news x y move c (Accept w) (λ e. absurd (cc e)) s

    grown : (k : ℕ) → (x.at_member k).used ≤ (y.at_member k).used
    grown k = grows_at m next news x y move (λ s. s.used) (omega arith) k

    -- nothing was asked for under a ballot that wasn't used
    unasked : (w : List ℕ) → x.sent b (Accept w) → ⊥
    unasked w s =
        let used = (asks.asks b w s).used in
        let at : (x.at_member (b % n)).used ≡ (x.at_member m).used = ap (λ (j : ℕ). (x.at_member j).used) own in
        omega arith

    fresh : Running n V y m attempt
    fresh = record {
      own = own;
      positive = omega arith;
      used = let e : (y.at_member m).used ≡ b = ap (λ (s : Instance). s.used) (moved m next news x y move) in omega arith;
      proposed = proposed;
      given = record { each = λ r i. absurd i; apart = tt };
      heard = λ k i. absurd i;
      apart = tt;
      before = λ e w s. unasked w (old b w s);
      after = λ e. absurd (no_majority n e);
    }

-- ---- Promise

-- the promises from a majority are there, or they aren't yet
abbrev pub asked_news : Bool → Attempt → News
asked_news true a = Said a.ballot (Accept (entry_of a))
asked_news false a = Quiet

members_append : (rs : List Promised) (r : Promised) → members_of (rs ++ r ∷ []) ≡ members_of rs ++ r.member ∷ []
members_append [] r = refl
members_append (s ∷ rs) r = ap (λ (l : List ℕ). s.member ∷ l) (members_append rs r)

-- a member that the test doesn't find isn't among them
not_found : (k : ℕ) (rs : List Promised) → list_any (λ other. other.member == k) rs ≡ false → Member k (members_of rs) → ⊥
not_found k [] e m = m
not_found k (r ∷ rs) e m = elim (eqb_tells r.member k) [
  | inl same ↦ absurd (let found : true ≡ false = sym (ap (λ (b : Bool). b || list_any (λ other. other.member == k) rs) same.0) ∙ e in cc)
  | inr other ↦
      let rest : list_any (λ other. other.member == k) rs ≡ false = sym (ap (λ (b : Bool). b || list_any (λ other. other.member == k) rs) other.0) ∙ e in
      elim m [ inl here ↦ other.1 (sym here) | inr deep ↦ not_found k rs rest deep ]
]

none_equal : (k : ℕ) (ks : List ℕ) → list_any (λ other. other == k) ks ≡ false → Member k ks → ⊥
none_equal k [] e m = m
none_equal k (j ∷ ks) e m = elim (eqb_tells j k) [
  | inl same ↦ absurd (let found : true ≡ false = sym (ap (λ (b : Bool). b || list_any (λ other. other == k) ks) same.0) ∙ e in cc)
  | inr other ↦
      let rest : list_any (λ other. other == k) ks ≡ false = sym (ap (λ (b : Bool). b || list_any (λ other. other == k) ks) other.0) ∙ e in
      elim m [ inl here ↦ other.1 (sym here) | inr deep ↦ none_equal k ks rest deep ]
]

abbrev pub going_on : Attempt → Instance → Instance
going_on a s = record s { attempt = Some a }

pub promises : (n : ℕ) (V : List ℕ → Type 0) (m b : ℕ) (a : Attempt) (r : Promised) (x y : Scene) → (x.at_member m).attempt ≡ Some a
    → x.sent b (Promise r) → counts_promise n b r a ≡ true → (most : Bool) → is_majority n (length (with_promise r a).promises) ≡ most
    → Moves m (going_on (with_promise r a) (x.at_member m)) (asked_news most (with_promise r a)) x y → Lawful n V x → Lawful n V y
promises n V m b a r x y running said counts most whether move law = record {
  votes = votes_stay m next news x y move n no_vote no_promise refl refl law.votes;
  asks = record {
    asks = λ c w s. elim (move.split c (Accept w) s) [
      | inl before ↦ asked_stays m next news x y move n V c w grown (asks.asks c w before)
      | inr now ↦ let e = is_said most c w whether now in
          subst (λ (d : ℕ). Asked n V y d w) e.0 (subst (λ (u : List ℕ). Asked n V y a.ballot u) e.1 (asked_new e.2))
    ];
    one = λ c v w s t. elim (move.split c (Accept v) s) [
      | inl first ↦ elim (move.split c (Accept w) t) [
        | inl second ↦ asks.one c v w first second
        | inr now ↦ absurd (let e = is_said most c w whether now in was.before yet v (subst (λ (d : ℕ). x.sent d (Accept v)) (sym e.0) first))
      ]
      | inr now ↦ let e = is_said most c v whether now in elim (move.split c (Accept w) t) [
        | inl second ↦ absurd (was.before yet w (subst (λ (d : ℕ). x.sent d (Accept w)) (sym e.0) second))
        | inr later ↦ let f = is_said most c w whether later in sym e.1 ∙ f.1
      ]
    ];
    running = λ k t e. elim (move.cases k) [
      | inl here ↦
          let same = some_same t (sym (ap (λ (s : Instance). s.attempt) here.1) ∙ e) in
          subst (λ (j : ℕ). Running n V y j t) (sym here.0) (subst (λ (u : Attempt). Running n V y m u) same now_running)
      | inr there ↦
          let old = asks.running k t (sym (ap (λ (s : Instance). s.attempt) there.1) ∙ e) in
          running_stays m next news x y move n V k t (grown k)
          (λ w e. let f = is_said most t.ballot w whether e in there.0 (sym old.own ∙ ap (λ (d : ℕ). d % n) (sym f.0) ∙ was.own)) old
    ];
  };
  choices = choices_stay m next news x y move n no_choice refl law.choices;
}
  where
    after : Attempt
    after = with_promise r a

    next : Instance
    next = going_on after (x.at_member m)

    news : News
    news = asked_news most after

    asks : Asks n V x
    asks = law.asks

    was : Running n V x m a
    was = asks.running m a running

    test : (a.ballot ≡ b) × ((is_majority n (length a.promises) ≡ false) × (list_any (λ other. other.member == r.member) a.promises ≡ false))
    test =
        let one = both (a.ballot == b) _ counts in
        let two = both (not (is_majority n (length a.promises))) _ one.1 in
        (eqb-true a.ballot b one.0, (off _ two.0, off _ two.1))

    yet : is_majority n (length a.promises) ≡ false
    yet = test.1.0

    some_same : (t : Attempt) → Some after ≡ Some t → after ≡ t
    some_same t e = cc

    is_said : (o : Bool) (c : ℕ) (w : List ℕ) → is_majority n (length after.promises) ≡ o → asked_news o after ≡ Said c (Accept w)
        → (a.ballot ≡ c) × (entry_of after ≡ w) × (is_majority n (length after.promises) ≡ true)
    is_said true c w h e = (cc, cc, h)
    is_said false c w h e = absurd (cc e)

    no_vote : (c k : ℕ) → news ≡ Said c (Accepted k) → ⊥
    no_vote c k e = by most e
      where
        by : (o : Bool) → asked_news o after ≡ Said c (Accepted k) → ⊥
        by true e = cc
        by false e = cc

    no_promise : (c : ℕ) (p : Promised) → news ≡ Said c (Promise p) → ⊥
    no_promise c p e = by most e
      where
        by : (o : Bool) → asked_news o after ≡ Said c (Promise p) → ⊥
        by true e = cc
        by false e = cc

    no_choice : (c : ℕ) (w : List ℕ) → news ≡ Said c (Chosen w) → ⊥
    no_choice c w e = by most e
      where
        by : (o : Bool) → asked_news o after ≡ Said c (Chosen w) → ⊥
        by true e = cc
        by false e = cc

    grown : (k : ℕ) → (x.at_member k).used ≤ (y.at_member k).used
    grown k = grows_at m next news x y move (λ s. s.used) (omega arith) k

    given : Given x a.ballot after.promises
    given = record {
      each = each_more (λ p. x.sent a.ballot (Promise p)) a.promises r was.given.each (subst (λ (d : ℕ). x.sent d (Promise r)) (sym test.0) said);
      apart = subst Apart (sym (members_append a.promises r))
          (apart_more (members_of a.promises) r.member was.given.apart (not_found r.member a.promises test.1.1));
    }

    -- what the promises tell of was asked for under a lower ballot: under this one nothing was asked for yet
    lower : (q : Proposal) → greatest after.promises ≡ Some q → (q.ballot < a.ballot) × x.sent q.ballot (Accept q.entry)
    lower q e =
        let found = greatest_from after.promises q e in
        let told = law.votes.told a.ballot found.0 (given.each found.0 found.1.0) in
        let from = told.from q found.1.1 in
        let below : q.ballot ≤ a.ballot = subst (λ (o : Option Proposal). floor o ≤ a.ballot) found.1.1 told.below in
        elim (eqb_tells q.ballot a.ballot) [
          | inl same ↦ absurd (was.before yet q.entry (subst (λ (d : ℕ). x.sent d (Accept q.entry)) same.1 from))
          | inr other ↦ let apart : q.ballot ≢ a.ballot = other.1 in (omega arith, from)
        ]

    entry_proposed : (g : Option Proposal) → greatest after.promises ≡ g → (floor g < a.ballot) × V (unwrap_or (option_map (λ p. p.entry) g) a.entry)
    entry_proposed None e = (was.positive, was.proposed)
    entry_proposed (Some q) e = let l = lower q e in (l.0, (asks.asks q.ballot q.entry l.1).proposed)

    asked_new : is_majority n (length after.promises) ≡ true → Asked n V y a.ballot (entry_of after)
    asked_new h =
        let p = entry_proposed (greatest after.promises) refl in
        record {
          proposed = p.1;
          positive = was.positive;
          used = let u = was.used in let g = grown m in
              let at : (y.at_member (a.ballot % n)).used ≡ (y.at_member m).used = ap (λ (j : ℕ). (y.at_member j).used) was.own in omega arith;
          shown = record {
            promises = after.promises;
            majority = ltb-true n (2 * length after.promises) h;
            given = given_stays m next news x y move a.ballot after.promises given;
            below = p.0;
            entry = λ q e. ap (λ (g : Option Proposal). unwrap_or (option_map (λ (p : Proposal). p.entry) g) a.entry) e;
          };
        }

    now_running : Running n V y m after
    now_running = record {
      own = was.own;
      positive = was.positive;
      used = let u = was.used in let g = grown m in omega arith;
      proposed = was.proposed;
      given = given_stays m next news x y move a.ballot after.promises given;
      heard = λ k i. move.kept a.ballot (Accepted k) (was.heard k i);
      apart = was.apart;
      before = λ h w s. was.before yet w (elim (move.split a.ballot (Accept w) s) [
        | inl before ↦ before
        | inr now ↦ absurd (let f = is_said most a.ballot w whether now in let e : true ≡ false = sym f.2 ∙ h in cc)
      ]);
      after = λ h. move.added a.ballot (Accept (entry_of after)) (ap (λ (o : Bool). asked_news o after) (sym whether ∙ h));
    }

-- ---- Accepted

abbrev pub chosen_news : Bool → Attempt → News
chosen_news true a = Said a.ballot (Chosen (entry_of a))
chosen_news false a = Quiet

abbrev pub chosen_next : Bool → Attempt → Instance → Instance
chosen_next true a s = record s { held = Some (entry_of a); attempt = Some a }
chosen_next false a s = record s { attempt = Some a }

pub hears : (n : ℕ) (V : List ℕ → Type 0) (m b : ℕ) (a : Attempt) (k : ℕ) (x y : Scene) → (x.at_member m).attempt ≡ Some a
    → x.sent b (Accepted k) → counts_accepted n b k a ≡ true → (most : Bool) → is_majority n (length (with_accepter k a).accepters) ≡ most
    → Moves m (chosen_next most (with_accepter k a) (x.at_member m)) (chosen_news most (with_accepter k a)) x y → Lawful n V x → Lawful n V y
hears n V m b a k x y running said counts most whether move law = record {
  votes = votes_stay m next news x y move n (no_vote most) (no_promise most) (same_accepted most) (same_promised most) law.votes;
  asks = record {
    asks = λ c w s. asked_stays m next news x y move n V c w grown (asks.asks c w (old c w s));
    one = λ c v w s t. asks.one c v w (old c v s) (old c w t);
    running = λ j t e. elim (move.cases j) [
      | inl here ↦
          let same = some_same t (sym (attempt_of most) ∙ sym (ap (λ (s : Instance). s.attempt) here.1) ∙ e) in
          subst (λ (i : ℕ). Running n V y i t) (sym here.0) (subst (λ (u : Attempt). Running n V y m u) same now_running)
      | inr there ↦ running_stays m next news x y move n V j t (grown j) (λ w e. no_ask most t.ballot w e)
          (asks.running j t (sym (ap (λ (s : Instance). s.attempt) there.1) ∙ e))
    ];
  };
  choices = record {
    told = λ c w s. elim (move.split c (Chosen w) s) [
      | inl before ↦ chosen_stays m next news x y move n w (law.choices.told c w before)
      | inr now ↦ let e = is_told most c w whether now in
          chosen_stays m next news x y move n w (subst (λ (u : List ℕ). IsChosen n x u) e.0 (choice e.1))
    ];
    holds = λ j w e. chosen_stays m next news x y move n w (elim (move.cases j) [
      | inl here ↦ is_held most w whether (sym (ap (λ (s : Instance). s.held) here.1) ∙ e)
      | inr there ↦ law.choices.holds j w (sym (ap (λ (s : Instance). s.held) there.1) ∙ e)
    ]);
  };
}
  where
    after : Attempt
    after = with_accepter k a

    next : Instance
    next = chosen_next most after (x.at_member m)

    news : News
    news = chosen_news most after

    asks : Asks n V x
    asks = law.asks

    was : Running n V x m a
    was = asks.running m a running

    test : (a.ballot ≡ b) × (list_any (λ other. other == k) a.accepters ≡ false)
    test =
        let one = both (a.ballot == b) _ counts in
        let two = both (not (is_majority n (length a.accepters))) _ one.1 in
        (eqb-true a.ballot b one.0, off _ two.1)

    vote : x.sent a.ballot (Accepted k)
    vote = subst (λ (d : ℕ). x.sent d (Accepted k)) (sym test.0) said

    some_same : (t : Attempt) → Some after ≡ Some t → after ≡ t
    some_same t e = cc

    attempt_of : (o : Bool) → (chosen_next o after (x.at_member m)).attempt ≡ Some after
    attempt_of true = refl
    attempt_of false = refl

    same_accepted : (o : Bool) → (chosen_next o after (x.at_member m)).accepted ≡ (x.at_member m).accepted
    same_accepted true = refl
    same_accepted false = refl

    same_promised : (o : Bool) → (chosen_next o after (x.at_member m)).promised ≡ (x.at_member m).promised
    same_promised true = refl
    same_promised false = refl

    same_used : (o : Bool) → (chosen_next o after (x.at_member m)).used ≡ (x.at_member m).used
    same_used true = refl
    same_used false = refl

    no_vote : (o : Bool) (c j : ℕ) → chosen_news o after ≡ Said c (Accepted j) → ⊥
    no_vote true c j e = cc
    no_vote false c j e = cc

    no_promise : (o : Bool) (c : ℕ) (p : Promised) → chosen_news o after ≡ Said c (Promise p) → ⊥
    no_promise true c p e = cc
    no_promise false c p e = cc

    no_ask : (o : Bool) (c : ℕ) (w : List ℕ) → chosen_news o after ≡ Said c (Accept w) → ⊥
    no_ask true c w e = cc
    no_ask false c w e = cc

    is_told : (o : Bool) (c : ℕ) (w : List ℕ) → is_majority n (length after.accepters) ≡ o → chosen_news o after ≡ Said c (Chosen w)
        → (entry_of a ≡ w) × (is_majority n (length after.accepters) ≡ true)
    is_told true c w h e = (cc, h)
    is_told false c w h e = absurd (cc e)

    old : (c : ℕ) (w : List ℕ) → y.sent c (Accept w) → x.sent c (Accept w)
    old c w s = old_sent m next news x y move c (Accept w) (no_ask most c w) s

    grown : (j : ℕ) → (x.at_member j).used ≤ (y.at_member j).used
    grown j = grows_at m next news x y move (λ s. s.used) (let e = same_used most in omega arith) j

    accepters_heard : (j : ℕ) → Member j after.accepters → x.sent a.ballot (Accepted j)
    accepters_heard = each_more (λ j. x.sent a.ballot (Accepted j)) a.accepters k was.heard vote

    accepters_apart : Apart after.accepters
    accepters_apart = apart_more a.accepters k was.apart (none_equal k a.accepters test.1)

    -- one who voted was asked, so that promises have come from a majority
    asked : x.sent a.ballot (Accept (entry_of a))
    asked = by (is_majority n (length a.promises)) refl
      where
        by : (o : Bool) → is_majority n (length a.promises) ≡ o → x.sent a.ballot (Accept (entry_of a))
        by true h = was.after h
        by false h = let found = law.votes.asked a.ballot k vote in absurd (was.before h found.0 found.1)

    choice : is_majority n (length after.accepters) ≡ true → IsChosen n x (entry_of a)
    choice h = record {
      ballot = a.ballot;
      voters = after.accepters;
      majority = ltb-true n (2 * length after.accepters) h;
      apart = accepters_apart;
      voted = accepters_heard;
      asked = asked;
    }

    is_held : (o : Bool) (w : List ℕ) → is_majority n (length after.accepters) ≡ o → (chosen_next o after (x.at_member m)).held ≡ Some w → IsChosen n x w
    is_held true w h e = let same : entry_of a ≡ w = cc in subst (λ (u : List ℕ). IsChosen n x u) same (choice h)
    is_held false w h e = law.choices.holds m w e

    now_running : Running n V y m after
    now_running = record {
      own = was.own;
      positive = was.positive;
      used = let u = was.used in let g = grown m in omega arith;
      proposed = was.proposed;
      given = given_stays m next news x y move a.ballot a.promises was.given;
      heard = λ j i. move.kept a.ballot (Accepted j) (accepters_heard j i);
      apart = accepters_apart;
      before = λ h w s. was.before h w (old a.ballot w s);
      after = λ h. move.kept a.ballot (Accept (entry_of a)) (was.after h);
    }
