-- What is true of an instance of Paxos whatever happens, as in Lamport's proof: what each member keeps of it, and which messages of it were
-- sent. A member votes under a ballot where it sends that it accepted.
use Rattle.std.proofs.Common.{◌≡◌, ℕ, ◌*◌, ◌%◌, ◌<◌, ◌≤◌, List, length, map, true, false}
use Rattle.std.proofs.Common.{Option, Some, None}
use Rattle.ds_paxos.specs.declared.instance.Attempt.{Attempt}
use Rattle.ds_paxos.specs.declared.instance.Instance.{Instance}
use Rattle.ds_paxos.specs.declared.message.Content.{Content}
use Rattle.ds_paxos.specs.declared.message.Content.TheVariants.{Promise, Accept, Accepted, Chosen}
use Rattle.ds_paxos.specs.declared.message.Promised.{Promised}
use Rattle.ds_paxos.specs.declared.message.Proposal.{Proposal}
use Rattle.ds_paxos.specs.Ballots.{is_majority}
use Rattle.ds_paxos.specs.Rules.{entry_of, greatest}
use Rattle.ds_paxos.proofs.Lists.{Apart, Member}

-- one instance at all members, and what was sent of it under which ballot
pub record Scene : Type 1 where
  pub at_member : ℕ → Instance
  pub sent : ℕ → Content → Type 0

-- the ballot of what was accepted last, or 0
abbrev pub floor : Option Proposal → ℕ
floor None = 0
floor (Some p) = p.ballot

abbrev pub members_of : List Promised → List ℕ
members_of promises = map (λ p. p.member) promises

-- A promise tells the truth: it isn't lowered, and the member's last vote below the ballot is the one that it tells of.
pub record Told (n : ℕ) (x : Scene) (b : ℕ) (r : Promised) : Type 0 where
  pub known : r.member < n
  pub kept : b ≤ (x.at_member r.member).promised
  pub below : floor r.accepted ≤ b
  pub from : (q : Proposal) → r.accepted ≡ Some q → x.sent q.ballot (Accept q.entry)
  pub silent : (c : ℕ) → floor r.accepted < c → c < b → x.sent c (Accepted r.member) → ⊥

-- votes and promises
pub record Votes (n : ℕ) (x : Scene) : Type 0 where
  pub voter : (b m : ℕ) → x.sent b (Accepted m) → m < n
  pub asked : (b m : ℕ) → x.sent b (Accepted m) → (v : List ℕ) × x.sent b (Accept v)
  pub last : (b m : ℕ) → x.sent b (Accepted m) → (q : Proposal) × (((x.at_member m).accepted ≡ Some q) × (b ≤ q.ballot))
  pub accepted : (m : ℕ) (q : Proposal) → (x.at_member m).accepted ≡ Some q
      → x.sent q.ballot (Accept q.entry) × (q.ballot ≤ (x.at_member m).promised)
  pub told : (b : ℕ) (r : Promised) → x.sent b (Promise r) → Told n x b r

-- promises of a ballot, each of another member
pub record Given (x : Scene) (b : ℕ) (promises : List Promised) : Type 0 where
  pub each : (r : Promised) → Member r promises → x.sent b (Promise r)
  pub apart : Apart (members_of promises)

-- Why an entry is asked for under a ballot: a majority promised, and it is the entry of the greatest proposal that they accepted.
pub record Shown (n : ℕ) (x : Scene) (b : ℕ) (v : List ℕ) : Type 0 where
  pub promises : List Promised
  pub majority : n < 2 * length promises
  pub given : Given x b promises
  pub below : floor (greatest promises) < b
  pub entry : (q : Proposal) → greatest promises ≡ Some q → v ≡ q.entry

-- what is true of each entry that is asked for; `V` is true of what was proposed
pub record Asked (n : ℕ) (V : List ℕ → Type 0) (x : Scene) (b : ℕ) (v : List ℕ) : Type 0 where
  pub proposed : V v
  pub positive : 0 < b
  pub used : b ≤ (x.at_member (b % n)).used
  pub shown : Shown n x b v

-- an attempt that runs at a member
pub record Running (n : ℕ) (V : List ℕ → Type 0) (x : Scene) (m : ℕ) (a : Attempt) : Type 0 where
  pub own : a.ballot % n ≡ m
  pub positive : 0 < a.ballot
  pub used : a.ballot ≤ (x.at_member m).used
  pub proposed : V a.entry
  pub given : Given x a.ballot a.promises
  pub heard : (k : ℕ) → Member k a.accepters → x.sent a.ballot (Accepted k)
  pub apart : Apart a.accepters
  pub before : is_majority n (length a.promises) ≡ false → (v : List ℕ) → x.sent a.ballot (Accept v) → ⊥
  pub after : is_majority n (length a.promises) ≡ true → x.sent a.ballot (Accept (entry_of a))

-- what proposers ask: under one ballot one entry
pub record Asks (n : ℕ) (V : List ℕ → Type 0) (x : Scene) : Type 0 where
  pub asks : (b : ℕ) (v : List ℕ) → x.sent b (Accept v) → Asked n V x b v
  pub one : (b : ℕ) (v w : List ℕ) → x.sent b (Accept v) → x.sent b (Accept w) → v ≡ w
  pub running : (m : ℕ) (a : Attempt) → (x.at_member m).attempt ≡ Some a → Running n V x m a

-- An entry is chosen: a majority voted under a ballot under which it was asked for.
pub record IsChosen (n : ℕ) (x : Scene) (v : List ℕ) : Type 0 where
  pub ballot : ℕ
  pub voters : List ℕ
  pub majority : n < 2 * length voters
  pub apart : Apart voters
  pub voted : (k : ℕ) → Member k voters → x.sent ballot (Accepted k)
  pub asked : x.sent ballot (Accept v)

-- what is said to be chosen, or held, is chosen
pub record Choices (n : ℕ) (x : Scene) : Type 0 where
  pub told : (b : ℕ) (v : List ℕ) → x.sent b (Chosen v) → IsChosen n x v
  pub holds : (m : ℕ) (v : List ℕ) → (x.at_member m).held ≡ Some v → IsChosen n x v

pub record Lawful (n : ℕ) (V : List ℕ → Type 0) (x : Scene) : Type 0 where
  pub votes : Votes n x
  pub asks : Asks n V x
  pub choices : Choices n x
