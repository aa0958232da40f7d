-- Replies to puts and deletes.
use Rattle.std.proofs.Common.{◌≡◌, ℕ, zero, suc, ◌-◌, ◌^◌, ◌<◌, ◌≤◌, List, length, refl, ap, sym, ◌∙◌, subst, arith}
use Rattle.std.proofs.Common.{Option, Some, None, Bool, true, false}
use Rattle.std.specs.Prelude.{codes, nat_eq, slice_get}
use Rattle.std.proofs.lemmas.Option.{slice_get_within}
use Rattle.ds_entity.specs.Entities.{EntityParts}
use Rattle.ds_base.specs.Keys.{KeyParts, ends_in_id, renumbered, root_of}
use Rattle.ds_base.specs.Limits.{greatest_id}
use Rattle.ds_bytes.specs.Lawful.{IsLawfulKey}
use Rattle.ds_history.specs.Writers.{nth_commit}
use Rattle.ds_log.specs.declared.Commit.{Commit}
use Rattle.ds_log.specs.declared.Write.{Write}
use Rattle.ds_log.specs.declared.Write.TheVariants.{Put, Delete}
use Rattle.ds_log.specs.Logs.{key_of}
use Rattle.ds_request.specs.declared.call.Call.TheVariants as call
use Rattle.ds_reply.specs.declared.reply.WriteAt.{WriteAt}
use Rattle.ds_reply.specs.declared.reply.WriteAt.TheVariants as at
use Rattle.ds_reply.specs.declared.reply.Body.{Body}
use Rattle.ds_reply.specs.declared.reply.Body.TheVariants as body
use Rattle.ds_journal_text.proofs.CommitsPlain.{key_plain}
use Rattle.ds_reply_lines.specs.ReplyLines.{last_id_at, number_at, told_by}
use Rattle.ds_model.specs.Answers.{CallAnswers, PutAnswers, WriteAnswers}
use Rattle.ds_model.specs.Groups.{StandsAt, place_in}
use Rattle.ds_model.specs.Sessions.{Session, Transaction, next_above, saw_next, saw_place}
use Rattle.ds_model.specs.Worlds.{World}
use Rattle.ds_protocol.specs.Transactions.{MayWrite}
use Rattle.ds_judging_writes.specs.Committing.{IsPut, own_commit, saw_write, written_body}
use Rattle.ds_judging_lines.specs.Deciding.{DecidesTurn, HasCounter, IsOnlyTold, IsTurn, NoAnswer, SaysThen, world_in}
use Rattle.ds_judging_writes.specs.Writing.{IsIdNotIssued, IsPutExhausted, IsWritten}
use Rattle.ds_judging_lines.specs.declared.turn.Turn.{Turn}
use Rattle.ds_judging_lines.proofs.Decisions.{decides_as, decides_one, only_none, only_some}
use Rattle.ds_judging_writes.proofs.WritesTold.{Error, IsSmallAt, Says, delete_alone_tells, delete_inside_tells, exhausted_tells, new_put_tells}
use Rattle.ds_judging_writes.proofs.WritesTold.{not_issued_tells, put_alone_tells, put_inside_tells, unissued_small}

-- ---- replies to a write

two-errors : (o : Option ℕ) → o ≡ Some 22 → o ≡ Some 21 → ⊥
two-errors o first second =
    let same : ◌≡◌ {A = ℕ} 22 21 = cc in
    let wrong : false ≡ true = subst (λ (n : ℕ). nat_eq n 22 ≡ true) same refl in
    cc

stands-within : (journal : List Commit) (s : Session) (o : Option ℕ) (m : ℕ) → StandsAt journal s o m → m ≤ length journal
stands-within journal s None m h = h.within
stands-within journal s (Some place) m h = h.1

-- a commit's number counts from 1
pub numbered : (journal : List Commit) (place n : ℕ) → place < n → nth_commit journal n ≡ slice_get journal (n - 1)
numbered journal place zero later = absurd (omega arith)
numbered journal place (suc k) later = ap (slice_get journal) (let e : k ≡ suc k - 1 = omega arith in e)

pub number_small : (journal : List Commit) (place n : ℕ) (c : Commit) → length journal < 2 ^ 64 → place < n
    → slice_get journal (n - 1) ≡ Some c → n < 2 ^ 64
number_small journal place n c fits later there = let within = slice_get_within journal (n - 1) c there in omega arith

module _ (turn : Turn) (s : Session) (read : IsTurn turn) where
  abbrev journal : List Commit
  journal = turn.run.now.history.journal

  abbrev world : World
  world = world_in turn

  abbrev pub CommitTold : Option ℕ
  CommitTold = number_at (codes "commit") (told_by turn.told)

  abbrev pub PlaceTold : Option ℕ
  PlaceTold = number_at (codes "place") (told_by turn.told)

  write_small : (o : Option Transaction) (write : Write) (key : KeyParts) (place : WriteAt) (later : Session)
      → WriteAnswers world turn.client s o write key place later → IsSmallAt place
  write_small None write key (at.Commit n) later answered =
      number_small journal s.place n (own_commit turn.client write) read.held.commits answered.0.later answered.0.committed
  write_small None write key (at.Place m) later answered = absurd answered
  write_small (Some t) write key (at.Commit n) later answered = absurd answered
  write_small (Some t) write key (at.Place m) later answered =
      let within = stands-within journal s (place_in (Some t) (root_of key)) m answered.0 in
      let fits = read.held.commits in
      omega arith

  -- ---- outside a transaction

  abbrev ToldAlone : Write → Body → Session → Type 0
  ToldAlone write other later =
      (n : ℕ) × (other ≡ written_body write (at.Commit n)) × (CommitTold ≡ Some n) × (s.place < n)
      × (nth_commit journal n ≡ Some (own_commit turn.client write))
      × (later ≡ saw_next (next_above (key_of write).elems) (saw_place n s))

  put_alone_told : (e : EntityParts) (place : WriteAt) (later : Session) → IsLawfulKey e.key → Says turn (body.Put e.key place)
      → WriteAnswers world turn.client s None (Put e) e.key place later → ToldAlone (Put e) (body.Put e.key place) later
  put_alone_told e (at.Commit n) later lawful said answered =
      let small = write_small None (Put e) e.key (at.Commit n) later answered in
      let told = put_alone_tells turn read e.key n (key_plain e.key 124 lawful) small said in
      (n, refl, told.1, answered.0.later, numbered journal s.place n answered.0.later ∙ answered.0.committed, answered.1)
  put_alone_told e (at.Place m) later lawful said answered = absurd answered

  delete_alone_told : (k : KeyParts) (place : WriteAt) (later : Session) → IsLawfulKey k → Says turn (body.Delete k place)
      → WriteAnswers world turn.client s None (Delete k) k place later → ToldAlone (Delete k) (body.Delete k place) later
  delete_alone_told k (at.Commit n) later lawful said answered =
      let small = write_small None (Delete k) k (at.Commit n) later answered in
      let told = delete_alone_tells turn read k n lawful small said in
      (n, refl, told.1, answered.0.later, numbered journal s.place n answered.0.later ∙ answered.0.committed, answered.1)
  delete_alone_told k (at.Place m) later lawful said answered = absurd answered

  alone_told : (write : Write) (other : Body) (later : Session) → IsLawfulKey (key_of write) → s.transaction ≡ None → Says turn other
      → IsWritten world turn.client s write other later → ToldAlone write other later
  alone_told (Put e) (body.Put printed place) later lawful outside said answered =
      subst (λ k. ToldAlone (Put e) (body.Put k place) later) (sym answered.0)
      (put_alone_told e place later lawful (subst (λ k. Says turn (body.Put k place)) answered.0 said)
      (subst (λ k. WriteAnswers world turn.client s None (Put e) k place later) answered.0
      (subst (λ o. WriteAnswers world turn.client s o (Put e) printed place later) outside answered.1)))
  alone_told (Delete k) (body.Delete printed place) later lawful outside said answered =
      subst (λ x. ToldAlone (Delete k) (body.Delete x place) later) (sym answered.0)
      (delete_alone_told k place later lawful (subst (λ x. Says turn (body.Delete x place)) answered.0 said)
      (subst (λ x. WriteAnswers world turn.client s None (Delete k) x place later) answered.0
      (subst (λ o. WriteAnswers world turn.client s o (Delete k) printed place later) outside answered.1)))
  alone_told (Put e) _ later lawful outside said answered = absurd answered
  alone_told (Delete k) _ later lawful outside said answered = absurd answered

  pub alone_none : (write : Write) → IsLawfulKey (key_of write) → s.transaction ≡ None
      → ((n : ℕ) → CommitTold ≡ Some n → s.place < n → nth_commit journal n ≡ Some (own_commit turn.client write) → ⊥)
      → NoAnswer (IsWritten world turn.client s write) turn.client turn.number turn.line.now
  alone_none write lawful outside never = λ other later counter said answered.
      let h = alone_told write other later lawful outside said answered in
      never h.0 h.2 h.3 h.4

  abbrev pub saw_alone : Write → ℕ → Session
  saw_alone write n = saw_next (next_above (key_of write).elems) (saw_place n s)

  alone_answers : (write : Write) (n : ℕ) → s.transaction ≡ None → s.place < n
      → nth_commit journal n ≡ Some (own_commit turn.client write)
      → IsWritten world turn.client s write (written_body write (at.Commit n)) (saw_alone write n)
  alone_answers (Put e) n outside later there = (
    refl,
    subst (λ o. WriteAnswers world turn.client s o (Put e) e.key (at.Commit n) (saw_alone (Put e) n)) (sym outside)
        (record { later = later; committed = sym (numbered journal s.place n later) ∙ there }, refl),
  )
  alone_answers (Delete k) n outside later there = (
    refl,
    subst (λ o. WriteAnswers world turn.client s o (Delete k) k (at.Commit n) (saw_alone (Delete k) n)) (sym outside)
        (record { later = later; committed = sym (numbered journal s.place n later) ∙ there }, refl),
  )

  counterless : (write : Write) (place : WriteAt) → HasCounter (written_body write place)
  counterless (Put e) place = tt
  counterless (Delete k) place = tt

  pub alone_decided : (write : Write) (n : ℕ) (found : Option Body) (after : Session) → IsLawfulKey (key_of write) → s.transaction ≡ None
      → CommitTold ≡ Some n → s.place < n → nth_commit journal n ≡ Some (own_commit turn.client write)
      → SaysThen turn (written_body write (at.Commit n)) (saw_alone write n) found after
      → DecidesTurn turn (IsWritten world turn.client s write) found after
  alone_decided write n found after lawful outside told later there says =
      decides_one (IsWritten world turn.client s write) turn (written_body write (at.Commit n)) (saw_alone write n) after found
      (counterless write (at.Commit n)) (alone_answers write n outside later there) only says
    where
      only : (other : Body) (next : Session) → HasCounter other → Says turn other → IsWritten world turn.client s write other next
          → (other ≡ written_body write (at.Commit n)) × (next ≡ saw_alone write n)
      only other next counter said answered =
          let h = alone_told write other next lawful outside said answered in
          let same : h.0 ≡ n = cc (h.2, told) in
          (h.1 ∙ ap (λ m. written_body write (at.Commit m)) same, h.5 ∙ ap (saw_alone write) same)

  -- ---- inside one

  abbrev ToldInside : Transaction → Write → Body → Session → Type 0
  ToldInside t write other later =
      (m : ℕ) × (other ≡ written_body write (at.Place m)) × (PlaceTold ≡ Some m)
      × StandsAt journal s (place_in (Some t) (root_of (key_of write))) m
      × (later ≡ saw_write write (root_of (key_of write)) m (Some t) s)

  put_inside_told : (t : Transaction) (e : EntityParts) (place : WriteAt) (later : Session) → IsLawfulKey e.key
      → Says turn (body.Put e.key place)
      → WriteAnswers world turn.client s (Some t) (Put e) e.key place later → ToldInside t (Put e) (body.Put e.key place) later
  put_inside_told t e (at.Place m) later lawful said answered =
      let small = write_small (Some t) (Put e) e.key (at.Place m) later answered in
      let told = put_inside_tells turn read e.key m (key_plain e.key 124 lawful) small said in
      (m, refl, told.1, answered.0, answered.1)
  put_inside_told t e (at.Commit n) later lawful said answered = absurd answered

  delete_inside_told : (t : Transaction) (k : KeyParts) (place : WriteAt) (later : Session) → IsLawfulKey k
      → Says turn (body.Delete k place)
      → WriteAnswers world turn.client s (Some t) (Delete k) k place later → ToldInside t (Delete k) (body.Delete k place) later
  delete_inside_told t k (at.Place m) later lawful said answered =
      let small = write_small (Some t) (Delete k) k (at.Place m) later answered in
      let told = delete_inside_tells turn read k m lawful small said in
      (m, refl, told.1, answered.0, answered.1)
  delete_inside_told t k (at.Commit n) later lawful said answered = absurd answered

  inside_told : (t : Transaction) (write : Write) (other : Body) (later : Session) → IsLawfulKey (key_of write) → s.transaction ≡ Some t
      → Says turn other → IsWritten world turn.client s write other later → ToldInside t write other later
  inside_told t (Put e) (body.Put printed place) later lawful inside said answered =
      subst (λ k. ToldInside t (Put e) (body.Put k place) later) (sym answered.0)
      (put_inside_told t e place later lawful (subst (λ k. Says turn (body.Put k place)) answered.0 said)
      (subst (λ k. WriteAnswers world turn.client s (Some t) (Put e) k place later) answered.0
      (subst (λ o. WriteAnswers world turn.client s o (Put e) printed place later) inside answered.1)))
  inside_told t (Delete k) (body.Delete printed place) later lawful inside said answered =
      subst (λ x. ToldInside t (Delete k) (body.Delete x place) later) (sym answered.0)
      (delete_inside_told t k place later lawful (subst (λ x. Says turn (body.Delete x place)) answered.0 said)
      (subst (λ x. WriteAnswers world turn.client s (Some t) (Delete k) x place later) answered.0
      (subst (λ o. WriteAnswers world turn.client s o (Delete k) printed place later) inside answered.1)))
  inside_told t (Put e) _ later lawful inside said answered = absurd answered
  inside_told t (Delete k) _ later lawful inside said answered = absurd answered

  inside_answers : (t : Transaction) (write : Write) (m : ℕ) → s.transaction ≡ Some t
      → StandsAt journal s (place_in (Some t) (root_of (key_of write))) m
      → IsWritten world turn.client s write (written_body write (at.Place m)) (saw_write write (root_of (key_of write)) m (Some t) s)
  inside_answers t (Put e) m inside stands = (
    refl,
    subst (λ o. WriteAnswers world turn.client s o (Put e) e.key (at.Place m) (saw_write (Put e) (root_of e.key) m (Some t) s))
        (sym inside) (stands, refl),
  )
  inside_answers t (Delete k) m inside stands = (
    refl,
    subst (λ o. WriteAnswers world turn.client s o (Delete k) k (at.Place m) (saw_write (Delete k) (root_of k) m (Some t) s))
        (sym inside) (stands, refl),
  )

  abbrev Stands : Write → ℕ → Type 0
  Stands write m = StandsAt journal s (place_in s.transaction (root_of (key_of write))) m

  pub inside_none : (o : Option Transaction) (write : Write) → s.transaction ≡ o → IsLawfulKey (key_of write)
      → MayWrite o (root_of (key_of write)) → ((m : ℕ) → PlaceTold ≡ Some m → Stands write m → ⊥)
      → NoAnswer (IsWritten world turn.client s write) turn.client turn.number turn.line.now
  inside_none None write inside lawful allowed never = absurd allowed
  inside_none (Some t) write inside lawful allowed never = λ other later counter said answered.
      let h = inside_told t write other later lawful inside said answered in
      never h.0 h.2 (subst (λ o. StandsAt journal s (place_in o (root_of (key_of write))) h.0) (sym inside) h.3)

  pub inside_none_at : (o : Option Transaction) (write : Write) (group : KeyParts) (r : Option ℕ) → s.transaction ≡ o
      → IsLawfulKey (key_of write) → MayWrite o (root_of (key_of write)) → group ≡ root_of (key_of write)
      → IsOnlyTold (StandsAt journal s (place_in s.transaction group)) PlaceTold r → ((m : ℕ) → r ≡ Some m → ⊥)
      → NoAnswer (IsWritten world turn.client s write) turn.client turn.number turn.line.now
  inside_none_at o write group r inside lawful allowed is only never =
      inside_none o write inside lawful allowed (only_none (Stands write) PlaceTold r
      (subst (λ g. IsOnlyTold (StandsAt journal s (place_in s.transaction g)) PlaceTold r) is only) never)

  abbrev saw_in : Write → Option Transaction → ℕ → Session
  saw_in write o m = saw_write write (root_of (key_of write)) m o s

  pub inside_decided : (o : Option Transaction) (write : Write) (m : ℕ) (found : Option Body) (after : Session) → s.transaction ≡ o
      → IsLawfulKey (key_of write) → MayWrite o (root_of (key_of write)) → Stands write m
      → ((k : ℕ) → PlaceTold ≡ Some k → Stands write k → k ≡ m)
      → SaysThen turn (written_body write (at.Place m)) (saw_write write (root_of (key_of write)) m s.transaction s) found after
      → DecidesTurn turn (IsWritten world turn.client s write) found after
  inside_decided None write m found after inside lawful allowed stands one says = absurd allowed
  inside_decided (Some t) write m found after inside lawful allowed stands one says =
      decides_one (IsWritten world turn.client s write) turn (written_body write (at.Place m)) (saw_in write (Some t) m) after found
      (counterless write (at.Place m))
      (inside_answers t write m inside (subst (λ o. StandsAt journal s (place_in o (root_of (key_of write))) m) inside stands)) only
      (subst (λ o. SaysThen turn (written_body write (at.Place m)) (saw_in write o m) found after) inside says)
    where
      only : (other : Body) (next : Session) → HasCounter other → Says turn other → IsWritten world turn.client s write other next
          → (other ≡ written_body write (at.Place m)) × (next ≡ saw_in write (Some t) m)
      only other next counter said answered =
          let h = inside_told t write other next lawful inside said answered in
          let same : h.0 ≡ m = one h.0 h.2 (subst (λ o. StandsAt journal s (place_in o (root_of (key_of write))) h.0) (sym inside) h.3) in
          (h.1 ∙ ap (λ k. written_body write (at.Place k)) same, h.4 ∙ ap (saw_in write (Some t)) same)

  pub inside_decided_at : (o : Option Transaction) (write : Write) (group : KeyParts) (r : Option ℕ) (m : ℕ) (said : Body)
      (found : Option Body) (after : Session) → s.transaction ≡ o → IsLawfulKey (key_of write) → MayWrite o (root_of (key_of write))
      → group ≡ root_of (key_of write) → IsOnlyTold (StandsAt journal s (place_in s.transaction group)) PlaceTold r → r ≡ Some m
      → said ≡ written_body write (at.Place m) → SaysThen turn said (saw_write write group m s.transaction s) found after
      → DecidesTurn turn (IsWritten world turn.client s write) found after
  inside_decided_at o write group r m said found after inside lawful allowed is only told body_is says =
      let here = only_some (Stands write) PlaceTold r m
      (subst (λ g. IsOnlyTold (StandsAt journal s (place_in s.transaction g)) PlaceTold r) is only) told in
      inside_decided o write m found after inside lawful allowed here.0 here.1
      (subst (λ g. SaysThen turn (written_body write (at.Place m)) (saw_write write g m s.transaction s) found after) is
      (subst (λ b. SaysThen turn b (saw_write write group m s.transaction s) found after) body_is says))

  -- ---- puts

  module _ (e : EntityParts) where
    abbrev under : KeyParts → EntityParts
    under key = record { key = key; properties = e.properties }

    -- under the asked key
    pub complete_as : (found : Option Body) (after : Session) → DecidesTurn turn (IsWritten world turn.client s (Put e)) found after
        → DecidesTurn turn (IsPut world turn.client s false e) found after
    complete_as found after =
        decides_as (IsWritten world turn.client s (Put e)) turn (IsPut world turn.client s false e) after found there back
      where
        there : (b : Body) (t : Session) → HasCounter b → Says turn b → IsWritten world turn.client s (Put e) b t
            → IsPut world turn.client s false e b t
        there (body.Put printed place) t counter said answered = record {
          completed = answered.0;
          written = subst (λ k. WriteAnswers world turn.client s s.transaction (Put (under k)) printed place t) (sym answered.0) answered.1;
        }
        there _ t counter said answered = absurd answered

        back : (b : Body) (t : Session) → HasCounter b → Says turn b → IsPut world turn.client s false e b t
            → IsWritten world turn.client s (Put e) b t
        back (body.Put printed place) t counter said answered = (
          answered.completed,
          subst (λ k. WriteAnswers world turn.client s s.transaction (Put (under k)) printed place t) answered.completed answered.written,
        )
        back _ t counter said answered = absurd answered

    -- under a drawn one
    new_put_told : (printed : KeyParts) (place : WriteAt) (later : Session) → IsLawfulKey e.key → ends_in_id e.key.elems ≡ true
        → Says turn (body.Put printed place) → PutAnswers world turn.client s true e.key e.properties printed place later
        → (id : ℕ) × (printed ≡ renumbered e.key id) × (Error turn ≡ None) × (last_id_at (codes "key") (told_by turn.told) ≡ Some id)
        × (s.next_id ≤ id) × (id < greatest_id)
    new_put_told printed place later lawful ends said answered =
        let id = answered.completed.0 in
        let below : id < greatest_id = answered.completed.2 in
        let fits : id < 2 ^ 64 = omega arith in
        let told = new_put_tells turn read e.key id place lawful ends fits
        (write_small s.transaction (Put (under printed)) printed place later answered.written)
        (subst (λ k. Says turn (body.Put k place)) answered.completed.3 said) in
        (id, answered.completed.3, told.0, told.1, answered.completed.1, below)

    pub new_none : IsLawfulKey e.key → ends_in_id e.key.elems ≡ true
        → ((id : ℕ) → last_id_at (codes "key") (told_by turn.told) ≡ Some id → s.next_id ≤ id → id < greatest_id → ⊥)
        → NoAnswer (IsPut world turn.client s true e) turn.client turn.number turn.line.now
    new_none lawful ends never = by where
      by : (other : Body) (later : Session) → HasCounter other → Says turn other → IsPut world turn.client s true e other later → ⊥
      by (body.Put printed place) later counter said answered =
          let h = new_put_told printed place later lawful ends said answered in
          never h.0 h.3 h.4 h.5
      by _ later counter said answered = answered

    pub new_as : (id : ℕ) (found : Option Body) (after : Session) → IsLawfulKey e.key → ends_in_id e.key.elems ≡ true
        → last_id_at (codes "key") (told_by turn.told) ≡ Some id → s.next_id ≤ id → id < greatest_id
        → DecidesTurn turn (IsWritten world turn.client s (Put (under (renumbered e.key id)))) found after
        → DecidesTurn turn (IsPut world turn.client s true e) found after
    new_as id found after lawful ends told shown below =
        decides_as (IsWritten world turn.client s (Put (under (renumbered e.key id)))) turn (IsPut world turn.client s true e) after found
        there back
      where
        there : (b : Body) (t : Session) → HasCounter b → Says turn b
            → IsWritten world turn.client s (Put (under (renumbered e.key id))) b t
            → IsPut world turn.client s true e b t
        there (body.Put printed place) t counter said answered = record {
          completed = (id, shown, below, answered.0);
          written = subst (λ k. WriteAnswers world turn.client s s.transaction (Put (under k)) printed place t) (sym answered.0) answered.1;
        }
        there _ t counter said answered = absurd answered

        back : (b : Body) (t : Session) → HasCounter b → Says turn b → IsPut world turn.client s true e b t
            → IsWritten world turn.client s (Put (under (renumbered e.key id))) b t
        back (body.Put printed place) t counter said answered =
            let h = new_put_told printed place t lawful ends said answered in
            let same : h.0 ≡ id = cc (h.3, told) in
            let is : printed ≡ renumbered e.key id = h.1 ∙ ap (renumbered e.key) same in
            (is, subst (λ k. WriteAnswers world turn.client s s.transaction (Put (under k)) printed place t) is answered.written)
        back _ t counter said answered = absurd answered

    -- a put that is told is no error
    put_error : (incomplete : Bool) (printed : KeyParts) (place : WriteAt) (later : Session) → IsLawfulKey e.key
        → (incomplete ≡ true → ends_in_id e.key.elems ≡ true) → Says turn (body.Put printed place)
        → PutAnswers world turn.client s incomplete e.key e.properties printed place later → Error turn ≡ None
    put_error true printed place later lawful ends said answered =
        (new_put_told printed place later lawful (ends refl) said answered).2
    put_error false printed (at.Commit n) later lawful ends said answered =
        let same = subst (λ k. IsLawfulKey k) (sym answered.completed) lawful in
        (put_alone_tells turn read printed n (key_plain printed 124 same)
        (write_small s.transaction (Put (under printed)) printed (at.Commit n) later answered.written) said).0
    put_error false printed (at.Place m) later lawful ends said answered =
        let same = subst (λ k. IsLawfulKey k) (sym answered.completed) lawful in
        (put_inside_tells turn read printed m (key_plain printed 124 same)
        (write_small s.transaction (Put (under printed)) printed (at.Place m) later answered.written) said).0

    module _ (incomplete : Bool) (lawful : IsLawfulKey e.key) (ends : incomplete ≡ true → ends_in_id e.key.elems ≡ true)
        (found : Option Body) (after : Session) where
      abbrev pub Puts : Body → Session → Type 0
      Puts = CallAnswers world turn.client s (call.Put e.key incomplete e.properties)

      issued_error : (id next : ℕ) (later : Session) → Says turn (body.IdNotIssued id next)
          → IsIdNotIssued s e.key (body.IdNotIssued id next) later → Error turn ≡ Some 21
      issued_error id next later said answered =
          let bounds = unissued_small next e.key.elems id lawful.elems answered.first in
          let small : next < 2 ^ 64 = omega (arith, bounds.0, bounds.1) in
          (not_issued_tells turn read id next bounds.1 small said).0

      pub put_not_issued : Error turn ≡ Some 21 → DecidesTurn turn (IsIdNotIssued s e.key) found after → DecidesTurn turn Puts found after
      put_not_issued error = decides_as (IsIdNotIssued s e.key) turn Puts after found there back where
        there : (b : Body) (t : Session) → HasCounter b → Says turn b → IsIdNotIssued s e.key b t → Puts b t
        there (body.IdNotIssued id next) t counter said answered = answered
        there _ t counter said answered = absurd answered

        back : (b : Body) (t : Session) → HasCounter b → Says turn b → Puts b t → IsIdNotIssued s e.key b t
        back (body.IdNotIssued id next) t counter said answered = answered
        back (body.Put printed place) t counter said answered =
            cc (put_error incomplete printed place t lawful ends said answered, error)
        back (body.IdsExhausted next) t counter said answered =
            absurd (two-errors (Error turn) (exhausted_tells turn read next counter said).0 error)
        back _ t counter said answered = absurd answered

      pub put_exhausted : Error turn ≡ Some 22 → DecidesTurn turn (IsPutExhausted s incomplete e.key) found after
          → DecidesTurn turn Puts found after
      put_exhausted error = decides_as (IsPutExhausted s incomplete e.key) turn Puts after found there back where
        there : (b : Body) (t : Session) → HasCounter b → Says turn b → IsPutExhausted s incomplete e.key b t → Puts b t
        there (body.IdsExhausted next) t counter said answered = answered
        there _ t counter said answered = absurd answered

        back : (b : Body) (t : Session) → HasCounter b → Says turn b → Puts b t → IsPutExhausted s incomplete e.key b t
        back (body.IdsExhausted next) t counter said answered = answered
        back (body.Put printed place) t counter said answered =
            cc (put_error incomplete printed place t lawful ends said answered, error)
        back (body.IdNotIssued id next) t counter said answered =
            absurd (two-errors (Error turn) error (issued_error id next t said answered))
        back _ t counter said answered = absurd answered

      pub put_put : (Error turn ≡ Some 21 → ⊥) → (Error turn ≡ Some 22 → ⊥)
          → DecidesTurn turn (IsPut world turn.client s incomplete e) found after → DecidesTurn turn Puts found after
      put_put issued left = decides_as (IsPut world turn.client s incomplete e) turn Puts after found there back where
        there : (b : Body) (t : Session) → HasCounter b → Says turn b → IsPut world turn.client s incomplete e b t → Puts b t
        there (body.Put printed place) t counter said answered = answered
        there _ t counter said answered = absurd answered

        back : (b : Body) (t : Session) → HasCounter b → Says turn b → Puts b t → IsPut world turn.client s incomplete e b t
        back (body.Put printed place) t counter said answered = answered
        back (body.IdNotIssued id next) t counter said answered = absurd (issued (issued_error id next t said answered))
        back (body.IdsExhausted next) t counter said answered = absurd (left (exhausted_tells turn read next counter said).0)
        back _ t counter said answered = absurd answered

  -- ---- deletes

  module _ (key : KeyParts) (lawful : IsLawfulKey key) (found : Option Body) (after : Session) where
    abbrev pub Deletes : Body → Session → Type 0
    Deletes = CallAnswers world turn.client s (call.Delete key)

    key_error : (id next : ℕ) (later : Session) → Says turn (body.IdNotIssued id next)
        → IsIdNotIssued s key (body.IdNotIssued id next) later → Error turn ≡ Some 21
    key_error id next later said answered =
        let bounds = unissued_small next key.elems id lawful.elems answered.first in
        let small : next < 2 ^ 64 = omega (arith, bounds.0, bounds.1) in
        (not_issued_tells turn read id next bounds.1 small said).0

    delete_error : (place : WriteAt) (later : Session) → Says turn (body.Delete key place)
        → WriteAnswers world turn.client s s.transaction (Delete key) key place later → Error turn ≡ None
    delete_error (at.Commit n) later said answered =
        (delete_alone_tells turn read key n lawful (write_small s.transaction (Delete key) key (at.Commit n) later answered) said).0
    delete_error (at.Place m) later said answered =
        (delete_inside_tells turn read key m lawful (write_small s.transaction (Delete key) key (at.Place m) later answered) said).0

    pub delete_not_issued : Error turn ≡ Some 21 → DecidesTurn turn (IsIdNotIssued s key) found after → DecidesTurn turn Deletes found after
    delete_not_issued error = decides_as (IsIdNotIssued s key) turn Deletes after found there back where
      there : (b : Body) (t : Session) → HasCounter b → Says turn b → IsIdNotIssued s key b t → Deletes b t
      there (body.IdNotIssued id next) t counter said answered = answered
      there _ t counter said answered = absurd answered

      back : (b : Body) (t : Session) → HasCounter b → Says turn b → Deletes b t → IsIdNotIssued s key b t
      back (body.IdNotIssued id next) t counter said answered = answered
      back (body.Delete printed place) t counter said answered =
          cc (delete_error place t (subst (λ k. Says turn (body.Delete k place)) answered.0 said) answered.1, error)
      back _ t counter said answered = absurd answered

    pub delete_written : (Error turn ≡ Some 21 → ⊥) → DecidesTurn turn (IsWritten world turn.client s (Delete key)) found after
        → DecidesTurn turn Deletes found after
    delete_written issued = decides_as (IsWritten world turn.client s (Delete key)) turn Deletes after found there back where
      there : (b : Body) (t : Session) → HasCounter b → Says turn b → IsWritten world turn.client s (Delete key) b t → Deletes b t
      there (body.Delete printed place) t counter said answered = (
        answered.0,
        subst (λ k. WriteAnswers world turn.client s s.transaction (Delete key) k place t) answered.0 answered.1,
      )
      there _ t counter said answered = absurd answered

      back : (b : Body) (t : Session) → HasCounter b → Says turn b → Deletes b t → IsWritten world turn.client s (Delete key) b t
      back (body.Delete printed place) t counter said answered = (
        answered.0,
        subst (λ k. WriteAnswers world turn.client s s.transaction (Delete key) k place t) (sym answered.0) answered.1,
      )
      back (body.IdNotIssued id next) t counter said answered = absurd (issued (key_error id next t said answered))
      back _ t counter said answered = absurd answered
