-- One step after another.
use Rattle.std.proofs.Common.{◌≡◌, ℕ, suc, ◌+◌, ◌<◌, List, [], ◌∷◌, ◌++◌, length, flat_map, get_or, take, refl, ap, sym, ◌∙◌, subst}
use Rattle.std.proofs.Common.{arith, Some, append_assoc, append-nil}
use Rattle.std.proofs.Common.{length-append}
use Rattle.std.specs.Prelude.{max, slice_get, slice_set}
use Rattle.std.proofs.Math.Seq.{take-suc}
use Rattle.std.proofs.lemmas.Grind.{flat_map-append}
use Rattle.std.proofs.lemmas.List.Sums.{fold-append}
use Rattle.ds_asked.specs.declared.lines.Asked.{Asked}
use Rattle.ds_asked.specs.AskedLines.{was_read}
use Rattle.ds_model.specs.Answers.{BodyAnswers}
use Rattle.ds_model.specs.Legal.{acknowledged_in, drawn_by}
use Rattle.ds_model.specs.Sessions.{Session, met}
use Rattle.ds_model.specs.Worlds.{World}
use Rattle.ds_reply.specs.declared.reply.Body.{Body}
use Rattle.ds_reply.specs.declared.reply.Reply.{Reply}
use Rattle.ds_reply.specs.Replies.{reply_text}
use Rattle.ds_told.specs.Told.{ToldParts, above_in, printed_in}
use Rattle.ds_judging_lines.specs.Deciding.{HasCounter, IsTheAnswer}
use Rattle.ds_check.specs.declared.steps.Step.{Step}
use Rattle.ds_check.specs.declared.steps.Step.TheVariants.{Meet, Ask}
use Rattle.ds_check.specs.Walks.{AreReplies, IsNoted, IsTold, Stands, Walk, asks}
use Rattle.ds_check.specs.Walks.{drawn_steps}

some-same : (s t : Session) → Some s ≡ Some t → s ≡ t
some-same s t is = cc

-- ---- counts

pub asks-append : (steps more : List Step) → asks (steps ++ more) ≡ asks steps + asks more
asks-append [] more = omega arith
asks-append (Meet ∷ steps) more = asks-append steps more
asks-append (Ask a ∷ steps) more = let rest = asks-append steps more in omega (arith, rest)

-- one step more
pub asks-more : (steps : List Step) (i : ℕ) (s : Step) → i < length steps → s ≡ get_or steps i s
    → asks (take (i + 1) steps) ≡ asks (take i steps) + asks (s ∷ [])
asks-more steps i s below is =
    ap (λ k. asks (take k steps)) (let k : i + 1 ≡ suc i = omega arith in k)
    ∙ ap asks (take-suc steps i s below)
    ∙ asks-append (take i steps) (get_or steps i s ∷ [])
    ∙ ap (λ (x : Step). asks (take i steps) + asks (x ∷ [])) (sym is)

-- ---- the numbers

drawn-meet : (steps : List Step) (replies : List Reply) → asks steps ≡ length replies
    → drawn_steps (steps ++ Meet ∷ []) replies ≡ drawn_steps steps replies
drawn-meet [] replies counted = refl
drawn-meet (Meet ∷ steps) replies counted = drawn-meet steps replies counted
drawn-meet (Ask a ∷ steps) [] counted = absurd (omega (arith, counted))
drawn-meet (Ask a ∷ steps) (r ∷ replies) counted =
    ap (λ ids. drawn_by (was_read a) r.body ++ ids) (drawn-meet steps replies (omega (arith, counted)))

drawn-ask : (steps : List Step) (replies : List Reply) (a : Asked) (r : Reply) → asks steps ≡ length replies
    → drawn_steps (steps ++ Ask a ∷ []) (replies ++ r ∷ []) ≡ drawn_steps steps replies ++ drawn_by (was_read a) r.body
drawn-ask [] [] a r counted = append-nil (drawn_by (was_read a) r.body)
drawn-ask [] (q ∷ replies) a r counted = absurd (omega (arith, counted))
drawn-ask (Meet ∷ steps) replies a r counted = drawn-ask steps replies a r counted
drawn-ask (Ask b ∷ steps) [] a r counted = absurd (omega (arith, counted))
drawn-ask (Ask b ∷ steps) (q ∷ replies) a r counted =
    ap (λ ids. drawn_by (was_read b) q.body ++ ids) (drawn-ask steps replies a r (omega (arith, counted)))
    ∙ sym (append_assoc (drawn_by (was_read b) q.body) (drawn_steps steps replies) (drawn_by (was_read a) r.body))

pub told-meet : (steps : List Step) (replies : List Reply) (told : ToldParts) → asks steps ≡ length replies → IsTold steps replies told
    → IsTold (steps ++ Meet ∷ []) replies told
told-meet steps replies told counted is = record {
  commits = is.commits;
  drawn = is.drawn ∙ sym (drawn-meet steps replies counted);
  accepted = is.accepted;
  printed = is.printed;
}

pub told-ask : (steps : List Step) (replies : List Reply) (told later : ToldParts) (a : Asked) (r : Reply) → asks steps ≡ length replies
    → IsTold steps replies told → IsNoted a r.body told later → IsTold (steps ++ Ask a ∷ []) (replies ++ r ∷ []) later
told-ask steps replies told later a r counted is noted = record {
  commits =
      noted.commits
      ∙ ap (λ ns. ns ++ acknowledged_in r.body) is.commits
      ∙ ap (λ ns. flat_map (λ q. acknowledged_in q.body) replies ++ ns) (sym (append-nil (acknowledged_in r.body)))
      ∙ sym (flat_map-append (λ (q : Reply). acknowledged_in q.body) replies (r ∷ []));
  drawn = noted.drawn ∙ ap (λ ids. ids ++ drawn_by (was_read a) r.body) is.drawn ∙ sym (drawn-ask steps replies a r counted);
  accepted =
      noted.accepted ∙ ap (λ n. max n (above_in r.body)) is.accepted
      ∙ sym (fold-append (λ m (q : Reply). max m (above_in q.body)) 0 replies (r ∷ []));
  printed =
      noted.printed ∙ ap (λ n. max n (printed_in r.body)) is.printed
      ∙ sym (fold-append (λ m (q : Reply). max m (printed_in q.body)) 0 replies (r ∷ []));
}

-- ---- the steps

module _ (w : World) (first : List Session) where
  pub stands_begun : Stands w first [] [] first []
  stands_begun = record {
    counted = refl;
    lines_counted = refl;
    further = λ more rest after walk. walk;
    read = λ behind rest are. are;
    only = λ more behind others after are walk. (others, refl, are, walk);
  }

  pub stands_meet : (steps : List Step) (lines : List (List ℕ)) (now : List Session) (replies : List Reply)
      → Stands w first steps lines now replies → Stands w first (steps ++ Meet ∷ []) lines (met now) replies
  stands_meet steps lines now replies stands = record {
    counted = let all = asks-append steps (Meet ∷ []) in let so_far = stands.counted in omega (arith, all, so_far);
    lines_counted = stands.lines_counted;
    further = λ more rest after walk.
        subst (λ all. Walk w first all (replies ++ rest) after) (sym (append_assoc steps (Meet ∷ []) more))
        (stands.further (Meet ∷ more) rest after walk);
    read = stands.read;
    only = λ more behind others after are walk.
        stands.only (Meet ∷ more) behind others after are
        (subst (λ all. Walk w first all others after) (append_assoc steps (Meet ∷ []) more) walk);
  }

  reply_as : (a : Asked) (said : Body) → Reply
  reply_as a said = record { client = a.client; line = a.number; body = said }

  read-one : (a : Asked) (line : List ℕ) (said : Body) (behind : List (List ℕ)) (rest : List Reply) → HasCounter said
      → reply_text (record { client = a.client; line = a.number; body = said }) ≡ line ++ 10 ∷ [] → AreReplies rest behind
      → AreReplies ((record { client = a.client; line = a.number; body = said }) ∷ rest) (line ∷ behind)
  read-one a line said behind rest counter is are = (counter, is, are)

  abbrev Left : List Session → List Step → List (List ℕ) → List Reply → List Reply → List Session → Type 0
  Left now more behind replies others after =
      (rest : List Reply) × (others ≡ replies ++ rest) × AreReplies rest behind × Walk w now more rest after

  left-one : (now : List Session) (more : List Step) (behind : List (List ℕ)) (replies others : List Reply) (after : List Session)
      (a : Asked) (line : List ℕ) (said : Body) (session next : Session) → slice_get now a.client ≡ Some session
      → IsTheAnswer (λ b t. BodyAnswers w session (was_read a) b t) a.client a.number line said next
      → Left now (Ask a ∷ more) (line ∷ behind) replies others after
      → Left (slice_set now a.client next) more behind (replies ++ (record { client = a.client; line = a.number; body = said }) ∷ [])
      others after
  left-one now more behind replies others after a line said session next own answer ([], is, are, walk) = absurd walk
  left-one now more behind replies others after a line said session next own answer (
    r ∷ rest,
    is,
    (counter, text, are),
    (s, t, got, reply, walk),
  ) =
      let same : s ≡ session = some-same s session (sym got ∙ own) in
      let r_is : r ≡ record { client = a.client; line = a.number; body = r.body } =
      λ i. record { client = reply.addressed i; line = reply.numbered i; body = r.body } in
      let answers : BodyAnswers w session (was_read a) r.body t = subst (λ x. BodyAnswers w x (was_read a) r.body t) same reply.said in
      let one = answer.only r.body t counter (ap reply_text (sym r_is) ∙ text) answers in
      let whole : r ≡ record { client = a.client; line = a.number; body = said } =
      r_is ∙ ap (λ (b : Body). (record { client = a.client; line = a.number; body = b })) one.0 in (
        rest,
        is ∙ ap (λ q. replies ++ q ∷ rest) whole
            ∙ sym (append_assoc replies ((record { client = a.client; line = a.number; body = said }) ∷ []) rest),
        are,
        subst (λ x. Walk w (slice_set now a.client x) more rest after) one.1 walk,
      )

  pub stands_ask : (steps : List Step) (lines : List (List ℕ)) (now : List Session) (replies : List Reply) (a : Asked) (line : List ℕ)
      (said : Body) (session next : Session) → Stands w first steps lines now replies → slice_get now a.client ≡ Some session
      → IsTheAnswer (λ b t. BodyAnswers w session (was_read a) b t) a.client a.number line said next
      → Stands w first (steps ++ Ask a ∷ []) (lines ++ line ∷ []) (slice_set now a.client next)
      (replies ++ (record { client = a.client; line = a.number; body = said }) ∷ [])
  stands_ask steps lines now replies a line said session next stands own answer = record {
    counted =
        let all = asks-append steps (Ask a ∷ []) in
        let so_far = stands.counted in
        let many = length-append replies ((record { client = a.client; line = a.number; body = said }) ∷ []) in omega
        (arith, all, so_far, many);
    lines_counted =
        let so_far = stands.lines_counted in
        let all = length-append lines (line ∷ []) in
        let many = length-append replies ((record { client = a.client; line = a.number; body = said }) ∷ []) in omega
        (arith, all, so_far, many);
    further = λ more rest after walk.
        subst (λ all. Walk w first all ((replies ++ (record { client = a.client; line = a.number; body = said }) ∷ []) ++ rest) after)
        (sym (append_assoc steps (Ask a ∷ []) more))
        (subst (λ all. Walk w first (steps ++ Ask a ∷ more) all after)
        (sym (append_assoc replies ((record { client = a.client; line = a.number; body = said }) ∷ []) rest))
        (stands.further (Ask a ∷ more) ((record { client = a.client; line = a.number; body = said }) ∷ rest) after
        (session, next, own, record { numbered = refl; addressed = refl; said = answer.is_answer }, walk)));
    read = λ behind rest are.
        subst (λ all. AreReplies ((replies ++ (record { client = a.client; line = a.number; body = said }) ∷ []) ++ rest) all)
        (sym (append_assoc lines (line ∷ []) behind))
        (subst (λ all. AreReplies all (lines ++ line ∷ behind))
        (sym (append_assoc replies ((record { client = a.client; line = a.number; body = said }) ∷ []) rest))
        (stands.read (line ∷ behind) ((record { client = a.client; line = a.number; body = said }) ∷ rest)
        (answer.counter, answer.is_said, are)));
    only = λ more behind others after are walk.
        left-one now more behind replies others after a line said session next own answer
        (stands.only (Ask a ∷ more) (line ∷ behind) others after
        (subst (λ all. AreReplies others all) (append_assoc lines (line ∷ []) behind) are)
        (subst (λ all. Walk w first all others after) (append_assoc steps (Ask a ∷ []) more) walk));
  }
