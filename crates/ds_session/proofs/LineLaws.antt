-- Lines of one client that are answered one after another.
use Rattle.std.proofs.Common.{◌≡◌, ℕ, ◌+◌, ◌<◌, ◌≤◌, List, [], ◌∷◌, ◌++◌, length, refl, ap, sym, ◌∙◌, subst, append_assoc, arith, Option}
use Rattle.std.proofs.Common.{length-append}
use Rattle.std.specs.Prelude.{flat_map, All}
use Rattle.std.proofs.lemmas.List.{append-nil}
use Rattle.std.proofs.lemmas.Grind.{flat_map-append}
use Rattle.std.proofs.lemmas.List.Elements.{All-nil, All-append, All-weaker}
use Rattle.ds_indexdef.specs.declared.IndexDef.{IndexDef}
use Rattle.ds_reply.specs.declared.reply.Reply.{Reply}
use Rattle.ds_reply.specs.Replies.{reply_text, replies_text}
use Rattle.ds_rounds.specs.Rounds.{NumberedLine}
use Rattle.ds_model.specs.Asked.{Reading, asked, client_of}
use Rattle.ds_model.specs.Legal.{ClientSteps, acknowledged, accepted, printed_next, drawn_by, drawn_in}
use Rattle.ds_model.specs.Sessions.{Session}
use Rattle.ds_model.specs.Worlds.{World}
use Rattle.ds_session_state.specs.Answering.{HasSaid, HasAnswered}
use Rattle.ds_session.specs.GoingOnLaws.{steps_later}
use Rattle.ds_session_state.specs.Sessions.{SessionParts, world_seen}
use Rattle.ds_session_state.proofs.GrowthLaws.{grown_itself, grown_through}

-- ---- replies in a row

pub texts-append : (replies more : List Reply) → replies_text (replies ++ more) ≡ replies_text replies ++ replies_text more
texts-append [] more = refl
texts-append (r ∷ replies) more =
    ap (λ bs. reply_text r ++ bs) (texts-append replies more) ∙ sym (append_assoc (reply_text r) (replies_text replies) (replies_text more))

-- where there is a reply for each line
pub drawn-append : (reading : Reading) (lines more : List NumberedLine) (replies own : List Reply) → length replies ≡ length lines
    → drawn_in reading (lines ++ more) (replies ++ own) ≡ drawn_in reading lines replies ++ drawn_in reading more own
drawn-append reading [] more [] own counted = refl
drawn-append reading [] more (r ∷ replies) own counted = cc
drawn-append reading (l ∷ lines) more [] own counted = cc
drawn-append reading (l ∷ lines) more (r ∷ replies) own counted =
    let fewer : length replies ≡ length lines = cc in
    ap (λ ids. drawn_by (reading l.content) r.body ++ ids) (drawn-append reading lines more replies own fewer)
    ∙ sym (append_assoc (drawn_by (reading l.content) r.body) (drawn_in reading lines replies) (drawn_in reading more own))

steps-append : (reading : Reading) (w : World) (s t u : Session) (lines more : List NumberedLine) (replies own : List Reply)
    → ClientSteps reading w s lines replies t → ClientSteps reading w t more own u
    → ClientSteps reading w s (lines ++ more) (replies ++ own) u
steps-append reading w s t u [] more [] own same later = subst (λ v. ClientSteps reading w v more own u) same later
steps-append reading w s t u [] more (r ∷ replies) own steps later = absurd steps
steps-append reading w s t u (l ∷ lines) more [] own steps later = absurd steps
steps-append reading w s t u (l ∷ lines) more (r ∷ replies) own (next, step, steps) later =
    (next, step, steps-append reading w next t u lines more replies own steps later)

-- ---- none, one, and more

module _ (definitions : List IndexDef) (shards : ℕ) (window : Option ℕ) where
  pub answered_none : (s : SessionParts) → HasAnswered definitions shards window s s []
  answered_none s = record {
    replies = [];
    client = refl;
    grown = grown_itself s.pass;
    steps = refl;
    counted = refl;
    printed = sym (append-nil s.text);
    commits = sym (append-nil s.pass.commits);
    draws = sym (append-nil s.pass.draws);
    accepts = All-nil (λ id. id < s.pass.next);
    prints = All-nil (λ next. next ≤ s.pass.next);
  }

  pub answered_more : (s t u : SessionParts) (lines more : List NumberedLine) → HasAnswered definitions shards window s t lines
      → HasAnswered definitions shards window t u more → HasAnswered definitions shards window s u (lines ++ more)
  answered_more s t u lines more first second = record {
    replies = first.replies ++ second.replies;
    client = second.client ∙ first.client;
    grown = grown_through s.pass t.pass u.pass first.grown second.grown;
    steps = steps-append (asked shards) (world_seen definitions shards window u.pass) s.seen t.seen u.seen lines more first.replies
        second.replies
        (steps_later definitions shards window (asked shards) t.pass s.seen t.seen lines first.replies first.steps u.pass second.grown)
        second.steps;
    counted = length-append first.replies second.replies ∙ ap (λ n. n + length second.replies) first.counted
        ∙ ap (λ n. length lines + n) second.counted ∙ sym (length-append lines more);
    printed = second.printed ∙ ap (λ bs. bs ++ replies_text second.replies) first.printed
        ∙ append_assoc s.text (replies_text first.replies) (replies_text second.replies)
        ∙ ap (λ bs. s.text ++ bs) (sym (texts-append first.replies second.replies));
    commits = second.commits ∙ ap (λ ns. ns ++ flat_map acknowledged second.replies) first.commits
        ∙ append_assoc s.pass.commits (flat_map acknowledged first.replies) (flat_map acknowledged second.replies)
        ∙ ap (λ ns. s.pass.commits ++ ns) (sym (flat_map-append acknowledged first.replies second.replies));
    draws = second.draws ∙ ap (λ ids. ids ++ drawn_in (asked shards) more second.replies) first.draws
        ∙ append_assoc s.pass.draws (drawn_in (asked shards) lines first.replies) (drawn_in (asked shards) more second.replies)
        ∙ ap (λ ids. s.pass.draws ++ ids) (sym (drawn-append (asked shards) lines more first.replies second.replies first.counted));
    accepts = subst (All (λ id. id < u.pass.next)) (sym (flat_map-append accepted first.replies second.replies))
        (All-append (λ id. id < u.pass.next) (flat_map accepted first.replies) (flat_map accepted second.replies)
        (All-weaker (λ id. id < t.pass.next) (λ id. id < u.pass.next) (λ id below. omega (arith, below, second.grown.next))
        (flat_map accepted first.replies) first.accepts)
        second.accepts);
    prints = subst (All (λ next. next ≤ u.pass.next)) (sym (flat_map-append printed_next first.replies second.replies))
        (All-append (λ next. next ≤ u.pass.next) (flat_map printed_next first.replies) (flat_map printed_next second.replies)
        (All-weaker (λ next. next ≤ t.pass.next) (λ next. next ≤ u.pass.next) (λ next within. omega (arith, within, second.grown.next))
        (flat_map printed_next first.replies) first.prints)
        second.prints);
  }

  -- one line, to which this reply was written
  pub answered_line : (s t : SessionParts) (line : NumberedLine) (reply : Reply)
      → t.client ≡ s.client → reply.line ≡ line.number → reply.client ≡ client_of (asked shards) line.content
      → HasSaid definitions shards window s.pass t.pass s.seen t.seen (asked shards line.content) reply.body
      → t.text ≡ s.text ++ reply_text reply → HasAnswered definitions shards window s t (line ∷ [])
  answered_line s t line reply client numbered addressed said text = record {
    replies = reply ∷ [];
    client = client;
    grown = said.grown;
    steps = (
      t.seen,
      record {
        numbered = numbered;
        addressed = addressed;
        said = said.answers;
      },
      refl,
    );
    counted = refl;
    printed = text ∙ ap (λ bs. s.text ++ bs) (sym (append-nil (reply_text reply)));
    commits = said.commits ∙ ap (λ ns. s.pass.commits ++ ns) (sym (append-nil (acknowledged reply)));
    draws = said.draws ∙ ap (λ ids. s.pass.draws ++ ids) (sym (append-nil (drawn_by (asked shards line.content) reply.body)));
    accepts = subst (All (λ id. id < t.pass.next)) (sym (append-nil (accepted reply))) said.accepts;
    prints = subst (All (λ next. next ≤ t.pass.next)) (sym (append-nil (printed_next reply))) said.prints;
  }
