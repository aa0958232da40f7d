-- Rounds that were run, with what is kept of them.
use Rattle.std.proofs.Common.{◌≡◌, ℕ, ◌<◌, ◌≤◌, List, [], ◌∷◌, ◌++◌, length, refl, ap, sym, ◌∙◌, subst, arith}
use Rattle.std.proofs.Common.{Some, append_assoc, length-append}
use Rattle.std.specs.Prelude.{All, flat_map}
use Rattle.std.proofs.lemmas.Grind.{flat_map-append}
use Rattle.std.proofs.lemmas.List.{append-nil, append_cancel_left}
use Rattle.std.proofs.lemmas.List.Elements.{All-append, All-head, All-nil, All-tail}
use Rattle.std.proofs.lemmas.List.Sorted.{All-permutation, IsPermutation-sym}
use Rattle.ds_clients.specs.Clients.{AreAlike}
use Rattle.ds_clients.specs.Runs.{HaveRun, texts_of}
use Rattle.ds_model.specs.Asked.{asked}
use Rattle.ds_model.specs.Legal.{acknowledged, answered_lines, by_client, drawn_in}
use Rattle.ds_model.specs.Sessions.{Session}
use Rattle.ds_reply.specs.declared.reply.Reply.{Reply}
use Rattle.ds_reply.specs.Replies.{replies_text}
use Rattle.ds_rounds.specs.Rounds.{NumberedLine, lines_of_round}
use Rattle.ds_rounds.specs.declared.round.Round.{Round}
use Rattle.ds_serving.specs.Rounds.{RanFrom}
use Rattle.ds_serving.specs.declared.settings.Setting.{Setting}
use Rattle.ds_serving.proofs.Alike.{all_passes, all_sessions, run_alike, run_alike_replies}
use Rattle.ds_serving.proofs.NextLaws.{ran_behind, ran_more}
use Rattle.ds_clients.specs.Sessions.{SessionParts}
use Rattle.ds_store.specs.Passes.{PassParts}
use Rattle.ds_keeping.specs.Holding.{AreCovered}
use Rattle.ds_kept_rounds.specs.Going.{HasRunKept}
use Rattle.ds_kept_rounds.proofs.Replies.{drawn_alone, replies_append}

-- ---- what is kept

all-flat : {X A : Type 0} (P : X → Type 0) (f : A → List X) (ys : List A) → All (λ y. All P (f y)) ys → All P (flat_map f ys)
all-flat P f [] all = All-nil P
all-flat P f (y ∷ ys) all =
    All-append P (f y) (flat_map f ys) (All-head (λ z. All P (f z)) y ys all) (all-flat P f ys (All-tail (λ z. All P (f z)) y ys all))

covered-alike : (P : PassParts → Type 0) (s t : List SessionParts) → AreAlike s t → All (λ v. P v.pass) s → All (λ v. P v.pass) t
covered-alike P s t alike all = all_sessions P t (subst (All P) (sym alike.passes) (all_passes P s all))

pub covered_alike : (commits next : ℕ) (s t : List SessionParts) → AreAlike s t → AreCovered commits next s → AreCovered commits next t
covered_alike commits next s t alike all = record {
  committed = covered-alike (λ p. All (λ n. n ≤ commits) p.commits) s t alike all.committed;
  drawn = covered-alike (λ p. All (λ id. id < next) p.draws) s t alike all.drawn;
}

module _ (setting : Setting) (first : List Session) where
  -- where all that the sessions' passes committed and drew is kept, no reply is held back
  pub all_kept : (commits next : ℕ) (rounds : List (List NumberedLine)) (now : List SessionParts) (text : List ℕ)
      → RanFrom setting first rounds now text → AreCovered commits next now → HasRunKept setting first commits next [] rounds now text
  all_kept commits next rounds now text run all = record {
    run = run;
    sent = run.replies;
    held_back = [];
    split = sym (append-nil run.replies);
    held_is = refl;
    committed = All-permutation (λ n. n ≤ commits) (flat_map (λ s. s.pass.commits) now) (flat_map acknowledged run.replies)
        (IsPermutation-sym (flat_map acknowledged run.replies) (flat_map (λ s. s.pass.commits) now) run.commits)
        (all-flat (λ n. n ≤ commits) (λ s. s.pass.commits) now all.committed);
    drawn = All-permutation (λ id. id < next) (flat_map (λ s. s.pass.draws) now)
        (drawn_in (asked setting.shards) (answered_lines (asked setting.shards) rounds) run.replies)
        (IsPermutation-sym (drawn_in (asked setting.shards) (answered_lines (asked setting.shards) rounds) run.replies)
        (flat_map (λ s. s.pass.draws) now) run.draws)
        (all-flat (λ id. id < next) (λ s. s.pass.draws) now all.drawn);
  }

  pub kept_alike : (commits next : ℕ) (held : List ℕ) (rounds : List (List NumberedLine)) (s t : List SessionParts) (text : List ℕ)
      → AreAlike s t → HasRunKept setting first commits next held rounds s text
      → HasRunKept setting first commits next held rounds t text
  kept_alike commits next held rounds s t text alike kept = record {
    run = run_alike setting.defs setting.shards (Some setting.window) first rounds s t text alike kept.run;
    sent = kept.sent;
    held_back = kept.held_back;
    split = run_alike_replies setting.defs setting.shards (Some setting.window) first rounds s t text alike kept.run ∙ kept.split;
    held_is = kept.held_is;
    committed = kept.committed;
    drawn = kept.drawn;
  }

  -- the replies of one more round, which is not kept, are held back
  pub more_held : (commits next : ℕ) (rounds : List (List NumberedLine)) (round : Round) (s t u : List SessionParts) (text : List ℕ)
      → HasRunKept setting first commits next [] rounds s text
      → HaveRun setting.defs setting.shards (Some setting.window) (lines_of_round round) s t → AreAlike t u
      → HasRunKept setting first commits next (texts_of t) (rounds ++ lines_of_round round ∷ []) u (text ++ texts_of t)
  more_held commits next rounds round s t u text before ran alike = record {
    run = more;
    sent = before.sent;
    held_back = before.held_back ++ own.0;
    split = own.1 ∙ ap (λ rs. rs ++ own.0) before.split ∙ append_assoc before.sent before.held_back own.0;
    held_is = replies_append before.held_back own.0 ∙ ap (λ bs. bs ++ replies_text own.0) before.held_is ∙ sym last;
    committed = before.committed;
    drawn = subst (All (λ id. id < next)) (sym same) before.drawn;
  } where
    more : RanFrom setting first (rounds ++ lines_of_round round ∷ []) u (text ++ texts_of t)
    more = ran_more setting first {rounds = rounds} {text = text} {s = s} {t = t} {u = u} round before.run ran alike

    own : (rs : List Reply) × (more.replies ≡ before.run.replies ++ rs)
    own = ran_behind setting first {rounds = rounds} {text = text} {s = s} {t = t} {u = u} round before.run ran alike

    last : texts_of t ≡ replies_text own.0
    last = append_cancel_left text (texts_of t) (replies_text own.0)
        (more.printed ∙ ap replies_text own.1 ∙ replies_append before.run.replies own.0
        ∙ ap (λ bs. bs ++ replies_text own.0) (sym before.run.printed))

    few : length before.sent ≤ length (answered_lines (asked setting.shards) rounds)
    few =
        let split = ap (λ (rs : List Reply). length rs) before.split ∙ length-append before.sent before.held_back in
        omega (arith, split, before.run.counted)

    same : drawn_in (asked setting.shards) (answered_lines (asked setting.shards) (rounds ++ lines_of_round round ∷ [])) before.sent
        ≡ drawn_in (asked setting.shards) (answered_lines (asked setting.shards) rounds) before.sent
    same =
        ap (λ ls. drawn_in (asked setting.shards) ls before.sent)
        (flat_map-append (by_client (asked setting.shards)) rounds (lines_of_round round ∷ []))
        ∙ drawn_alone (asked setting.shards) (answered_lines (asked setting.shards) rounds)
        (flat_map (by_client (asked setting.shards)) (lines_of_round round ∷ [])) before.sent few
