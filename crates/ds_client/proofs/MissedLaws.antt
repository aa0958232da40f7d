-- What a session takes later, it has taken in contracts' eyes at once.
use Rattle.std.proofs.Common.{◌≡◌, ℕ, zero, suc, List, [], ◌∷◌, ◌++◌, length, replicate, refl, ap, sym, ◌∙◌, subst, arith, Option}
use Rattle.std.specs.Prelude.{flat_map, max}
use Rattle.ds_indexdef.specs.declared.IndexDef.{IndexDef}
use Rattle.ds_model.specs.Asked.{asked}
use Rattle.ds_model.specs.Legal.{ClientSteps, acknowledged, drawn_in}
use Rattle.ds_model.specs.Sessions.{Session, greater_counts}
use Rattle.ds_protocol.specs.Watermarks.{nothing_seen, raised_by}
use Rattle.ds_reply.specs.Replies.{replies_text}
use Rattle.ds_rounds.specs.Rounds.{NumberedLine}
use Rattle.ds_asked.specs.declared.lines.Asked.{Asked}
use Rattle.ds_asked.specs.AskedLines.{AreAsked}
use Rattle.ds_session.specs.Answering.{HasAnswered}
use Rattle.ds_session.specs.Meeting.{HasTaken}
use Rattle.ds_session.specs.Sessions.{SessionParts, world_seen}
use Rattle.ds_session.proofs.GrowthLaws.{grown_by_reading, grown_through, read_itself}
use Rattle.ds_client.specs.Clients.{HasAnsweredOwn, taking}

-- ---- counts

greater-later : (xs ys zs : List ℕ) → length xs ≡ length ys
    → greater_counts xs (greater_counts ys zs) ≡ greater_counts (greater_counts xs ys) zs
greater-later [] ys zs same = refl
greater-later (x ∷ xs) ys zs same = grind (arith, greater-later xs)

greater-both : (gs xs ys : List ℕ) → length xs ≡ length ys
    → greater_counts (greater_counts gs xs) ys ≡ greater_counts gs (greater_counts xs ys)
greater-both [] xs ys same = refl
greater-both (g ∷ gs) [] [] same = refl
greater-both (g ∷ gs) [] (y ∷ ys) same = absurd (omega (arith, same))
greater-both (g ∷ gs) (x ∷ xs) [] same = absurd (omega (arith, same))
greater-both (g ∷ gs) (x ∷ xs) (y ∷ ys) same = grind (arith, greater-both gs xs ys)

greater-zeros : (xs : List ℕ) (n : ℕ) → length xs ≡ n → greater_counts xs (replicate n 0) ≡ xs
greater-zeros [] n same = refl
greater-zeros (x ∷ xs) zero same = refl
greater-zeros (x ∷ xs) (suc n) same = grind (arith, greater-zeros xs n)

-- ---- sessions

-- nothing is missed
pub taken_nothing : (m : Session) (s : SessionParts) (n : ℕ) → length s.seen.counts ≡ n → m ≡ nothing_seen n → taking m s ≡ s
taken_nothing m s n many none =
    ap (λ (missed : Session). taking missed s) none
    ∙ (λ i. record s {
      seen = record s.seen {
        place = (let e : max s.seen.place 0 ≡ s.seen.place = omega arith in e) i;
        counts = greater-zeros s.seen.counts n many i;
        next_id = (let e : max s.seen.next_id 0 ≡ s.seen.next_id = omega arith in e) i;
      };
    })

more-missed : (g m : Session) (s : SessionParts) → length m.counts ≡ length s.seen.counts → s.text ≡ []
    → HasTaken g (taking m s) (taking (raised_by g m) s)
more-missed g m s many written = record {
  client = refl;
  seen = λ i. record s.seen {
    place = (let e : max s.seen.place (max m.place g.place) ≡ max (max s.seen.place m.place) g.place = omega arith in e) i;
    counts = greater-later s.seen.counts m.counts g.counts (sym many) i;
    next_id = (let e : max s.seen.next_id (max m.next_id g.next_id) ≡ max (max s.seen.next_id m.next_id) g.next_id = omega arith in e) i;
  };
  read = read_itself s.pass;
  text = written;
}

-- more was missed
pub missed_more : (g m more : Session) (s v : SessionParts) → taking m s ≡ v → more ≡ raised_by g m
    → length m.counts ≡ length s.seen.counts → v.text ≡ [] → HasTaken g v (taking more s)
missed_more g m more s v view added many written =
    subst (λ (t : SessionParts). HasTaken g t (taking more s)) view
    (subst (λ (k : Session). HasTaken g (taking m s) (taking k s)) (sym added)
    (more-missed g m s many (ap (λ (t : SessionParts). t.text) view ∙ written)))

-- what a session has seen and what it missed are taken one after the other
pub both_added : (g m s : Session) → length m.counts ≡ length s.counts → raised_by m (raised_by s g) ≡ raised_by (raised_by m s) g
both_added g m s many = λ i. record g {
  place = (let e : max (max g.place s.place) m.place ≡ max g.place (max s.place m.place) = omega arith in e) i;
  counts = greater-both g.counts s.counts m.counts (sym many) i;
  next_id = (let e : max (max g.next_id s.next_id) m.next_id ≡ max g.next_id (max s.next_id m.next_id) = omega arith in e) i;
}

-- ---- lines

module _ (definitions : List IndexDef) (shards : ℕ) (window : Option ℕ) where
  taken-first : (missed : Session) (s t u : SessionParts) (lines : List NumberedLine) → HasTaken missed s t → s.text ≡ []
      → HasAnswered definitions shards window t u lines → HasAnswered definitions shards window (taking missed s) u lines
  taken-first missed s t u lines taken written h = record {
    replies = h.replies;
    client = h.client ∙ taken.client;
    grown = grown_through s.pass t.pass u.pass (grown_by_reading s.pass t.pass taken.read) h.grown;
    steps = subst (λ (seen : Session).
        ClientSteps (asked shards) (world_seen definitions shards window u.pass) seen lines h.replies u.seen) taken.seen h.steps;
    counted = h.counted;
    printed = h.printed ∙ ap (λ (bs : List ℕ). bs ++ replies_text h.replies) (taken.text ∙ sym written);
    commits = h.commits ∙ ap (λ (ns : List ℕ). ns ++ flat_map acknowledged h.replies) taken.read.commits;
    draws = h.draws ∙ ap (λ (ids : List ℕ). ids ++ drawn_in (asked shards) lines h.replies) taken.read.draws;
    accepts = h.accepts;
    prints = h.prints;
  }

  -- a session took what it missed, of which nothing is left, and then its client's lines were answered
  pub taken_answered : (missed left : Session) (s t u : SessionParts) (own : List Asked) → HasTaken missed s t → s.text ≡ []
      → HasAnsweredOwn definitions shards window t own u → length u.seen.counts ≡ length missed.counts
      → left ≡ nothing_seen (length missed.counts) → HasAnsweredOwn definitions shards window (taking missed s) own (taking left u)
  taken_answered missed left s t u own taken written h many none =
      subst (λ (v : SessionParts). HasAnsweredOwn definitions shards window (taking missed s) own v)
      (sym (taken_nothing left u (length missed.counts) many none)) (record {
        answered = λ lines are. taken-first missed s t u lines taken written
            (h.answered lines (subst (λ c. AreAsked shards c lines own) (sym taken.client) are));
        client = h.client ∙ taken.client;
        counts = h.counts ∙ ap (λ (seen : Session). length seen.counts) taken.seen;
      })
