-- From one step of a cut to the next: what the pass knows that feeds the second store, and what the sessions go on with.
use Rattle.std.proofs.Common.{◌≡◌, ℕ, ◌+◌, ◌-◌, ◌<◌, ◌≤◌, List, [], length, max, refl, ap, sym, ◌∙◌, subst, arith}
use Rattle.std.proofs.Common.{Option, None, Some}
use Rattle.std.specs.Prelude.{All}
use Rattle.std.proofs.Math.Nat.{max-eq_right}
use Rattle.std.proofs.lemmas.List.{length-map}
use Rattle.std.proofs.lemmas.List.Elements.{All-nil, All-weaker}
use Rattle.ds_base.specs.Limits.{first_drawn_id, greatest_client}
use Rattle.ds_feeding.specs.Feeding.{HasCaughtUp, HasFed, HasTooManyLeft, IsCutOver, WhereTooMany}
use Rattle.ds_row_limit.specs.ManyRows.{HaveFewRows, first_too_many}
use Rattle.ds_feeding.specs.declared.refused.ReindexRefused.{ReindexRefused}
use Rattle.ds_indexdef.specs.declared.IndexDef.{IndexDef}
use Rattle.ds_log.specs.declared.Commit.{Commit}
use Rattle.ds_model.specs.Sessions.{Session}
use Rattle.ds_protocol.specs.Watermarks.{HaveCounts}
use Rattle.ds_rounds.specs.Reading.{ReaderParts}
use Rattle.ds_clients.specs.Moving.{AreMoved, HaveBeenMet}
use Rattle.ds_clients.specs.Runs.{HasRun, IsIdle, seen_of}
use Rattle.ds_clients.proofs.RoundLaws.{run_nothing}
use Rattle.ds_clients.specs.Sessions.{SessionParts}
use Rattle.ds_clients.proofs.SeeingLaws.{least_longer, least_through}
use Rattle.ds_serving.specs.Rounds.{HasServed}
use Rattle.ds_serving.specs.declared.settings.Setting.{Setting}
use Rattle.ds_serve.specs.RunSteps.{Counted, Exactly, RanBehind}
use Rattle.ds_serve.proofs.Behind.{none_behind}
use Rattle.ds_store.specs.Answered.{AreAtLeast}
use Rattle.ds_store.specs.Loads.{LoadingParts, loaded}
use Rattle.ds_store.specs.Lower.{IsNoLower}
use Rattle.ds_store.specs.Passes.{HasRead, PassParts, StoreParts, counts_of, nothing_seen}
use Rattle.ds_store_passes.proofs.Growing.{begins_through}
use Rattle.ds_cutting.specs.CutSteps.{IsCutTo, IsFeeding, IsRefused, RanFirst}
use Rattle.ds_cutting.proofs.RowLaws.{few_fed}

-- ---- the pass that feeds

-- what only reads does nothing more
pub idle_later : (p q : PassParts) → HasRead p q → IsIdle p → IsIdle q
idle_later p q read idle = record { commits = read.commits ∙ idle.commits; draws = read.draws ∙ idle.draws }

pub idle_new : (shards : ℕ) (passes : List PassParts) → All (HasRead (nothing_seen shards)) passes → All IsIdle passes
idle_new shards passes read =
    All-weaker (HasRead (nothing_seen shards)) IsIdle (λ p h. record { commits = h.commits; draws = h.draws }) passes read

module _ (definitions : List IndexDef) (shards passes : ℕ) where
  -- nothing was fed yet
  pub feeding_first : (fed : LoadingParts) (feeder : PassParts)
      → fed ≡ record { shards = shards; passes = passes; journal = []; next = first_drawn_id } → first_drawn_id ≤ feeder.next
      → IsFeeding definitions shards passes fed feeder
  feeding_first fed feeder unfed least =
      subst (λ (f : LoadingParts). IsFeeding definitions shards passes f feeder) (sym unfed) (record {
        shards_are = refl;
        passes_are = refl;
        begins = (feeder.journal, refl);
        place = omega arith;
        least = omega arith;
        next = least;
        few = All-nil (λ (c : Commit). first_too_many definitions c.writes ≡ None);
      })

  -- more was fed
  pub feeding_more : (fed after : LoadingParts) (feeder later : PassParts) → IsFeeding definitions shards passes fed feeder
      → HasFed definitions feeder later fed after → IsFeeding definitions shards passes after later
  feeding_more fed after feeder later before more = record {
    shards_are = more.fed.shards ∙ before.shards_are;
    passes_are = more.fed.passes ∙ before.passes_are;
    begins = more.fed.begins;
    place = more.stands;
    least = omega (arith, before.least, more.fed.least);
    next = omega (arith, more.next, before.next, more.read.next);
    few = few_fed definitions fed.journal more.fed.behind after.journal before.few more.fed.few more.fed.fed;
  }

  -- the pass has seen more
  pub feeding_later : (fed : LoadingParts) (feeder later : PassParts) → IsFeeding definitions shards passes fed feeder
      → HasRead feeder later → IsFeeding definitions shards passes fed later
  feeding_later fed feeder later before read = record {
    shards_are = before.shards_are;
    passes_are = before.passes_are;
    begins = begins_through fed.journal feeder.journal later.journal before.begins read.journal;
    place = omega (arith, before.place, read.place);
    least = before.least;
    next = omega (arith, before.next, read.next);
    few = before.few;
  }

  -- the rest was fed
  pub cut_to : (fed : LoadingParts) (feeder later : PassParts) (store : StoreParts) (new : List PassParts) (place : ℕ)
      → IsFeeding definitions shards passes fed feeder → HasRead feeder later → IsCutOver definitions fed later store new place
      → IsCutTo definitions shards passes later store new place
  cut_to fed feeder later store new place before read over = record {
    fed = fed;
    feeding = (before.shards_are, before.passes_are, before.least, omega (arith, before.next, read.next));
    few = before.few;
    over = over;
  }

  -- or the last feeding was refused
  pub refused_so : (fed : LoadingParts) (feeder later : PassParts) (r : ReindexRefused) → IsFeeding definitions shards passes fed feeder
      → WhereTooMany (HasTooManyLeft definitions later.journal fed.journal) r → IsRefused definitions later r
  refused_so fed feeder later r before many = record { fed = fed.journal; few = before.few; many = many }

  -- ---- the passes of the second store

  module _ (feeder : PassParts) (store : StoreParts) (new : List PassParts) (place : ℕ)
      (cut : IsCutTo definitions shards passes feeder store new place) where
    counter : max cut.fed.next feeder.next ≡ feeder.next
    counter = max-eq_right cut.feeding.3

    pub loader_read : HasRead (loaded shards feeder.journal feeder.next) cut.over.caught_up.last
    loader_read =
        subst (λ (n : ℕ). HasRead (loaded n feeder.journal feeder.next) cut.over.caught_up.last) cut.feeding.0
        (subst (λ (n : ℕ). HasRead (loaded cut.fed.shards feeder.journal n) cut.over.caught_up.last) counter cut.over.caught_up.read)

    pub all_few : HaveFewRows definitions feeder.journal
    all_few = few_fed definitions cut.fed.journal cut.over.behind feeder.journal cut.few cut.over.few cut.over.fed

    -- each of them has seen no less than any session
    pub none_lower : (sessions : List SessionParts) → HaveBeenMet feeder sessions
        → All (λ p. All (λ s. IsNoLower s.pass p) sessions) new
    none_lower sessions met =
        All-weaker (HasCaughtUp cut.fed.shards feeder) (λ p. All (λ s. IsNoLower s.pass p) sessions)
        (λ p up. All-weaker
        (λ s. (s.pass.place ≤ feeder.place) × AreAtLeast (counts_of s.pass) (counts_of feeder) × (s.pass.next ≤ feeder.next)
        × All (λ n. n ≤ feeder.place) s.pass.commits × All (λ id. id < feeder.next) s.pass.draws) (λ s. IsNoLower s.pass p)
        (λ s h. record {
          journal = omega (arith, h.0, up.no_lower.journal);
          place = omega (arith, h.0, up.no_lower.place);
          counts = least_through (counts_of s.pass) (counts_of feeder) (counts_of p) h.1 up.no_lower.counts;
          next = omega (arith, h.2, up.no_lower.next);
        }) sessions met) new cut.over.caught_up.caught_up

-- the pass that feeds has seen more since it met the sessions
pub met_later : (p q : PassParts) (sessions : List SessionParts) → HasRead p q → HaveBeenMet p sessions → HaveBeenMet q sessions
met_later p q sessions read = All-weaker
    (λ s. (s.pass.place ≤ p.place) × AreAtLeast (counts_of s.pass) (counts_of p) × (s.pass.next ≤ p.next)
    × All (λ n. n ≤ p.place) s.pass.commits × All (λ id. id < p.next) s.pass.draws)
    (λ s. (s.pass.place ≤ q.place) × AreAtLeast (counts_of s.pass) (counts_of q) × (s.pass.next ≤ q.next)
    × All (λ n. n ≤ q.place) s.pass.commits × All (λ id. id < q.next) s.pass.draws)
    (λ s met. (
      omega (arith, met.0, read.place),
      least_through (counts_of s.pass) (counts_of p) (counts_of q) met.1 (least_longer p.lists q.lists read.lists),
      omega (arith, met.2, read.next),
      All-weaker (λ n. n ≤ p.place) (λ n. n ≤ q.place) (λ n le. omega (arith, le, read.place)) s.pass.commits met.3,
      All-weaker (λ id. id < p.next) (λ id. id < q.next) (λ id lt. omega (arith, lt, read.next)) s.pass.draws met.4,
    )) sessions

-- ---- the sessions over the second store

pub counts_moved : (shards : ℕ) (before after : List SessionParts) → AreMoved before after → HaveCounts shards (seen_of before)
    → HaveCounts shards (seen_of after)
counts_moved shards before after moved counts = subst (HaveCounts shards) (sym moved.seen) counts

-- rounds were served, and the sessions go on from what their clients have seen
pub going_on : (setting later : Setting) (n : ℕ) {left mid old held : Option (List ℕ)} {reader : ReaderParts}
    {now after : List SessionParts}
    → (served : HasServed (Counted (Exactly n) (RanFirst setting)) left mid old held reader now) → AreMoved now after
    → HasServed (RanBehind later (seen_of now) served.rounds served.text) left mid old held reader after
going_on setting later n {left} {mid} {old} {held} {reader} {now} {after} served moved = record {
  bytes = served.bytes;
  rounds = served.rounds;
  text = served.text;
  has_read = served.has_read;
  counted = served.counted;
  has_run = none_behind later (seen_of now) served.rounds served.text after
      (subst (λ (ss : List Session). HasRun later.defs later.shards (Some later.window) ss [] after []) moved.seen
      (run_nothing later.defs later.shards (Some later.window) after many moved.idle));
  wrote = served.wrote;
} where
  many : length after ≡ greatest_client + 1
  many = sym (length-map after (λ s. s.seen)) ∙ ap (λ (ss : List Session). length ss) moved.seen ∙ length-map now (λ s. s.seen)
      ∙ served.has_run.0.run.clients
