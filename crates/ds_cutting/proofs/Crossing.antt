-- Clients go over to the second store, which has all that the pass of the first has seen that fed it.
use Rattle.std.proofs.Common.{◌≡◌, ℕ, ◌+◌, ◌-◌, ◌<◌, ◌≤◌, List, [], ◌∷◌, ◌++◌}
use Rattle.std.proofs.Common.{length, reverse, take, ap, sym, ◌∙◌, subst, arith, Option, length-append}
use Rattle.std.specs.Prelude.{All}
use Rattle.std.proofs.lemmas.List.{length-map, length-reverse, length-take, same_from_push}
use Rattle.std.proofs.lemmas.List.Elements.{All-append, All-cons, All-nil, All-weaker}
use Rattle.ds_base.specs.Limits.{greatest_client}
use Rattle.ds_indexdef.specs.declared.IndexDef.{IndexDef}
use Rattle.ds_log.specs.declared.Commit.{Commit}
use Rattle.ds_model.specs.Sessions.{Session}
use Rattle.ds_rounds.specs.Reading.{ReaderParts}
use Rattle.ds_rounds.specs.Rounds.{NumberedLine}
use Rattle.ds_clients.specs.Moving.{AreMoved, HaveBeenMet}
use Rattle.ds_clients.specs.Runs.{IsIdle, passes_of, seen_of}
use Rattle.ds_clients.specs.Sessions.{SessionParts}
use Rattle.ds_serving.specs.Rounds.{HasServed}
use Rattle.ds_serving.specs.declared.settings.Setting.{Setting}
use Rattle.ds_serve.specs.RunSteps.{Counted, Exactly, RanBehind}
use Rattle.ds_store.specs.Answered.{AreAtLeast}
use Rattle.ds_store.specs.Ending.{HaveEnded}
use Rattle.ds_store.specs.Loads.{loaded}
use Rattle.ds_store.specs.Lower.{IsNoLower}
use Rattle.ds_store.specs.Passes.{HasRead, PassParts, StoreParts, counts_of}
use Rattle.ds_cutting.specs.CutSteps.{EndsLater, IsCutTo, IsLegalOf, RanFirst, asked_of}
use Rattle.ds_cutting.specs.declared.outcome.CutRun.{CutRun}
use Rattle.ds_cutting.proofs.CutEnds.{ends_later}
use Rattle.ds_cutting.proofs.CutLaws.{front_of}
use Rattle.ds_cutting.proofs.Going.{all_few, going_on, idle_new, loader_read, none_lower}

module _ (second : List IndexDef) (shards passes place : ℕ) (feeder : PassParts) (store : StoreParts) (new front : List PassParts)
    (loader : PassParts) (cut : IsCutTo second shards passes feeder store new place) (parts : new ≡ front ++ loader ∷ []) where
  ends : (cut.over.caught_up.front ≡ front) × (cut.over.caught_up.last ≡ loader)
  ends = same_from_push cut.over.caught_up.front front cut.over.caught_up.last loader (sym cut.over.caught_up.all ∙ parts)

  -- the passes of the second store, without the one that fed it
  pub front_many : length front + 1 ≡ passes
  front_many =
      let same = ap (λ (ps : List PassParts). length ps) ends.0 in
      omega (arith, same, cut.over.caught_up.many, cut.over.some, cut.feeding.1)

  pub front_idle : All IsIdle front
  front_idle = subst (All IsIdle) ends.0 (idle_new cut.fed.shards cut.over.caught_up.front cut.over.caught_up.idle)

  pub front_lower : (sessions : List SessionParts) → HaveBeenMet feeder sessions → All (λ p. All (λ s. IsNoLower s.pass p) sessions) front
  front_lower sessions met =
      front_of (λ p. All (λ s. IsNoLower s.pass p) sessions) front (loader ∷ [])
      (subst (All (λ p. All (λ s. IsNoLower s.pass p) sessions)) parts
      (none_lower second shards passes feeder store new place cut sessions met))

  last_read : HasRead (loaded shards feeder.journal feeder.next) loader
  last_read = subst (HasRead (loaded shards feeder.journal feeder.next)) ends.1
      (loader_read second shards passes feeder store new place cut)

-- as many sessions go over as there are clients: so many of these passes, in front of which the others are left
pub as_many : (all left : List PassParts) (before after : List SessionParts) (n : ℕ) → all ≡ left ++ reverse (passes_of after)
    → left ≡ take (n - (greatest_client + 1)) all → n ≡ length all → greatest_client + 1 ≤ n → AreMoved before after
    → length (passes_of before) ≡ greatest_client + 1
as_many all left before after n taken left_is long enough moved =
    let parts = ap (λ (ps : List PassParts). length ps) taken ∙ length-append left (reverse (passes_of after)) in
    let front = ap (λ (ps : List PassParts). length ps) left_is ∙ length-take (n - (greatest_client + 1)) all in
    let same = ap (λ (ss : List Session). length ss) moved.seen in
    omega (
      arith,
      parts,
      front,
      same,
      long,
      enough,
      length-reverse (passes_of after),
      length-map after (λ s. s.pass),
      length-map before (λ s. s.pass),
      length-map after (λ s. s.seen),
      length-map before (λ s. s.seen),
    )

-- the pass has met one session
abbrev met_by : PassParts → SessionParts → Type 0
met_by feeder s =
    (s.pass.place ≤ feeder.place) × AreAtLeast (counts_of s.pass) (counts_of feeder) × (s.pass.next ≤ feeder.next)
    × All (λ n. n ≤ feeder.place) s.pass.commits × All (λ id. id < feeder.next) s.pass.draws

-- The rounds before the cut were served, and the sessions go on over the second store: the whole run is a legal one.
pub crossed : {left mid rest old held out : Option (List ℕ)} {reader : ReaderParts} {now after : List SessionParts} (setting : Setting)
    (second : List IndexDef) (n passes place : ℕ) (feeder : PassParts) (store : StoreParts) (new front : List PassParts)
    (loader : PassParts) (run : CutRun) (others : List PassParts) (before : List Commit) (next : ℕ)
    → IsCutTo second setting.shards passes feeder store new place → new ≡ front ++ loader ∷ [] → HaveBeenMet feeder now → IsIdle feeder
    → All IsIdle others → HaveEnded setting.shards ((others ++ feeder ∷ []) ++ passes_of now) before next → AreMoved now after
    → HasServed (Counted (Exactly n) (RanFirst setting)) left mid old held reader now
    → ((first : List Session) (earlier : List (List NumberedLine)) (said : List ℕ)
    → HasServed (RanBehind (asked_of setting.shards setting.window second) first earlier said) left mid old held reader after
    → EndsLater (asked_of setting.shards setting.window second) place loader first earlier said left rest old out run)
    → IsLegalOf setting second n left rest old out run
crossed {now = now} setting second n passes place feeder store new front loader run others before next cut parts met idle others_idle closed
    moved served later =
    ends_later setting second n run others feeder loader before next place served
    (All-append IsIdle others (feeder ∷ []) others_idle (All-cons IsIdle feeder [] idle (All-nil IsIdle))) closed
    (last_read second setting.shards passes place feeder store new front loader cut parts) (cut.over.stands ∙ cut.over.whole)
    (omega (arith, cut.feeding.2, cut.feeding.3))
    (All-weaker (met_by feeder) (λ s. All (λ c. c ≤ feeder.place) s.pass.commits) (λ s h. h.3) now met)
    (All-weaker (met_by feeder) (λ s. All (λ id. id < feeder.next) s.pass.draws) (λ s h. h.4) now met)
    (all_few second setting.shards passes feeder store new place cut) (sym cut.over.stands)
    (later (seen_of now) served.rounds served.text
    (going_on setting (asked_of setting.shards setting.window second) n served moved))
