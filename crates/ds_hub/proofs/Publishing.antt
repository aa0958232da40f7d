-- What is shown after a publish goes on by what is pending.
use Rattle.std.proofs.Common.{◌≡◌, ℕ, List, fold, ap, ◌∙◌, subst, Option, Some, None, All}
use Rattle.crossbeam_utils.specs.Register.{TurnsAt}
use Rattle.ds_hub.specs.Line.{HubId, Line}
use Rattle.ds_hub.specs.Logs.{Fits, BeginsWith, taken_in, told_by}
use Rattle.ds_hub.specs.Holding.{AllBelong, start_of}
use Rattle.ds_hub.specs.Running.{IsRunning, unseen}
use Rattle.ds_hub.specs.declared.version.Logged.{Logged}
use Rattle.ds_hub.specs.declared.version.Version.{Version}
use Rattle.ds_hub.specs.declared.rule.Origin.{Origin}
use Rattle.ds_hub.proofs.Counting.{taken, last_is}
use Rattle.ds_hub.proofs.Turning.{held, turns}

module _ {T O E S : Type 0} (asks : E → O) (applied : T → O → T) (belongs : T → E → Type 0) (state : S → T) where
  -- what is pending belongs wherever the writer knows the hub to begin
  pending_belong : (knows : Option (Origin T E)) (told : List E) → AllBelong belongs (start_of knows) told
      → (start : T) → BeginsWith start knows → All (belongs start) told
  pending_belong None told own start is = absurd own
  pending_belong (Some origin) told own start is = subst (λ s. All (belongs s) told) is own

  pub publishes : (hub : HubId) (knows : Option (Origin T E)) (shown : Version E S) (log : List (Logged O E)) (announced : Line E) (waiting seat : ℕ)
      → IsRunning asks applied belongs hub knows (state shown.state) shown.prefix log announced waiting
      → (next : Version E S) → (state next.state, next.prefix) ≡ fold (taken_in applied) (state shown.state, shown.prefix) log
      → TurnsAt (held (told_by asks applied) belongs state) seat knows shown next (λ v x y w. (w ≡ v) × Fits (told_by asks applied) belongs (state y.state) y.prefix v)
  publishes hub knows shown log announced waiting seat r next is =
      let told = unseen shown.prefix announced in
      let e = is ∙ taken asks applied (state shown.state) shown.prefix log told r.marked in
      let last = last_is asks shown.prefix log told r.marked in
      turns (told_by asks applied) belongs state seat knows shown next told
      (ap (λ p. p.1.hub) e ∙ last.0)
      (ap (λ p. p.1.list) e ∙ last.1)
      (ap (λ p. p.0) e)
      (pending_belong knows told r.belong)
