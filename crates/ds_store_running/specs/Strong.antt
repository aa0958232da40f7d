-- What a query with an ancestor answers, over what its pass had seen before and has seen after.
use Rattle.std.specs.Prelude.{◌≡◌, ℕ, List, Option}
use Rattle.ds_entity.specs.declared.results.Item.{Item}
use Rattle.ds_entity.specs.declared.results.Seen.{Seen}
use Rattle.ds_entity.specs.declared.results.Seen.TheVariants as saw
use Rattle.ds_base.specs.Keys.{KeyParts}
use Rattle.ds_model.specs.Views.{strong_view}
use Rattle.ds_branch.specs.declared.EngineRefused.{EngineRefused}
use Rattle.ds_branch.specs.declared.EngineRefused.TheVariants as engine
use Rattle.ds_planner.specs.Missing.{Missing}
use Rattle.ds_query.specs.declared.branch.Normal.{Normal}
use Rattle.ds_query.specs.declared.branch.Window.{Window}
use Rattle.ds_query.specs.declared.row.Place.{Place}
use Rattle.ds_engine.specs.Searches.{IsResultOf}
use Rattle.ds_store_passes.specs.declared.answers.Expired.{Expired}
use Rattle.ds_store_passes.specs.declared.answers.GetRefused.{GetRefused}
use Rattle.ds_store_passes.specs.declared.answers.GetRefused.TheVariants as get
use Rattle.ds_store_running.specs.declared.refused.StrongRefused.{StrongRefused}
use Rattle.ds_store_running.specs.declared.refused.StrongRefused.TheVariants as strong
use Rattle.ds_store_passes.specs.Answered.{HasReadGroup}
use Rattle.ds_store_passes.specs.Passes.{PassParts}

-- the results are those over the strong view at its place, which it tells
pub record IsFoundInGroup (shards : ℕ) (before after : PassParts) (group : KeyParts) (asked : Option ℕ) (n : Normal) (w : Window)
    (results : List Item) (next : Option Place) (seen : Seen) (entries : ℕ) : Type 0 where
  pub place : ℕ
  pub told : seen ≡ saw.Place place
  pub read : HasReadGroup shards before after group asked place entries
  pub found : IsResultOf n w (strong_view after.journal place) results next

-- what holds of what no index serves, where that is the cause of a refusal
abbrev pub WhereMissing : (Missing → Type 0) → StrongRefused → Type 0
WhereMissing P (strong.MissingIndex constraint suggestion) = P (record { constraint = constraint; suggestion = suggestion })
WhereMissing P (strong.Expired expired) = Unit {0}
WhereMissing P strong.NoMemory = Unit {0}

-- and of an expiry
abbrev pub WhereGone : (Expired → Type 0) → StrongRefused → Type 0
WhereGone P (strong.MissingIndex constraint suggestion) = Unit {0}
WhereGone P (strong.Expired expired) = P expired
WhereGone P strong.NoMemory = Unit {0}

-- a refusal of the engine, or one of a read, as one of a query with an ancestor
abbrev pub from_engine : EngineRefused → StrongRefused
from_engine (engine.MissingIndex constraint suggestion) = strong.MissingIndex constraint suggestion
from_engine engine.NoMemory = strong.NoMemory

abbrev pub from_get : GetRefused → StrongRefused
from_get (get.Expired expired) = strong.Expired expired
from_get get.NoMemory = strong.NoMemory
