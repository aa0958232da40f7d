-- A setting told by other names.
use Rattle.std.proofs.Common.{◌≡◌, ℕ, List, Option, ◌∙◌, sym, subst}
use Rattle.ds_indexdef.specs.declared.IndexDef.{IndexDef}
use Rattle.ds_serve.specs.declared.outcome.Run.{Run}
use Rattle.ds_serving.specs.declared.settings.Setting.{Setting}
use Rattle.ds_serve.specs.RunSteps.{IsRunOf}
use Rattle.ds_serving.specs.Settings.{AreGiven, IsSetting}

pub same_setting : (words : List (List ℕ)) (content : List ℕ → Option (List ℕ)) (s t : Setting) → t.shards ≡ s.shards → t.window ≡ s.window
    → t.defs ≡ s.defs → IsSetting words content s → IsSetting words content t
same_setting words content s t shards window defs is = record {
  options = is.options;
  said = is.said;
  shards = shards ∙ is.shards;
  window = window ∙ is.window;
  definitions = subst (λ (ds : List IndexDef). AreGiven content is.options.indexes ds) (sym defs) is.definitions;
}

-- a run over it
pub same_run : {left rest old new : Option (List ℕ)} {read_old read_new write_old write_new : ℕ} (s t : Setting) (run : Run)
    → t.shards ≡ s.shards → t.window ≡ s.window → t.defs ≡ s.defs
    → IsRunOf t left rest old new read_old read_new write_old write_new run
    → IsRunOf s left rest old new read_old read_new write_old write_new run
same_run s t run shards window defs of_t = record {
  legal = λ words content is. of_t.legal words content (same_setting words content s t shards window defs is);
  journal = of_t.journal;
  unsent = of_t.unsent;
  began = of_t.began;
  read_fault = of_t.read_fault;
  write_fault = of_t.write_fault;
}
