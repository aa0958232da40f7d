-- What the words of a run over a kept journal set up: behind `--kept FILE` they are those of the server.
use Rattle.std.specs.Prelude.{◌≡◌, ℕ, List, Option, Some, option_and_then, option_map}
use Rattle.ds_words.specs.Form.{options_of}
use Rattle.ds_words.specs.declared.options.Options.{Options}
use Rattle.ds_serving.specs.Settings.{IsSetting, indexes_named}
use Rattle.ds_serving.specs.declared.settings.Setting.{Setting}
use Rattle.ds_durable.specs.KeptWords.{kept_form}

-- the words of the server
abbrev pub server_words : List (List ℕ) → Option (List (List ℕ))
server_words words = option_map (λ kept. kept.1) (kept_form words)

-- the options, where the words have their form
abbrev pub kept_options : List (List ℕ) → Option Options
kept_options words = option_and_then options_of (server_words words)

-- the name of the index file, if the words name one
abbrev pub kept_indexes_named : List (List ℕ) → Option (List ℕ)
kept_indexes_named words = option_and_then indexes_named (server_words words)

-- this holds of the words of the server, if there are such
abbrev pub OfServer : (List (List ℕ) → Type 0) → List (List ℕ) → Type 0
OfServer P words = (rest : List (List ℕ)) × (server_words words ≡ Some rest) × P rest

-- the words and their index file set this up
abbrev pub IsKeptSetting : List (List ℕ) → (List ℕ → Option (List ℕ)) → Setting → Type 0
IsKeptSetting words content setting = OfServer (λ rest. IsSetting rest content setting) words
