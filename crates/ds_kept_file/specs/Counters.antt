-- How the counter's line is read: as JSON, and then compared with the line of the number that was found.
use Rattle.std.specs.Prelude.{ℕ, Option, option_and_then, codes}
use Rattle.serde_json.specs.Data.{Data}
use Rattle.serde_json.specs.Find.{get, as_number, as_u64}

-- the number that stands under "next", if one does
abbrev pub next_in : Data → Option ℕ
next_in shown = option_and_then as_u64 (option_and_then as_number (get (codes "next") shown))
