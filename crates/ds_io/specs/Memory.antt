-- What is known of the forms in memory: their bytes, and which of their calls fail.
use Rattle.std.specs.Prelude.{ℕ, Bool, false, cond, ◌&&◌, ◌||◌, not, ◌==◌, nat_le, bytes_eq, List, length, Option, Some, None}
use Rattle.std.specs.Prelude.{position, slice_get, option_and_then}
use Rattle.std.specs.List.{list_any}
use Rattle.ds_base.specs.Limits.{most_file_bytes}
use Rattle.ds_io.specs.Faults.{next_count}

-- The calls of a form in memory: how many there were, the numbers of those that fail, where the first call is 1, and
-- the count of faults.
pub record ScheduleParts : Type 0 where
  pub calls : ℕ
  pub fails : List ℕ
  pub faults : ℕ

-- before the first call
abbrev pub fresh : List ℕ → ScheduleParts
fresh numbers = record { calls = 0; fails = numbers; faults = 0 }

-- the next call is one of those that fail
abbrev pub is_due : ScheduleParts → Bool
is_due s = list_any (λ number. number == next_count s.calls) s.fails

-- after one more call, which raises the count of faults exactly where it failed
abbrev pub after_call : ScheduleParts → Bool → ScheduleParts
after_call s failed = record { calls = next_count s.calls; fails = s.fails; faults = cond failed (next_count s.faults) s.faults }

-- A source in memory: the bytes that are left, and the most that one call gives.
pub record SourceParts : Type 0 where
  pub left : List ℕ
  pub most : ℕ
  pub schedule : ScheduleParts

-- A sink in memory: the bytes that it holds, the most that one call takes, and whether the last write lacked memory.
pub record SinkParts : Type 0 where
  pub held : List ℕ
  pub most : ℕ
  pub lacks : Bool
  pub schedule : ScheduleParts

-- the next call fails, or it may take nothing of a piece that has bytes
abbrev pub must_fail : SinkParts → List ℕ → Bool
must_fail s piece = is_due s.schedule || (s.most == 0 && not (length piece == 0))

-- Files in memory: the name of each, and its content at the same place.
pub record FilesParts : Type 0 where
  pub names : List (List ℕ)
  pub contents : List (List ℕ)
  pub schedule : ScheduleParts

-- the content at the place of the name; `None` where there is no such name
abbrev pub content_at : List (List ℕ) → List (List ℕ) → List ℕ → Option (List ℕ)
content_at names contents name = option_and_then (λ place. slice_get contents place) (position (λ known. bytes_eq known name) names)

-- the content of the file of this name; `None` where there is no such file
abbrev pub content_of : FilesParts → List ℕ → Option (List ℕ)
content_of s name = content_at s.names s.contents name

-- there is a file, and it isn't too large to be loaded
abbrev pub is_loadable : Option (List ℕ) → Bool
is_loadable None = false
is_loadable (Some bytes) = nat_le (length bytes) most_file_bytes
