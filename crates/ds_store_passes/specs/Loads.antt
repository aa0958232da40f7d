-- What contracts see of a store that is being loaded, and of the pass that loaded it.
use Rattle.std.specs.Prelude.{ℕ, ◌-◌, List, [], ◌∷◌, ◌++◌, length, replicate}
use Rattle.std.specs.List.{range_with_len}
use Rattle.ds_base.specs.Limits.{first_drawn_id}
use Rattle.ds_log.specs.declared.Commit.{Commit}
use Rattle.ds_store_passes.specs.Passes.{PassParts}

-- how many shards, how many passes with the one that loads, the commits so far, and the id counter
pub record LoadingParts : Type 0 where
  pub shards : ℕ
  pub passes : ℕ
  pub journal : List Commit
  pub next : ℕ

-- A pass that appended each commit of a journal and drew each id below a counter. It has seen just that, and no entry is applied.
abbrev pub loaded : ℕ → List Commit → ℕ → PassParts
loaded shards journal next = record {
  journal = journal;
  lists = replicate shards [];
  place = length journal;
  next = next;
  commits = range_with_len 1 (length journal);
  draws = range_with_len first_drawn_id (next - first_drawn_id);
}

-- a pass that sees all of a journal, and stands at its last commit
abbrev pub has_all : PassParts → List Commit → PassParts
has_all p journal = record p { journal = journal; place = length journal }

-- a pass one of whose own commits this is too
abbrev pub also_owns : PassParts → ℕ → PassParts
also_owns p n = record p { commits = p.commits ++ n ∷ [] }
