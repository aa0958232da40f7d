-- What a shard's parts stand for, and that an absorbed entry keeps them so.
use Rattle.std.proofs.Common.{◌≡◌, ℕ, ◌+◌, ◌<◌, ◌≤◌, List, sym, subst, arith}
use Rattle.std.specs.Prelude.{◌^◌, fold}
use Rattle.ds_log.specs.declared.Entry.{Entry}
use Rattle.ds_rows.specs.Indexable.{IsIndexable}
use Rattle.ds_rows.specs.Versions.{Version, AreTables}
use Rattle.ds_table.specs.Blocks.{versions}
use Rattle.ds_shard.specs.Histories.{written, trimmed}
use Rattle.ds_shard.specs.Rows.{rows_of_versions}
use Rattle.ds_shard.specs.Contents.{ContentsParts, HaveSame, IsTrimmed}
use Rattle.ds_shard.specs.Shards.{ShardParts, IsShard, floor_of, absorbed}
use Rattle.ds_shard.proofs.Kept.{trimmed-twice}
use Rattle.ds_shard.proofs.Standing.{floor_is}
use Rattle.ds_shard.proofs.Seeking.{all_each, one_each}

module _ (window count : ℕ) (c : ContentsParts) (h : IsShard window count c) where
  pub tables_stand : (stamp : ℕ) → AreTables c.definitions stamp c.entities
  tables_stand stamp = record {
    definitions = h.kept.definitions;
    indexable = all_each (λ (v : Version). IsIndexable v.entity) c.entities h.kept.indexable;
    one_each = one_each stamp c.entities h.kept.histories;
  }

  -- the table has the rows of all versions
  pub all_rows : HaveSame (versions c.table) (rows_of_versions c.definitions c.entities)
  all_rows =
      subst (λ vs. HaveSame (versions c.table) (rows_of_versions c.definitions vs)) h.outliving
      (subst (λ floor. HaveSame (versions c.table) (rows_of_versions c.definitions (trimmed floor c.entities))) h.floor h.kept.rows)

  abbrev seen_as : ℕ → ShardParts
  seen_as last = record { definitions = c.definitions; window = window; count = count; last = last; versions = c.entities }

  -- ---- an entry

  module _ (few : count < 2 ^ 62) (d : ContentsParts) where
    abbrev next : ℕ
    next = floor_of window (count + 1)

    -- its writes are done, and what no stamp of the window sees is taken out
    abbrev versions_then : Entry → List Version
    versions_then entry = trimmed next (fold (written (count + 1)) c.entities entry.writes)

    pub absorbed_is : (last : ℕ) (entry : Entry) → d.definitions ≡ c.definitions → d.entities ≡ versions_then entry
        → record { definitions = d.definitions; window = window; count = count + 1; last = entry.commit; versions = d.entities }
        ≡ absorbed (seen_as last) entry
    absorbed_is last entry definitions is =
        λ t. record { definitions = definitions t; window = window; count = count + 1; last = entry.commit; versions = is t }

    pub next_shard : (vs : List Version) → d.table.floor ≡ next → IsTrimmed (count + 1) d → d.entities ≡ trimmed next vs
        → IsShard window (count + 1) d
    next_shard vs floor trimmed_there is = record {
      least = h.least;
      most = h.most;
      bounded = omega (arith, few);
      given = trimmed_there.given;
      floor = floor;
      kept = trimmed_there.kept;
      outliving = subst (λ ws. trimmed next ws ≡ ws) (sym is) (trimmed-twice next vs);
    }

    pub next_low : next ≤ count + 1
    next_low = let w = h.least in let next_is = floor_is window (count + 1) h.least in omega (arith, next_is, w)
