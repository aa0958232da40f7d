-- What begins a shard's list of the journal.
use Rattle.std.proofs.Common.{◌≡◌, ℕ, ◌+◌, ◌-◌, List, ◌++◌, length, ap, sym, ◌∙◌}
use Rattle.std.proofs.Common.{append_assoc}
use mathlib.Core.List.{IsPrefix}
use Rattle.ds_log.specs.declared.Commit.{Commit}
use Rattle.ds_log.specs.declared.Entry.{Entry}
use Rattle.ds_log.specs.Logs.{shard_list}
use Rattle.ds_log.specs.ShardLaws.{later_entries, shard_list-append}
use Rattle.ds_store_passes.proofs.Growing.{begins_through}

-- a longer journal gives each shard a longer list
shard_list-longer : (known journal : List Commit) (s shards : ℕ) → IsPrefix known journal
    → IsPrefix (shard_list known s shards) (shard_list journal s shards)
shard_list-longer known journal s shards p = (
  later_entries s shards (1 + length known) p.0,
  sym (shard_list-append known p.0 s shards)
      ∙ ap (λ cs. shard_list cs s shards) p.1,
)

-- what begins the published entries of a shard begins its list of the journal, which its own reader knows a beginning of
pub shard-begins : (journal known : List Commit) (s shards many : ℕ) (seen published pending waiting : List Entry) → IsPrefix known journal
    → (published ++ pending) ++ waiting ≡ shard_list known s many → many ≡ shards → IsPrefix seen published
    → IsPrefix seen (shard_list journal s shards)
shard-begins journal known s shards many seen published pending waiting grown list same begins =
    let whole : (published ++ pending) ++ waiting ≡ shard_list known s shards = list ∙ ap (shard_list known s) same in
    let first : IsPrefix published (shard_list known s shards) =
    (pending ++ waiting, sym (append_assoc published pending waiting) ∙ whole) in
    begins_through seen published (shard_list journal s shards) begins
    (begins_through published (shard_list known s shards) (shard_list journal s shards) first (shard_list-longer known journal s shards
    grown))
