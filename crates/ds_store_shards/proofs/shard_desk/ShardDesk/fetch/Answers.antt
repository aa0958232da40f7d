use Rattle.std.proofs.Common.{◌≡◌, ◌++◌, take, sym, ap, subst, ◌∙◌}
use mathlib.Core.List.{IsPrefix}
use Rattle.ds_log.specs.Logs.{shard_list}
use Rattle.ds_log.specs.UpTo.{commits_of, last_number}
use Rattle.ds_store_hubs.specs.Rising.{Rises}
use Rattle.ds_store_shards.proofs.EntryOrder.{later_rise}
use Rattle.ds_store_shards.proofs.ShardLists.{begins_as}
use Rattle.ds_store_shards.proofs.shard_desk.ShardDesk.fetch.Goals as goal

-- the entries of later commits stand behind those of the commits that it knows
pub take_in-requires-clause-rises : goal.take_in-requires-clause-rises
take_in-requires-clause-rises g c =
    let desk = c.args.self.now in
    let known = desk.journal.known in
    let journal = c.args.journal.now in
    let entries = c.in_ok-entries.entries.items in
    let own = shard_list known desk.number desk.shards in
    let begins : IsPrefix known journal = subst (IsPrefix known) c.requires.told c.confirm.ensures in
    let first : take c.len.result journal ≡ known = ap (λ n. take n journal) c.len.ensures ∙ begins_as known journal begins in
    let all : shard_list journal desk.number desk.shards ≡ own ++ entries =
    c.in_ok-entries.ensures ∙ ap (λ cs. shard_list cs desk.number desk.shards ++ entries) first in
    let numbers : c.make_room.new.self.commits ≡ commits_of own = c.make_room.ensures.kept ∙ desk.numbers in
    subst (λ ns. Rises (last_number ns) entries) (sym numbers) (later_rise journal desk.number desk.shards own entries all)
