use Rattle.std.proofs.Common.{◌≡◌, ℕ, ◌<◌, List, length, ap, sym, subst, ◌∙◌, All}
use mathlib.Core.List.{IsPrefix}
use Rattle.ds_draw.specs.Draws.{HasEachOnce, draws_of}
use Rattle.ds_log.specs.Logs.{shard_list}
use Rattle.ds_log.specs.declared.Commit.{Commit}
use Rattle.ds_model.specs.Sessions.{list_of}
use Rattle.ds_store_passes.specs.Ending.{HaveEnded, IsConfirmed}
use Rattle.ds_store_passes.specs.Passes.{PassParts, StoreParts}
use Rattle.ds_store_running.proofs.Ended.{ended}
use Rattle.ds_store_running.proofs.store.Store.close.Goals as goal

pub returns : goal.returns
returns g c =
    let desk = c.into_inner-desk.result in
    let shards = length g.J.Names.shards in
    let passes = c.args.passes in
    let journal = desk.book.journal in
    let seats = c.all_seats-commits in
    let words = c.self.inside.words in
    let next = c.close-next.result in
    let confirmed = subst (All (IsConfirmed shards journal)) c.as_slice.ensures c.confirm_journal.ensures in
    let told = desk.writer.writer.published in
    let of_slice = subst
    (λ (ps : List PassParts). (s : ℕ) → s < shards → All (λ (p : PassParts). IsPrefix (list_of p.lists s) (shard_list told s shards)) ps)
    c.as_slice-2.ensures c.confirm_shards.ensures in
    let each = subst
    (λ (js : List Commit). (s : ℕ) → s < shards → All (λ (p : PassParts). IsPrefix (list_of p.lists s) (shard_list js s shards)) passes)
    desk.told.0 of_slice in
    let each_commit = subst (λ first. HasEachOnce first c.close.result (draws_of seats.result.0)) words.begun.0 c.close.ensures.each_once in
    let each_id = subst (λ first. HasEachOnce first next (draws_of seats.result.1)) words.begun.1 c.close-next.ensures.each_once in
    let all = ended shards passes journal next c.close.result seats.result.0 seats.result.1 desk.commits confirmed each
    seats.ensures.draws.0
    seats.ensures.draws.1 each_commit c.close.ensures.counters seats.ensures.keeper desk.numbered each_id
    (seats.ensures.counters next c.close-next.ensures.counters) in
    let many : shards ≡ c.args.self.shards = sym c.self.invariant.0 ∙ ap (λ (s : StoreParts). s.shards) c.self.view_is in
    subst (λ n. HaveEnded n passes c.end.result next) many (subst (λ js. HaveEnded shards passes js next) (sym c.end.ensures.value) all)
