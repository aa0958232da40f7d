use Rattle.std.proofs.Common.{◌≡◌, ◌≤◌, length, take, ap, sym, subst, ◌∙◌, arith}
use Rattle.std.specs.Prelude.{slice_set}
use mathlib.Core.List.{IsPrefix}
use Rattle.ds_hub.specs.Holding.{Publishing}
use Rattle.ds_log.specs.declared.Entry.{Entry}
use Rattle.ds_model.specs.Sessions.{last_commit}
use Rattle.ds_shard.specs.States.{StateParts}
use Rattle.ds_store_shards.specs.Standing.{IsSettled}
use Rattle.ds_log.specs.Logs.{shard_list}
use Rattle.ds_store_passes.specs.Passes.{PassParts, HasRead}
use Rattle.ds_store_shards.proofs.Applies.{settled_one}
use Rattle.ds_store_passes.proofs.PassReads.{read_place}
use Rattle.ds_store_passes.proofs.Seeing.{HasRead-through}
use Rattle.ds_store_shards.proofs.applying.settle_known.Goals as goal

pub returns-clause-settled : goal.returns-clause-settled
returns-clause-settled g c =
    let desk = c.args.desk.now in
    let applied = c.apply_up_to.new.self in
    let before = c.args.pass.now in
    let seen = c.see_commits.new.self in
    let shown = c.show.new.pass in
    let after = c.stand.new.self in
    let known = desk.journal.known in
    let list = applied.writer.writer.published in
    let number_then : applied.number ≡ desk.number = c.in_ok-apply_up_to.ensures.same.0 in
    let journal : after.journal ≡ seen.journal =
    ap (λ (p : PassParts). p.journal) c.stand.ensures ∙ ap (λ (p : PassParts). p.journal) c.show.ensures.pass in
    let begins : IsPrefix known after.journal = subst (IsPrefix known) (sym journal) c.see_commits.ensures.seen in
    let are : c.entries_up_to-entries.result ≡ length (shard_list (take c.args.place known) desk.number desk.shards) =
    c.entries_up_to-entries.ensures.is in
    let lists : after.lists ≡ slice_set before.lists desk.number list =
    ap (λ (p : PassParts). p.lists) c.stand.ensures ∙ ap (λ (p : PassParts). p.lists) c.show.ensures.pass
    ∙ (λ i. slice_set (ap (λ (p : PassParts). p.lists) c.see_commits.ensures.pass i) (number_then i) list) in
    let read : HasRead before after =
    HasRead-through before seen after c.see_commits.ensures.read
    (HasRead-through seen shown after c.show.ensures.read (read_place shown after c.last-commit.result c.stand.ensures)) in
    let high : c.last-commit.result ≤ after.place = omega (arith, ap (λ (p : PassParts). p.place) c.stand.ensures) in
    let all = settled_one desk.shards desk.number c.args.place before after known list c.entries_up_to-entries.result c.last-commit.result
    read begins
    c.requires.known are c.in_ok-apply_up_to.ensures.applied lists
    (c.last-commit.ensures ∙ ap (λ (w : Publishing StateParts Entry). last_commit w.published) c.show.ensures.desk.3) high in
    let count : c.published.result ≡ length list =
    c.published.ensures ∙ ap (λ (w : Publishing StateParts Entry). length w.published) c.show.ensures.desk.3 in
    subst (λ n. IsSettled desk.shards before after desk.number c.args.place n c.last-commit.result) (sym count) all
