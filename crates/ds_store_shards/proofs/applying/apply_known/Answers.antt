use Rattle.std.proofs.Common.{◌≡◌, ◌≤◌, ◌<◌, ◌++◌, length, MatchBool, Some, ap, sym, subst, ◌∙◌, arith, append_assoc}
use Rattle.std.specs.Prelude.{slice_get}
use mathlib.Core.List.{IsPrefix}
use Rattle.ds_log.specs.Logs.{shard_list}
use Rattle.ds_hub.specs.Holding.{Publishing}
use Rattle.ds_log.specs.declared.Entry.{Entry}
use Rattle.ds_model.specs.Sessions.{last_commit, list_of}
use Rattle.ds_shard.specs.States.{StateParts}
use Rattle.ds_store_passes.specs.Answered.{HasApplied}
use Rattle.ds_store_passes.specs.Passes.{PassParts, HasRead}
use Rattle.ds_store_shards.proofs.Applies.{applied_one}
use Rattle.ds_store_passes.proofs.PassReads.{on_err, read_place}
use Rattle.ds_store_passes.proofs.Seeing.{HasRead-through}
use Rattle.ds_store_shards.proofs.applying.apply_known.Goals as goal

pub returns-in_err-moved-clause-read : goal.returns-in_err-moved-clause-read
returns-in_err-moved-clause-read g c =
    on_err c.from_residual.result (HasRead c.args.pass.now c.show.new.pass)
    (HasRead-through c.args.pass.now c.see_commits.new.self c.show.new.pass c.see_commits.ensures.read
    (HasRead-through c.see_commits.new.self c.stand.new.self c.show.new.pass
    (read_place c.see_commits.new.self c.stand.new.self c.len-place.result c.stand.ensures) c.show.ensures.read))

pub returns-clause-applied : goal.returns-clause-applied
returns-clause-applied g c =
    let desk = c.args.desk.now in
    let shown_desk = c.show.new.self in
    let applied = c.apply_next.new.self in
    let before = c.args.pass.now in
    let seen = c.see_commits.new.self in
    let stood = c.stand.new.self in
    let first = c.show.new.pass in
    let second = c.show-2.new.pass in
    let after = c.stand-2.new.self in
    let known = desk.journal.known in
    let old = desk.writer.writer.published in
    let new = applied.writer.writer.published in
    let number_then : applied.number ≡ desk.number = c.in_ok-moved.ensures.same.0 ∙ c.show.ensures.desk.0 in
    let shards_then : applied.shards ≡ desk.shards = c.in_ok-moved.ensures.same.1 ∙ c.show.ensures.desk.1 in
    let journal_then : applied.journal ≡ desk.journal = c.in_ok-moved.ensures.same.2 ∙ c.show.ensures.desk.2 in
    let enough = c.requires.known in
    let low : before.place ≤ length known = omega (arith, enough) in
    let short : length before.journal ≤ length known = omega (arith, enough) in
    let journal : after.journal ≡ seen.journal =
    ap (λ (p : PassParts). p.journal) c.stand-2.ensures ∙ ap (λ (p : PassParts). p.journal) c.show-2.ensures.pass
    ∙ ap (λ (p : PassParts). p.journal) c.show.ensures.pass ∙ ap (λ (p : PassParts). p.journal) c.stand.ensures in
    let whole : after.journal ≡ known = journal ∙ c.see_commits.ensures.all short in
    let lists : after.lists ≡ second.lists = ap (λ (p : PassParts). p.lists) c.stand-2.ensures in
    let same_lists : stood.lists ≡ before.lists =
    ap (λ (p : PassParts). p.lists) c.stand.ensures ∙ ap (λ (p : PassParts). p.lists) c.see_commits.ensures.pass in
    let begins : IsPrefix (list_of before.lists desk.number) old =
    subst (λ ls. IsPrefix (list_of ls desk.number) old) same_lists
    c.show.ensures.before in
    let moves : MatchBool c.in_ok-moved.moved (length old < length new) (new ≡ shard_list known desk.number desk.shards) =
    subst (λ o. MatchBool c.in_ok-moved.moved (length o < length new) (new ≡ shard_list known desk.number desk.shards))
    (ap (λ (w : Publishing StateParts Entry). w.published) c.show.ensures.desk.3)
    (subst (λ l. MatchBool c.in_ok-moved.moved (length shown_desk.writer.writer.published < length new) (new ≡ l))
    (λ i. shard_list (c.show.ensures.desk.2 i).known (c.show.ensures.desk.0 i) (c.show.ensures.desk.1 i))
    c.in_ok-moved.ensures.moved) in
    let own : new ++ (applied.writer.writer.pending ++ applied.waiting.items) ≡ shard_list known desk.number desk.shards =
    sym (append_assoc new applied.writer.writer.pending applied.waiting.items) ∙ applied.list
    ∙ (λ i. shard_list (journal_then i).known (number_then i) (shards_then i)) in
    let there : slice_get after.lists desk.number ≡ Some new =
    subst (λ ls. slice_get ls desk.number ≡ Some new) (sym lists) (subst (λ n. slice_get second.lists n ≡ Some new) number_then
    c.show-2.ensures.seen) in
    let read : HasRead before after =
    HasRead-through before seen after c.see_commits.ensures.read
    (HasRead-through seen stood after (read_place seen stood c.len-place.result c.stand.ensures)
    (HasRead-through stood first after c.show.ensures.read
    (HasRead-through first second after c.show-2.ensures.read (read_place second after c.last-commit.result c.stand-2.ensures)))) in
    let high : length known ≤ after.place =
    omega (
      arith,
      c.len-place.ensures,
      ap (λ (p : PassParts). p.place) c.stand-2.ensures,
      ap (λ (p : PassParts). p.place)
          c.show-2.ensures.pass,
      ap (λ (p : PassParts). p.place) c.show.ensures.pass,
      ap (λ (p : PassParts). p.place) c.stand.ensures,
    ) in
    let high_commit : c.last-commit.result ≤ after.place = omega (arith, ap (λ (p : PassParts). p.place) c.stand-2.ensures) in
    let all = applied_one desk.shards desk.number before after known old new (applied.writer.writer.pending ++ applied.waiting.items)
    c.in_ok-moved.moved c.last-commit.result read low whole high high_commit begins moves own there
    (c.last-commit.ensures ∙ ap (λ (w : Publishing StateParts Entry). last_commit w.published) c.show-2.ensures.desk.3) in
    let count : c.published.result ≡ length new =
    c.published.ensures ∙ ap (λ (w : Publishing StateParts Entry). length w.published) c.show-2.ensures.desk.3 in
    subst (λ n. HasApplied desk.shards before after desk.number c.in_ok-moved.moved n c.len-place.result c.last-commit.result) (sym count)
    (subst (λ n. HasApplied desk.shards before after desk.number c.in_ok-moved.moved (length new) n c.last-commit.result)
    (sym c.len-place.ensures) all)
