use Rattle.std.proofs.Common.{◌≡◌, ◌≤◌, ◌++◌, [], length, take, Some, ap, sym, subst, ◌∙◌, arith, append_assoc}
use Rattle.std.specs.Prelude.{slice_get, unwrap_or}
use Rattle.std.proofs.lemmas.List.{take_all}
use Rattle.std.proofs.lemmas.Option.{slice_get_within}
use mathlib.Core.List.{IsPrefix}
use Rattle.ds_hub.specs.Holding.{Publishing}
use Rattle.ds_log.specs.declared.Entry.{Entry}
use Rattle.ds_log.specs.Logs.{shard_list}
use Rattle.ds_model.specs.Sessions.{list_of}
use Rattle.ds_shard.specs.States.{StateParts}
use Rattle.ds_store_passes.specs.Passes.{PassParts, HasRead}
use Rattle.ds_store_shards.specs.Standing.{StandsAt}
use Rattle.ds_store_passes.proofs.PassReads.{read_place}
use Rattle.ds_store_passes.proofs.Seeing.{HasRead-through}
use Rattle.ds_store_passes.proofs.SlotLists.{longer_there}
use Rattle.ds_store_shards.proofs.Stands.{HasCaughtUp, all_seen, stood}
use Rattle.ds_store_shards.proofs.standing.stand_known.Goals as goal

pub returns-in_err-apply_up_to-clause-read : goal.returns-in_err-apply_up_to-clause-read
returns-in_err-apply_up_to-clause-read g c =
    HasRead-through c.args.pass.now c.see_commits.new.self c.stand.new.self c.see_commits.ensures.read
    (read_place c.see_commits.new.self c.stand.new.self c.unwrap_or-place.result c.stand.ensures)

pub enter_shard-requires : goal.enter_shard-requires
enter_shard-requires g c =
    let within = slice_get_within c.show.new.pass.lists _ _ c.show.ensures.seen in
    omega (arith, within, c.show.ensures.desk.0)

pub returns-in_err-enter_shard-clause-read : goal.returns-in_err-enter_shard-clause-read
returns-in_err-enter_shard-clause-read g c =
    HasRead-through c.args.pass.now c.see_commits.new.self c.enter_shard.new.self c.see_commits.ensures.read
    (HasRead-through c.see_commits.new.self c.stand.new.self c.enter_shard.new.self
    (read_place c.see_commits.new.self c.stand.new.self c.unwrap_or-place.result c.stand.ensures)
    (HasRead-through c.stand.new.self c.show.new.pass c.enter_shard.new.self c.show.ensures.read c.enter_shard.ensures.read))

pub returns-clause-read : goal.returns-clause-read
returns-clause-read g c =
    HasRead-through c.args.pass.now c.see_commits.new.self c.enter_shard.new.self c.see_commits.ensures.read
    (HasRead-through c.see_commits.new.self c.stand.new.self c.enter_shard.new.self
    (read_place c.see_commits.new.self c.stand.new.self c.unwrap_or-place.result c.stand.ensures)
    (HasRead-through c.stand.new.self c.show.new.pass c.enter_shard.new.self c.show.ensures.read c.enter_shard.ensures.read))

pub returns-clause-stands : goal.returns-clause-stands
returns-clause-stands g c =
    let desk = c.args.desk.now in
    let applied = c.apply_up_to.new.self in
    let before = c.args.pass.now in
    let seen = c.see_commits.new.self in
    let stood_at = c.stand.new.self in
    let shown = c.show.new.pass in
    let after = c.enter_shard.new.self in
    let known = desk.journal.known in
    let asked = c.args.at in
    let entries = c.entries_up_to-entries.result in
    let published = applied.writer.writer.published in
    let number_then : applied.number ≡ desk.number = c.in_ok-apply_up_to.ensures.same.0 in
    let shards_then : applied.shards ≡ desk.shards = c.in_ok-apply_up_to.ensures.same.1 in
    let journal_then : applied.journal ≡ desk.journal = c.in_ok-apply_up_to.ensures.same.2 in
    let place : c.unwrap_or-place.result ≡ unwrap_or asked (length known) = c.unwrap_or-place.ensures
    ∙ ap (unwrap_or asked) c.len.ensures in
    let caught_up : HasCaughtUp before seen known asked = record {
      enough = c.requires.known;
      seen = c.see_commits.ensures.seen;
      all = c.see_commits.ensures.all;
    } in
    let same : after.journal ≡ seen.journal =
    ap (λ (p : PassParts). p.journal) c.enter_shard.ensures.pass ∙ ap (λ (p : PassParts). p.journal) c.show.ensures.pass
    ∙ ap (λ (p : PassParts). p.journal) c.stand.ensures in
    let high : unwrap_or asked (length known) ≤ after.place =
    omega (
      arith,
      place,
      ap (λ (p : PassParts). p.place) c.enter_shard.ensures.pass,
      ap (λ (p : PassParts). p.place) c.show.ensures.pass,
      ap (λ (p : PassParts). p.place) c.stand.ensures,
    ) in
    let own : published ++ (applied.writer.writer.pending ++ applied.waiting.items) ≡ shard_list known desk.number desk.shards =
    sym (append_assoc published applied.writer.writer.pending applied.waiting.items) ∙ applied.list
    ∙ (λ i. shard_list (journal_then i).known (number_then i) (shards_then i)) in
    let are : entries ≡ length (shard_list (take (unwrap_or asked (length known)) known) desk.number desk.shards) =
    c.entries_up_to-entries.ensures.is ∙ (λ i. length (shard_list (take (place i) known) desk.number desk.shards)) in
    let there : slice_get shown.lists desk.number ≡ Some published =
    subst (λ n. slice_get shown.lists n ≡ Some published) number_then c.show.ensures.seen in
    let read : HasRead before after =
    HasRead-through before seen after c.see_commits.ensures.read
    (HasRead-through seen stood_at after (read_place seen stood_at c.unwrap_or-place.result c.stand.ensures)
    (HasRead-through stood_at shown after c.show.ensures.read c.enter_shard.ensures.read)) in
    subst (λ m. StandsAt desk.shards before after desk.number asked m entries) (sym place)
    (stood desk.shards desk.number before seen shown after known asked published (applied.writer.writer.pending ++ applied.waiting.items)
    entries
    caught_up read same high own are c.in_ok-apply_up_to.ensures.applied there c.enter_shard.ensures.read)

pub returns-clause-all : goal.returns-clause-all
returns-clause-all g c = λ none.
    let desk = c.args.desk.now in
    let applied = c.apply_up_to.new.self in
    let shown = c.show.new.pass in
    let after = c.enter_shard.new.self in
    let known = desk.journal.known in
    let entries = c.entries_up_to-entries.result in
    let published = applied.writer.writer.published in
    let number_then : applied.number ≡ desk.number = c.in_ok-apply_up_to.ensures.same.0 in
    let shards_then : applied.shards ≡ desk.shards = c.in_ok-apply_up_to.ensures.same.1 in
    let journal_then : applied.journal ≡ desk.journal = c.in_ok-apply_up_to.ensures.same.2 in
    let place : c.unwrap_or-place.result ≡ length known =
    c.unwrap_or-place.ensures ∙ ap (λ o. unwrap_or o c.len.result) none ∙ c.len.ensures in
    let all : take c.unwrap_or-place.result known ≡ known = take_all c.unwrap_or-place.result known (omega (arith, place)) in
    let own : published ++ (applied.writer.writer.pending ++ applied.waiting.items) ≡ shard_list known desk.number desk.shards =
    sym (append_assoc published applied.writer.writer.pending applied.waiting.items) ∙ applied.list
    ∙ (λ i. shard_list (journal_then i).known (number_then i) (shards_then i)) in
    let are : entries ≡ length (shard_list known desk.number desk.shards) =
    c.entries_up_to-entries.ensures.is ∙ ap (λ cs. length (shard_list cs desk.number desk.shards)) all in
    let there : slice_get shown.lists desk.number ≡ Some published =
    subst (λ n. slice_get shown.lists n ≡ Some published) number_then c.show.ensures.seen in
    let begins : IsPrefix published (list_of after.lists desk.number) =
    subst (λ l. IsPrefix l (list_of after.lists desk.number)) (ap (λ o. unwrap_or o []) there)
    (longer_there shown.lists after.lists desk.number c.enter_shard.ensures.read.lists) in
    let confirmed : IsPrefix (list_of after.lists desk.number) published =
    subst (λ n. IsPrefix (list_of after.lists n) published) (c.show.ensures.desk.0 ∙ number_then)
    (subst (λ (w : Publishing StateParts Entry). IsPrefix (list_of after.lists c.show.new.self.number) w.published) c.show.ensures.desk.3
    c.confirm_pass.ensures) in
    all_seen (list_of after.lists desk.number) published (applied.writer.writer.pending ++ applied.waiting.items)
    (shard_list known desk.number desk.shards) entries begins confirmed own are c.in_ok-apply_up_to.ensures.applied
