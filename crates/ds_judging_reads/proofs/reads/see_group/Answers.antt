use Rattle.std.proofs.Common.{ℕ, length, ap, ◌∙◌, arith}
use Rattle.std.proofs.lemmas.Result.{on_ok_weaker}
use Rattle.ds_model.specs.Groups.{touching_if, with_transaction}
use Rattle.ds_model.specs.Sessions.{Session, saw_entries, saw_place}
use Rattle.ds_model.specs.Worlds.{entries_up_to}
use Rattle.ds_judging_lines.specs.Deciding.{world_in}
use Rattle.ds_judging_lines.proofs.SeenLaws.{kept, raised_length}
use Rattle.ds_judging_reads.proofs.reads.see_group.Goals as goal

pub returns-clause-seen : goal.returns-clause-seen
returns-clause-seen c =
    let turn = c.args.turn.now in
    let s = c.args.session.now in
    let m = c.args.place in
    let touched : Session = saw_place m (with_transaction (touching_if c.args.group m s.transaction) s) in
    let shard_is = c.in_ok-shard.ensures.value in
    on_ok_weaker c.read_group.result
    (λ seen.
    seen
    ∙ ap (λ (n : ℕ). saw_entries c.in_ok-shard.shard n touched) c.entries_up_to-entries.ensures.value
    ∙ ap (λ (k : ℕ). saw_entries k (entries_up_to (world_in turn) m k) touched) shard_is)
    c.read_group.ensures.ok

pub returns-clause-kept : goal.returns-clause-kept
returns-clause-kept c =
    let s = c.args.session.now in
    on_ok_weaker c.read_group.result
    (λ seen.
    kept c.args.turn.now s c.read_group.new.self
    (ap (λ (t : Session). length t.counts) seen ∙ raised_length c.in_ok-shard.shard c.entries_up_to-entries.result s.counts)
    (omega (arith, ap (λ (t : Session). t.next_id) seen)) c.requires.session)
    c.read_group.ensures.ok
