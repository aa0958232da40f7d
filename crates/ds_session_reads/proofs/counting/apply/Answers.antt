use Rattle.std.proofs.Common.{◌≡◌, ℕ, List, ◌∙◌, take, ap, sym, refl, arith}
use Rattle.std.proofs.lemmas.List.{take_all}
use Rattle.ds_log.specs.declared.Entry.{Entry}
use Rattle.ds_request.specs.declared.call.Call.TheVariants as call
use Rattle.ds_model.specs.Groups.{with_transaction}
use Rattle.ds_model.specs.Sessions.{Session, count_of, last_commit, list_of, saw_shard_count}
use Rattle.ds_store.specs.Passes.{PassParts, counts_of}
use Rattle.ds_session_reads.proofs.CountLaws.{applied}
use Rattle.ds_session_state.proofs.SeeingLaws.{counted_at}
use Rattle.ds_session_state.proofs.StateLaws.{later_from, none_from, told_from, unrefused_parts, within_parts, within_read}
use Rattle.ds_session_reads.proofs.counting.apply.Goals as goal

-- the last of so many entries is that of the whole list
last_counted : (p : PassParts) (shard count commit : ℕ) → count ≡ count_of (counts_of p) shard
    → commit ≡ last_commit (list_of p.lists shard) → commit ≡ last_commit (take count (list_of p.lists shard))
last_counted p shard count commit counted is =
    is ∙ sym (ap (λ (es : List Entry). last_commit es)
    (take_all count (list_of p.lists shard) (omega (arith, counted, counted_at p.lists shard))))

pub say_no_memory-requires-clause-within : goal.say_no_memory-requires-clause-within
say_no_memory-requires-clause-within g c = within_read _ _ _ c.state.view_is c.requires.within c.in_default.ensures.read

pub returns-in_default : goal.returns-in_default
returns-in_default g c =
    later_from _ _ _ _ _ _ c.state.view_is _ _ _ _ refl refl refl c.in_default.ensures.read (c.say_no_memory.ensures.replied _ _)

pub returns-then-not-tell : goal.returns-then-not-tell
returns-then-not-tell g c =
    none_from _ _ _ _ _ _ c.state.view_is _ _ _ c.requires.within refl refl c.in-Ok.ensures.applied.read
    (c.tell.ensures.untold c.if-not-tell.true) c.tell.ensures.kept

pub returns : goal.returns
returns g c =
    let is = c.in-Ok.ensures.applied in
    let lists = c.apply_one.new.pass.lists in
    told_from _ _ _ _ _ _ c.state.view_is _ _ _ _ _
    (applied _ _ _ _ _ _ _ (within_parts _ _ c.state.view_is c.requires.within) _ _ _ _ _
    (unrefused_parts g.J.Names.definitions _ _ (call.Apply c.args.shard) c.state.view_is c.requires.unrefused) is)
    (ap (λ (s : Session). with_transaction c.state.inside.transaction.transaction s)
    (c.see_count.ensures.saw lists (last_counted c.apply_one.new.pass c.args.shard _ _ is.count_is is.commit_is)
    ∙ ap (λ (s : Session). saw_shard_count lists c.args.shard c.in-Ok.applied.count s) c.see_place.ensures)) refl
    (c.tell.ensures.told c.if-not-tell.false) c.tell.ensures.kept
