-- What several proofs name of std, of the crates below and of this crate's definitions, handed on.
pub use Rattle.std.proofs.Common.{◌≡◌, true, Option, Some, None, arith, refl, ℕ, zero, suc, ◌+◌, ◌≤◌, Bool, List, [], ◌∷◌, length, take}
pub use Rattle.std.proofs.Common.{map, ap, sym, ◌∙◌, subst, length-append, ◌-◌, ◌<◌, ◌++◌, false, cond, ◌⊎◌, inl, inr, rules, take_all}
pub use Rattle.std.proofs.Common.{drop, IfOk}
pub use Rattle.std.proofs.lemmas.Bool.{and_parts, cond_both, eq-eqb, leb-false, lt-ltb, ltb-true, eqb-true}
pub use Rattle.std.proofs.lemmas.Bool.Decides.{nat_tests}
pub use Rattle.std.proofs.lemmas.Grind.{common_steps}
pub use Rattle.std.proofs.lemmas.List.{append-nil, take-append-drop, take-append-le}
pub use Rattle.std.proofs.lemmas.List.Elements.{All-push, All-nil, All-cons, All-append}
pub use Rattle.std.proofs.lemmas.Option.{IfSome_then, none-some}
pub use Rattle.std.specs.List.{range_with_len}
pub use Rattle.std.specs.Option.{option_map, option_or}
pub use Rattle.std.specs.Prelude.{is_some, slice_set, replicate, All, slice_index_or, Ok, ◌&&◌, IfSome, nat_lt, ◌||◌, ◌==◌, is_none}
pub use Rattle.std.specs.Prelude.{Result, Err, nat_le, max, slice_get, fold}
pub use Rattle.ds_applied.proofs.PlaceLaws.{counted_place-within}
pub use Rattle.ds_applied.specs.AppliedLists.{AreCounts, entries_by, shard_view, shard_views, AppliedParts, Follows}
pub use Rattle.ds_base.specs.Keys.{KeyParts, root_of, renumbered, with_last_id, ends_in_id, is_key}
pub use Rattle.ds_base.specs.Limits.{first_drawn_id, greatest_id, most_writes}
pub use Rattle.ds_base.specs.declared.key.Elem.{Elem}
pub use Rattle.ds_base.specs.declared.key.Ident.TheVariants.{Id, Name}
pub use Rattle.ds_effects.specs.Gathered.{GatheredParts, first_place, first_unviewed, has_covered}
pub use Rattle.ds_protocol.specs.declared.seen.CountsSeen.{CountsSeen}
pub use Rattle.ds_effects.specs.declared.effect.Due.{Due}
pub use Rattle.ds_effects.specs.declared.effect.Effect.{Effect}
pub use Rattle.ds_protocol.specs.declared.seen.GroupRead.{GroupRead}
pub use Rattle.ds_effects.specs.declared.gathered.Step.{Step}
pub use Rattle.ds_entity.specs.Entities.{EntityParts, entity_refusal}
pub use Rattle.ds_entity.specs.EntityOrder.{sorted_by_key}
pub use Rattle.ds_entity.specs.declared.results.Seen.{Seen}
pub use Rattle.ds_indexdef.specs.declared.IndexDef.{IndexDef}
pub use Rattle.ds_log.specs.Conflicts.{last_writer, conflict_of, conflict_from, IsCommitted}
pub use Rattle.ds_log.specs.Ids.{first_unissued, unissued}
pub use Rattle.ds_log.specs.Logs.{shard_list, key_of, entry_writes, group_of}
pub use Rattle.ds_log.specs.ShardLaws.{shard_list-append, later_entries}
pub use Rattle.ds_log.specs.Shards.{shard_of, fnv1a}
pub use Rattle.ds_log.specs.Touches.{with_touch, touch_place, is_touched}
pub use Rattle.ds_log.specs.declared.Commit.{Commit}
pub use Rattle.ds_log.specs.declared.Entry.{Entry}
pub use Rattle.ds_log.specs.declared.Touch.{Touch}
pub use Rattle.ds_log.specs.declared.Write.{Write}
pub use Rattle.ds_log.specs.declared.Write.TheVariants.{Put, Delete}
pub use Rattle.ds_machine.specs.Due.{IsDuePlan, AreViewed, IsGathered, IsDue, AppliedWithin, ids_of, IsDueFor}
pub use Rattle.ds_machine.specs.Effects.{IsAllowed, store_after, session_after, with_write, MayReadGroup}
pub use Rattle.ds_machine.specs.Gathering.{draws, gathered_by, gathers_entry, is_pending, gathers_view, settles, shown_by, counts_applied}
pub use Rattle.ds_machine.specs.Gathering.{counts_by, next_by, store_by}
pub use Rattle.ds_machine.specs.Missing.{IfReply, first_uncovered, shown, missing, Shown, are_exhausted, completed, covers, is_within}
pub use Rattle.ds_machine.specs.Missing.{missing_ids, missing_read, missing_search, missing_settle, missing_view, missing_write}
pub use Rattle.ds_machine.specs.Missing.{place_read, unless, view_or_apply}
pub use Rattle.ds_machine.specs.Queries.{told_over, IsGroupSearch, IsPrepared}
pub use Rattle.ds_machine.specs.Reads.{IsPulled, IsReached}
pub use Rattle.ds_machine.specs.States.{StateParts, IsState, AreUpTo, Grows, StoreParts, IsTransaction, IsSession, world}
pub use Rattle.ds_machine.specs.WritePlans.{IsWritable, IsWritePlan, SaysWrite}
pub use Rattle.ds_model.specs.Answers.{CountsWithin, AppliedCount, BodyAnswers, CallAnswers, UnlessRefused, RequestAnswers, AskedAnswers}
pub use Rattle.ds_model.specs.Answers.{cursor_of, Finds, FoundOver, saw_group, commit_of}
pub use Rattle.ds_model.specs.Asked.{has_shard, search_of}
pub use Rattle.ds_model.specs.Groups.{IsSeenPlace, place_in, with_transaction, group_refusal, write_refusal, new_group_refusal}
pub use Rattle.ds_model.specs.Groups.{unless_touched, ReadsAt, touching_if, StandsAt}
pub use Rattle.ds_model.specs.Legal.{drawn_by_call, acknowledged_in, accepted_in, printed_next_in, counter_ids, last_id, written_commit}
pub use Rattle.ds_model.specs.Legal.{counter_id}
pub use Rattle.ds_model.specs.Refusals.{in_transaction, refusal_of, first_refusal, entity_body, row_refusal, group_asked, is_root}
pub use Rattle.ds_model.specs.Refusals.{ancestor_group_refusal, Told, Places, ancestor_refusal, cursor_refusal, form_refusal}
pub use Rattle.ds_model.specs.Refusals.{missing_refusal, normal_refusal, search_refusal, no_transaction}
pub use Rattle.ds_model.specs.Results.{items_of, result, Page, entity_of}
pub use Rattle.ds_model.specs.Sessions.{Transaction, Session, count_of, counted_place, last_commit, list_of, raised_at, greater_counts}
pub use Rattle.ds_model.specs.Sessions.{first_id, next_above}
pub use Rattle.ds_model.specs.Worlds.{shard_lists, World}
pub use Rattle.ds_protocol.specs.Finishing.{found, AreByKey, found_of, row_parts}
pub use Rattle.ds_protocol.specs.Operations.{call_of, ids_asked, IsLawfulOperation, written_path, IsAlwaysRefused, IsOperationOf}
pub use Rattle.ds_protocol.specs.Preparing.{IsInside, IsRefused}
pub use Rattle.ds_protocol.specs.Refused.{IsRefusal, is_quiet, operation_body, tells_no_step}
pub use Rattle.ds_protocol.specs.Searches.{search_parts, IsSearchOf}
pub use Rattle.ds_protocol.specs.Transactions.{transaction_of}
pub use Rattle.ds_protocol.specs.declared.operations.Operation.{Operation}
pub use Rattle.ds_protocol.specs.declared.preparing.Ready.{Ready}
pub use Rattle.ds_protocol.specs.declared.searching.Search.{Search}
pub use Rattle.ds_query.specs.declared.branch.Normal.{Normal}
pub use Rattle.ds_query.specs.declared.branch.Window.{Window}
pub use Rattle.ds_reply.specs.declared.reply.Body.{Body}
pub use Rattle.ds_reply.specs.declared.reply.WriteAt.{WriteAt}
pub use Rattle.ds_request.specs.declared.call.Call.{Call}
