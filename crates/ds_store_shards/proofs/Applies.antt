-- What applying a shard's entries leaves.
use Rattle.std.proofs.Common.{◌≡◌, ℕ, ◌+◌, ◌<◌, ◌≤◌, List, [], ◌++◌, length, take, Bool, true, false, MatchBool, Some, sym, ap}
use Rattle.std.proofs.Common.{subst, ◌∙◌, arith}
use Rattle.std.specs.Prelude.{slice_get, slice_set, unwrap_or}
use Rattle.std.proofs.lemmas.List.{take_all}
use mathlib.Core.List.{IsPrefix}
use Rattle.ds_log.specs.declared.Commit.{Commit}
use Rattle.ds_log.specs.declared.Entry.{Entry}
use Rattle.ds_log.specs.Logs.{shard_list}
use Rattle.ds_model.specs.Sessions.{count_of, last_commit, list_of}
use Rattle.ds_store_passes.specs.Answered.{AppliedCount, HasApplied, entries_up_to}
use Rattle.ds_store_passes.specs.Passes.{PassParts, HasRead, counts_of}
use Rattle.ds_store_shards.specs.Standing.{IsSettled}
use Rattle.ds_store_passes.proofs.Growing.{begins_no_longer}
use Rattle.ds_store_shards.proofs.ShardLists.{entries_agree}
use Rattle.ds_store_passes.proofs.SlotLists.{count_there}

-- the count told is that of an entry more, or of all entries
counted : (moved : Bool) (before up_to count old : ℕ) → before ≤ old → count ≤ up_to → MatchBool moved (old < count) (count ≡ up_to)
    → AppliedCount moved before up_to count
counted true before up_to count old low within is = (omega (arith, low, is), within)
counted false before up_to count old low within is = omega (arith, is)

-- a list that stands at a place of the pass's lists
at_place : (p : PassParts) (number : ℕ) (list : List Entry) → slice_get p.lists number ≡ Some list → list_of p.lists number ≡ list
at_place p number list there = ap (λ o. unwrap_or o []) there

lengths_match : (moved : Bool) (old new whole : List Entry) → MatchBool moved (length old < length new) (new ≡ whole)
    → MatchBool moved (length old < length new) (length new ≡ length whole)
lengths_match true old new whole is = is
lengths_match false old new whole is = ap (λ (es : List Entry). length es) is

-- Before stands what was published, behind it what isn't; the pass has seen all commits that the desk knows.
pub applied_one : (shards number : ℕ) (before after : PassParts) (known : List Commit) (old new rest : List Entry) (moved : Bool)
    (commit : ℕ)
    → HasRead before after → before.place ≤ length known → after.journal ≡ known → length known ≤ after.place → commit ≤ after.place
    → IsPrefix (list_of before.lists number) old → MatchBool moved (length old < length new) (new ≡ shard_list known number shards)
    → new ++ rest ≡ shard_list known number shards → slice_get after.lists number ≡ Some new → commit ≡ last_commit new
    → HasApplied shards before after number moved (length new) (length known) commit
applied_one shards number before after known old new rest moved commit read seen whole place_shown commit_shown begins moves own there last
    =
    let there_is = at_place after number new there in
    let up_to : entries_up_to after.journal shards (length known) number ≡ length (shard_list known number shards) =
    ap (λ j. entries_up_to j shards (length known) number) whole
    ∙ ap (λ cs. length (shard_list cs number shards)) (take_all (length known) known (omega arith)) in
    let few : length new ≤ length (shard_list known number shards) = begins_no_longer new (shard_list known number shards) (rest, own) in
    let low : count_of (counts_of before) number ≤ length old =
    omega (arith, count_there before.lists number, begins_no_longer (list_of before.lists number) old begins) in
    record {
      read = read;
      seen = seen;
      whole = ap (λ (cs : List Commit). length cs) (sym whole);
      count_is = sym (count_there after.lists number ∙ ap (λ (es : List Entry). length es) there_is);
      counted = subst (λ n. AppliedCount moved (count_of (counts_of before) number) n (length new)) (sym up_to)
          (counted moved (count_of (counts_of before) number) (length (shard_list known number shards)) (length new) (length old) low few
          (lengths_match moved old new (shard_list known number shards) moves));
      commit_is = last ∙ ap last_commit (sym there_is);
      stands = (place_shown, commit_shown);
    }

pub settled_one : (shards number place : ℕ) (before after : PassParts) (known : List Commit) (list : List Entry) (entries commit : ℕ)
    → HasRead before after → IsPrefix known after.journal → place ≤ length known
    → entries ≡ length (shard_list (take place known) number shards) → entries ≤ length list
    → after.lists ≡ slice_set before.lists number list → commit ≡ last_commit list → commit ≤ after.place
    → IsSettled shards before after number place (length list) commit
settled_one shards number place before after known list entries commit read seen within are enough lists last shown = record {
  read = read;
  list = list;
  lists = lists;
  all = omega (arith, are, enough, entries_agree number shards known after.journal place seen within);
  count_is = λ i. length list;
  commit_is = last;
  shown = shown;
}
