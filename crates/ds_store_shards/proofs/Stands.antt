-- Where a strong read stands, of what its steps leave.
use Rattle.std.proofs.Common.{◌≡◌, ℕ, ◌+◌, ◌≤◌, max, List, [], ◌++◌, length, take, Option, None, Some, refl, sym, ap, subst, ◌∙◌, arith}
use Rattle.std.proofs.Common.{length-append}
use Rattle.std.specs.Prelude.{slice_get, unwrap_or}
use Rattle.std.proofs.lemmas.Option.{slice_get_within}
use mathlib.Core.List.{IsPrefix}
use Rattle.ds_log.specs.declared.Commit.{Commit}
use Rattle.ds_log.specs.declared.Entry.{Entry}
use Rattle.ds_log.specs.Logs.{shard_list}
use Rattle.ds_model.specs.Sessions.{list_of}
use Rattle.ds_store_passes.specs.Answered.{ReadsAt, entries_up_to}
use Rattle.ds_store_passes.specs.Passes.{PassParts, HasRead}
use Rattle.ds_store_shards.specs.Standing.{StandsAt}
use Rattle.ds_store_passes.proofs.Growing.{begins_no_longer}
use Rattle.ds_store_shards.proofs.ShardLists.{entries_agree, first_entries}
use Rattle.ds_store_passes.proofs.SlotLists.{as_many, longer_there}

-- The desk knows these commits, no fewer than the pass has seen where no place is asked for, and else at least those up to the place,
-- and the pass has then seen them.
pub record HasCaughtUp (before caught : PassParts) (known : List Commit) (asked : Option ℕ) : Type 0 where
  pub enough : unwrap_or asked (max before.place (length before.journal)) ≤ length known
  pub seen : IsPrefix known caught.journal
  pub all : length before.journal ≤ length known → caught.journal ≡ known

pub stands_within : (before caught : PassParts) (known : List Commit) (asked : Option ℕ) → HasCaughtUp before caught known asked
    → unwrap_or asked (length known) ≤ length known
stands_within before caught known None h = omega arith
stands_within before caught known (Some place) h = h.enough

reads_at : (before caught after : PassParts) (known : List Commit) (asked : Option ℕ) → HasCaughtUp before caught known asked
    → after.journal ≡ caught.journal → unwrap_or asked (length known) ≤ after.place
    → ReadsAt asked before after (unwrap_or asked (length known))
reads_at before caught after known None h same high =
    let low : max before.place (length before.journal) ≤ length known = h.enough in
    let short : length before.journal ≤ length known = omega (arith, low) in
    (omega (arith, low), sym (ap length (same ∙ h.all short)), high)
reads_at before caught after known (Some place) h same high =
    let enough : place ≤ length known = h.enough in
    let long = begins_no_longer known caught.journal h.seen in
    (refl, omega (arith, enough, long, ap length same))

-- A strong read stands once its desk has caught up, has published the entries up to the place, and shown them to the pass, which has
-- then entered the shard.
pub stood : (shards number : ℕ) (before caught shown after : PassParts) (known : List Commit) (asked : Option ℕ)
    (published rest : List Entry)
    (entries : ℕ) → HasCaughtUp before caught known asked → HasRead before after
    → after.journal ≡ caught.journal → unwrap_or asked (length known) ≤ after.place
    → published ++ rest ≡ shard_list known number shards
    → entries ≡ length (shard_list (take (unwrap_or asked (length known)) known) number shards)
    → entries ≤ length published
    → slice_get shown.lists number ≡ Some published → HasRead shown after
    → StandsAt shards before after number asked (unwrap_or asked (length known)) entries
stood shards number before caught shown after known asked published rest entries caught_up read same high own are enough there entered =
    let m : ℕ = unwrap_or asked (length known) in
    let within = stands_within before caught known asked caught_up in
    let begins : IsPrefix published (list_of after.lists number) =
    subst (λ l. IsPrefix l (list_of after.lists number)) (ap (λ o. unwrap_or o []) there) (longer_there shown.lists after.lists number
    entered.lists) in
    let first = first_entries number shards (list_of after.lists number) published rest known caught.journal m begins own caught_up.seen
    within
    (omega (arith, are, enough)) in
    record {
      read = read;
      stands = reads_at before caught after known asked caught_up same high;
      entries_are = are ∙ entries_agree number shards known caught.journal m caught_up.seen within
          ∙ ap (λ j. entries_up_to j shards m number) (sym same);
      there = omega (arith, slice_get_within shown.lists number published there, as_many shown.lists after.lists entered.lists);
      first = ap (λ n. take n (list_of after.lists number)) are ∙ first ∙ ap (λ j. shard_list (take m j) number shards) (sym same);
    }

-- Where all that is known is to be published, and no more is seen than is published, that is all that is seen.
pub all_seen : (list published rest whole : List Entry) (entries : ℕ) → IsPrefix published list → IsPrefix list published
    → published ++ rest ≡ whole → entries ≡ length whole → entries ≤ length published → entries ≡ length list
all_seen list published rest whole entries shown confirmed own are enough =
    omega (
      arith,
      begins_no_longer published list shown,
      begins_no_longer list published confirmed,
      length-append published rest,
      ap length own,
      are,
      enough,
    )
