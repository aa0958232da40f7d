-- Members that are put one by one.
use Rattle.std.proofs.Common.{◌≡◌, ℕ, List, refl, ap, ◌∙◌}
use Rattle.std.specs.Prelude.{IsUtf8}
use Rattle.std.specs.Ordering.{nat_cmp, match_ordering, ordering_reverse}
use Rattle.std.specs.declared.cmp.Ordering.{Ordering}
use Rattle.std.specs.declared.cmp.Ordering.TheVariants.{Less, Equal, Greater}
use Rattle.std.specs.Cmp.Lexicographic.{slice_cmp}
use Rattle.std.proofs.lemmas.Cmp.{nat_list_cmp_total}
use Rattle.serde_json.specs.Data.{Data, Members, no_members, member, put}
use Rattle.ds_journal_text.proofs.PlainData.{AllBehind, Ascend, IsPlain, MembersArePlain}

-- a member that is put stands behind a name if it and the others do
put_behind : (l k : List ℕ) (d : Data) (ms : Members) → slice_cmp nat_cmp l k ≡ Less → AllBehind l ms → AllBehind l (put k d ms)
put_behind l k d no_members first all = (first, tt)
put_behind l k d (member m e ms) first all = by (slice_cmp nat_cmp k m) (put_behind l k d ms first all.1) where
  by : (o : Ordering) → AllBehind l (put k d ms) → AllBehind l (match_ordering o (member k d (member m e ms)) (member m d ms) (member m e (put k d ms)))
  by Less behind = (first, all)
  by Equal behind = all
  by Greater behind = (all.0, behind)

all_after : (k m : List ℕ) (ms : Members) → slice_cmp nat_cmp k m ≡ Less → AllBehind m ms → AllBehind k ms
all_after k m no_members up all = tt
all_after k m (member n e ms) up all = (nat_list_cmp_total.trans k m n up all.0, all_after k m ms up all.1)

-- members that ascend still do with one more put among them
pub put_ascends : (k : List ℕ) (d : Data) (ms : Members) → Ascend ms → Ascend (put k d ms)
put_ascends k d no_members up = (tt, tt)
put_ascends k d (member m e ms) up = by (slice_cmp nat_cmp k m) refl (put_ascends k d ms up.1) where
  by : (o : Ordering) → slice_cmp nat_cmp k m ≡ o → Ascend (put k d ms)
      → Ascend (match_ordering o (member k d (member m e ms)) (member m d ms) (member m e (put k d ms)))
  by Less is later = ((is, all_after k m ms is up.0), up)
  by Equal is later = up
  by Greater is later = (put_behind m k d ms (nat_list_cmp_total.antisymm m k ∙ ap ordering_reverse is) up.0, later)

pub put_plain : (k : List ℕ) (d : Data) (ms : Members) (j : ℕ) → IsUtf8 k → IsPlain d j → MembersArePlain ms j → MembersArePlain (put k d ms) j
put_plain k d no_members j utf8 plain all = (utf8, plain, tt)
put_plain k d (member m e ms) j utf8 plain all = by (slice_cmp nat_cmp k m) (put_plain k d ms j utf8 plain all.2) where
  by : (o : Ordering) → MembersArePlain (put k d ms) j → MembersArePlain (match_ordering o (member k d (member m e ms)) (member m d ms) (member m e (put k d ms))) j
  by Less later = (utf8, plain, all)
  by Equal later = (all.0, plain, all.2)
  by Greater later = (all.0, all.1, later)
