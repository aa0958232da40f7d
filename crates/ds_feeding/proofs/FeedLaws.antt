-- Commits of a journal that are fed one after another.
use Rattle.std.proofs.Common.{◌≡◌, ℕ, zero, suc, ◌+◌, ◌<◌, ◌≤◌, List, [], ◌∷◌, ◌++◌, length, take, drop, max, refl, ap, sym, ◌∙◌}
use Rattle.std.proofs.Common.{subst, append_assoc, arith, length-append}
use Rattle.std.specs.Prelude.{None, Some, slice_get}
use Rattle.std.proofs.Math.Seq.{take-append_seam}
use Rattle.std.proofs.lemmas.List.{append-nil, length-take, take-append-drop, take-append-le, take_all}
use Rattle.std.proofs.lemmas.List.Elements.{All-append, All-cons, All-nil}
use Rattle.std.proofs.lemmas.Option.{slice_get_within}
use mathlib.Core.List.{IsPrefix}
use Rattle.ds_indexdef.specs.declared.IndexDef.{IndexDef}
use Rattle.ds_log.specs.declared.Commit.{Commit}
use Rattle.ds_base.specs.Limits.{most_commits}
use Rattle.ds_log.specs.Conflicts.{IsCommitted, IsSerial}
use Rattle.ds_log.specs.Ids.{AllIssued}
use Rattle.ds_log.specs.JournalLaws.{AllIssued-rises}
use Rattle.ds_store.specs.Loads.{LoadingParts}
use Rattle.ds_store.specs.Tailing.{AreFirstSince}
use Rattle.ds_store.specs.Passes.{PassParts}
use Rattle.ds_store_passes.proofs.Growing.{begins_no_longer, begins_through}
use Rattle.ds_feeding.specs.Feeding.{AreFed, HasFedAll, HasTooMany, HasTooManyLeft, IsNextPart, WhereTooMany}
use Rattle.ds_row_limit.specs.ManyRows.{first_too_many}
use Rattle.ds_feeding.specs.declared.refused.ReindexRefused.{ReindexRefused}
use Rattle.ds_feeding.specs.declared.refused.ReindexRefused.TheVariants as refused

-- ---- places in a journal

at_seam : (before : List Commit) (c : Commit) (more : List Commit) → slice_get (before ++ c ∷ more) (length before) ≡ Some c
at_seam [] c more = refl
at_seam (b ∷ before) c more = at_seam before c more

in_front : (xs ys : List Commit) (n : ℕ) (c : Commit) → slice_get xs n ≡ Some c → slice_get (xs ++ ys) n ≡ Some c
in_front [] ys n c is = cc is
in_front (x ∷ xs) ys zero c is = is
in_front (x ∷ xs) ys (suc n) c is = in_front xs ys n c is

-- the front of a serial journal is serial
pub serial_front : (xs ys : List Commit) → IsSerial (xs ++ ys) → IsSerial xs
serial_front xs ys serial n c is =
    let below : n < length xs = slice_get_within xs n c is in
    subst (λ before. IsCommitted before c) (take-append-le n xs ys (omega (arith, below))) (serial n c (in_front xs ys n c is))

-- the commit behind the first ones follows them
pub next_committed : (before : List Commit) (c : Commit) (more : List Commit) → IsSerial (before ++ c ∷ more) → IsCommitted before c
next_committed before c more serial =
    subst (λ front. IsCommitted front c) (take-append_seam before (c ∷ more)) (serial (length before) c (at_seam before c more))

-- ---- the part of a journal that is handed out

-- what was fed, and the next ones, are a front of the journal
pub parts_joined : (fed journal commits : List Commit) (most : ℕ) → IsPrefix fed journal
    → commits ≡ drop (length fed) (take (length fed + most) journal) → fed ++ commits ≡ take (length fed + most) journal
parts_joined fed journal commits most begins are =
    let n = length fed in
    let front : take n (take (n + most) journal) ≡ fed =
    ap (λ (js : List Commit). take n (take (n + most) js)) (sym begins.1)
    ∙ ap (take n) (take_more fed begins.0 most) ∙ take-append_seam fed (take most begins.0) in
    ap (λ cs. fed ++ cs) are ∙ ap (λ (xs : List Commit). xs ++ drop n (take (n + most) journal)) (sym front)
    ∙ take-append-drop n (take (n + most) journal) where
      take_more : (xs ys : List Commit) (m : ℕ) → take (length xs + m) (xs ++ ys) ≡ xs ++ take m ys
      take_more [] ys m = ap (λ k. take k ys) (omega arith)
      take_more (x ∷ xs) ys m =
          ap (λ k. take k (x ∷ xs ++ ys)) {x = suc (length xs) + m} {y = suc (length xs + m)} (omega arith)
          ∙ ap (λ zs. x ∷ zs) (take_more xs ys m)

pub front_begins : (n : ℕ) (journal : List Commit) → IsPrefix (take n journal) journal
front_begins n journal = (drop n journal, take-append-drop n journal)

-- ---- what is fed

module _ (definitions : List IndexDef) where
  -- nothing is fed
  pub fed_nothing : (whole : List Commit) (before after : LoadingParts) → after ≡ before → IsPrefix before.journal whole
      → AreFed definitions whole before after
  fed_nothing whole before after same begins = record {
    behind = [];
    fed = ap (λ (p : LoadingParts). p.journal) same ∙ sym (append-nil before.journal);
    few = All-nil (λ (c : Commit). first_too_many definitions c.writes ≡ None);
    begins = subst (λ (p : LoadingParts). IsPrefix p.journal whole) (sym same) begins;
    shards = ap (λ (p : LoadingParts). p.shards) same;
    passes = ap (λ (p : LoadingParts). p.passes) same;
    least = omega (arith, ap (λ (p : LoadingParts). p.next) same);
  }

  -- one more
  pub fed_one : (whole left : List Commit) (c : Commit) (before now after : LoadingParts) → AreFed definitions whole before now
      → now.journal ++ c ∷ left ≡ whole → first_too_many definitions c.writes ≡ None
      → after ≡ record now { journal = now.journal ++ c ∷ [] } → AreFed definitions whole before after
  fed_one whole left c before now after fed split few more =
      let journal : after.journal ≡ now.journal ++ c ∷ [] = ap (λ (p : LoadingParts). p.journal) more in
      record {
        behind = fed.behind ++ c ∷ [];
        fed = journal ∙ ap (λ xs. xs ++ c ∷ []) fed.fed ∙ append_assoc before.journal fed.behind (c ∷ []);
        few = All-append (λ (d : Commit). first_too_many definitions d.writes ≡ None) fed.behind (c ∷ []) fed.few
            (All-cons (λ (d : Commit). first_too_many definitions d.writes ≡ None) c [] few
            (All-nil (λ (d : Commit). first_too_many definitions d.writes ≡ None)));
        begins = (left, ap (λ xs. xs ++ left) journal ∙ append_assoc now.journal (c ∷ []) left ∙ split);
        shards = ap (λ (p : LoadingParts). p.shards) more ∙ fed.shards;
        passes = ap (λ (p : LoadingParts). p.passes) more ∙ fed.passes;
        least = omega (arith, fed.least, ap (λ (p : LoadingParts). p.next) more);
      }

  -- the next one has too many rows
  pub next_too_many : (whole fed left : List Commit) (c : Commit) (r : ReindexRefused) → fed ++ c ∷ left ≡ whole
      → WhereTooMany (λ number count. (number ≡ length fed + 1) × (first_too_many definitions c.writes ≡ Some count)) r
      → WhereTooMany (HasTooMany definitions whole fed) r
  next_too_many whole fed left c (refused.TooManyRows commit count) split many = record {
    next = c;
    there = subst (λ (js : List Commit). slice_get js (length fed) ≡ Some c) split (at_seam fed c left);
    number = many.0;
    many = many.1;
  }
  next_too_many whole fed left c refused.NoMemory split many = tt

  -- what is said of a front of the journal holds of the whole
  pub too_many_whole : (front rest fed : List Commit) (r : ReindexRefused) → WhereTooMany (HasTooMany definitions front fed) r
      → WhereTooMany (HasTooMany definitions (front ++ rest) fed) r
  too_many_whole front rest fed (refused.TooManyRows commit count) h = record {
    next = h.next;
    there = in_front front rest (length fed) h.next h.there;
    number = h.number;
    many = h.many;
  }
  too_many_whole front rest fed refused.NoMemory h = tt

  pub fed_whole : (front whole : List Commit) (first before after : LoadingParts) → IsPrefix front whole
      → first.journal ≡ before.journal → first.shards ≡ before.shards → first.passes ≡ before.passes → first.next ≤ before.next
      → AreFed definitions front before after → AreFed definitions whole first after
  fed_whole front whole first before after begins journal shards passes least h = record {
    behind = h.behind;
    fed = h.fed ∙ ap (λ xs. xs ++ h.behind) (sym journal);
    few = h.few;
    begins = begins_through after.journal front whole h.begins begins;
    shards = h.shards ∙ sym shards;
    passes = h.passes ∙ sym passes;
    least = omega (arith, h.least, least);
  }

-- ---- one part

-- what is handed out is the next part
pub next_part : (first drawn : LoadingParts) (old seen : PassParts) (from most place next : ℕ) (commits : List Commit)
    → from ≡ length first.journal → IsPrefix first.journal old.journal → AreFirstSince old seen from most place next commits
    → IsSerial seen.journal → AllIssued next commits → place ≤ most_commits → drawn ≡ record first { next = max first.next next }
    → IsNextPart first drawn seen most commits place
next_part first drawn old seen from most place next commits at begins since serial issued few draws =
    let high : drawn.next ≡ max first.next next = ap (λ (p : LoadingParts). p.next) draws in
    record {
      draws = draws ∙ ap (λ n. record first { next = max first.next n }) (sym since.next_is);
      part = parts_joined first.journal seen.journal commits most
          (begins_through first.journal old.journal seen.journal begins since.looked.read.journal)
          (since.some ∙ ap (λ n. drop n (take (n + most) seen.journal)) at);
      serial = serial;
      issued = AllIssued-rises next drawn.next commits (omega (arith, high)) issued;
      whole = since.looked.whole;
      stands = since.looked.stands;
      few = few;
    }

module _ {first drawn : LoadingParts} {seen : PassParts} {most place : ℕ} {commits : List Commit}
    (part : IsNextPart first drawn seen most commits place) where
  joined : drawn.journal ++ commits ≡ take (length first.journal + most) seen.journal
  joined = ap (λ (p : LoadingParts). p.journal ++ commits) part.draws ∙ part.part

  high : drawn.next ≡ max first.next seen.next
  high = ap (λ (p : LoadingParts). p.next) part.draws

  -- it is one serial history behind what was fed
  pub part_serial : IsSerial (drawn.journal ++ commits)
  part_serial =
      let m = length first.journal + most in
      subst IsSerial (sym joined)
      (serial_front (take m seen.journal) (drop m seen.journal) (subst IsSerial (sym (take-append-drop m seen.journal)) part.serial))

  pub part_few : length drawn.journal + length commits ≤ most_commits
  part_few =
      let all = length-append drawn.journal commits in
      let same = ap length joined in
      omega (arith, all, same, length-take (length first.journal + most) seen.journal, part.whole, part.few)

  pub part_fed : (definitions : List IndexDef) (after : LoadingParts) → AreFed definitions (drawn.journal ++ commits) drawn after
      → AreFed definitions seen.journal first after
  part_fed definitions after fed =
      let m = length first.journal + most in
      fed_whole definitions (take m seen.journal) seen.journal first drawn after (front_begins m seen.journal)
      (sym (ap (λ (p : LoadingParts). p.journal) part.draws)) (sym (ap (λ (p : LoadingParts). p.shards) part.draws))
      (sym (ap (λ (p : LoadingParts). p.passes) part.draws)) (omega (arith, high))
      (subst (λ (js : List Commit). AreFed definitions js drawn after) joined fed)

  pub part_too_many : (definitions : List IndexDef) (after : LoadingParts) (r : ReindexRefused)
      → WhereTooMany (HasTooMany definitions (drawn.journal ++ commits) after.journal) r
      → WhereTooMany (HasTooMany definitions seen.journal after.journal) r
  part_too_many definitions after r many =
      let m = length first.journal + most in
      subst (λ (js : List Commit). WhereTooMany (HasTooMany definitions js after.journal) r) (take-append-drop m seen.journal)
      (too_many_whole definitions (take m seen.journal) (drop m seen.journal) after.journal r
      (subst (λ (js : List Commit). WhereTooMany (HasTooMany definitions js after.journal) r) joined many))

  -- no more than so many are fed
  front_few : length (drawn.journal ++ commits) ≤ length first.journal + most
  front_few =
      let same = ap length joined in
      omega (arith, same, length-take (length first.journal + most) seen.journal)

  pub part_most : (after : LoadingParts) → IsPrefix after.journal (drawn.journal ++ commits)
      → length after.journal ≤ length first.journal + most
  part_most after begins = omega (arith, begins_no_longer after.journal (drawn.journal ++ commits) begins, front_few)

  -- nor is one behind them a cause
  pub part_still : (definitions : List IndexDef) (after : LoadingParts) (r : ReindexRefused)
      → WhereTooMany (HasTooMany definitions (drawn.journal ++ commits) after.journal) r
      → WhereTooMany (λ commit _. commit ≤ length first.journal + most) r
  part_still definitions after (refused.TooManyRows commit count) many =
      omega (arith, slice_get_within (drawn.journal ++ commits) (length after.journal) many.next many.there, many.number, front_few)
  part_still definitions after refused.NoMemory many = tt

  pub part_stands : (definitions : List IndexDef) (after : LoadingParts) → AreFed definitions (drawn.journal ++ commits) drawn after
      → length after.journal ≤ seen.place
  part_stands definitions after fed =
      omega (arith, begins_no_longer after.journal seen.journal (part_fed definitions after fed).begins, part.whole, part.stands)

  -- all of it
  pub part_all : (after : LoadingParts) → after.journal ≡ drawn.journal ++ commits
      → after.journal ≡ take (length first.journal + most) seen.journal
  part_all after all = all ∙ joined

  pub part_moved : (after : LoadingParts) → after.journal ≡ drawn.journal ++ commits
      → length after.journal ≡ length first.journal + length commits
  part_moved after all =
      let front : length drawn.journal ≡ length first.journal = ap (λ (p : LoadingParts). length p.journal) part.draws in
      omega (arith, ap length all, length-append drawn.journal commits, front)

  pub part_drawn : (after : LoadingParts) → after.next ≡ drawn.next → after.next ≡ max first.next seen.next
  part_drawn after same = same ∙ high

-- ---- all that is left

-- the part of a journal that has as many commits as any journal may have is the whole
pub all_fed : (definitions : List IndexDef) (before after : LoadingParts) (seen : PassParts) (place most : ℕ)
    → AreFed definitions seen.journal before after → after.journal ≡ take (length before.journal + most) seen.journal
    → after.next ≡ max before.next seen.next → place ≡ length seen.journal → seen.place ≡ place → place ≤ most
    → HasFedAll definitions before after seen place
all_fed definitions before after seen place most fed all drawn whole stands few = record {
  fed = fed;
  all = all ∙ take_all (length before.journal + most) seen.journal (omega (arith, whole, few));
  drawn = drawn;
  whole = whole;
  stands = stands;
}

-- what is said of the next commit is said of one of those that were left
pub too_many_left : (definitions : List IndexDef) (journal : List Commit) (before after : LoadingParts) (r : ReindexRefused)
    → AreFed definitions journal before after → WhereTooMany (HasTooMany definitions journal after.journal) r
    → WhereTooMany (HasTooManyLeft definitions journal before.journal) r
too_many_left definitions journal before after (refused.TooManyRows commit count) fed many = record {
  behind = fed.behind;
  begins = subst (λ (js : List Commit). IsPrefix js journal) fed.fed fed.begins;
  few = fed.few;
  many = subst (λ (js : List Commit). HasTooMany definitions journal js commit count) fed.fed many;
}
too_many_left definitions journal before after refused.NoMemory fed many = tt
