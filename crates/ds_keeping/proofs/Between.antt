-- Which images a run of appends leaves.
use Rattle.std.proofs.Common.{◌≡◌, inl, inr, ℕ, ◌≤◌, List, [], ◌∷◌, ◌++◌, length, take, refl, ap, sym, ◌∙◌, subst}
use Rattle.std.proofs.Common.{append_assoc, arith, length-append}
use Rattle.std.specs.Prelude.{All, Bool, Option, Some, None, slice_get}
use Rattle.std.proofs.lemmas.List.{append-nil}
use Rattle.std.proofs.lemmas.List.Elements.{All-nil, All-cons}
use mathlib.Core.List.{IsPrefix}
use Rattle.ds_base.specs.Limits.{most_writes}
use Rattle.ds_disk.specs.CrashLaws.{joined, started, weakened}
use Rattle.ds_disk.specs.Crashes.{LeavesOnly}
use Rattle.ds_keep.specs.Keepers.{IsSettled, KeeperParts, StandsForEither, batch_of}
use Rattle.ds_kept_file.specs.Files.{Kept, StandsFor, with_batch}
use Rattle.ds_log.specs.declared.Commit.{Commit}
use Rattle.ds_log.specs.Conflicts.{IsSerial}
use Rattle.ds_store.specs.Answered.{AreSince}
use Rattle.ds_store.specs.Passes.{PassParts}
use Rattle.ds_keeping.specs.Holding.{HoldsUpTo}
use Rattle.ds_keeping.specs.Moments.{IsBetween, IsLeft}
use Rattle.ds_store_passes.proofs.Growing.{begins_through}
use Rattle.ds_keeping.proofs.Lists.{begins_as}

-- ---- images

-- what stood for the kept journal itself
pub between_first : (kept : Kept) (top : List Commit) (image : List ℕ) → IsPrefix kept.journal top → StandsFor kept image
    → IsBetween kept top image
between_first kept top image begins stands = record {
  first = record { found = kept; stands = stands; more = []; begins = sym (append-nil kept.journal); counter = omega arith };
  behind = begins.0;
  front = sym begins.1;
}

-- a later journal
pub between_later : (kept : Kept) (top later : List Commit) (image : List ℕ) → IsPrefix top later → IsBetween kept top image
    → IsBetween kept later image
between_later kept top later image begins is = record {
  first = is.first;
  behind = is.behind ++ begins.0;
  front = sym begins.1 ∙ ap (λ js. js ++ begins.0) is.front ∙ append_assoc is.first.found.journal is.behind begins.0;
}

-- what was kept before
pub between_earlier : (kept now : Kept) (top : List Commit) (image : List ℕ) → IsPrefix kept.journal now.journal → kept.next ≤ now.next
    → IsBetween now top image → IsBetween kept top image
between_earlier kept now top image begins rises is = record {
  first = record {
    found = is.first.found;
    stands = is.first.stands;
    more = begins.0 ++ is.first.more;
    begins = is.first.begins ∙ ap (λ js. js ++ is.first.more) (sym begins.1) ∙ append_assoc kept.journal begins.0 is.first.more;
    counter = omega (arith, rises, is.first.counter);
  };
  behind = is.behind;
  front = is.front;
}

-- where no store was closed
pub left_none : (before : Kept) (journal : Option (List Commit)) → journal ≡ None → (image : List ℕ) → StandsFor before image
    → IsLeft before journal image
left_none before journal none image stands =
    subst (λ (j : Option (List Commit)). IsLeft before j image) (sym none)
    (between_first before before.journal image ([], append-nil before.journal) stands).first

-- what a run of appends leaves, behind another
pub between_on : {D : Type 0} (moment : D → ℕ) (left_since : D → ℕ → List ℕ → Type 0) (old mid new : D) (kept now : Kept)
    (so_far top : List Commit) → IsPrefix kept.journal now.journal → kept.next ≤ now.next → IsPrefix so_far top
    → LeavesOnly moment left_since old mid (IsBetween kept so_far) → LeavesOnly moment left_since mid new (IsBetween now top)
    → LeavesOnly moment left_since old new (IsBetween kept top)
between_on moment left_since old mid new kept now so_far top begins rises more first second =
    joined moment left_since old mid new (IsBetween kept top) (IsBetween now top)
    (weakened moment left_since old mid (IsBetween kept so_far) (IsBetween kept top) first
    (λ image is. between_later kept so_far top image more is))
    second (λ image is. between_earlier kept now top image begins rises is)

pub between_up_to : (kept : Kept) (top : List Commit) (image : List ℕ) → IsBetween kept top image
    → HoldsUpTo (length kept.journal) kept.next image
between_up_to kept top image is = record {
  found = is.first.found;
  stands = is.first.stands;
  many = let long = ap (λ (js : List Commit). length js) is.first.begins ∙ length-append kept.journal is.first.more in omega (arith, long);
  counter = is.first.counter;
}

-- ---- one batch more

pub either_between : (kept : Kept) (commits top : List Commit) (next : ℕ) (image : List ℕ) → kept.journal ++ commits ≡ top
    → kept.next ≤ next → StandsForEither kept (batch_of commits next) image → IsBetween kept top image
either_between kept commits top next image is rises (inl stands) = between_first kept top image (commits, is) stands
either_between kept commits top next image is rises (inr stands) = record {
  first = record {
    found = with_batch kept (batch_of commits next);
    stands = stands;
    more = commits;
    begins = refl;
    counter = rises;
  };
  behind = [];
  front = sym is ∙ sym (append-nil (kept.journal ++ commits));
}

-- a disk that is settled and wasn't touched leaves what is kept
pub untouched : {D : Type 0} (is_honest : D → Bool) (contents : D → List ℕ) (images : D → List ℕ → Type 0) (moment : D → ℕ)
    (left_since : D → ℕ → List ℕ → Type 0) (keeper : KeeperParts) (kept : Kept) (disk : D) (P : List ℕ → Type 0)
    → ((d : D) (image : List ℕ) → left_since d (moment d) image → images d image) → IsSettled is_honest contents images keeper kept disk
    → ((image : List ℕ) → StandsFor kept image → P image) → LeavesOnly moment left_since disk disk P
untouched is_honest contents images moment left_since keeper kept disk P only_now settled holds =
    started moment left_since disk P (λ image left.
    holds image (subst (StandsFor kept) (sym (settled.durable image (only_now disk image left))) (0 ∷ [], settled.file.whole, refl)))

-- ---- commits behind the kept ones

at-there : (before : List Commit) (c : Commit) (more : List Commit) → slice_get (before ++ c ∷ more) (length before) ≡ Some c
at-there [] c more = refl
at-there (b ∷ before) c more = at-there before c more

-- each commit of a serial history has few writes
pub few_behind : (before commits : List Commit) → IsSerial (before ++ commits) → All (λ c. length c.writes ≤ most_writes) commits
few_behind before [] serial = All-nil (λ c. length c.writes ≤ most_writes)
few_behind before (c ∷ commits) serial =
    All-cons (λ d. length d.writes ≤ most_writes) c commits (serial (length before) c (at-there before c commits)).few
    (few_behind (before ++ c ∷ []) commits (subst IsSerial (sym (append_assoc before (c ∷ []) commits)) serial))

module _ (p q : PassParts) (from place next : ℕ) (commits : List Commit) (since : AreSince p q from place next commits) where
  -- they stand behind what is kept
  pub since_behind : (journal : List Commit) → IsPrefix journal p.journal → from ≡ length journal → journal ++ commits ≡ q.journal
  since_behind journal begins is =
      ap (λ js. js ++ commits)
      (sym (begins_as journal q.journal (begins_through journal p.journal q.journal begins since.looked.read.journal))
      ∙ ap (λ n. take n q.journal) (sym is))
      ∙ sym since.all

  pub since_few : IsSerial q.journal → All (λ c. length c.writes ≤ most_writes) commits
  since_few serial = few_behind (take from q.journal) commits (subst IsSerial since.all serial)
