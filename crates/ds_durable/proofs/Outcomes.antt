-- What a run over a kept journal gives, from what it gives behind what was opened.
use Rattle.std.proofs.Common.{◌≡◌, ◌⊎◌, inl, inr, ℕ, ◌≤◌, List, [], refl, ap, sym, ◌∙◌, subst, arith}
use Rattle.std.proofs.Common.{Bool, true, false, Option, Some, None}
use Rattle.std.specs.Prelude.{IfSome, IsSome, IsTrue}
use Rattle.std.proofs.lemmas.List.{append-nil}
use Rattle.ds_base.specs.Limits.{most_input_bytes}
use Rattle.ds_disk.specs.CrashLaws.{joined, weakened}
use Rattle.ds_disk.specs.Crashes.{LeavesOnly}
use Rattle.ds_io.specs.Faults.{Rose}
use Rattle.ds_keep.specs.Keepers.{AllStandFor, TellsDamage}
use Rattle.ds_keep.specs.declared.refusals.KeepRefused.{KeepRefused}
use Rattle.ds_keep.specs.declared.refusals.KeepRefused.TheVariants as refused
use Rattle.ds_kept_file.specs.Files.{IsDamaged, Kept, StandsFor}
use Rattle.ds_log.specs.declared.Commit.{Commit}
use Rattle.ds_serving.specs.Runs.{HasBegun, HasTaken, IsBelow, IsSteady, WereRun}
use Rattle.ds_serving.specs.declared.settings.Setting.{Setting}
use Rattle.ds_serving.proofs.EndLaws.{complete, taken}
use Rattle.ds_words.specs.declared.status.Status.{Status}
use Rattle.ds_words.specs.declared.status.Status.TheVariants as status
use Rattle.ds_durable.specs.declared.outcome.KeptRun.{KeptRun}
use Rattle.ds_kept_rounds.specs.declared.status.KeptStatus.{KeptStatus}
use Rattle.ds_kept_rounds.specs.declared.status.KeptStatus.TheVariants as kept
use Rattle.ds_durable.specs.Behind.{IsRunBehind, IsRunOver}
use Rattle.ds_kept_rounds.specs.Ending.{HasBegunKept}
use Rattle.ds_restoring.specs.Fitting.{too_many_rows}
use Rattle.ds_durable.specs.KeptRuns.{IsKeptRun, IsKeptWrong, IsUnbegun, IsUnfit, IsUnopened, MayBeUnbegun, MayTell}
use Rattle.ds_durable.specs.KeptRuns.{RanBehind}
use Rattle.ds_kept_rounds.specs.KeptEnds.{kept_read_faults, kept_write_faults, run_as}
use Rattle.ds_durable.specs.KeptSettings.{IsKeptSetting}
use Rattle.ds_keeping.specs.Moments.{IsLeft}
use Rattle.ds_durable.specs.Statuses.{status_of}
use Rattle.ds_keeping.proofs.Between.{between_first}

false-true : {A : Type 0} → false ≡ true → A
false-true is = cc

-- ---- no round was run

-- The run ended before it read anything.
pub record NotServed (how : KeptStatus) (start : ℕ) (run : KeptRun) : Type 0 where
  pub status_is : run.status ≡ how
  pub start_is : run.start ≡ start
  pub none : run.journal ≡ None
  pub all_sent : run.unsent ≡ []

-- ---- over what the disk kept

rose-later : (old mid new : ℕ) → old ≤ mid → Rose mid new → Rose old new
rose-later old mid new le (inl lt) = inl (omega (arith, le, lt))
rose-later old mid new le (inr last) = inr last

-- a run that began was opened, and ended neither damaged nor without its commits told
begun-opened : (how : KeptStatus) → HasBegunKept how ⊎ IsUnfit how → IsUnbegun how → ⊥
begun-opened (kept.Served status.Usage) (inl begun) unopened = begun
begun-opened (kept.Served status.Usage) (inr unfit) unopened = unfit
begun-opened (kept.Served (status.IndexFile line)) (inl begun) unopened = begun
begun-opened (kept.Served (status.IndexFile line)) (inr unfit) unopened = unfit
begun-opened (kept.Served status.FileFault) (inl begun) unopened = begun
begun-opened (kept.Served status.FileFault) (inr unfit) unopened = unfit
begun-opened (kept.Served status.Done) either unopened = unopened
begun-opened (kept.Served status.ReadFault) either unopened = unopened
begun-opened (kept.Served status.WriteFault) either unopened = unopened
begun-opened (kept.Served status.NoMemory) either unopened = unopened
begun-opened (kept.Served status.InputLimit) either unopened = unopened
begun-opened kept.DiskFault either unopened = unopened
begun-opened (kept.Damaged place) (inl begun) unopened = begun
begun-opened (kept.Damaged place) (inr unfit) unopened = unfit
begun-opened (kept.TooManyRows commit count) either unopened = unopened

unopened-unbegun : (how : KeptStatus) → IsUnopened how → IsUnbegun how
unopened-unbegun (kept.Served how) unopened = unopened
unopened-unbegun kept.DiskFault unopened = unopened
unopened-unbegun (kept.Damaged place) unopened = absurd unopened
unopened-unbegun (kept.TooManyRows commit count) unopened = unopened

may-be-unfit : (how : KeptStatus) → IsUnfit how → MayBeUnbegun how
may-be-unfit (kept.Served how) unfit = absurd unfit
may-be-unfit kept.DiskFault unfit = absurd unfit
may-be-unfit (kept.Damaged place) unfit = absurd unfit
may-be-unfit (kept.TooManyRows commit count) unfit = inr tt

may-be-unbegun : (how : KeptStatus) → (how ≡ kept.Served status.NoMemory) ⊎ IsUnfit how → MayBeUnbegun how
may-be-unbegun how (inl is) = subst MayBeUnbegun (sym is) tt
may-be-unbegun how (inr unfit) = may-be-unfit how unfit

pub behind_over : {setting : Setting} {left rest old new : Option (List ℕ)} {read_old read_new write_old write_new : ℕ}
    (before : Kept) (honest opened_honest : Bool) (contents : List ℕ) (images_before images : List ℕ → Type 0)
    (disk_old disk_mid disk_new : ℕ) (run : KeptRun) → opened_honest ≡ honest → (IsTrue honest → StandsFor before contents)
    → ((other : Kept) → IsTrue honest → AllStandFor other images_before → before ≡ other)
    → ((front : Kept) (place : ℕ) → IsTrue honest → IsDamaged contents place front → ⊥) → disk_old ≤ disk_mid
    → IsRunBehind setting before left rest old new read_old read_new write_old write_new opened_honest images disk_mid disk_new run
    → IsRunOver setting left rest old new read_old read_new write_old write_new honest contents images_before images disk_old disk_new run
behind_over {setting} {left} {rest} {old} {new} before honest opened_honest contents images_before images disk_old disk_mid disk_new run
    same found alone whole risen behind = record {
      legal = λ words content is_set. legal words content is_set run.journal behind.ran;
      unfit = λ words content commit count is_set is. record {
        setting = setting;
        set_up = is_set;
        kept = before;
        started = behind.start;
        found = found;
        alone = alone;
        first = behind.unfit commit count is;
      };
      undamaged = λ stands place is all damaged. absurd (begun-opened run.status behind.began (subst IsUnbegun (sym damaged) tt));
      tells_damage = λ front place is broken. absurd (whole front place is broken);
      damaged = λ place damaged is. absurd (begun-opened run.status behind.began (subst IsUnbegun (sym damaged) tt));
      opened = λ unopened. begun-opened run.status behind.began (unopened-unbegun run.status unopened);
      unbegun = λ unbegun. absurd (begun-opened run.status behind.began unbegun);
      unkept = λ fault none. absurd (not-begun fault none behind.unbegun);
      none = behind.none;
      journal = by behind.unbegun;
      unsent = behind.unsent;
      read_fault = behind.read_fault;
      write_fault = behind.write_fault;
      disk_fault = λ is. rose-later disk_old disk_mid disk_new risen (behind.disk_fault is);
      disk_faults = omega (arith, risen, behind.disk_faults);
    } where
      legal : (words : List (List ℕ)) (content : List ℕ → Option (List ℕ)) → IsKeptSetting words content setting
          → (journal : Option (List Commit)) → IfSome journal (λ js. (too_many_rows setting.defs 1 before.journal ≡ None)
          × RanBehind setting before run.status left rest js old new run.unsent opened_honest images)
          → IfSome journal (λ js. IsKeptRun words content run.status run.start left rest js old new run.unsent honest contents
          images_before images)
      legal words content is_set None ran = tt
      legal words content is_set (Some js) ran = record {
        setting = setting;
        set_up = is_set;
        kept = before;
        started = behind.start;
        found = found;
        alone = alone;
        fits = ran.0;
        ran = subst (λ (h : Bool). RanBehind setting before run.status left rest js old new run.unsent h images) same ran.1;
      }

      not-begun : run.status ≡ kept.DiskFault → run.journal ≡ None
          → IsSome run.journal ⊎ ((run.status ≡ kept.Served status.NoMemory) ⊎ IsUnfit run.status) → ⊥
      not-begun fault none (inl some) = false-true (subst IsSome none some)
      not-begun fault none (inr (inl other)) = let differ : kept.DiskFault ≡ kept.Served status.NoMemory = sym fault ∙ other in cc
      not-begun fault none (inr (inr unfit)) = subst IsUnfit fault unfit

      by : IsSome run.journal ⊎ ((run.status ≡ kept.Served status.NoMemory) ⊎ IsUnfit run.status)
          → IsSome run.journal ⊎ MayBeUnbegun run.status
      by (inl some) = inl some
      by (inr why) = inr (may-be-unbegun run.status why)

-- what an opened disk left before the first round, and what was left since
pub moments_over : {D : Type 0} (moment : D → ℕ) (left_since : D → ℕ → List ℕ → Type 0) (old mid new : D) {setting : Setting}
    {left rest held_old held_new : Option (List ℕ)} {read_old read_new write_old write_new : ℕ} {honest : Bool} {images : List ℕ → Type 0}
    {disk_old disk_new : ℕ} (before : Kept) (run : KeptRun)
    → IsRunBehind setting before left rest held_old held_new read_old read_new write_old write_new honest images disk_old disk_new run
    → LeavesOnly moment left_since old mid (StandsFor before) → LeavesOnly moment left_since mid new (IsLeft before run.journal)
    → LeavesOnly moment left_since old new (IsLeft before run.journal)
moments_over moment left_since old mid new {setting} {left} {rest} {held_old} {held_new} {honest = honest} {images = images} before run
    behind first later =
    joined moment left_since old mid new (IsLeft before run.journal) (IsLeft before run.journal)
    (weakened moment left_since old mid (StandsFor before) (IsLeft before run.journal) first (stands run.journal behind.ran)) later
    (λ image is. is) where
      stands : (journal : Option (List Commit)) → IfSome journal (λ js. (too_many_rows setting.defs 1 before.journal ≡ None)
          × RanBehind setting before run.status left rest js held_old held_new run.unsent honest images)
          → (image : List ℕ) → StandsFor before image → IsLeft before journal image
      stands None ran image is = (between_first before before.journal image ([], append-nil before.journal) is).first
      stands (Some js) ran image is = between_first before js image (ran.1.legal.behind, sym ran.1.legal.begins) is

-- the disk wasn't opened
pub not_opened : {setting : Setting} (left held : Option (List ℕ)) (reads writes : ℕ) (honest : Bool) (contents : List ℕ)
    (before after : List ℕ → Type 0) (disk_old disk_new : ℕ) (why : KeepRefused) (run : KeptRun)
    → NotServed (status_of why) 0 run → (why ≡ refused.DiskFault → Rose disk_old disk_new) → disk_old ≤ disk_new
    → ((place : ℕ) → why ≡ refused.Damaged place → IsTrue honest → (front : Kept) × IsDamaged contents place front)
    → ((stands : Kept) (place : ℕ) → IsTrue honest → AllStandFor stands before → why ≡ refused.Damaged place → ⊥)
    → ((front : Kept) (place : ℕ) → IsTrue honest → IsDamaged contents place front → TellsDamage place why)
    → IsRunOver setting left left held held reads reads writes writes honest contents before after disk_old disk_new run
not_opened {setting} left held reads writes honest contents before after disk_old disk_new why run not fault risen damaged
    undamaged refuses = record {
      legal = λ words content is_set. nothing words content run.journal not.none;
      unfit = λ words content commit count is_set is. absurd (no-unfit why (subst IsUnfit (sym (sym not.status_is ∙ is)) tt));
      undamaged = λ stands place is all told. undamaged stands place is all (as-damaged why place (sym not.status_is ∙ told));
      tells_damage = λ front place is broken. subst (MayTell place) (sym not.status_is) (may-tell why place (refuses front place is broken));
      damaged = λ place told is. damaged place (as-damaged why place (sym not.status_is ∙ told)) is;
      opened = λ unopened. no-unopened why (subst IsUnopened not.status_is unopened);
      unbegun = λ unbegun. (not.none, not.start_is);
      unkept = λ is none. not.start_is;
      none = λ unfit. not.none;
      journal = inr (subst MayBeUnbegun (sym not.status_is) (may why));
      unsent = inr not.all_sent;
      read_fault = sym (ap (λ s. kept_read_faults s reads) not.status_is ∙ same-reads why);
      write_fault = sym (ap (λ s. kept_write_faults s writes) not.status_is ∙ same-writes why);
      disk_fault = λ is. fault (as-fault why (sym not.status_is ∙ is));
      disk_faults = risen;
    } where
      nothing : (words : List (List ℕ)) (content : List ℕ → Option (List ℕ)) (journal : Option (List Commit)) → journal ≡ None
          → IfSome journal (λ js. IsKeptRun words content run.status run.start left left js held held run.unsent honest contents before after)
      nothing words content None none = tt
      nothing words content (Some js) none = cc

      no-unfit : (w : KeepRefused) → IsUnfit (status_of w) → ⊥
      no-unfit (refused.Damaged place) is = is
      no-unfit refused.DiskFault is = is
      no-unfit refused.NoMemory is = is

      no-unopened : (w : KeepRefused) → IsUnopened (status_of w) → ⊥
      no-unopened (refused.Damaged place) is = is
      no-unopened refused.DiskFault is = is
      no-unopened refused.NoMemory is = is

      as-damaged : (w : KeepRefused) (place : ℕ) → status_of w ≡ kept.Damaged place → w ≡ refused.Damaged place
      as-damaged (refused.Damaged at) place is = cc
      as-damaged refused.DiskFault place is = cc
      as-damaged refused.NoMemory place is = cc

      as-fault : (w : KeepRefused) → status_of w ≡ kept.DiskFault → w ≡ refused.DiskFault
      as-fault (refused.Damaged at) is = cc
      as-fault refused.DiskFault is = refl
      as-fault refused.NoMemory is = cc

      may-tell : (w : KeepRefused) (place : ℕ) → TellsDamage place w → MayTell place (status_of w)
      may-tell (refused.Damaged here) place is = is
      may-tell refused.DiskFault place is = tt
      may-tell refused.NoMemory place is = tt

      may : (w : KeepRefused) → MayBeUnbegun (status_of w)
      may (refused.Damaged place) = inl tt
      may refused.DiskFault = tt
      may refused.NoMemory = tt

      same-reads : (w : KeepRefused) → kept_read_faults (status_of w) reads ≡ reads
      same-reads (refused.Damaged place) = refl
      same-reads refused.DiskFault = refl
      same-reads refused.NoMemory = refl

      same-writes : (w : KeepRefused) → kept_write_faults (status_of w) writes ≡ writes
      same-writes (refused.Damaged place) = refl
      same-writes refused.DiskFault = refl
      same-writes refused.NoMemory = refl

-- ---- what else a run tells of its end

pub limit_kept : (words : List (List ℕ)) (content : List ℕ → Option (List ℕ)) (how : KeptStatus) (start : ℕ)
    (left rest old new : Option (List ℕ)) (journal : Option (List Commit)) (unsent : List ℕ) (honest : Bool) (contents : List ℕ)
    (before after : List ℕ → Type 0) → IsSome journal ⊎ MayBeUnbegun how
    → IfSome journal (λ js. IsKeptRun words content how start left rest js old new unsent honest contents before after)
    → how ≡ kept.Served status.InputLimit → HasTaken most_input_bytes left rest
limit_kept words content how start left rest old new None unsent honest contents before after (inl some) legal is = false-true some
limit_kept words content how start left rest old new journal unsent honest contents before after (inr may) legal is =
    absurd (none (subst MayBeUnbegun is may)) where
      none : MayBeUnbegun (kept.Served status.InputLimit) → ⊥
      none (inl unbegun) = unbegun
      none (inr unfit) = unfit
limit_kept words content how start left rest old new (Some js) unsent honest contents before after (inl some) legal is =
    let ran = legal.ran in
    let run : WereRun status.InputLimit ran.ended ran.read ran.rounds =
    subst (λ h. WereRun (run_as h) ran.ended ran.read ran.rounds) is ran.run in
    taken ran.read left rest run.0 ran.told

pub kept_complete : (how : KeptStatus) (left rest : Option (List ℕ)) (in_old in_new out_old out_new disk_old disk_new : ℕ)
    → (IsUnopened how → ⊥) → (how ≡ kept.Served status.InputLimit → HasTaken most_input_bytes left rest)
    → in_new ≡ kept_read_faults how in_old → out_new ≡ kept_write_faults how out_old
    → (how ≡ kept.DiskFault → Rose disk_old disk_new) → IsBelow most_input_bytes left → IsSteady in_old in_new → IsSteady out_old out_new
    → IsSteady disk_old disk_new
    → (how ≡ kept.Served status.Done) ⊎ ((how ≡ kept.Served status.NoMemory) ⊎ IsKeptWrong how)
kept_complete (kept.Served how) left rest in_old in_new out_old out_new disk_old disk_new opened limit reads writes fault below in_steady
    out_steady disk_steady =
    by (complete how left rest in_old in_new out_old out_new (begun how opened) (λ is. limit (ap kept.Served is)) reads writes below
    in_steady out_steady) where
      begun : (s : Status) → (IsUnopened (kept.Served s) → ⊥) → HasBegun s
      begun status.Done opened = tt
      begun status.Usage opened = absurd (opened tt)
      begun (status.IndexFile line) opened = absurd (opened tt)
      begun status.ReadFault opened = tt
      begun status.WriteFault opened = tt
      begun status.FileFault opened = absurd (opened tt)
      begun status.NoMemory opened = tt
      begun status.InputLimit opened = tt

      by : (how ≡ status.Done) ⊎ (how ≡ status.NoMemory)
          → (kept.Served how ≡ kept.Served status.Done) ⊎ ((kept.Served how ≡ kept.Served status.NoMemory) ⊎ IsKeptWrong (kept.Served how))
      by (inl is) = inl (ap kept.Served is)
      by (inr is) = inr (inl (ap kept.Served is))
kept_complete kept.DiskFault left rest in_old in_new out_old out_new disk_old disk_new opened limit reads writes fault below in_steady
    out_steady disk_steady = absurd (disk_steady (fault refl))
kept_complete (kept.Damaged place) left rest in_old in_new out_old out_new disk_old disk_new opened limit reads writes fault below in_steady
    out_steady disk_steady = inr (inr tt)
kept_complete (kept.TooManyRows commit count) left rest in_old in_new out_old out_new disk_old disk_new opened limit reads writes fault
    below in_steady out_steady disk_steady = inr (inr tt)
