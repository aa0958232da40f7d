-- Runs of a disk's calls, each of which a crash may cut short.
use Rattle.std.proofs.Common.{◌≡◌, inl, inr, ℕ, ◌+◌, ◌-◌, ◌≤◌, List, [], ◌++◌, length, take, drop, refl, sym, ap, ◌∙◌, subst, arith}
use Rattle.std.proofs.Common.{length-append, length-drop, take-append-drop}
use Rattle.std.specs.Prelude.{Bool, Result, Ok, Err, OnOk, IfOk, IsTrue}
use Rattle.std.proofs.Math.Seq.{take-append-add}
use Rattle.std.proofs.lemmas.List.{length-take, length-take-le, take_all}
use Rattle.ds_io.specs.Faults.{Rose}
use Rattle.ds_disk.specs.Crashes.{Torn, Cut, Follows, Only, NoOthers, Elapses, LeavesOnly}
use Rattle.ds_keep.specs.Reading.{IsPrefix, Stays}
use Rattle.ds_disk.specs.CrashLaws.{started, goes_on, joined, weakened, from_only}

-- a fault in a later call is one in the run
pub rose_later : (old mid new : ℕ) → old ≤ mid → Rose mid new → Rose old new
rose_later old mid new le (inl lt) = inl (omega (arith, le, lt))
rose_later old mid new le (inr last) = inr last

-- what isn't changed may have been written or cut
pub torn_same : (place n most : ℕ) (file : List ℕ) → Torn place n most file file
torn_same place n most file = record {
  no_shorter = omega arith;
  no_longer = omega arith;
  before = λ i within lt. refl;
  behind = λ i within le. refl;
}

pub cut_same : (n : ℕ) (file : List ℕ) → Cut n file file
cut_same n file = record { no_shorter = omega arith; no_longer = omega arith; front = λ i within lt. refl }

module _ {D : Type 0} (moment : D → ℕ) (left_since : D → ℕ → List ℕ → Type 0) (images : D → List ℕ → Type 0) where
  -- one step from what a sync left
  pub one_step : ((disk : D) (image : List ℕ) → left_since disk (moment disk) image → images disk image) → (step : List ℕ → List ℕ → Type 0) (contents : List ℕ)
      (old mid : D) → step contents contents → Only contents (images old) → Follows step (images old) (images mid)
      → Elapses (moment old) (moment mid) (left_since old) (left_since mid) (images mid) → LeavesOnly moment left_since old mid (step contents)
  one_step only_now step contents old mid same only follows time =
      let here : (image : List ℕ) → images old image → step contents image = λ image now. subst (step contents) (sym (only image now)) same in
      goes_on moment left_since old old mid (step contents) (images mid)
      (started moment left_since old (step contents) (λ image left. here image (only_now old image left)))
      time (from_only contents step (images old) (images mid) only follows)

  -- a call that makes no other images
  pub then_same : (old mid new : D) (P : List ℕ → Type 0) → LeavesOnly moment left_since old mid P → ((image : List ℕ) → images mid image → P image)
      → NoOthers (images mid) (images new) → Elapses (moment mid) (moment new) (left_since mid) (left_since new) (images new)
      → LeavesOnly moment left_since old new P
  then_same old mid new P run here others time =
      goes_on moment left_since old mid new P (images new) run time (λ image now. here image (others image now))

  -- before the first call
  pub not_yet : ((disk : D) (image : List ℕ) → left_since disk (moment disk) image → images disk image) → (old : D) → LeavesOnly moment left_since old old (images old)
  not_yet only_now old = started moment left_since old (images old) (λ image left. only_now old image left)

  -- two runs, one behind the other
  pub two_runs : (old mid new : D) (A B P : List ℕ → Type 0) → LeavesOnly moment left_since old mid A → ((image : List ℕ) → A image → P image)
      → LeavesOnly moment left_since mid new B → ((image : List ℕ) → B image → P image) → LeavesOnly moment left_since old new P
  two_runs old mid new A B P first a_is second b_is =
      joined moment left_since old mid new P B (weakened moment left_since old mid A P first a_is) second b_is

-- ---- answers that say more

pub on_ok : {A E : Type 0} (result : Result A E) (P Q : Type 0) → (P → Q) → OnOk result P → OnOk result Q
on_ok (Ok x) P Q f h = f h
on_ok (Err e) P Q f h = h

pub if_ok : {A E : Type 0} (result : Result A E) (P Q : A → Type 0) → ((x : A) → P x → Q x) → IfOk result P → IfOk result Q
if_ok (Ok x) P Q f h = f x h
if_ok (Err e) P Q f h = h

-- ---- the bytes that were read so far

pub none_read : (file contents : List ℕ) → file ≡ [] → IsPrefix file contents
none_read file contents none = subst (λ (l : List ℕ). IsPrefix l contents) (sym none) (record { same = refl; within = omega arith })

pub more_read : (contents file piece : List ℕ) (n : ℕ) → IsPrefix file contents → take n piece ≡ take n (drop (length file) contents) → n ≤ length piece
    → IsPrefix (file ++ take n piece) contents
more_read contents file piece n prefix read fits =
    let a = length file in
    let long : length (take n piece) ≡ n = length-take-le n piece fits in
    let rest : length (take n (drop a contents)) ≡ n = sym (ap (λ (l : List ℕ). length l) read) ∙ long in
    let enough : n ≤ length contents - a = omega (arith, rest, length-take n (drop a contents), length-drop a contents) in
    let whole : length (file ++ take n piece) ≡ a + n = omega (arith, length-append file (take n piece), long) in
    let front : length (take a contents) ≡ a = length-take-le a contents prefix.within in
    let seam : take (a + n) contents ≡ file ++ take n piece =
    ap (take (a + n)) (sym (take-append-drop a contents))
    ∙ ap (λ m. take (m + n) (take a contents ++ drop a contents)) (sym front)
    ∙ take-append-add (take a contents) (drop a contents) n
    ∙ ap (λ (l : List ℕ). l ++ take n (drop a contents)) (sym prefix.same)
    ∙ ap (λ (l : List ℕ). file ++ l) (sym read) in
    record { same = sym seam ∙ ap (λ m. take m contents) (sym whole); within = omega (arith, whole, enough, prefix.within) }

pub all_read : (contents file : List ℕ) (len : ℕ) → IsPrefix file contents → len ≡ length contents → len ≤ length file → file ≡ contents
all_read contents file len prefix is past = prefix.same ∙ take_all (length file) contents (omega (arith, is, past))

-- ---- what stays over reads

module _ {D : Type 0} (is_honest : D → Bool) (images : D → List ℕ → Type 0) (moment : D → ℕ) (left_since : D → ℕ → List ℕ → Type 0) (faults : D → ℕ) where
  pub stays_at_first : ((disk : D) (image : List ℕ) → left_since disk (moment disk) image → images disk image) → (old : D)
      → Stays is_honest images moment left_since faults old old
  stays_at_first only_now old = record {
    honest = refl;
    crash = λ honest image now. now;
    moments = λ honest. not_yet moment left_since images only_now old;
    faults_stay = omega arith;
  }

  -- one call more that changes nothing
  pub stays_on : (old mid new : D) → Stays is_honest images moment left_since faults old mid → is_honest new ≡ is_honest mid
      → (IsTrue (is_honest mid) → NoOthers (images mid) (images new)) → Elapses (moment mid) (moment new) (left_since mid) (left_since new) (images new)
      → faults mid ≤ faults new → Stays is_honest images moment left_since faults old new
  stays_on old mid new so_far honest others time fault = record {
    honest = honest ∙ so_far.honest;
    crash = λ was image now. so_far.crash was image (others (subst IsTrue (sym so_far.honest) was) image now);
    moments = λ was. then_same moment left_since images old mid new (images old) (so_far.moments was) (so_far.crash was)
        (others (subst IsTrue (sym so_far.honest) was)) time;
    faults_stay = omega (arith, so_far.faults_stay, fault);
  }

  -- several more
  pub stays_both : (old mid new : D) → Stays is_honest images moment left_since faults old mid → Stays is_honest images moment left_since faults mid new
      → Stays is_honest images moment left_since faults old new
  stays_both old mid new first second = record {
    honest = second.honest ∙ first.honest;
    crash = λ was image now. first.crash was image (second.crash (subst IsTrue (sym first.honest) was) image now);
    moments = λ was. joined moment left_since old mid new (images old) (images mid) (first.moments was) (second.moments (subst IsTrue (sym first.honest) was))
        (first.crash was);
    faults_stay = omega (arith, first.faults_stay, second.faults_stay);
  }
