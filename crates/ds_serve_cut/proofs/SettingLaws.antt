-- What follows of words and files for a run that was set up by them, or wasn't.
use Rattle.std.proofs.Common.{◌≡◌, ◌⊎◌, inl, inr, ℕ, List, refl, ap, sym, ◌∙◌, subst, Option, None, Some}
use Rattle.std.specs.Prelude.{IfSome, IsSome, IsSomeAnd, Ok, Err}
use Rattle.std.specs.Option.{option_and_then}
use Rattle.ds_indexdef.specs.Reading.{yaml_of}
use Rattle.ds_indexdef.specs.declared.IndexDef.{IndexDef}
use Rattle.ds_words.specs.Form.{options_of}
use Rattle.ds_words.specs.declared.options.Options.{Options}
use Rattle.ds_words.specs.declared.status.Status.TheVariants as status
use Rattle.ds_serving.specs.Settings.{AreGiven, AreRead, IsSetting, IsToldWrong, LeavesForm, indexes_named}
use Rattle.ds_serving.specs.declared.settings.Setting.{Setting}
use Rattle.ds_cutting.specs.CutRuns.{IsUntouchedCut}
use Rattle.ds_serve_cut.specs.CutSettings.{AreFileFaults, EndsBeforeNext, IsToldWrongNext, IsUnsetBy, IsUnsetCut, options_of_cut}
use Rattle.ds_cutting.specs.CutSteps.{HasBegunCut, cut_read_faults, cut_write_faults}
use Rattle.ds_serve_cut.specs.CutWords.{CutWordsParts, cut_form}
use Rattle.ds_cutting.specs.declared.outcome.CutStatus.{CutStatus}
use Rattle.ds_cutting.specs.declared.outcome.CutStatus.TheVariants as cut

-- words that have their form
pub said_so : (words : List (List ℕ)) (w : CutWordsParts) (P : CutWordsParts → Type 0) → cut_form words ≡ Some w → P w
    → IfSome (cut_form words) P
said_so words w P said h = subst (λ (o : Option CutWordsParts). IfSome o P) (sym said) h

-- what is said of the words' parts is said of these
pub said_and : (words : List (List ℕ)) (w : CutWordsParts) (P : CutWordsParts → Type 0) → cut_form words ≡ Some w
    → IsSomeAnd (cut_form words) P → P w
said_and words w P said h = subst (λ (o : Option CutWordsParts). IsSomeAnd o P) said h

some_options : (w : CutWordsParts) (content : List ℕ → Option (List ℕ)) (s : Setting) → IsSetting w.words content s
    → IsSome (options_of w.words)
some_options w content s set = subst IsSome (sym set.said) refl

named_options : (w : CutWordsParts) (name : List ℕ) → indexes_named w.words ≡ Some name → IsSome (options_of w.words)
named_options w name named = by (options_of w.words) named where
  by : (o : Option Options) → option_and_then (λ options. options.indexes) o ≡ Some name → IsSome o
  by (Some options) is = refl
  by None is = cc

-- ---- a file's text

told_once : (told : Option (List ℕ)) (text : List ℕ) (own : List ℕ) → told ≡ Some text → IfSome told (λ content. own ≡ content) → own ≡ text
told_once told text own is of_file = subst (λ (o : Option (List ℕ)). IfSome o (λ content. own ≡ content)) is of_file

-- it isn't read where it leaves its form
read_fits : (told : Option (List ℕ)) (text : List ℕ) (line : ℕ) (definitions : List IndexDef) → told ≡ Some text
    → yaml_of text ≡ Err line → AreRead told definitions → ⊥
read_fits told text line definitions is wrong read =
    let same = ap yaml_of (told_once told text read.text is read.own) in
    let both : Ok definitions ≡ Err line = sym read.read ∙ same ∙ wrong in cc

-- and the first wrong line is one
wrong_line : (told : Option (List ℕ)) (text : List ℕ) (line other : ℕ) → told ≡ Some text → yaml_of text ≡ Err line
    → LeavesForm told other → other ≡ line
wrong_line told text line other is wrong leaves =
    let same = ap yaml_of (told_once told text leaves.text is leaves.own) in
    let both : Err other ≡ yaml_of text = sym leaves.wrong ∙ same in cc

-- the file that the words name was read
named_read : (content : List ℕ → Option (List ℕ)) (w : CutWordsParts) (s : Setting) (name : List ℕ) → IsSetting w.words content s
    → indexes_named w.words ≡ Some name → AreRead (content name) s.defs
named_read content w s name set named =
    subst (λ (o : Option (List ℕ)). AreGiven content o s.defs)
    (sym (ap (λ (o : Option Options). option_and_then (λ options. options.indexes) o) set.said) ∙ named) set.definitions

-- ---- a run that was set up

-- a run that began to read counts none
pub faults_begun : (w : CutWordsParts) (before after : List ℕ → ℕ) (how : CutStatus) → HasBegunCut how
    → ((name : List ℕ) → after name ≡ before name) → AreFileFaults w before after how
faults_begun w before after (cut.Served status.Done) begun steady = steady
faults_begun w before after (cut.Served status.Usage) begun steady = absurd begun
faults_begun w before after (cut.Served (status.IndexFile line)) begun steady = absurd begun
faults_begun w before after (cut.Served status.ReadFault) begun steady = steady
faults_begun w before after (cut.Served status.WriteFault) begun steady = steady
faults_begun w before after (cut.Served status.FileFault) begun steady = absurd begun
faults_begun w before after (cut.Served status.NoMemory) begun steady = steady
faults_begun w before after (cut.Served status.InputLimit) begun steady = steady
faults_begun w before after (cut.NextFile line) begun steady = absurd begun
faults_begun w before after (cut.TooManyRows commit count) begun steady = steady

-- and isn't one that read nothing
pub begun_touched : {A : Type 0} (how : CutStatus) → HasBegunCut how → IsUntouchedCut how → A
begun_touched (cut.Served status.Done) begun untouched = absurd untouched
begun_touched (cut.Served status.Usage) begun untouched = absurd begun
begun_touched (cut.Served (status.IndexFile line)) begun untouched = absurd begun
begun_touched (cut.Served status.ReadFault) begun untouched = absurd untouched
begun_touched (cut.Served status.WriteFault) begun untouched = absurd untouched
begun_touched (cut.Served status.FileFault) begun untouched = absurd begun
begun_touched (cut.Served status.NoMemory) begun untouched = absurd untouched
begun_touched (cut.Served status.InputLimit) begun untouched = absurd untouched
begun_touched (cut.NextFile line) begun untouched = absurd begun
begun_touched (cut.TooManyRows commit count) begun untouched = absurd untouched

-- ---- the words leave their form

no_options : {A : Type 0} (o : Option Options) → IsSome o → o ≡ None → A
no_options (Some options) some none = cc
no_options None some none = cc

-- a run that wasn't set up for words that leave their form ends so
pub unset_usage : (words : List (List ℕ)) (content : List ℕ → Option (List ℕ)) (before after : List ℕ → ℕ) (how : CutStatus)
    → IsUnsetCut (cut_form words) content before after how → options_of_cut words ≡ None → how ≡ cut.Served status.Usage
unset_usage words content before after how = by (cut_form words) where
  of_parts : (w : CutWordsParts) (s : CutStatus) → IsUnsetBy w content before after s → options_of w.words ≡ None
      → s ≡ cut.Served status.Usage
  of_parts w (cut.Served status.Usage) why none = refl
  of_parts w (cut.Served status.NoMemory) why none = no_options (options_of w.words) why none
  of_parts w (cut.Served (status.IndexFile line)) why none =
      no_options (options_of w.words) (named_options w why.0 why.1) none
  of_parts w (cut.Served status.FileFault) (inl why) none = no_options (options_of w.words) (named_options w why.0 why.1) none
  of_parts w (cut.Served status.FileFault) (inr why) none =
      no_options (options_of w.words) (some_options w content why.0.0 why.0.1) none
  of_parts w (cut.NextFile line) why none = no_options (options_of w.words) (some_options w content why.0.0 why.0.1) none
  of_parts w (cut.Served status.Done) why none = absurd why
  of_parts w (cut.Served status.ReadFault) why none = absurd why
  of_parts w (cut.Served status.WriteFault) why none = absurd why
  of_parts w (cut.Served status.InputLimit) why none = absurd why
  of_parts w (cut.TooManyRows commit count) why none = absurd why

  by : (o : Option CutWordsParts) → IsUnsetCut o content before after how
      → option_and_then (λ (w : CutWordsParts). options_of w.words) o ≡ None → how ≡ cut.Served status.Usage
  by None why none = why
  by (Some w) why none = of_parts w how why none

-- and only then
pub usage_unset : (words : List (List ℕ)) (content : List ℕ → Option (List ℕ)) (before after : List ℕ → ℕ) (how : CutStatus)
    → IsUnsetCut (cut_form words) content before after how → how ≡ cut.Served status.Usage → options_of_cut words ≡ None
usage_unset words content before after how = by (cut_form words) where
  by : (o : Option CutWordsParts) → IsUnsetCut o content before after how → how ≡ cut.Served status.Usage
      → option_and_then (λ (w : CutWordsParts). options_of w.words) o ≡ None
  by None why is = refl
  by (Some w) why is = subst (λ (s : CutStatus). IsUnsetBy w content before after s) is why

-- ---- files whose text is told and leaves its form

module _ (w : CutWordsParts) (content : List ℕ → Option (List ℕ)) (line : ℕ) where
  first_fits : (s : Setting) → IsSetting w.words content s → IsToldWrong w.words content line → ⊥
  first_fits s set wrong = read_fits (content wrong.name) wrong.text line s.defs wrong.told wrong.wrong
      (named_read content w s wrong.name set wrong.named)

  second_fits : (definitions : List IndexDef) → AreRead (content w.file) definitions → IsToldWrongNext w content line → ⊥
  second_fits definitions read wrong = read_fits (content w.file) wrong.text line definitions wrong.told wrong.wrong read

  pub wrong_first : (before after : List ℕ → ℕ) (how : CutStatus) → IsUnsetBy w content before after how
      → IsToldWrong w.words content line
      → (how ≡ cut.Served (status.IndexFile line))
      ⊎ ((how ≡ cut.Served status.FileFault) ⊎ (how ≡ cut.Served status.NoMemory))
  wrong_first before after (cut.Served status.Usage) why wrong =
      no_options (options_of w.words) (named_options w wrong.name wrong.named) why
  wrong_first before after (cut.Served status.NoMemory) why wrong = inr (inr refl)
  wrong_first before after (cut.Served status.FileFault) why wrong = inr (inl refl)
  wrong_first before after (cut.Served (status.IndexFile other)) why wrong =
      let name : why.0 ≡ wrong.name = same_name (sym why.1 ∙ wrong.named) in
      inl (ap (λ (l : ℕ). cut.Served (status.IndexFile l))
      (wrong_line (content wrong.name) wrong.text line other wrong.told wrong.wrong
      (subst (λ (n : List ℕ). LeavesForm (content n) other) name why.2))) where
        same_name : {a b : List ℕ} → Some a ≡ Some b → a ≡ b
        same_name is = cc
  wrong_first before after (cut.NextFile other) why wrong = absurd (first_fits why.0.0 why.0.1 wrong)
  wrong_first before after (cut.Served status.Done) why wrong = absurd why
  wrong_first before after (cut.Served status.ReadFault) why wrong = absurd why
  wrong_first before after (cut.Served status.WriteFault) why wrong = absurd why
  wrong_first before after (cut.Served status.InputLimit) why wrong = absurd why
  wrong_first before after (cut.TooManyRows commit count) why wrong = absurd why

  pub wrong_second : (before after : List ℕ → ℕ) (how : CutStatus) → IsUnsetBy w content before after how → IsToldWrongNext w content line
      → (how ≡ cut.NextFile line) ⊎ EndsBeforeNext how
  wrong_second before after (cut.Served status.Usage) why wrong = no_options (options_of w.words) wrong.said why
  wrong_second before after (cut.Served status.NoMemory) why wrong = inr tt
  wrong_second before after (cut.Served status.FileFault) why wrong = inr tt
  wrong_second before after (cut.Served (status.IndexFile other)) why wrong = inr tt
  wrong_second before after (cut.NextFile other) why wrong =
      inl (ap (λ (l : ℕ). cut.NextFile l) (wrong_line (content w.file) wrong.text line other wrong.told wrong.wrong why.1))
  wrong_second before after (cut.Served status.Done) why wrong = absurd why
  wrong_second before after (cut.Served status.ReadFault) why wrong = absurd why
  wrong_second before after (cut.Served status.WriteFault) why wrong = absurd why
  wrong_second before after (cut.Served status.InputLimit) why wrong = absurd why
  wrong_second before after (cut.TooManyRows commit count) why wrong = absurd why

  -- a run that was set up has read both
  pub set_fits : {A : Type 0} (s : Setting) → IsSetting w.words content s → IsToldWrong w.words content line → A
  set_fits s set wrong = absurd (first_fits s set wrong)

  pub next_fits : {A : Type 0} (definitions : List IndexDef) → AreRead (content w.file) definitions → IsToldWrongNext w content line → A
  next_fits definitions read wrong = absurd (second_fits definitions read wrong)

-- ---- whatever the words are

-- words that set up something have their form
pub set_said : {A : Type 0} (words : List (List ℕ)) (content : List ℕ → Option (List ℕ)) (w : CutWordsParts) (s : Setting)
    → cut_form words ≡ Some w → IsSetting w.words content s → options_of_cut words ≡ None → A
set_said words content w s said set none =
    no_options (options_of w.words) (some_options w content s set)
    (sym (ap (λ (o : Option CutWordsParts). option_and_then (λ (v : CutWordsParts). options_of v.words) o) said) ∙ none)

module _ (content : List ℕ → Option (List ℕ)) (before after : List ℕ → ℕ) (how : CutStatus) where
  pub unset_wrong_first : (words : List (List ℕ)) (line : ℕ) → IsUnsetCut (cut_form words) content before after how
      → IsSomeAnd (cut_form words) (λ w. IsToldWrong w.words content line)
      → (how ≡ cut.Served (status.IndexFile line))
      ⊎ ((how ≡ cut.Served status.FileFault) ⊎ (how ≡ cut.Served status.NoMemory))
  unset_wrong_first words line = by (cut_form words) where
    by : (o : Option CutWordsParts) → IsUnsetCut o content before after how → IsSomeAnd o (λ w. IsToldWrong w.words content line)
        → (how ≡ cut.Served (status.IndexFile line))
        ⊎ ((how ≡ cut.Served status.FileFault) ⊎ (how ≡ cut.Served status.NoMemory))
    by None why wrong = absurd wrong
    by (Some w) why wrong = wrong_first w content line before after how why wrong

  pub unset_wrong_second : (words : List (List ℕ)) (line : ℕ) → IsUnsetCut (cut_form words) content before after how
      → IsSomeAnd (cut_form words) (λ w. IsToldWrongNext w content line) → (how ≡ cut.NextFile line) ⊎ EndsBeforeNext how
  unset_wrong_second words line = by (cut_form words) where
    by : (o : Option CutWordsParts) → IsUnsetCut o content before after how → IsSomeAnd o (λ w. IsToldWrongNext w content line)
        → (how ≡ cut.NextFile line) ⊎ EndsBeforeNext how
    by None why wrong = absurd wrong
    by (Some w) why wrong = wrong_second w content line before after how why wrong

-- a run that wasn't set up neither failed to read nor to write, and met no limit
pub unset_calm : (words : List (List ℕ)) (content : List ℕ → Option (List ℕ)) (before after : List ℕ → ℕ) (how : CutStatus) (n : ℕ)
    → IsUnsetCut (cut_form words) content before after how
    → (cut_read_faults how n ≡ n) × (cut_write_faults how n ≡ n) × (how ≡ cut.Served status.InputLimit → ⊥)
unset_calm words content before after how n = by (cut_form words) how where
  by : (o : Option CutWordsParts) (s : CutStatus) → IsUnsetCut o content before after s
      → (cut_read_faults s n ≡ n) × (cut_write_faults s n ≡ n) × (s ≡ cut.Served status.InputLimit → ⊥)
  by o (cut.Served status.Usage) why = (refl, refl, λ is. cc)
  by o (cut.Served status.NoMemory) why = (refl, refl, λ is. cc)
  by o (cut.Served (status.IndexFile line)) why = (refl, refl, λ is. cc)
  by o (cut.Served status.FileFault) why = (refl, refl, λ is. cc)
  by o (cut.NextFile line) why = (refl, refl, λ is. cc)
  by None (cut.Served status.Done) why = cc
  by None (cut.Served status.ReadFault) why = cc
  by None (cut.Served status.WriteFault) why = cc
  by None (cut.Served status.InputLimit) why = cc
  by None (cut.TooManyRows commit count) why = cc
  by (Some w) (cut.Served status.Done) why = absurd why
  by (Some w) (cut.Served status.ReadFault) why = absurd why
  by (Some w) (cut.Served status.WriteFault) why = absurd why
  by (Some w) (cut.Served status.InputLimit) why = absurd why
  by (Some w) (cut.TooManyRows commit count) why = absurd why
