use Rattle.std.proofs.Common.{◌≡◌, ℕ, ◌+◌, ◌^◌, ◌<◌, ◌≤◌, List, length, take, get_or, true, sym, ap, ◌∙◌, subst, arith}
use Rattle.std.specs.Prelude.{All}
use Rattle.std.proofs.lemmas.List.{take_all}
use Rattle.std.proofs.lemmas.List.Elements.{All-more}
use Rattle.ds_log.specs.declared.Commit.{Commit}
use Rattle.ds_rounds.specs.Lines.{lines_in}
use Rattle.ds_journal_text.specs.Lawful.{IsLawfulCommit}
use Rattle.ds_journal_text.specs.Texts.{IsJournalOf, journal_text}
use Rattle.ds_journal_text.proofs.CommitsBack.{journal_lines, lines_alone}
use Rattle.ds_journal_text.proofs.JournalReading.{journal_put, journal_done}
use Rattle.ds_journal_text.proofs.writing.write_journal.Goals as goal

pub loop-i-preserved : goal.loop-i-preserved
loop-i-preserved c =
    let journal = c.args.journal.now in
    let i = c.loop-i.i in
    let item = c.commit-item.result in
    let read = c.as_slice-commit-items.ensures in
    let below : i < length journal = omega (arith, ap length read) in
    let is : item ≡ get_or journal i item = c.commit-item.is ∙ ap (λ (js : List Commit). get_or js i item) read in
    record {
      written = journal_put journal i item c.loop-i.text.bytes c.write_commit.new.onto.bytes below is c.in_ok-write_commit.ensures.ok c.loop-i.invariant.written;
      lawful = All-more IsLawfulCommit journal i item below c.loop-i.invariant.lawful (subst IsLawfulCommit is c.in_ok-write_commit.ensures.lawful);
    }

-- what holds at the end, where all is written
abbrev Written : List Commit → List ℕ → Type 0
Written journal text = IsJournalOf text journal × ((other : List Commit) → IsJournalOf text other → other ≡ journal)

ended : (journal : List Commit) (text : List ℕ) → text ≡ journal_text journal → 1 + length journal ≤ 2 ^ 64 → All IsLawfulCommit journal → Written journal text
ended journal text is fits lawful =
    let lines = journal_lines 1 journal fits lawful in
    subst (λ (t : List ℕ). Written journal t) (sym is) (lines, λ other h. lines_alone 1 (lines_in true (journal_text journal)) journal other fits lines h)

pub returns-clause-stands : goal.returns-clause-stands
returns-clause-stands c =
    let journal = c.args.journal.now in
    let i = c.loop-i.i in
    let read = c.as_slice-commit-items.ensures in
    let all : length journal ≤ i = omega (arith, ap length read) in
    let text : c.from.result ≡ journal_text journal = c.from.ensures ∙ journal_done journal i c.loop-i.text.bytes all c.loop-i.invariant.written in
    let fits : 1 + length journal ≤ 2 ^ 64 = omega (arith, c.as_slice-commit-items.type_inv.0, ap length read) in
    let whole : take i journal ≡ journal = take_all i journal all in
    (ended journal c.from.result text fits (subst (All IsLawfulCommit) whole c.loop-i.invariant.lawful)).0

pub returns-clause-alone : goal.returns-clause-alone
returns-clause-alone c =
    let journal = c.args.journal.now in
    let i = c.loop-i.i in
    let read = c.as_slice-commit-items.ensures in
    let all : length journal ≤ i = omega (arith, ap length read) in
    let text : c.from.result ≡ journal_text journal = c.from.ensures ∙ journal_done journal i c.loop-i.text.bytes all c.loop-i.invariant.written in
    let fits : 1 + length journal ≤ 2 ^ 64 = omega (arith, c.as_slice-commit-items.type_inv.0, ap length read) in
    let whole : take i journal ≡ journal = take_all i journal all in
    (ended journal c.from.result text fits (subst (All IsLawfulCommit) whole c.loop-i.invariant.lawful)).1
