-- A commit is read back from its line, and a journal from its text.
use Rattle.std.proofs.Common.{◌≡◌, ℕ, ◌+◌, ◌^◌, ◌<◌, ◌≤◌, List, [], ◌∷◌, length, true}
use Rattle.std.proofs.Common.{cond, Some, None, refl, sym, ap, ap₂, ◌∙◌, subst, arith, lt-ltb, append_assoc, length-append, inl, inr}
use Rattle.std.specs.Prelude.{Result, Ok, Err, Option, All}
use Rattle.std.proofs.lemmas.List.Elements.{All-head, All-tail}
use Rattle.serde_json.specs.Data.{Data}
use Rattle.serde_json.specs.Read.{read, max_depth}
use Rattle.serde_json.specs.Written.{compact_text}
use Rattle.ds_log.specs.declared.Commit.{Commit}
use Rattle.ds_log.specs.declared.Touch.{Touch}
use Rattle.ds_log.specs.declared.Write.{Write}
use Rattle.ds_log.specs.declared.Write.TheVariants.{Put, Delete}
use Rattle.ds_json_reading.specs.declared.refusal.Refusal.{Refusal}
use Rattle.ds_json_reading.specs.Reading.{and_then, read_as, each_of}
use Rattle.ds_request.specs.Requests.{line_data}
use Rattle.ds_rounds.specs.Lines.{lines_in}
use Rattle.ds_json_printing.specs.Printing.{natural}
use Rattle.ds_journal_text.specs.Lawful.{IsLawfulTouch, IsLawfulWrite, IsLawfulCommit}
use Rattle.ds_rounds.specs.Drafts.{IsUnbroken}
use Rattle.ds_rounds.proofs.LineLaws.{lines_in-newline, lines_in-nothing, lines_in-last}
use Rattle.ds_journal_text.specs.Lines.{IsFirstLine, LineIs, IsIfLine}
use Rattle.ds_journal_text.specs.Reading.{client_of, touch_of, put_of, unless_refused, write_of, commit_of}
use Rattle.ds_journal_text.specs.Texts.{touch_data, touch_items, write_data, write_items, commit_data, commit_line, commits_text}
use Rattle.ds_journal_text.specs.Texts.{IsLineOf, AreLinesOf}
use Rattle.ds_journal_text.proofs.PlainData.{IsPlain, read-compact}
use Rattle.ds_journal_text.proofs.PlainTexts.{whole, compact-is_utf8}
use Rattle.ds_journal_text.proofs.KeysBack.{key_back}
use Rattle.ds_journal_text.proofs.EntitiesBack.{entity_back}
use Rattle.ds_journal_text.proofs.CommitsPlain.{commit_plain}

-- ---- what is read of a commit's data

client_back : (n : ℕ) → n < 2 ^ 32 → client_of (natural n) ≡ Ok n
client_back n h = rw (lt-ltb n 4294967296 h) refl

touch_back : (t : Touch) → IsLawfulTouch t → touch_of (touch_data t) ≡ Ok t
touch_back t h = ap (λ o. and_then o (λ g. read_as (λ m. record { group = g; place = m }) (Ok t.place))) (key_back t.group h.group.rules)

touches_back : (ts : List Touch) → All IsLawfulTouch ts → each_of touch_of (touch_items ts) ≡ Ok ts
touches_back [] h = refl
touches_back (t ∷ ts) h =
    ap (λ o. and_then o (λ x. read_as (λ xs. x ∷ xs) (each_of touch_of (touch_items ts)))) (touch_back t (All-head IsLawfulTouch t ts h))
    ∙ ap (read_as (λ xs. t ∷ xs)) (touches_back ts (All-tail IsLawfulTouch t ts h))

write_back : (w : Write) → IsLawfulWrite w → write_of (write_data w) ≡ Ok w
write_back (Put e) h = ap (λ o. and_then o put_of) (entity_back e h) ∙ ap (λ why. unless_refused why (Put e)) h.rules.not_refused
write_back (Delete k) h = ap (read_as Delete) (key_back k h.rules)

writes_back : (ws : List Write) → All IsLawfulWrite ws → each_of write_of (write_items ws) ≡ Ok ws
writes_back [] h = refl
writes_back (w ∷ ws) h =
    ap (λ o. and_then o (λ x. read_as (λ xs. x ∷ xs) (each_of write_of (write_items ws)))) (write_back w (All-head IsLawfulWrite w ws h))
    ∙ ap (read_as (λ xs. w ∷ xs)) (writes_back ws (All-tail IsLawfulWrite w ws h))

pub commit_back : (n : ℕ) (c : Commit) → IsLawfulCommit c → commit_of (commit_data n c) ≡ Ok c
commit_back n c h =
    let writes : ℕ → List Touch → Result Commit Refusal =
    λ client touched. read_as (λ ws. record { client = client; touched = touched; writes = ws }) (each_of write_of (write_items c.writes)) in
    ap (λ o. and_then o (λ client. and_then (each_of touch_of (touch_items c.touched)) (writes client))) (client_back c.client h.client)
    ∙ ap (λ o. and_then o (writes c.client)) (touches_back c.touched h.touched)
    ∙ ap (read_as (λ ws. record { client = c.client; touched = c.touched; writes = ws })) (writes_back c.writes h.writes)

-- ---- what is read of its line

-- plain data are read from their text
pub text_back : (d : Data) → IsPlain d max_depth → line_data (compact_text d) ≡ Some d
text_back d plain =
    let none : Option Data = None in
    ap (λ b. cond b (read (compact_text d)) none) (compact-is_utf8 d max_depth plain) ∙ read-compact d plain

pub line_back : (n : ℕ) (c : Commit) → n < 2 ^ 64 → IsLawfulCommit c → line_data (commit_line n c) ≡ Some (commit_data n c)
line_back n c fits h = text_back (commit_data n c) (commit_plain n c 117 fits h)

read_alone : (c d : Commit) (read : Result Commit Refusal) → read ≡ Ok c → read ≡ Ok d → c ≡ d
read_alone c d read first second = cc

-- a line is of one commit alone
pub line_alone : (n : ℕ) (c d : Commit) (line : List ℕ) → n < 2 ^ 64 → IsLineOf n c line → IsLineOf n d line → c ≡ d
line_alone n c d line fits first second =
    let same : Some (commit_data n c) ≡ Some (commit_data n d) =
    sym (line_back n c fits first.0) ∙ ap line_data (sym first.1 ∙ second.1) ∙ line_back n d fits second.0 in
    let both : commit_data n c ≡ commit_data n d = cc same in
    read_alone c d (commit_of (commit_data n c)) (commit_back n c first.0) (ap commit_of both ∙ commit_back n d second.0)

-- what a reader gave of the line's data is the commit
pub read_is : (n : ℕ) (c : Commit) (line : List ℕ) (d : Data) → n < 2 ^ 64 → IsLineOf n c line → line_data line ≡ Some d → commit_of d ≡ Ok c
read_is n c line d fits is given =
    let same : Some (commit_data n c) ≡ Some d = sym (line_back n c fits is.0) ∙ ap line_data (sym is.1) ∙ given in
    let both : commit_data n c ≡ d = cc same in
    ap commit_of (sym both) ∙ commit_back n c is.0

-- ---- journals

pub journal_lines : (n : ℕ) (cs : List Commit) → n + length cs ≤ 2 ^ 64 → All IsLawfulCommit cs → AreLinesOf n (lines_in true (commits_text n cs)) cs
journal_lines n [] fits h = rw (lines_in-nothing true) tt
journal_lines n (c ∷ cs) fits h =
    let first = All-head IsLawfulCommit c cs h in
    let left : (n + 1) + length cs ≤ 2 ^ 64 = omega arith in
    let rest = commits_text (n + 1) cs in
    let split : lines_in true (commits_text n (c ∷ cs)) ≡ commit_line n c ∷ lines_in true rest =
    ap (lines_in true) (append_assoc (commit_line n c) (10 ∷ []) rest)
    ∙ lines_in-newline true (commit_line n c) rest (whole (commit_data n c)) in
    subst (λ ls. AreLinesOf n ls (c ∷ cs)) (sym split) ((first, refl), journal_lines (n + 1) cs left (All-tail IsLawfulCommit c cs h))

pub lines_alone : (n : ℕ) (lines : List (List ℕ)) (cs ds : List Commit) → n + length cs ≤ 2 ^ 64 → AreLinesOf n lines cs → AreLinesOf n lines ds → ds ≡ cs
lines_alone n [] [] [] fits first second = refl
lines_alone n [] [] (d ∷ ds) fits first second = absurd second
lines_alone n [] (c ∷ cs) ds fits first second = absurd first
lines_alone n (line ∷ lines) [] ds fits first second = absurd first
lines_alone n (line ∷ lines) (c ∷ cs) [] fits first second = absurd second
lines_alone n (line ∷ lines) (c ∷ cs) (d ∷ ds) fits first second =
    let small : n < 2 ^ 64 = omega arith in
    let left : (n + 1) + length cs ≤ 2 ^ 64 = omega arith in
    ap₂ (λ x (xs : List Commit). x ∷ xs) (line_alone n d c line small second.0 first.0) (lines_alone (n + 1) lines cs ds left first.1 second.1)

-- ---- one line after another

last_alone : (line : List ℕ) → 0 < length line → IsUnbroken line → lines_in true line ≡ line ∷ []
last_alone [] some h = absurd (omega arith)
last_alone (b ∷ line) some h = lines_in-last b line h

pub first_lines : (text line behind : List ℕ) → 0 < length text → IsFirstLine text line behind → lines_in true text ≡ line ∷ lines_in true behind
first_lines text line behind some h = elim h.split [
  | inl e ↦ ap (lines_in true) e ∙ lines_in-newline true line behind h.whole
  | inr e ↦
      let here : 0 < length line = subst (λ (l : List ℕ). 0 < length l) e.0 some in
      ap (lines_in true) e.0 ∙ last_alone line here h.whole ∙ ap (λ (ls : List (List ℕ)). line ∷ ls) (sym (lines_in-nothing true) ∙ ap (lines_in true) (sym e.1))
]

pub shorter : (text line behind : List ℕ) → 0 < length text → IsFirstLine text line behind → length behind < length text
shorter text line behind some h = elim h.split [
  | inl e ↦ let l = ap (λ (t : List ℕ). length t) e in omega (arith, length-append line (10 ∷ behind))
  | inr e ↦ let l : length behind ≡ 0 = ap (λ (t : List ℕ). length t) e.1 in omega arith
]

-- ---- what a line that was read says of the commits whose text it is

pub no_json : (n : ℕ) (c : Commit) (line : List ℕ) → n < 2 ^ 64 → line_data line ≡ None → IsLineOf n c line → ⊥
no_json n c line fits none is =
    let there : Some (commit_data n c) ≡ None = sym (line_back n c fits is.0) ∙ ap line_data (sym is.1) ∙ none in
    cc there

pub refused_none : (n : ℕ) (c : Commit) (line : List ℕ) (d : Data) (why : Refusal) → n < 2 ^ 64 → line_data line ≡ Some d → commit_of d ≡ Err why → IsLineOf n c line → ⊥
refused_none n c line d why fits given refused is =
    let both : Ok c ≡ Err why = sym (read_is n c line d fits is given) ∙ refused in
    cc both

other_line : (n : ℕ) (line : List ℕ) (d : Data) (given : Commit) → n < 2 ^ 64 → line_data line ≡ Some d → commit_of d ≡ Ok given → (IsLineOf n given line → ⊥) → (c : Commit) → IsLineOf n c line → ⊥
other_line n line d given fits there is none c of =
    let same : c ≡ given = read_alone c given (commit_of d) (read_is n c line d fits of there) is in
    none (subst (λ (x : Commit). IsLineOf n x line) same of)

pub if_line_is : (n : ℕ) (line : List ℕ) (d : Data) (given : Commit) (found : Option Commit) → n < 2 ^ 64 → line_data line ≡ Some d → commit_of d ≡ Ok given → IsIfLine n line given found → LineIs n line found
if_line_is n line d given (Some c) fits there is h = h
if_line_is n line d given None fits there is h = other_line n line d given fits there is h
