-- A journal's text, read line after line.
use Rattle.std.proofs.Common.{◌≡◌, ℕ, ◌+◌, ◌<◌, ◌≤◌, ◌==◌, List, [], ◌∷◌, ◌++◌, length, drop, get_or, Bool, true, false, sym, ap, ◌∙◌}
use Rattle.std.proofs.Common.{subst, append_assoc, append-nil, inl, inr, refl, arith}
use Rattle.std.proofs.lemmas.Bool.Decides.{nat_tests}
use Rattle.std.proofs.lemmas.List.{drop_more, drop_all}
use Rattle.std.specs.Prelude.{All}
use Rattle.std.proofs.lemmas.List.Elements.{All-nil, All-cons}
use Rattle.ds_base.specs.Limits.{most_writes}
use Rattle.ds_log.specs.declared.Commit.{Commit}
use Rattle.ds_rounds.specs.Lines.{lines_in}
use Rattle.ds_rounds.proofs.LineLaws.{lines_in-nothing}
use Rattle.ds_journal_text.specs.Texts.{IsLineOf, AreLinesOf, IsFirstWrongLine, commit_text, commits_text, journal_text}

-- the commits that were read, and any that may be read of the rest, are the text's
abbrev pub IsReadTo : ℕ → List ℕ → List Commit → List ℕ → Type 0
IsReadTo n rest done text = (more : List Commit) → AreLinesOf n (lines_in true rest) more → AreLinesOf 1 (lines_in true text) (done ++ more)

-- the first wrong line of the rest is the text's
abbrev pub IsWrongTo : ℕ → List ℕ → List ℕ → Type 0
IsWrongTo n rest text = (wrong : ℕ) → IsFirstWrongLine n (lines_in true rest) wrong → IsFirstWrongLine 1 (lines_in true text) wrong

pub one_more : (n : ℕ) (rest line behind text : List ℕ) (c : Commit) (done now : List Commit) → lines_in true rest ≡ line ∷ lines_in true behind → IsLineOf n c line
    → now ≡ done ++ c ∷ [] → IsReadTo n rest done text → IsReadTo (n + 1) behind now text
one_more n rest line behind text c done now split is pushed so_far more h =
    let whole = so_far (c ∷ more) (subst (λ (ls : List (List ℕ)). AreLinesOf n ls (c ∷ more)) (sym split) (is, h)) in
    let joined : done ++ c ∷ more ≡ now ++ more = sym (append_assoc done (c ∷ []) more) ∙ ap (λ (cs : List Commit). cs ++ more) (sym pushed) in
    subst (λ (cs : List Commit). AreLinesOf 1 (lines_in true text) cs) joined whole

pub wrong_later : (n : ℕ) (rest line behind text : List ℕ) (c : Commit) → lines_in true rest ≡ line ∷ lines_in true behind → IsLineOf n c line
    → IsWrongTo n rest text → IsWrongTo (n + 1) behind text
wrong_later n rest line behind text c split is so_far wrong h =
    so_far wrong (subst (λ (ls : List (List ℕ)). IsFirstWrongLine n ls wrong) (sym split) (inr (c, is, h)))

pub wrong_here : (n : ℕ) (rest line behind text : List ℕ) (wrong : ℕ) → lines_in true rest ≡ line ∷ lines_in true behind → wrong ≡ n → ((c : Commit) → IsLineOf n c line → ⊥)
    → IsWrongTo n rest text → IsFirstWrongLine 1 (lines_in true text) wrong
wrong_here n rest line behind text wrong split same none so_far =
    so_far wrong (subst (λ (ls : List (List ℕ)). IsFirstWrongLine n ls wrong) (sym split) (inl (same, none)))

nothing_left : (rest : List ℕ) → rest ≡ [] → lines_in true rest ≡ []
nothing_left rest h = ap (lines_in true) h ∙ lines_in-nothing true

pub read_all : (n : ℕ) (rest text : List ℕ) (done : List Commit) → rest ≡ [] → IsReadTo n rest done text → AreLinesOf 1 (lines_in true text) done
read_all n rest text done none so_far =
    subst (λ (cs : List Commit). AreLinesOf 1 (lines_in true text) cs) (append-nil done)
    (so_far [] (subst (λ (ls : List (List ℕ)). AreLinesOf n ls []) (sym (nothing_left rest none)) tt))

-- ---- an empty rest, and another

pub is_nil : (xs : List ℕ) (b : Bool) → b ≡ (length xs == 0) → b ≡ true → xs ≡ []
is_nil [] b e t = refl
is_nil (x ∷ xs) b e t = absurd (grind (arith, nat_tests))

pub is_some : (xs : List ℕ) (b : Bool) → b ≡ (length xs == 0) → b ≡ false → 0 < length xs
is_some [] b e f = let k : true ≡ false = sym e ∙ f in cc k
is_some (x ∷ xs) b e f = omega arith

-- ---- what is written, commit after commit

pub journal_put : (js : List Commit) (i : ℕ) (d : Commit) (before now : List ℕ) → i < length js → d ≡ get_or js i d → now ≡ before ++ commit_text (i + 1) d
    → before ++ commits_text (i + 1) (drop i js) ≡ journal_text js → now ++ commits_text (i + 1 + 1) (drop (i + 1) js) ≡ journal_text js
journal_put js i d before now below is put written =
    let rest = commits_text (i + 1 + 1) (drop (i + 1) js) in
    let split : commits_text (i + 1) (drop i js) ≡ commit_text (i + 1) d ++ rest =
    ap (commits_text (i + 1)) (drop_more js i d below) ∙ ap (λ (c : Commit). commit_text (i + 1) c ++ rest) (sym is) in
    ap (λ (l : List ℕ). l ++ rest) put ∙ append_assoc before (commit_text (i + 1) d) rest ∙ ap (λ (l : List ℕ). before ++ l) (sym split) ∙ written

pub journal_done : (js : List Commit) (i : ℕ) (written : List ℕ) → length js ≤ i → written ++ commits_text (i + 1) (drop i js) ≡ journal_text js → written ≡ journal_text js
journal_done js i written all h =
    sym (append-nil written) ∙ ap (λ (l : List ℕ). written ++ l) (sym (ap (commits_text (i + 1)) (drop_all i js all))) ∙ h

-- each commit of a journal's text has at most 500 writes
pub few_writes : (n : ℕ) (lines : List (List ℕ)) (cs : List Commit) → AreLinesOf n lines cs → All (λ c. length c.writes ≤ most_writes) cs
few_writes n [] [] h = All-nil (λ (c : Commit). length c.writes ≤ most_writes)
few_writes n [] (c ∷ cs) h = absurd h
few_writes n (line ∷ lines) [] h = absurd h
few_writes n (line ∷ lines) (c ∷ cs) h = All-cons (λ (d : Commit). length d.writes ≤ most_writes) c cs h.0.0.few (few_writes (n + 1) lines cs h.1)
