-- The lines of what is held, one after the other.
use Rattle.std.proofs.Common.{◌≡◌, ℕ, suc, ◌+◌, ◌<◌, ◌≤◌, List, ◌∷◌, ◌++◌, length, get_or, drop, map, sym, ap, ◌∙◌, add-one, append_assoc, append-nil}
use Rattle.std.proofs.Common.{drop-cons, drop_of_length-le}
use Rattle.ds_paxos.specs.declared.world.Held.{Held}
use Rattle.ds_paxos.specs.Holdings.{Holding, holding_of}
use Rattle.ds_replication.specs.Printing.{holding_line, holding_lines}

abbrev pub shown : Held → Holding
shown = λ h. holding_of h.member h.log h.position h.entry.now

-- one more line
pub printed_more : (before after all : List ℕ) (held : List Held) (k : ℕ) (h : Held) → k < length held → h ≡ get_or held k h
    → after ≡ before ++ holding_line (shown h) → before ++ holding_lines (map shown (drop k held)) ≡ all
    → after ++ holding_lines (map shown (drop (k + 1) held)) ≡ all
printed_more before after all held k h less is put whole =
    let rest : drop k held ≡ h ∷ drop (k + 1) held =
    drop-cons held k h less ∙ ap (λ (x : Held). x ∷ drop (suc k) held) (sym is) ∙ ap (λ (j : ℕ). h ∷ drop j held) (sym (add-one k)) in
    ap (λ (l : List ℕ). l ++ holding_lines (map shown (drop (k + 1) held))) put
    ∙ append_assoc before (holding_line (shown h)) (holding_lines (map shown (drop (k + 1) held)))
    ∙ ap (λ (l : List Held). before ++ holding_lines (map shown l)) (sym rest) ∙ whole

pub printed_all : (text all : List ℕ) (held : List Held) (k : ℕ) → length held ≤ k → text ++ holding_lines (map shown (drop k held)) ≡ all → text ≡ all
printed_all text all held k reach whole =
    sym (append-nil text) ∙ ap (λ (l : List Held). text ++ holding_lines (map shown l)) (sym (drop_of_length-le held reach)) ∙ whole
