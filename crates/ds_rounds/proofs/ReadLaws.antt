-- Reading on: the bytes of one call, read by read.
use Rattle.std.proofs.Common.{◌≡◌, ℕ, List, [], ◌∷◌, ◌++◌, length, refl, ap, sym, ◌∙◌, arith, Bool, true, false, append_assoc, append-nil}
use Rattle.std.proofs.Common.{subst}
use Rattle.ds_rounds.specs.Drafts.{DraftParts, IsLine, IsSame, Stands, number_in, so_far}
use Rattle.ds_rounds.specs.Lines.{lines_in}
use Rattle.ds_rounds.specs.Reading.{Gives, GivesNone, MayFollow, ReaderParts}
use Rattle.ds_rounds.specs.Rounds.{NumberedLine, numbered, rounds_from, rounds_in}
use Rattle.ds_rounds.specs.declared.stage.Stage.TheVariants as stage
use Rattle.ds_rounds.proofs.AbsorbLaws.{number_same, so_far_same}
use Rattle.ds_rounds.proofs.LineLaws.{lines_in-open}

-- the rounds of what was buffered, what was read in this call, and what comes behind
abbrev pub ahead : ReaderParts → List ℕ → Bool → List ℕ → List (List NumberedLine)
ahead old read ended more = rounds_in ended old.number (old.buffered ++ (read ++ more))

in_bytes : (ended : Bool) (number : ℕ) (bytes : List ℕ) → rounds_in ended number bytes ≡ rounds_from ended [] number (lines_in ended bytes)
unfolding rounds_in
in_bytes ended number bytes = refl

rounds_from-open : (lines : List NumberedLine) (number : ℕ) → rounds_from false lines number [] ≡ []
unfolding rounds_from
rounds_from-open lines number = refl

pub rounds_in-nothing : (ended : Bool) (number : ℕ) → rounds_in ended number [] ≡ []
unfolding rounds_in lines_in rounds_from
rounds_in-nothing true number = refl
rounds_in-nothing false number = refl

-- at the first read
pub begin : (old : ReaderParts) (draft : DraftParts) → draft.first ≡ old.number → draft.lines ≡ [] → draft.kept ≡ [] → draft.blank ≡ true → Stands (ahead old []) draft old.number old.buffered
begin old draft first lines kept blank = record {
  line = [];
  is_line = record { unbroken = tt; kept = kept; blank = blank };
  counted = omega (arith, first, ap length lines);
  rounds_are = λ ended more. in_bytes ended old.number (old.buffered ++ more) ∙ ap (λ ls. rounds_from ended (numbered draft.first ls) old.number (lines_in ended (old.buffered ++ more))) (sym lines);
}

-- one read more
pub read_on : (old : ReaderParts) (read piece : List ℕ) (before after : DraftParts) (number : ℕ) → Stands (ahead old read) before number [] → IsSame before after → Stands (ahead old (read ++ piece)) after number piece
read_on old read piece before after number stands same = record {
  line = stands.line;
  is_line = record { unbroken = stands.is_line.unbroken; kept = same.kept ∙ stands.is_line.kept; blank = same.blank ∙ stands.is_line.blank };
  counted = stands.counted ∙ number_same before after same.first same.lines;
  rounds_are = λ ended more.
      ap (λ bs. rounds_in ended old.number (old.buffered ++ bs)) (append_assoc read piece more)
      ∙ stands.rounds_are ended (piece ++ more)
      ∙ ap (λ lines. rounds_from ended lines number (lines_in ended (stands.line ++ (piece ++ more)))) (so_far_same before after same.first same.lines);
}

-- while a draft stands alone, no round has ended
pub none_ended : (old : ReaderParts) (read : List ℕ) (draft : DraftParts) (number : ℕ) → Stands (ahead old read) draft number [] → GivesNone old read false
none_ended old read draft number stands =
    ap (λ bs. rounds_in false old.number (old.buffered ++ bs)) (sym (append-nil read))
    ∙ stands.rounds_are false []
    ∙ ap (λ bs. rounds_from false (so_far draft) number (lines_in false bs)) (append-nil stands.line)
    ∙ ap (rounds_from false (so_far draft) number) (lines_in-open stands.line stands.is_line.unbroken)
    ∙ rounds_from-open (so_far draft) number

-- what stands at the end of the input
pub at_the_end : (old : ReaderParts) (read : List ℕ) (draft : DraftParts) (number : ℕ) (found : List (List NumberedLine)) → Stands (ahead old read) draft number [] → ((line : List ℕ) → IsLine draft line → rounds_from true (so_far draft) (number_in draft) (lines_in true line) ≡ found) → rounds_in true old.number (old.buffered ++ read) ≡ found
at_the_end old read draft number found stands ends =
    ap (λ bs. rounds_in true old.number (old.buffered ++ bs)) (sym (append-nil read))
    ∙ stands.rounds_are true []
    ∙ ap (λ bs. rounds_from true (so_far draft) number (lines_in true bs)) (append-nil stands.line)
    ∙ ap (λ n. rounds_from true (so_far draft) n (lines_in true stands.line)) stands.counted
    ∙ ends stands.line stands.is_line

-- a round that the end of the input ended: nothing may follow
pub gives_last : (old : ReaderParts) (read : List ℕ) (round : List NumberedLine) (new : ReaderParts) → new.stage ≡ stage.Ended → new.buffered ≡ [] → rounds_in true old.number (old.buffered ++ read) ≡ round ∷ [] → Gives old read round new
gives_last old read round new is_ended nothing given ended more follows =
    let last : (ended ≡ true) × (more ≡ []) = subst (λ s. MayFollow s ended more) is_ended follows in
    ap (λ e. rounds_in e old.number (old.buffered ++ (read ++ more))) last.0
    ∙ ap (λ bs. rounds_in true old.number (old.buffered ++ (read ++ bs))) last.1
    ∙ ap (λ bs. rounds_in true old.number (old.buffered ++ bs)) (append-nil read)
    ∙ given
    ∙ ap (λ rs. round ∷ rs) (sym (rounds_in-nothing ended new.number))
    ∙ ap (λ bs. round ∷ rounds_in ended new.number bs) (sym (append-nil []) ∙ ap (λ bs. bs ++ []) (sym nothing) ∙ ap (λ bs. new.buffered ++ bs) (sym last.1))
