-- Texts written one after another are their concatenation.
use Rattle.std.proofs.Common.{◌≡◌, ℕ, ◌+◌, List, [], ◌++◌, length, length-append, append_assoc, append-nil, sym, ap, ◌∙◌, arith}
use Rattle.std.proofs.Common.{refl, false}
use Rattle.ds_json_printing.specs.declared.output.Growing.{Growing}
use Rattle.ds_json_printing.specs.Outputs.{WritesText}

pub appends_nothing : (s : Growing) → WritesText [] s s
appends_nothing s = record {
  added = [];
  grown = sym (append-nil s.buffer.bytes);
  room = omega arith;
  begun = λ h. h;
  whole = λ h. refl;
  fits = λ h le. h;
}

pub appends_joined : (a b : List ℕ) (s t u : Growing) → WritesText a s t → WritesText b t u → WritesText (a ++ b) s u
appends_joined a b s t u f g = record {
  added = f.added ++ g.added;
  grown = g.grown ∙ ap (λ (l : List ℕ). l ++ g.added) f.grown ∙ append_assoc s.buffer.bytes f.added g.added;
  room = omega (arith, f.room, g.room, length-append f.added g.added);
  begun = λ h. f.begun (g.begun h);
  whole = λ h. ap (λ (l : List ℕ). l ++ g.added) (f.whole (g.begun h)) ∙ ap (λ (l : List ℕ). a ++ l) (g.whole h);
  fits = λ h le.
      let both : length (a ++ b) ≡ length a + length b = length-append a b in
      let first : t.refused ≡ false = f.fits h (omega arith) in
      let same : length f.added ≡ length a = ap (λ (l : List ℕ). length l) (f.whole first) in
      g.fits first (omega (arith, f.room));
}
