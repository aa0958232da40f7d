-- Bytes that are turned round twice are as they were: so what stands at the front of turned bytes stands, turned, at the front.
use Rattle.std.proofs.Common.{◌≡◌, ℕ, ◌-◌, ◌<◌, Bool, true, false, List, [], ◌∷◌, ◌++◌, drop, sym, ap, ◌∙◌, arith, refl}
use Rattle.std.proofs.lemmas.List.Elements.{All-head, All-tail}
use Rattle.ds_bytes.specs.Encoding.{directed}
use Rattle.ds_base.specs.Bytes.{AreBytes}
use Rattle.ds_bytes.specs.Reading.{Begins, NoneBegins}
use Rattle.ds_bytes.proofs.Putting.{directed-append, length-directed}
use Rattle.ds_bytes.proofs.Readings.{directed-drop}

directed-directed : (descending : Bool) (bytes : List ℕ) → AreBytes bytes → directed descending (directed descending bytes) ≡ bytes
directed-directed false bytes p = refl
directed-directed true [] p = refl
directed-directed true (b ∷ bs) p = λ i. back i ∷ directed-directed true bs (All-tail (λ b. b < 256) b bs p) i where
  back : 255 - (255 - b) ≡ b
  back = let small : b < 256 = All-head (λ b. b < 256) b bs p in omega arith

module _ {A : Type 0} (descending : Bool) (written : A → List ℕ) (bytes : List ℕ) where
  pub begins_directed : (v : A) (n : ℕ) → AreBytes bytes → Begins written (directed descending bytes) v n → Begins (λ x. directed descending (written x)) bytes v n
  begins_directed v n p begins = record {
    front = sym (directed-directed descending bytes p) ∙ ap (directed descending) begins.front ∙ directed-append descending (written v) (drop n (directed descending bytes))
        ∙ ap (λ (xs : List ℕ). directed descending (written v) ++ xs) (directed-drop descending n (directed descending bytes) ∙ ap (drop n) (directed-directed descending bytes p));
    long = begins.long ∙ sym (length-directed descending (written v));
  }

  pub none_directed : (Lawful : A → Type 0) → ((v : A) → Lawful v → AreBytes (written v)) → NoneBegins Lawful written (directed descending bytes) → NoneBegins Lawful (λ x. directed descending (written x)) bytes
  none_directed Lawful small none v more p is =
      none v (directed descending more) p
      (ap (directed descending) is ∙ directed-append descending (directed descending (written v)) more
      ∙ ap (λ (xs : List ℕ). xs ++ directed descending more) (directed-directed descending (written v) (small v p)))
