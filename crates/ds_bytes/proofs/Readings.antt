-- What readers find at the front of bytes, behind a byte and one after another.
use Rattle.std.proofs.Common.{◌≡◌, ℕ, suc, ◌+◌, ◌-◌, ◌<◌, ◌≤◌, Bool, true, false, List, [], ◌∷◌, ◌++◌, length, drop}
use Rattle.std.proofs.Common.{slice_get, Some, None, length-append, append_assoc, sym, ap, ◌∙◌, arith, refl}
use Rattle.std.proofs.Common.{get_or}
use Rattle.std.specs.Prelude.{Option, MatchOption}
use Rattle.std.proofs.lemmas.List.{drop-map, get_or_default, get_or-map, length-map}
use Rattle.std.proofs.lemmas.Option.{slice_get_within}
use Rattle.ds_base.specs.Bytes.{AreBytes}
use Rattle.ds_bytes.proofs.Putting.{length-directed}
use Rattle.std.proofs.lemmas.List.Prefix.{front_rest}
use Rattle.ds_bytes.specs.Encoding.{directed}
use Rattle.ds_bytes.specs.Reading.{Begins}

-- ---- directions

pub directed-drop : (descending : Bool) (n : ℕ) (bytes : List ℕ) → directed descending (drop n bytes) ≡ drop n (directed descending bytes)
directed-drop false n bytes = refl
directed-drop true n bytes = sym (drop-map (λ b. 255 - b) n bytes)

-- the first byte, and those behind it
first_split : (xs : List ℕ) (x : ℕ) → slice_get xs 0 ≡ Some x → xs ≡ x ∷ drop 1 xs
first_split [] x found = absurd (apart found) where
  apart : slice_get [] 0 ≡ Some x → ⊥
  apart found = cc
first_split (y ∷ ys) x found = ap (λ z. z ∷ ys) (inside found) where
  inside : Some y ≡ Some x → y ≡ x
  inside found = cc

pub tag_front : (descending : Bool) (bytes rest : List ℕ) (tag : ℕ) → slice_get (directed descending bytes) 0 ≡ Some tag → rest ≡ drop 1 bytes → directed descending bytes ≡ tag ∷ directed descending rest
tag_front descending bytes rest tag found is =
    first_split (directed descending bytes) tag found ∙ ap (λ (xs : List ℕ). tag ∷ xs) (sym (directed-drop descending 1 bytes) ∙ ap (directed descending) (sym is))

pub no_front : (xs : List ℕ) → slice_get xs 0 ≡ None → xs ≡ []
no_front [] none = refl
no_front (x ∷ xs) none = absurd (apart none) where
  apart : slice_get (x ∷ xs) 0 ≡ None → ⊥
  apart none = cc

pub front_within : (descending : Bool) (bytes : List ℕ) (tag : ℕ) → slice_get (directed descending bytes) 0 ≡ Some tag → 1 ≤ length bytes
front_within false [] tag found = absurd (apart found) where
  apart : slice_get [] 0 ≡ Some tag → ⊥
  apart found = cc
front_within true [] tag found = absurd (apart found) where
  apart : slice_get [] 0 ≡ Some tag → ⊥
  apart found = cc
front_within descending (b ∷ bytes) tag found = omega arith

-- ---- what begins bytes

module _ {A : Type 0} (written : A → List ℕ) where
  pub begins_from : (bytes more : List ℕ) (v : A) (n : ℕ) → bytes ≡ written v ++ more → n ≡ length (written v) → Begins written bytes v n
  begins_from bytes more v n is long = record {
    front = is ∙ ap (λ (m : List ℕ). written v ++ m) (sym (ap (λ (k : ℕ). drop k bytes) long ∙ front_rest bytes (written v) more is));
    long = long;
  }

  pub begins_within : (bytes : List ℕ) (v : A) (n : ℕ) → Begins written bytes v n → n ≤ length bytes
  begins_within bytes v n begins = omega (arith, begins.long, ap length begins.front, length-append (written v) (drop n bytes))

  -- behind a byte that is always the same
  pub begins_tagged : {B : Type 0} (outer : B → List ℕ) (tag : ℕ) (bytes : List ℕ) (v : A) (w : B) (n m : ℕ) → outer w ≡ tag ∷ written v → m ≡ suc n
      → Begins written bytes v n → Begins outer (tag ∷ bytes) w m
  begins_tagged outer tag bytes v w n m is more begins = record {
    front = ap (λ (xs : List ℕ). tag ∷ xs) begins.front ∙ (λ i. sym is i ++ drop (sym more i) (tag ∷ bytes));
    long = more ∙ ap suc begins.long ∙ sym (ap length is);
  }

-- one after another
pub begins_joined : {A B C : Type 0} (f : A → List ℕ) (g : B → List ℕ) (outer : C → List ℕ) (bytes rest : List ℕ) (v : A) (w : B) (u : C) (n m k : ℕ) → outer u ≡ f v ++ g w → k ≡ n + m
    → Begins f bytes v n → rest ≡ drop n bytes → Begins g rest w m → Begins outer bytes u k
begins_joined f g outer bytes rest v w u n m k is sum first at second =
    begins_from outer bytes (drop m rest) u k
    (first.front ∙ ap (λ (xs : List ℕ). f v ++ xs) (sym at ∙ second.front) ∙ sym (append_assoc (f v) (g w) (drop m rest)) ∙ ap (λ (xs : List ℕ). xs ++ drop m rest) (sym is))
    (omega (arith, first.long, second.long, ap length is, length-append (f v) (g w)))

-- ---- bytes

-- the bytes of a slice in either direction
pub directed-AreBytes : (descending : Bool) (bytes : List ℕ) → ((i : ℕ) → get_or bytes i 0 < 256) → AreBytes (directed descending bytes)
directed-AreBytes false bytes small = λ k d below. let same = get_or_default bytes k d 0 below in let it = small k in omega (arith, same)
directed-AreBytes true bytes small = λ k d below. let is = get_or-map (λ b. 255 - b) bytes k 0 d (omega (arith, length-map bytes (λ b. 255 - b))) in omega (arith, is)

-- a place where there is a byte
pub place_within : (descending : Bool) (bytes : List ℕ) (at f : ℕ) → slice_get (directed descending bytes) at ≡ Some f → at < length bytes
place_within descending bytes at f found = omega (arith, slice_get_within (directed descending bytes) at f found, length-directed descending bytes)

-- what is known of a value or of its absence, said otherwise
pub map_option : {A P P' : Type 0} {Q Q' : A → Type 0} (o : Option A) → MatchOption o P Q → (P → P') → ((x : A) → Q x → Q' x) → MatchOption o P' Q'
map_option None h f g = f h
map_option (Some x) h f g = g x h
