-- What stands at the front of bytes.
use Rattle.std.specs.Prelude.{◌≡◌, ℕ, List, ◌++◌, length, drop, Option, Result, IfOk, MatchOption, IsTrue}
use Rattle.ds_base.specs.declared.key.Elem.{Elem}
use Rattle.ds_base.specs.Keys.{KeyParts, is_key}

-- The bytes begin with what is written of the value, which takes this many of them.
pub record Begins {A : Type 0} (written : A → List ℕ) (bytes : List ℕ) (value : A) (taken : ℕ) : Type 0 where
  pub front : bytes ≡ written value ++ drop taken bytes
  pub long : taken ≡ length (written value)

-- The bytes begin with what is written of no such value.
abbrev pub NoneBegins : {A : Type 0} → (A → Type 0) → (A → List ℕ) → List ℕ → Type 0
NoneBegins {A} Lawful written bytes = (value : A) (more : List ℕ) → Lawful value → bytes ≡ written value ++ more → ⊥

-- what a reader found at the front of the bytes
pub record Found {A : Type 0} (Lawful : A → Type 0) (written : A → List ℕ) (bytes : List ℕ) (value : A) (taken : ℕ) : Type 0 where
  pub begins : Begins written bytes value taken
  pub lawful : Lawful value

-- A reader gives the value that stands at the front and how many bytes it takes, and none exactly where no value does.
abbrev pub ReadsFront : {A E : Type 0} → (A → Type 0) → (A → List ℕ) → List ℕ → Result (Option (A × ℕ)) E → Type 0
ReadsFront Lawful written bytes r = IfOk r (λ found. MatchOption found (NoneBegins Lawful written bytes)
    (λ x. Found Lawful written bytes x.0 x.1))

-- a namespace and a path that make this key
pub record IsKeyOf (s : List ℕ) (es : List Elem) (k : KeyParts) : Type 0 where
  pub key : k ≡ record { namespace = s; elems = es }
  pub rules : IsTrue (is_key (record { namespace = s; elems = es }))
