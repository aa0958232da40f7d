-- What the readers of keys find.
use Rattle.std.proofs.Common.{◌≡◌, ◌≢◌, ℕ, ◌+◌, ◌<◌, true, false, ◌==◌, List, [], ◌∷◌, ◌++◌, length, drop, Some}
use Rattle.std.proofs.Common.{length-append, append_assoc, sym, ap, ◌∙◌, subst, arith, refl}
use Rattle.std.specs.Prelude.{All, IsTrue}
use Rattle.ds_base.specs.declared.key.Elem.{Elem}
use Rattle.std.proofs.Common.{◌⊎◌, inl, inr, Result, Ok, Err, Option, None}
use Rattle.std.proofs.lemmas.Str.{IsUtf8-nil}
use Rattle.std.proofs.lemmas.List.Elements.{All-nil}
use Rattle.ds_base.specs.Keys.{KeyParts, is_key}
use Rattle.ds_bytes.specs.Encoding.{escaped, path_bytes, namespace_bytes, key_bytes}
use Rattle.ds_bytes.specs.Lawful.{IsText, IsLawfulElem, IsLawfulKey, IsDefaultKey, IsNamedKey}
use Rattle.ds_bytes.specs.Reading.{NoneBegins, Found, ReadsFront, IsKeyOf}
use Rattle.ds_bytes.specs.AncestorLaws.{escaped-reads_once}
use Rattle.ds_bytes.proofs.Readings.{begins_from}
use Rattle.ds_bytes.proofs.Elements.{path_bytes-reads_once}

-- ---- keys of the default namespace

default_bytes : (k : KeyParts) → k.namespace ≡ [] → key_bytes k ≡ path_bytes k.elems
default_bytes k default = ap (λ (s : List ℕ). namespace_bytes s ++ path_bytes k.elems) default

pub no_default_path : (bytes : List ℕ) → NoneBegins (All IsLawfulElem) path_bytes bytes → NoneBegins IsDefaultKey key_bytes bytes
no_default_path bytes none k more p is = none k.elems more p.lawful.elems (is ∙ ap (λ (xs : List ℕ). xs ++ more) (default_bytes k p.default))

-- a path that makes no key
pub no_default_key : (bytes s : List ℕ) (path : List Elem) (n : ℕ) → Found (All IsLawfulElem) path_bytes bytes path n → s ≡ [] → (IsTrue (is_key (record { namespace = s; elems = path })) → ⊥) → NoneBegins IsDefaultKey key_bytes bytes
no_default_key bytes s path n found empty refused k more p is =
    let once = path_bytes-reads_once k.elems path more (drop n bytes) p.lawful.elems found.lawful
    (ap (λ (xs : List ℕ). xs ++ more) (sym (default_bytes k p.default)) ∙ sym is ∙ found.begins.front) in
    refused (subst (λ l. IsTrue (is_key l)) (λ i. record { namespace = (p.default ∙ sym empty) i; elems = once.0 i }) p.lawful.rules)

empty_text : IsText []
empty_text = record { bytes = All-nil (λ b. b < 256); utf8 = IsUtf8-nil }

pub default_found : (bytes s : List ℕ) (path : List Elem) (k : KeyParts) (n m : ℕ) → Found (All IsLawfulElem) path_bytes bytes path n → s ≡ [] → IsKeyOf s path k → m ≡ n → Found IsDefaultKey key_bytes bytes k m
default_found bytes s path k n m found empty of same =
    subst (λ l. Found IsDefaultKey key_bytes bytes l m) (sym (of.key ∙ λ i. record { namespace = empty i; elems = path })) (record {
      begins = record { front = found.begins.front ∙ ap (λ (j : ℕ). path_bytes path ++ drop j bytes) (sym same); long = same ∙ found.begins.long };
      lawful = record {
        lawful = record { rules = subst (λ t. IsTrue (is_key (record { namespace = t; elems = path }))) empty of.rules; namespace = empty_text; elems = found.lawful };
        default = refl;
      };
    })

-- ---- keys of another namespace

pub named_bytes : (s : List ℕ) → (s ≢ []) → namespace_bytes s ≡ 0x03 ∷ escaped s
named_bytes [] not_empty = absurd (not_empty refl)
named_bytes (b ∷ bs) not_empty = refl

-- the parts of such a key's bytes
named_parts : (k : KeyParts) (bytes more : List ℕ) → (k.namespace ≢ []) → 3 ∷ bytes ≡ key_bytes k ++ more → bytes ≡ escaped k.namespace ++ (path_bytes k.elems ++ more)
named_parts k bytes more named is =
    inside (is ∙ append_assoc (namespace_bytes k.namespace) (path_bytes k.elems) more ∙ ap (λ (xs : List ℕ). xs ++ (path_bytes k.elems ++ more)) (named_bytes k.namespace named)) where
      inside : 3 ∷ bytes ≡ 3 ∷ (escaped k.namespace ++ (path_bytes k.elems ++ more)) → bytes ≡ escaped k.namespace ++ (path_bytes k.elems ++ more)
      inside is = cc

pub no_named_text : (bytes : List ℕ) → NoneBegins IsText escaped bytes → NoneBegins IsNamedKey key_bytes (0x03 ∷ bytes)
no_named_text bytes none k more p is = none k.namespace (path_bytes k.elems ++ more) p.lawful.namespace (named_parts k bytes more p.named is)

-- a namespace that is the default one after all
pub no_named_empty : (bytes s : List ℕ) (n : ℕ) → Found IsText escaped bytes s n → s ≡ [] → NoneBegins IsNamedKey key_bytes (0x03 ∷ bytes)
no_named_empty bytes s n found empty k more p is =
    let once = escaped-reads_once k.namespace s (path_bytes k.elems ++ more) (drop n bytes) (sym (named_parts k bytes more p.named is) ∙ found.begins.front) in
    p.named (once.0 ∙ empty)

pub no_named_path : (bytes rest s : List ℕ) (n : ℕ) → Found IsText escaped bytes s n → rest ≡ drop n bytes → NoneBegins (All IsLawfulElem) path_bytes rest → NoneBegins IsNamedKey key_bytes (0x03 ∷ bytes)
no_named_path bytes rest s n found at none k more p is =
    let once = escaped-reads_once k.namespace s (path_bytes k.elems ++ more) (drop n bytes) (sym (named_parts k bytes more p.named is) ∙ found.begins.front) in
    none k.elems more p.lawful.elems (at ∙ sym once.1)

-- a namespace and a path that make no key
pub no_named_key : (bytes rest s : List ℕ) (path : List Elem) (n m : ℕ) → Found IsText escaped bytes s n → rest ≡ drop n bytes → Found (All IsLawfulElem) path_bytes rest path m
    → (IsTrue (is_key (record { namespace = s; elems = path })) → ⊥) → NoneBegins IsNamedKey key_bytes (0x03 ∷ bytes)
no_named_key bytes rest s path n m text at found refused k more p is =
    let once = escaped-reads_once k.namespace s (path_bytes k.elems ++ more) (drop n bytes) (sym (named_parts k bytes more p.named is) ∙ text.begins.front) in
    let twice = path_bytes-reads_once k.elems path more (drop m rest) p.lawful.elems found.lawful (once.1 ∙ sym at ∙ found.begins.front) in
    refused (subst (λ l. IsTrue (is_key l)) (λ i. record { namespace = once.0 i; elems = twice.0 i }) p.lawful.rules)

pub named_found : (bytes rest s : List ℕ) (path : List Elem) (k : KeyParts) (n m j : ℕ) → Found IsText escaped bytes s n → (s ≢ []) → rest ≡ drop n bytes → Found (All IsLawfulElem) path_bytes rest path m
    → IsKeyOf s path k → j ≡ 1 + n + m → Found IsNamedKey key_bytes (0x03 ∷ bytes) k j
named_found bytes rest s path k n m j text named at found of sum =
    let parts : KeyParts = record { namespace = s; elems = path } in
    let spelled : key_bytes parts ≡ (3 ∷ escaped s) ++ path_bytes path = ap (λ (xs : List ℕ). xs ++ path_bytes path) (named_bytes s named) in
    subst (λ l. Found IsNamedKey key_bytes (3 ∷ bytes) l j) (sym of.key) (record {
      begins = begins_from key_bytes (3 ∷ bytes) (drop m rest) parts j
          (ap (λ (xs : List ℕ). 3 ∷ xs) (text.begins.front ∙ ap (λ (xs : List ℕ). escaped s ++ xs) (sym at ∙ found.begins.front) ∙ sym (append_assoc (escaped s) (path_bytes path) (drop m rest)))
          ∙ ap (λ (xs : List ℕ). xs ++ drop m rest) (sym spelled))
          (omega (arith, text.begins.long, found.begins.long, ap length spelled, length-append (escaped s) (path_bytes path)));
      lawful = record { lawful = record { rules = of.rules; namespace = text.lawful; elems = found.lawful }; named = named };
    })

-- ---- both

-- which of the two a key is
default_or_named : (s : List ℕ) → (s ≡ []) ⊎ (s ≢ [])
default_or_named [] = inl refl
default_or_named (b ∷ bs) = inr apart where
  apart : b ∷ bs ≡ [] → ⊥
  apart is = cc

path_first : (es : List Elem) (bytes more : List ℕ) → 3 ∷ bytes ≡ path_bytes es ++ more → ⊥
path_first [] bytes more is = cc
path_first (e ∷ es) bytes more is = cc

pub no_key_named : (bytes : List ℕ) → NoneBegins IsNamedKey key_bytes (0x03 ∷ bytes) → NoneBegins IsLawfulKey key_bytes (0x03 ∷ bytes)
no_key_named bytes none k more p is = elim (default_or_named k.namespace) [
  | inl default ↦ path_first k.elems bytes more (is ∙ ap (λ (xs : List ℕ). xs ++ more) (default_bytes k default))
  | inr named ↦ none k more (record { lawful = p; named = named }) is
]

pub no_key_default : (bytes : List ℕ) (tag : ℕ) → (tag ≢ 0x03) → NoneBegins IsDefaultKey key_bytes (tag ∷ bytes) → NoneBegins IsLawfulKey key_bytes (tag ∷ bytes)
no_key_default bytes tag not_named none k more p is = elim (default_or_named k.namespace) [
  | inl default ↦ none k more (record { lawful = p; default = default }) is
  | inr named ↦ not_named (first (is ∙ append_assoc (namespace_bytes k.namespace) (path_bytes k.elems) more ∙ ap (λ (xs : List ℕ). xs ++ (path_bytes k.elems ++ more)) (named_bytes k.namespace named)))
] where
  first : tag ∷ bytes ≡ 3 ∷ (escaped k.namespace ++ (path_bytes k.elems ++ more)) → tag ≡ 3
  first is = cc

pub no_key_at_end : (bytes : List ℕ) → bytes ≡ [] → NoneBegins IsLawfulKey key_bytes bytes
no_key_at_end bytes ended k more p is = elim (default_or_named k.namespace) [
  | inl default ↦ no_path k.elems (sym ended ∙ is ∙ ap (λ (xs : List ℕ). xs ++ more) (default_bytes k default))
  | inr named ↦ apart (sym ended ∙ is ∙ append_assoc (namespace_bytes k.namespace) (path_bytes k.elems) more ∙ ap (λ (xs : List ℕ). xs ++ (path_bytes k.elems ++ more)) (named_bytes k.namespace named))
] where
  no_path : (es : List Elem) → [] ≡ path_bytes es ++ more → ⊥
  no_path [] is = cc
  no_path (e ∷ es) is = cc

  apart : [] ≡ 3 ∷ (escaped k.namespace ++ (path_bytes k.elems ++ more)) → ⊥
  apart is = cc

-- a text that isn't empty
pub not_empty : (s t : List ℕ) → t ≡ s → false ≡ (length t == 0) → (s ≢ [])
not_empty s t is test empty = apart (test ∙ ap (λ (xs : List ℕ). length xs == 0) (is ∙ empty)) where
  apart : false ≡ true → ⊥
  apart e = cc

-- what a reader of keys outside the default namespace found, as a reader of keys
pub named_reads : {E : Type 0} (bytes whole : List ℕ) (r : Result (Option (KeyParts × ℕ)) E) → whole ≡ 0x03 ∷ bytes → ReadsFront IsNamedKey key_bytes (0x03 ∷ bytes) r → ReadsFront IsLawfulKey key_bytes whole r
named_reads {E = E} bytes whole r is reads = subst (λ bs. ReadsFront {E = E} IsLawfulKey key_bytes bs r) (sym is) (by r reads) where
  by : (r : Result (Option (KeyParts × ℕ)) E) → ReadsFront IsNamedKey key_bytes (0x03 ∷ bytes) r → ReadsFront IsLawfulKey key_bytes (0x03 ∷ bytes) r
  by (Ok None) none = no_key_named bytes none
  by (Ok (Some x)) found = record { begins = found.begins; lawful = found.lawful.lawful }
  by (Err e) reads = tt
