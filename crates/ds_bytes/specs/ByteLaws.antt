-- Encodings are bytes.
use Rattle.std.specs.Prelude.{ℕ, zero, suc, ◌/◌, ◌%◌, ◌^◌, ◌<◌, true, false, List, [], ◌∷◌, ◌++◌, flat_map, All}
use Rattle.std.proofs.Common.{arith}
use Rattle.std.proofs.lemmas.Nat.{mod_below}
use Rattle.std.proofs.lemmas.List.Elements.{All-nil, All-cons, All-append, All-head, All-tail}
use Rattle.ds_base.specs.declared.key.Ident.{Ident}
use Rattle.ds_base.specs.declared.key.Ident.TheVariants.{Id, Name}
use Rattle.ds_base.specs.declared.key.Elem.{Elem}
use Rattle.ds_base.specs.declared.index_value.IndexValue.{IndexValue}
use Rattle.ds_base.specs.declared.index_value.IndexValue.TheVariants as class
use Rattle.ds_base.specs.Keys.{KeyParts}
use Rattle.ds_bytes.specs.Encoding.{escaped_byte, escaped, eight_bytes, raised, ident_bytes, elem_bytes, path_bytes, namespace_bytes}
use Rattle.ds_bytes.specs.Encoding.{key_bytes, value_bytes}
use Rattle.ds_bytes.specs.Lawful.{IsIdentOfBytes, IsElemOfBytes, IsKeyOfBytes, IsValueOfBytes}
use Rattle.ds_base.specs.Bytes.{AreBytes}

one : (b : ℕ) (bs : List ℕ) → b < 256 → AreBytes bs → AreBytes (b ∷ bs)
one b bs p q = All-cons (λ b. b < 256) b bs p q

none : AreBytes []
none = All-nil (λ b. b < 256)

both : (s t : List ℕ) → AreBytes s → AreBytes t → AreBytes (s ++ t)
both s t p q = All-append (λ b. b < 256) s t p q

each : {X : Type 0} (P : X → Type 0) (f : X → List ℕ) → ((x : X) → P x → AreBytes (f x)) → (xs : List X) → All P xs
    → AreBytes (flat_map f xs)
each P f bytes [] all = none
each P f bytes (x ∷ xs) all = both (f x) (flat_map f xs) (bytes x (All-head P x xs all)) (each P f bytes xs (All-tail P x xs all))

escaped_byte-AreBytes : (b : ℕ) → b < 256 → AreBytes (escaped_byte b)
escaped_byte-AreBytes zero p = one 0 (255 ∷ []) (omega arith) (one 255 [] (omega arith) none)
escaped_byte-AreBytes (suc b) p = one (suc b) [] p none

pub escaped-AreBytes : (s : List ℕ) → AreBytes s → AreBytes (escaped s)
escaped-AreBytes s p = both (flat_map escaped_byte s) (0 ∷ 1 ∷ []) (each (λ b. b < 256) escaped_byte escaped_byte-AreBytes s p)
    (one 0 (1 ∷ []) (omega arith) (one 1 [] (omega arith) none))

low : (n : ℕ) (bs : List ℕ) → AreBytes bs → AreBytes (n % 256 ∷ bs)
low n bs p = one (n % 256) bs (mod_below n 256 (omega arith)) p

eight : (a b c d e f g h : ℕ) → AreBytes (a % 256 ∷ b % 256 ∷ c % 256 ∷ d % 256 ∷ e % 256 ∷ f % 256 ∷ g % 256 ∷ h % 256 ∷ [])
eight a b c d e f g h =
    let last_two = low g (h % 256 ∷ []) (low h [] none) in
    let last_four = low e (f % 256 ∷ g % 256 ∷ h % 256 ∷ []) (low f (g % 256 ∷ h % 256 ∷ []) last_two) in
    let last_six = low c (d % 256 ∷ e % 256 ∷ f % 256 ∷ g % 256 ∷ h % 256 ∷ [])
    (low d (e % 256 ∷ f % 256 ∷ g % 256 ∷ h % 256 ∷ []) last_four) in
    low a (b % 256 ∷ c % 256 ∷ d % 256 ∷ e % 256 ∷ f % 256 ∷ g % 256 ∷ h % 256 ∷ [])
    (low b (c % 256 ∷ d % 256 ∷ e % 256 ∷ f % 256 ∷ g % 256 ∷ h % 256 ∷ []) last_six)

pub eight_bytes-AreBytes : (n : ℕ) → AreBytes (eight_bytes n)
eight_bytes-AreBytes n = eight (n / 2 ^ 56) (n / 2 ^ 48) (n / 2 ^ 40) (n / 2 ^ 32) (n / 2 ^ 24) (n / 2 ^ 16) (n / 2 ^ 8) n

pub ident_bytes-AreBytes : (i : Ident) → IsIdentOfBytes i → AreBytes (ident_bytes i)
ident_bytes-AreBytes (Id n) p = one 16 (eight_bytes n) (omega arith) (eight_bytes-AreBytes n)
ident_bytes-AreBytes (Name s) p = one 32 (escaped s) (omega arith) (escaped-AreBytes s p)

pub elem_bytes-AreBytes : (e : Elem) → IsElemOfBytes e → AreBytes (elem_bytes e)
elem_bytes-AreBytes e p = both (2 ∷ escaped e.kind) (ident_bytes e.ident)
    (one 2 (escaped e.kind) (omega arith) (escaped-AreBytes e.kind p.kind)) (ident_bytes-AreBytes e.ident p.ident)

pub path_bytes-AreBytes : (es : List Elem) → All IsElemOfBytes es → AreBytes (path_bytes es)
path_bytes-AreBytes es p = both (flat_map elem_bytes es) (1 ∷ []) (each IsElemOfBytes elem_bytes elem_bytes-AreBytes es p)
    (one 1 [] (omega arith) none)

pub namespace_bytes-AreBytes : (s : List ℕ) → AreBytes s → AreBytes (namespace_bytes s)
namespace_bytes-AreBytes [] p = none
namespace_bytes-AreBytes (b ∷ bs) p = one 3 (escaped (b ∷ bs)) (omega arith) (escaped-AreBytes (b ∷ bs) p)

pub key_bytes-AreBytes : (k : KeyParts) → IsKeyOfBytes k → AreBytes (key_bytes k)
key_bytes-AreBytes k p = both (namespace_bytes k.namespace) (path_bytes k.elems) (namespace_bytes-AreBytes k.namespace p.namespace)
    (path_bytes-AreBytes k.elems p.elems)

pub value_bytes-AreBytes : (v : IndexValue) → IsValueOfBytes v → AreBytes (value_bytes v)
value_bytes-AreBytes class.Null p = one 16 [] (omega arith) none
value_bytes-AreBytes (class.Num n) p = one 32 (eight_bytes (raised n)) (omega arith) (eight_bytes-AreBytes (raised n))
value_bytes-AreBytes (class.Bool false) p = one 48 (0 ∷ []) (omega arith) (one 0 [] (omega arith) none)
value_bytes-AreBytes (class.Bool true) p = one 48 (1 ∷ []) (omega arith) (one 1 [] (omega arith) none)
value_bytes-AreBytes (class.Bytes s) p = one 64 (escaped s) (omega arith) (escaped-AreBytes s p)
value_bytes-AreBytes (class.Key k) p = one 80 (key_bytes k) (omega arith) (key_bytes-AreBytes k p)
