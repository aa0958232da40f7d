-- What begins with an encoding is read as its value, and as nothing else.
use Rattle.std.specs.Prelude.{◌≡◌, ℕ, Bool, List, ◌++◌, length, drop}
use Rattle.std.proofs.Common.{ap, sym, ◌∙◌}
use Rattle.ds_base.specs.declared.index_value.IndexValue.{IndexValue}
use Rattle.ds_base.specs.Keys.{KeyParts}
use Rattle.ds_bytes.specs.Encoding.{encoding, key_encoding}
use Rattle.ds_bytes.specs.Lawful.{IsValueOfBytes, IsKeyOfBytes}
use Rattle.ds_bytes.specs.Reading.{Begins}
use Rattle.ds_bytes.specs.EncodingLaws.{encoding-reads_once, key_encoding-reads_once}

-- a value that was read at the front of bytes that begin with the encoding of w is w, and takes that encoding's bytes
pub value_read : (descending : Bool) (bytes more : List ℕ) (v w : IndexValue) (taken : ℕ) → IsValueOfBytes v → IsValueOfBytes w
    → Begins (encoding descending) bytes v taken → bytes ≡ encoding descending w ++ more
    → (v ≡ w) × (taken ≡ length (encoding descending w))
value_read descending bytes more v w taken p q begins is =
    let once = encoding-reads_once descending v w (drop taken bytes) more p q (sym begins.front ∙ is) in
    (once.0, begins.long ∙ ap (λ x. length (encoding descending x)) once.0)

-- the same of a key
pub key_read : (descending : Bool) (bytes more : List ℕ) (k l : KeyParts) (taken : ℕ) → IsKeyOfBytes k → IsKeyOfBytes l
    → Begins (key_encoding descending) bytes k taken → bytes ≡ key_encoding descending l ++ more
    → (k ≡ l) × (taken ≡ length (key_encoding descending l))
key_read descending bytes more k l taken p q begins is =
    let once = key_encoding-reads_once descending k l (drop taken bytes) more p q (sym begins.front ∙ is) in
    (once.0, begins.long ∙ ap (λ x. length (key_encoding descending x)) once.0)
