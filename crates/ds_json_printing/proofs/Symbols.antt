-- Base64, a piece at a time.
use Rattle.std.proofs.Common.{◌≡◌, ℕ, zero, suc, ◌+◌, ◌*◌, ◌/◌, Bool, false, replicate, ◌-◌, ◌%◌, ◌≤◌, ◌<◌, true, get_or, List, [], ◌∷◌}
use Rattle.std.proofs.Common.{◌++◌, length, take, drop, refl, ap, ◌∙◌, arith, append_assoc, append-nil}
use Rattle.std.proofs.lemmas.List.{take-append-drop, length-take-le, length-append, length-drop, take_at, take_all}
use Rattle.json.specs.Print.{escape_byte, escape}
use Rattle.std.specs.List.{list_all}
use Rattle.std.proofs.lemmas.List.Folds.{list_all_at}
use Rattle.ds_json_printing.proofs.Escapes.{is_plain, is_plain-escape, plain-append}
use Rattle.base64.specs.Rfc4648.{encode_symbols, padding_len}
use Rattle.base64.specs.Engines.{standard}
use Rattle.base64.specs.GeneralPurpose.{encode_of, engine_symbols}

encode_symbols-groups : (t xs ys : List ℕ) → length xs % 3 ≡ 0 → encode_symbols t (xs ++ ys) ≡ encode_symbols t xs ++ encode_symbols t ys
unfolding encode_symbols
encode_symbols-groups t [] ys h = refl
encode_symbols-groups t (a ∷ []) ys h = absurd (omega arith)
encode_symbols-groups t (a ∷ b ∷ []) ys h = absurd (omega arith)
encode_symbols-groups t (a ∷ b ∷ c ∷ rest) ys h =
    let r : length rest % 3 ≡ 0 = omega arith in
    rw (encode_symbols-groups t rest ys r, append_assoc) refl

-- whole groups of three bytes are encoded apart from what follows
pub encode_of-groups : (xs ys : List ℕ) → length xs % 3 ≡ 0 → encode_of standard xs ++ encode_of standard ys ≡ encode_of standard (xs ++ ys)
encode_of-groups xs ys h =
    let t = engine_symbols standard in
    let none : padding_len (length xs) ≡ 0 = omega arith in
    let same : padding_len (length (xs ++ ys)) ≡ padding_len (length ys) = omega (arith, length-append xs ys) in
    rw (none, same, append-nil, encode_symbols-groups t xs ys h, append_assoc) refl

split : (s : List ℕ) (n : ℕ) → n % 3 ≡ 0 → n ≤ length s
    → encode_of standard (take n s) ++ encode_of standard (drop n s) ≡ encode_of standard s
split s n h le =
    encode_of-groups (take n s) (drop n s) (rw (length-take-le n s le) h) ∙ ap (encode_of standard) (take-append-drop n s)

pub encoded-parts : (s : List ℕ) (n : ℕ) → n % 3 ≡ 0 → n ≤ length s
    → encode_of standard (take n s) ++ encode_of standard (take (length s - n) (drop n s)) ≡ encode_of standard s
encoded-parts s n h le =
    let all : take (length s - n) (drop n s) ≡ drop n s = take_all (length s - n) (drop n s) (omega (arith, length-drop n s)) in
    rw all (split s n h le)

-- what an encoding over a longer list put there
pub encoded-front : (a old new : List ℕ) (n : ℕ) → new ≡ a ++ drop n old → length new ≡ length old → n ≤ length old → take n new ≡ a
encoded-front a old new n e same fits =
    let len : length a ≡ n = omega (arith, ap length e, length-append a (drop n old), length-drop n old) in
    rw e (take_at a (drop n old) n len)

list_all-at : (p : ℕ → Bool) (xs : List ℕ) (i d : ℕ) → i < length xs → list_all p xs ≡ true → p (get_or xs i d) ≡ true
list_all-at p xs i d lt all = under (p (get_or xs i d)) refl where
  under : (b : Bool) → p (get_or xs i d) ≡ b → b ≡ true
  under true e = refl
  under false e = absurd (cc (list_all_at p xs i d lt e))

-- ---- the symbols stand for themselves in a string

table : List ℕ
table = engine_symbols standard

symbol-plain : (i : ℕ) → i < 64 → escape_byte (get_or table i 0) ≡ get_or table i 0 ∷ []
unfolding table
symbol-plain i lt = is_plain-escape (get_or table i 0) (list_all-at is_plain table i 0 lt refl)

-- symbols, one after another
plain-symbol : (i : ℕ) (s : List ℕ) → i < 64 → escape s ≡ s → escape (get_or table i 0 ∷ s) ≡ get_or table i 0 ∷ s
plain-symbol i s lt rest = rw (symbol-plain i lt, rest) refl

encode_symbols-plain : (s : List ℕ) → ((k : ℕ) → get_or s k 0 < 256) → escape (encode_symbols table s) ≡ encode_symbols table s
unfolding encode_symbols
encode_symbols-plain [] h = refl
encode_symbols-plain (a ∷ []) h =
    let x : a < 256 = h 0 in
    plain-symbol (a / 4) (get_or table (a % 4 * 16) 0 ∷ []) (omega arith) (plain-symbol (a % 4 * 16) [] (omega arith) refl)
encode_symbols-plain (a ∷ b ∷ []) h =
    let x : a < 256 = h 0 in
    let y : b < 256 = h 1 in
    plain-symbol (a / 4) (get_or table (a % 4 * 16 + b / 16) 0 ∷ get_or table (b % 16 * 4) 0 ∷ []) (omega arith)
    (plain-symbol (a % 4 * 16 + b / 16) (get_or table (b % 16 * 4) 0 ∷ []) (omega arith)
    (plain-symbol (b % 16 * 4) [] (omega arith) refl))
encode_symbols-plain (a ∷ b ∷ c ∷ rest) h =
    let x : a < 256 = h 0 in
    let y : b < 256 = h 1 in
    let z : c < 256 = h 2 in
    let more : List ℕ = encode_symbols table rest in
    plain-symbol (a / 4) (get_or table (a % 4 * 16 + b / 16) 0 ∷ get_or table (b % 16 * 4 + c / 64) 0 ∷ get_or table (c % 64) 0 ∷ more) (omega arith)
    (plain-symbol (a % 4 * 16 + b / 16) (get_or table (b % 16 * 4 + c / 64) 0 ∷ get_or table (c % 64) 0 ∷ more) (omega arith)
    (plain-symbol (b % 16 * 4 + c / 64) (get_or table (c % 64) 0 ∷ more) (omega arith)
    (plain-symbol (c % 64) more (omega arith) (encode_symbols-plain rest (λ k. h (suc (suc (suc k))))))))

padding-plain : (n : ℕ) → escape (replicate n 61) ≡ replicate n 61
unfolding escape_byte
padding-plain zero = refl
padding-plain (suc n) = ap (λ (l : List ℕ). 61 ∷ l) (padding-plain n)

pub encode_of-plain : (s : List ℕ) → ((k : ℕ) → get_or s k 0 < 256) → escape (encode_of standard s) ≡ encode_of standard s
unfolding table
encode_of-plain s h = plain-append (encode_symbols table s) (replicate (padding_len (length s)) 61) (encode_symbols-plain s h) (padding-plain (padding_len (length s)))
