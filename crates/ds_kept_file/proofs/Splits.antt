-- Bytes are taken apart in one way alone: at the first newline, and behind a length.
use Rattle.std.proofs.Common.{◌≡◌, ℕ, zero, suc, ◌+◌, ◌-◌, ◌<◌, ◌≤◌, ◌^◌, ◌==◌, get_or, List, [], ◌∷◌, ◌++◌, length, take, drop, true, false, refl, sym, ap, ap₂, ◌∙◌, subst}
use Rattle.std.proofs.Common.{append_assoc, length-append, length-drop, take-append-drop, arith}
use Rattle.std.specs.Int.{w64, to_be_bytes, from_be_bytes}
use Rattle.std.proofs.lemmas.Bool.Decides.{nat_tests}
use Rattle.std.proofs.lemmas.List.{take_at, drop_at, take_all, length-take-le}
use Rattle.std.proofs.lemmas.Nat.{be_bytes_8, from_be_bytes-to_be_bytes_8}
use Rattle.ds_rounds.specs.Drafts.{IsUnbroken}
use Rattle.ds_kept_file.specs.Files.{sized, opened, is_open}

-- ---- the first newline

not_newline : (b : ℕ) (x y : List ℕ) → (b == 10) ≡ false → 10 ∷ x ≡ b ∷ y → ⊥
not_newline b x y h e =
    let same : 10 ≡ b = cc e in
    let both : true ≡ false = ap (λ n. n == 10) same ∙ h in cc both

pub split_alone : (a x b y : List ℕ) → IsUnbroken a → IsUnbroken b → a ++ 10 ∷ x ≡ b ++ 10 ∷ y → (a ≡ b) × (x ≡ y)
split_alone [] x [] y ha hb e = (refl, cc e)
split_alone [] x (b ∷ bs) y ha hb e = absurd (not_newline b x (bs ++ 10 ∷ y) hb.0 e)
split_alone (a ∷ cs) x [] y ha hb e = absurd (not_newline a y (cs ++ 10 ∷ x) ha.0 (sym e))
split_alone (a ∷ cs) x (b ∷ bs) y ha hb e =
    let first : a ≡ b = cc e in
    let others = split_alone cs x bs y ha.1 hb.1 (cc e) in
    (ap₂ (λ d (ds : List ℕ). d ∷ ds) first others.0, others.1)

broken : (a x : List ℕ) → IsUnbroken (a ++ 10 ∷ x) → ⊥
broken [] x h = let both : true ≡ false = h.0 in cc both
broken (b ∷ a) x h = broken a x h.1

pub no_newline : (text a x : List ℕ) → IsUnbroken text → text ≡ a ++ 10 ∷ x → ⊥
no_newline text a x h e = broken a x (subst IsUnbroken e h)

-- ---- a length

pub parts_alone : (a x b y : List ℕ) → length a ≡ length b → a ++ x ≡ b ++ y → (a ≡ b) × (x ≡ y)
parts_alone a x b y same e = (
  sym (take_at a x (length b) same) ∙ ap (take (length b)) e ∙ take_at b y (length b) refl,
  sym (drop_at a x (length b) same) ∙ ap (drop (length b)) e ∙ drop_at b y (length b) refl,
)

pub sized_alone : (a x b y : List ℕ) → length a < 2 ^ 64 → length b < 2 ^ 64 → sized a ++ x ≡ sized b ++ y → (a ≡ b) × (x ≡ y)
sized_alone a x b y small_a small_b e =
    let front = parts_alone (to_be_bytes w64 (length a)) (a ++ x) (to_be_bytes w64 (length b)) (b ++ y) refl
    (sym (append_assoc (to_be_bytes w64 (length a)) a x) ∙ e ∙ append_assoc (to_be_bytes w64 (length b)) b y) in
    let same : length a ≡ length b = sym (from_be_bytes-to_be_bytes_8 (length a) small_a) ∙ ap (from_be_bytes w64) front.0
    ∙ from_be_bytes-to_be_bytes_8 (length b) small_b in
    parts_alone a x b y same front.1

pub length-opened : (body : List ℕ) → length (opened body) ≡ length body + 9
length-opened body = omega (arith, length-append (to_be_bytes w64 (length body)) body)

pub opened_alone : (bytes a x b y : List ℕ) → length bytes < 2 ^ 64 → bytes ≡ opened a ++ x → bytes ≡ opened b ++ y → (a ≡ b) × (x ≡ y)
opened_alone bytes a x b y small ea eb =
    let long_a : length bytes ≡ length a + 9 + length x = ap (λ (l : List ℕ). length l) ea ∙ omega (arith, length-append (opened a) x, length-opened a) in
    let long_b : length bytes ≡ length b + 9 + length y = ap (λ (l : List ℕ). length l) eb ∙ omega (arith, length-append (opened b) y, length-opened b) in
    let e : opened a ++ x ≡ opened b ++ y = sym ea ∙ eb in
    sized_alone a x b y (omega (arith, long_a)) (omega (arith, long_b)) (cc e)

-- ---- a batch that was split off

gate_is : (gate : ℕ) → (gate == 1) ≡ true → gate ≡ 1
gate_is gate h = grind (arith, nat_tests)

eight_small : (a b c d e f g h : ℕ) → a < 256 → b < 256 → c < 256 → d < 256 → e < 256 → f < 256 → g < 256 → h < 256
    → (i : ℕ) → get_or (a ∷ b ∷ c ∷ d ∷ e ∷ f ∷ g ∷ h ∷ []) i 0 < 256
eight_small a b c d e f g h ha hb hc hd he hf hg hh zero = ha
eight_small a b c d e f g h ha hb hc hd he hf hg hh (suc zero) = hb
eight_small a b c d e f g h ha hb hc hd he hf hg hh (suc (suc zero)) = hc
eight_small a b c d e f g h ha hb hc hd he hf hg hh (suc (suc (suc zero))) = hd
eight_small a b c d e f g h ha hb hc hd he hf hg hh (suc (suc (suc (suc zero)))) = he
eight_small a b c d e f g h ha hb hc hd he hf hg hh (suc (suc (suc (suc (suc zero))))) = hf
eight_small a b c d e f g h ha hb hc hd he hf hg hh (suc (suc (suc (suc (suc (suc zero)))))) = hg
eight_small a b c d e f g h ha hb hc hd he hf hg hh (suc (suc (suc (suc (suc (suc (suc zero))))))) = hh
eight_small a b c d e f g h ha hb hc hd he hf hg hh (suc (suc (suc (suc (suc (suc (suc (suc i)))))))) = omega arith

-- a gate that is open, a size, and more bytes than it says
split_parts : (gate a b c d e f g h : ℕ) (rest : List ℕ) (size : ℕ) → (gate == 1) ≡ true → ((i : ℕ) → get_or (a ∷ b ∷ c ∷ d ∷ e ∷ f ∷ g ∷ h ∷ []) i 0 < 256)
    → size ≡ from_be_bytes w64 (a ∷ b ∷ c ∷ d ∷ e ∷ f ∷ g ∷ h ∷ []) → size < length rest
    → gate ∷ a ∷ b ∷ c ∷ d ∷ e ∷ f ∷ g ∷ h ∷ rest ≡ opened (take size rest) ++ drop size rest
split_parts gate a b c d e f g h rest size is small number more =
    let long : length (take size rest) ≡ size = length-take-le size rest (omega arith) in
    let eight : to_be_bytes w64 (length (take size rest)) ≡ a ∷ b ∷ c ∷ d ∷ e ∷ f ∷ g ∷ h ∷ [] =
    ap (to_be_bytes w64) long ∙ be_bytes_8 (a ∷ b ∷ c ∷ d ∷ e ∷ f ∷ g ∷ h ∷ []) size refl small number in
    ap (λ n. n ∷ a ∷ b ∷ c ∷ d ∷ e ∷ f ∷ g ∷ h ∷ rest) (gate_is gate is)
    ∙ ap (λ (l : List ℕ). 1 ∷ a ∷ b ∷ c ∷ d ∷ e ∷ f ∷ g ∷ h ∷ l) (sym (take-append-drop size rest))
    ∙ ap (λ (l : List ℕ). 1 ∷ (l ++ (take size rest ++ drop size rest))) (sym eight)
    ∙ ap (λ (l : List ℕ). 1 ∷ l) (sym (append_assoc (to_be_bytes w64 (length (take size rest))) (take size rest) (drop size rest)))

pub split_of : (bytes : List ℕ) (size : ℕ) → is_open bytes ≡ true → 9 ≤ length bytes → ((i : ℕ) → get_or bytes i 0 < 256)
    → size ≡ from_be_bytes w64 (get_or bytes 1 0 ∷ get_or bytes 2 0 ∷ get_or bytes 3 0 ∷ get_or bytes 4 0 ∷ get_or bytes 5 0 ∷ get_or bytes 6 0
    ∷ get_or bytes 7 0 ∷ get_or bytes 8 0 ∷ [])
    → size < length (take (length bytes - 9) (drop 9 bytes))
    → bytes ≡ opened (take size (take (length bytes - 9) (drop 9 bytes)))
    ++ take (length (take (length bytes - 9) (drop 9 bytes)) - size) (drop size (take (length bytes - 9) (drop 9 bytes)))
split_of (p ∷ a ∷ b ∷ c ∷ d ∷ e ∷ f ∷ g ∷ h ∷ tail) size is nine small number more =
    let rest = take (length (p ∷ a ∷ b ∷ c ∷ d ∷ e ∷ f ∷ g ∷ h ∷ tail) - 9) tail in
    let all : rest ≡ tail = take_all (length (p ∷ a ∷ b ∷ c ∷ d ∷ e ∷ f ∷ g ∷ h ∷ tail) - 9) tail (omega arith) in
    let behind : take (length rest - size) (drop size rest) ≡ drop size rest =
    take_all (length rest - size) (drop size rest) (omega (arith, length-drop size rest)) in
    ap (λ (l : List ℕ). p ∷ a ∷ b ∷ c ∷ d ∷ e ∷ f ∷ g ∷ h ∷ l) (sym all)
    ∙ split_parts p a b c d e f g h rest size is
    (eight_small a b c d e f g h (small 1) (small 2) (small 3) (small 4) (small 5) (small 6) (small 7) (small 8)) number more
    ∙ ap (λ (l : List ℕ). opened (take size rest) ++ l) (sym behind)
split_of _ size is nine small number more = absurd (omega (arith, nine))
