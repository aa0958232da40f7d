-- The versions of all blocks, and the spacing of blocks, where a block changes.
use Rattle.std.proofs.Common.{◌≡◌, ℕ, zero, suc, ◌+◌, ◌*◌, ◌/◌, ◌<◌, ◌≤◌, List, [], ◌∷◌, ◌++◌, length, take, drop, get_or, refl, ap, sym}
use Rattle.std.proofs.Common.{◌∙◌, arith, append_assoc, add-one}
use Rattle.std.proofs.Math.ListN.{set, length-set}
use Rattle.std.proofs.lemmas.List.{length-append, append-nil, length-take, length-drop, get_or-set_same, get_or-set_other}
use Rattle.std.specs.Prelude.{Option, Some, None, option_to_list}
use Rattle.std.specs.List.{cons_option, insert}
use Rattle.std.proofs.lemmas.List.Elements.{filter_map-append}
use Rattle.std.specs.List.{AllByRecursion as Each}
use Rattle.ds_table.specs.declared.change.Change.{Change}
use Rattle.ds_table.specs.Changes.{kept, changed}
use Rattle.ds_table.specs.Versions.{RowVersion}
use Rattle.ds_table.specs.Blocks.{joined, IsSpaced, IsCut, IsFit}
use Rattle.ds_table.proofs.Lives.{map_fewer}

pub joined_at : (bs : List (List RowVersion)) (i : ℕ) → i < length bs → joined bs ≡ joined (take i bs) ++ (get_or bs i [] ++ joined (drop (suc i) bs))
joined_at [] i h = absurd (omega (arith, h))
joined_at (b ∷ bs) zero h = refl
joined_at (b ∷ bs) (suc i) h = ap (λ l. b ++ l) (joined_at bs i (omega (arith, h))) ∙ sym (append_assoc b (joined (take i bs)) (get_or bs i [] ++ joined (drop (suc i) bs)))

pub joined_set : (bs : List (List RowVersion)) (i : ℕ) (c : List RowVersion) → i < length bs → joined (set bs i c) ≡ joined (take i bs) ++ (c ++ joined (drop (suc i) bs))
joined_set [] i c h = absurd (omega (arith, h))
joined_set (b ∷ bs) zero c h = refl
joined_set (b ∷ bs) (suc i) c h = ap (λ l. b ++ l) (joined_set bs i c (omega (arith, h))) ∙ sym (append_assoc b (joined (take i bs)) (c ++ joined (drop (suc i) bs)))

-- a block that grows keeps the spacing
pub spaced_longer : (bs : List (List RowVersion)) (i : ℕ) (c : List RowVersion) → IsSpaced bs → length (get_or bs i []) ≤ length c → IsSpaced (set bs i c)
spaced_longer [] i c h l = tt
spaced_longer (b ∷ []) zero c h l = tt
spaced_longer (b ∷ []) (suc i) c h l = tt
spaced_longer (b ∷ d ∷ bs) zero c h l = ((omega (arith, l, h.0.0), h.0.1, omega (arith, l, h.0.2)), h.1)
spaced_longer (b ∷ d ∷ bs) (suc zero) c h l = ((h.0.0, omega (arith, l, h.0.1), omega (arith, l, h.0.2)), spaced_longer (d ∷ bs) zero c h.1 l)
spaced_longer (b ∷ d ∷ bs) (suc (suc i)) c h l = (h.0, spaced_longer (d ∷ bs) (suc i) c h.1 l)

pub filled_set : (bs : List (List RowVersion)) (i : ℕ) (c : List RowVersion) → Each (λ b. 0 < length b) bs → 0 < length c → Each (λ b. 0 < length b) (set bs i c)
filled_set [] i c h l = tt
filled_set (b ∷ bs) zero c h l = (l, h.1)
filled_set (b ∷ bs) (suc i) c h l = (h.0, filled_set bs i c h.1 l)

-- a block split into two
pub spaced_split : (bs : List (List RowVersion)) (i : ℕ) (b₁ b₂ : List RowVersion) → IsSpaced bs → i < length bs → 0 < length b₁ → 0 < length b₂
    → 128 ≤ length b₁ + length b₂ → ((j : ℕ) → i ≡ suc j → 128 ≤ length (get_or bs j []) + length b₁)
    → (suc i < length bs → 128 ≤ length b₂ + length (get_or bs (suc i) [])) → IsSpaced (take i bs ++ b₁ ∷ b₂ ∷ drop (suc i) bs)
spaced_split [] i b₁ b₂ h l m n s p q = absurd (omega (arith, l))
spaced_split (b ∷ []) zero b₁ b₂ h l m n s p q = ((m, n, s), tt)
spaced_split (b ∷ d ∷ bs) zero b₁ b₂ h l m n s p q = ((m, n, s), ((n, h.0.1, q (omega arith)), h.1))
spaced_split (b ∷ []) (suc i) b₁ b₂ h l m n s p q = absurd (omega (arith, l))
spaced_split (b ∷ d ∷ bs) (suc zero) b₁ b₂ h l m n s p q =
    ((h.0.0, m, p 0 refl), spaced_split (d ∷ bs) zero b₁ b₂ h.1 (omega (arith, l)) m n s (λ j e. absurd (omega (arith, e))) (λ k. q (omega (arith, k))))
spaced_split (b ∷ d ∷ bs) (suc (suc i)) b₁ b₂ h l m n s p q =
    (h.0, spaced_split (d ∷ bs) (suc i) b₁ b₂ h.1 (omega (arith, l)) m n s (λ j e. p (suc j) (ap suc e)) (λ k. q (omega (arith, k))))

-- what a cut leaves is spaced
pub spaced_cut : (bs : List (List RowVersion)) (i cut : ℕ) → IsSpaced bs → i < length bs → IsCut bs i cut → 256 ≤ length (get_or bs i [])
    → IsSpaced (take i bs ++ take cut (get_or bs i []) ∷ drop cut (get_or bs i []) ∷ drop (suc i) bs)
spaced_cut bs i cut h l z full =
    let b = get_or bs i [] in
    let m : length (take cut b) ≡ cut = length-take cut b ∙ omega (arith, z.not_all, full) in
    let n : length (drop cut b) + cut ≡ length b = rw length-drop (omega (arith, z.not_all, full)) in
    spaced_split bs i (take cut b) (drop cut b) h l
    (omega (arith, m, z.some)) (omega (arith, n, z.not_all, full)) (omega (arith, m, n, full))
    (λ j e. omega (arith, m, z.before j (omega (arith, e))))
    (λ k. omega (arith, n, full, rw add-one at (z.after (omega (arith, k)))))

pub joined_split : (bs : List (List RowVersion)) (i : ℕ) (b₁ b₂ : List RowVersion) → i < length bs → b₁ ++ b₂ ≡ get_or bs i [] → joined (take i bs ++ b₁ ∷ b₂ ∷ drop (suc i) bs) ≡ joined bs
joined_split [] i b₁ b₂ h e = absurd (omega (arith, h))
joined_split (b ∷ bs) zero b₁ b₂ h e = sym (append_assoc b₁ b₂ (joined bs)) ∙ ap (λ l. l ++ joined bs) e
joined_split (b ∷ bs) (suc i) b₁ b₂ h e = ap (λ l. b ++ l) (joined_split bs i b₁ b₂ (omega (arith, h)) e)

pub filled_split : (bs : List (List RowVersion)) (i : ℕ) (b₁ b₂ : List RowVersion) → Each (λ b. 0 < length b) bs → 0 < length b₁ → 0 < length b₂
    → Each (λ b. 0 < length b) (take i bs ++ b₁ ∷ b₂ ∷ drop (suc i) bs)
filled_split [] zero b₁ b₂ h m n = (m, (n, tt))
filled_split [] (suc i) b₁ b₂ h m n = (m, (n, tt))
filled_split (b ∷ bs) zero b₁ b₂ h m n = (m, (n, h.1))
filled_split (b ∷ bs) (suc i) b₁ b₂ h m n = (h.0, filled_split bs i b₁ b₂ h.1 m n)

-- with n versions there are at most n / 64 + 1 blocks
few : (bs : List (List RowVersion)) → IsSpaced bs → Each (λ b. 0 < length b) bs → 64 * length bs ≤ length (joined bs) + 64
few [] s f = omega arith
few (b ∷ []) s f = simp length-append (omega arith)
few (b ∷ d ∷ bs) s f =
    let i = few bs (behind bs s.1) f.1.1 in
    simp length-append (omega (arith, i, s.0.2))
  where
    behind : (cs : List (List RowVersion)) → IsSpaced (d ∷ cs) → IsSpaced cs
    behind [] h = tt
    behind (c ∷ cs) h = h.1

pub few_blocks : (bs : List (List RowVersion)) → IsSpaced bs → Each (λ b. 0 < length b) bs → length bs ≤ length (joined bs) / 64 + 1
few_blocks bs s f = let h = few bs s f in omega (arith, h)

-- one block joined with the one behind it
pub joined_next : (bs : List (List RowVersion)) (i : ℕ) → suc i < length bs → joined (set (take (suc i) bs ++ drop (suc (suc i)) bs) i (get_or bs i [] ++ get_or bs (suc i) [])) ≡ joined bs
joined_next [] i h = absurd (omega (arith, h))
joined_next (b ∷ []) i h = absurd (omega (arith, h))
joined_next (b ∷ d ∷ bs) zero h = append_assoc b d (joined bs)
joined_next (b ∷ d ∷ bs) (suc i) h = ap (λ l. b ++ l) (joined_next (d ∷ bs) i (omega (arith, h)))

-- the first blocks are spaced, up to block i
pub spaced_on : (bs : List (List RowVersion)) (i : ℕ) → suc i < length bs → IsSpaced (take (suc i) bs) → 0 < length (get_or bs i []) → 0 < length (get_or bs (suc i) []) → 128 ≤ length (get_or bs i []) + length (get_or bs (suc i) [])
    → IsSpaced (take (suc (suc i)) bs)
spaced_on [] i h s x y z = absurd (omega (arith, h))
spaced_on (b ∷ []) i h s x y z = absurd (omega (arith, h))
spaced_on (b ∷ d ∷ bs) zero h s x y z = ((x, y, z), tt)
spaced_on (b ∷ d ∷ bs) (suc i) h s x y z = (s.0, spaced_on (d ∷ bs) i (omega (arith, h)) s.1 x y z)

pub spaced_next : (bs : List (List RowVersion)) (i : ℕ) (c : List RowVersion) → suc i < length bs → IsSpaced (take (suc i) bs) → length (get_or bs i []) ≤ length c
    → IsSpaced (take (suc i) (set (take (suc i) bs ++ drop (suc (suc i)) bs) i c))
spaced_next [] i c h s l = absurd (omega (arith, h))
spaced_next (b ∷ []) i c h s l = absurd (omega (arith, h))
spaced_next (b ∷ d ∷ bs) zero c h s l = tt
spaced_next (b ∷ d ∷ []) (suc i) c h s l = absurd (omega (arith, h))
spaced_next (b ∷ d ∷ e ∷ bs) (suc zero) c h s l = ((s.0.0, omega (arith, s.0.1, l), omega (arith, s.0.2, l)), tt)
spaced_next (b ∷ d ∷ e ∷ bs) (suc (suc i)) c h s l = (s.0, spaced_next (d ∷ e ∷ bs) (suc i) c (omega (arith, h)) s.1 l)

-- of two and more spaced blocks none is empty
pub spaced_filled : (b d : List RowVersion) (bs : List (List RowVersion)) → IsSpaced (b ∷ d ∷ bs) → Each (λ c. 0 < length c) (b ∷ d ∷ bs)
spaced_filled b d [] h = (h.0.0, (h.0.1, tt))
spaced_filled b d (e ∷ bs) h = (h.0.0, spaced_filled d e bs h.1)

pub joined_parts : (bs : List (List RowVersion)) (i : ℕ) → joined (take i bs) ++ joined (drop i bs) ≡ joined bs
joined_parts bs zero = refl
joined_parts [] (suc i) = refl
joined_parts (b ∷ bs) (suc i) = append_assoc b (joined (take i bs)) (joined (drop i bs)) ∙ ap (λ l. b ++ l) (joined_parts bs i)

pub joined_drop_at : (bs : List (List RowVersion)) (i : ℕ) → i < length bs → joined (drop i bs) ≡ get_or bs i [] ++ joined (drop (suc i) bs)
joined_drop_at [] i h = absurd (omega (arith, h))
joined_drop_at (b ∷ bs) zero h = refl
joined_drop_at (b ∷ bs) (suc i) h = joined_drop_at bs i (omega (arith, h))

-- ---- a change of all versions

pub change_step : (change : Change) (vs : List RowVersion) (i : ℕ) (d : RowVersion) → i < length vs
    → (let s = take (suc i) vs ++ changed change (drop (suc i) vs) in take i s ++ (option_to_list (kept change (get_or s i d)) ++ drop (suc i) s)) ≡ take i vs ++ changed change (drop i vs)
change_step change [] i d h = absurd (omega (arith, h))
change_step change (v ∷ vs) zero d h = by (kept change v) refl
  where
    by : (o : Option RowVersion) → o ≡ kept change v → option_to_list (kept change v) ++ changed change vs ≡ cons_option (kept change v) (changed change vs)
    by None e = rw (← e) refl
    by (Some x) e = rw (← e) refl
change_step change (v ∷ vs) (suc i) d h = ap (λ l. v ∷ l) (change_step change vs i d (omega (arith, h)))

pub set_parts : {X : Type 0} (xs : List X) (i : ℕ) (x : X) → i < length xs → set xs i x ≡ take i xs ++ (x ∷ drop (suc i) xs)
set_parts [] i x h = absurd (omega (arith, h))
set_parts (y ∷ xs) zero x h = refl
set_parts (y ∷ xs) (suc i) x h = ap (λ l. y ∷ l) (set_parts xs i x (omega (arith, h)))

pub changed_joined : (change : Change) (xs ys : List RowVersion) → changed change (xs ++ ys) ≡ changed change xs ++ changed change ys
changed_joined change xs ys = filter_map-append (kept change) xs ys

-- one more block is changed
pub change_next : (change : Change) (bs : List (List RowVersion)) (i : ℕ) → i < length bs
    → (let s = set bs i (changed change (get_or bs i [])) in joined (take (suc i) s) ++ changed change (joined (drop (suc i) s))) ≡ joined (take i bs) ++ changed change (joined (drop i bs))
change_next change [] i h = absurd (omega (arith, h))
change_next change (b ∷ bs) zero h = ap (λ l. l ++ changed change (joined bs)) (append-nil (changed change b)) ∙ sym (changed_joined change b (joined bs))
change_next change (b ∷ bs) (suc i) h =
    append_assoc b (joined (take (suc i) (set bs i (changed change (get_or bs i []))))) (changed change (joined (drop (suc i) (set bs i (changed change (get_or bs i []))))))
    ∙ ap (λ l. b ++ l) (change_next change bs i (omega (arith, h)))
    ∙ sym (append_assoc b (joined (take i bs)) (changed change (joined (drop i bs))))

-- the first blocks after one more was changed
pub joined_set_next : (bs : List (List RowVersion)) (i : ℕ) (c : List RowVersion) → i < length bs → joined (take (suc i) (set bs i c)) ≡ joined (take i bs) ++ c
joined_set_next [] i c h = absurd (omega (arith, h))
joined_set_next (b ∷ bs) zero c h = append-nil c
joined_set_next (b ∷ bs) (suc i) c h = ap (λ l. b ++ l) (joined_set_next bs i c (omega (arith, h))) ∙ sym (append_assoc b (joined (take i bs)) c)

-- they have no more versions than there were
pub changed_fewer : (change : Change) (bs : List (List RowVersion)) (i : ℕ) (vs : List RowVersion) → i < length bs
    → joined (take i bs) ++ changed change (joined (drop i bs)) ≡ changed change vs → length (joined (take i bs)) + length (changed change (get_or bs i [])) ≤ length vs
changed_fewer change bs i vs l h =
    let c = changed change (get_or bs i []) in
    let s = set bs i c in
    let e : length (joined (take (suc i) s) ++ changed change (joined (drop (suc i) s))) ≡ length (changed change vs) = ap length (change_next change bs i l ∙ h) in
    let f : length (joined (take (suc i) s)) ≡ length (joined (take i bs) ++ c) = ap length (joined_set_next bs i c l) in
    omega (arith, e, f, length-append (joined (take (suc i) s)) (changed change (joined (drop (suc i) s))), length-append (joined (take i bs)) c, map_fewer (kept change) vs)

-- one block has other versions
pub spaced_set : (bs : List (List RowVersion)) (i : ℕ) (c : List RowVersion) → IsSpaced bs → (0 < length (get_or bs i []) → 0 < length c)
    → ((j : ℕ) → i ≡ suc j → 128 ≤ length (get_or bs j []) + length (get_or bs i []) → 128 ≤ length (get_or bs j []) + length c)
    → (suc i < length bs → 128 ≤ length (get_or bs i []) + length (get_or bs (suc i) []) → 128 ≤ length c + length (get_or bs (suc i) []))
    → IsSpaced (set bs i c)
spaced_set [] i c h m p q = tt
spaced_set (b ∷ []) zero c h m p q = tt
spaced_set (b ∷ []) (suc i) c h m p q = tt
spaced_set (b ∷ d ∷ bs) zero c h m p q = ((m h.0.0, h.0.1, q (omega arith) h.0.2), h.1)
spaced_set (b ∷ d ∷ bs) (suc zero) c h m p q =
    ((h.0.0, m h.0.1, p 0 refl h.0.2), spaced_set (d ∷ bs) zero c h.1 m (λ j e. absurd (omega (arith, e))) (λ k. q (omega (arith, k))))
spaced_set (b ∷ d ∷ bs) (suc (suc i)) c h m p q =
    (h.0, spaced_set (d ∷ bs) (suc i) c h.1 m (λ j e. p (suc j) (ap suc e)) (λ k. q (omega (arith, k))))

-- it stays spaced where what was enough is enough
pub spaced_fit : (bs : List (List RowVersion)) (i : ℕ) (c : List RowVersion) → i < length bs → IsFit (length (get_or bs i [])) (set bs i c) i → IsSpaced bs
    → IsSpaced (set bs i c)
spaced_fit bs i c l z h =
    let new : length (get_or (set bs i c) i []) ≡ length c = ap length (get_or-set_same bs i c [] l) in
    spaced_set bs i c h
    (λ k. omega (arith, new, z.some k))
    (λ j e k.
    let o : length (get_or (set bs i c) j []) ≡ length (get_or bs j []) = ap length (get_or-set_other bs i j c [] (λ q. omega (arith, e, q))) in
    omega (arith, new, o, z.before j (omega (arith, e)) (omega (arith, k, o))))
    (λ n k.
    let m : length (get_or (set bs i c) (i + 1) []) ≡ length (get_or bs (suc i) []) = rw add-one (ap length (get_or-set_other bs i (suc i) c [] (λ q. omega (arith, q)))) in
    omega (arith, new, m, z.behind (omega (arith, n, length-set bs i c)) (omega (arith, k, m))))

-- the only block has versions
pub one_filled : (bs : List (List RowVersion)) (b : List RowVersion) → length bs ≡ 1 → b ≡ get_or bs 0 b → 0 < length b → Each (λ c. 0 < length c) bs
one_filled [] b n e l = tt
one_filled (a ∷ []) b n e l = (omega (arith, ap length e, l), tt)
one_filled (a ∷ d ∷ bs) b n e l = absurd (omega (arith, n))

pub filled_unless_one : (bs : List (List RowVersion)) → IsSpaced bs → (length bs ≡ 1 → ⊥) → Each (λ c. 0 < length c) bs
filled_unless_one [] s n = tt
filled_unless_one (b ∷ []) s n = absurd (n refl)
filled_unless_one (b ∷ d ∷ bs) s n = spaced_filled b d bs s

pub none_joined : (bs : List (List RowVersion)) (b : List RowVersion) → length bs ≡ 1 → b ≡ get_or bs 0 b → length b ≡ 0 → [] ≡ joined bs
none_joined [] b n e z = absurd (omega (arith, n))
none_joined (a ∷ []) b n e z = nil a (omega (arith, ap length e, z))
  where
    nil : (xs : List RowVersion) → length xs ≡ 0 → [] ≡ xs ++ []
    nil [] h = refl
    nil (x ∷ xs) h = absurd (omega (arith, h))
none_joined (a ∷ d ∷ bs) b n e z = absurd (omega (arith, n))

pub at_removed : (bs : List (List RowVersion)) (j : ℕ) → suc j < length bs → get_or (take (suc j) bs ++ drop (suc (suc j)) bs) j [] ≡ get_or bs j []
at_removed [] j h = absurd (omega (arith, h))
at_removed (a ∷ bs) zero h = refl
at_removed (a ∷ bs) (suc j) h = at_removed bs j (omega (arith, h))

pub long_removed : (bs : List (List RowVersion)) (i : ℕ) → i < length bs → suc (length (take i bs ++ drop (suc i) bs)) ≡ length bs
long_removed [] i h = absurd (omega (arith, h))
long_removed (b ∷ bs) zero h = refl
long_removed (b ∷ bs) (suc i) h = ap suc (long_removed bs i (omega (arith, h)))

pub long_insert : {X : Type 0} (vs : List X) (p : ℕ) (v : X) → p ≤ length vs → length (insert vs p v) ≡ suc (length vs)
long_insert vs zero v h = refl
long_insert [] (suc p) v h = absurd (omega (arith, h))
long_insert (w ∷ vs) (suc p) v h = ap suc (long_insert vs p v (omega (arith, h)))
