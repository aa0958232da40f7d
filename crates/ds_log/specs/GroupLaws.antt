-- The groups of a commit are those of its writes, and no more in number.
use Rattle.std.specs.Prelude.{◌≡◌, ◌≤◌, List, [], ◌∷◌, Bool, true, false, ◌||◌, length, map, fold, refl}
use Rattle.std.proofs.Common.{suc, ◌+◌, sym, ap, ◌∙◌, arith}
use Rattle.std.specs.List.{list_any}
use Rattle.std.specs.Ordering.{match_ordering}
use Rattle.std.specs.declared.cmp.Ordering.{Ordering}
use Rattle.std.specs.declared.cmp.Ordering.TheVariants.{Less, Equal, Greater}
use Rattle.std.specs.BTreeSet.{insert_key}
use Rattle.ds_base.specs.Keys.{KeyParts}
use Rattle.ds_base.specs.KeyOrder.{key_cmp, same_key}
use Rattle.ds_base.specs.KeyOrderLaws.{key_cmp-same}
use Rattle.ds_log.specs.declared.Write.{Write}
use Rattle.ds_log.specs.Logs.{group_of, groups_of}
use Rattle.ds_log.specs.Conflicts.{writes_group}

last_first : (a b : Bool) → (a || b) ≡ (b || a)
last_first true true = refl
last_first true false = refl
last_first false true = refl
last_first false false = refl

absorbed : (a b : Bool) → (a || b) ≡ ((a || b) || a)
absorbed true b = refl
absorbed false true = refl
absorbed false false = refl

inner : (a b c : Bool) → (a || (b || c)) ≡ ((a || b) || c)
inner true b c = refl
inner false b c = refl

module _ (g : KeyParts) where
  any_inserted : (ks : List KeyParts) (k : KeyParts)
      → list_any (λ x. same_key x g) (insert_key key_cmp ks k) ≡ (list_any (λ x. same_key x g) ks || same_key k g)
  any_inserted [] k = last_first (same_key k g) false
  any_inserted (x ∷ xs) k = by (key_cmp k x) refl (any_inserted xs k) where
    by : (r : Ordering) → key_cmp k x ≡ r
        → list_any (λ y. same_key y g) (insert_key key_cmp xs k) ≡ (list_any (λ y. same_key y g) xs || same_key k g)
        → list_any (λ y. same_key y g)
        (match_ordering r (k ∷ x ∷ xs) (x ∷ xs) (x ∷ insert_key key_cmp xs k)) ≡ (list_any (λ y. same_key y g) (x ∷ xs) || same_key k g)
    by Less e rest = last_first (same_key k g) (list_any (λ y. same_key y g) (x ∷ xs))
    by Equal e rest =
        absorbed (same_key x g) (list_any (λ y. same_key y g) xs)
        ∙ ap (λ y. list_any (λ y. same_key y g) (x ∷ xs) || same_key y g) (sym (key_cmp-same k x e))
    by Greater e rest = ap (λ b. same_key x g || b) rest ∙ inner (same_key x g) (list_any (λ y. same_key y g) xs) (same_key k g)

  any_of_all : (ks : List KeyParts) (ws : List Write)
      → list_any (λ x. same_key x g)
      (fold (insert_key key_cmp) ks (map group_of ws)) ≡ (list_any (λ x. same_key x g) ks || writes_group g ws)
  any_of_all ks [] = last_first false (list_any (λ x. same_key x g) ks)
  any_of_all ks (w ∷ ws) =
      any_of_all (insert_key key_cmp ks (group_of w)) ws
      ∙ ap (λ b. b || writes_group g ws) (any_inserted ks (group_of w))
      ∙ sym (inner (list_any (λ x. same_key x g) ks) (same_key (group_of w) g) (writes_group g ws))

  -- a group is among the groups of writes exactly where one of them is to it
  pub any-groups_of : (ws : List Write) → list_any (λ x. same_key x g) (groups_of ws) ≡ writes_group g ws
  any-groups_of ws = any_of_all [] ws

length-inserted : (ks : List KeyParts) (k : KeyParts) → length (insert_key key_cmp ks k) ≤ suc (length ks)
length-inserted [] k = omega arith
length-inserted (x ∷ xs) k = by (key_cmp k x) (length-inserted xs k) where
  by : (r : Ordering) → length (insert_key key_cmp xs k) ≤ suc (length xs)
      → length (match_ordering r (k ∷ x ∷ xs) (x ∷ xs) (x ∷ insert_key key_cmp xs k)) ≤ suc (length (x ∷ xs))
  by Less rest = omega arith
  by Equal rest = omega arith
  by Greater rest = omega arith

length-all : (ks : List KeyParts) (ws : List Write) → length (fold (insert_key key_cmp) ks (map group_of ws)) ≤ length ks + length ws
length-all ks [] = omega arith
length-all ks (w ∷ ws) =
    let rest = length-all (insert_key key_cmp ks (group_of w)) ws in
    let here = length-inserted ks (group_of w) in
    omega arith

pub length-groups_of : (ws : List Write) → length (groups_of ws) ≤ length ws
length-groups_of ws = let all = length-all [] ws in omega arith
