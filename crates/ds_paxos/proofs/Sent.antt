-- The same message to the first members.
use Rattle.std.proofs.Common.{◌≡◌, ℕ, zero, suc, ◌+◌, arith, List, [], ◌∷◌, ◌++◌, map, sym, ap, ◌∙◌, add-zero, add-one}
use Rattle.std.specs.List.{range_with_len}
use Rattle.ds_paxos.specs.declared.message.Content.{Content}
use Rattle.ds_paxos.specs.declared.message.Message.{Message}
use Rattle.ds_paxos.specs.declared.message.Place.{Place}

abbrev pub sent_to : Place → ℕ → Content → ℕ → Message
sent_to place ballot content = λ member. record { to = member; place = place; ballot = ballot; content = content }

range_next : (f : ℕ → Message) (a k : ℕ) → map f (range_with_len a (suc k)) ≡ map f (range_with_len a k) ++ f (a + k) ∷ []
range_next f a zero = ap (λ (j : ℕ). f j ∷ []) (sym (add-zero a))
range_next f a (suc k) = ap (λ (l : List Message). f a ∷ l) (range_next f (a + 1) k
    ∙ (let e : (a + 1) + k ≡ a + suc k = omega arith in ap (λ (j : ℕ). map f (range_with_len (a + 1) k) ++ f j ∷ []) e))

-- one more member
pub sent_more : (place : Place) (ballot : ℕ) (content : Content) (k : ℕ)
    → map (sent_to place ballot content) (range_with_len 0 (k + 1))
    ≡ map (sent_to place ballot content) (range_with_len 0 k) ++ sent_to place ballot content k ∷ []
sent_more place ballot content k =
    ap (λ (j : ℕ). map (sent_to place ballot content) (range_with_len 0 j)) (add-one k) ∙ range_next (sent_to place ballot content) 0 k
    ∙ (let e : 0 + k ≡ k = omega arith in
    ap (λ (j : ℕ). map (sent_to place ballot content) (range_with_len 0 k) ++ sent_to place ballot content j ∷ []) e)
