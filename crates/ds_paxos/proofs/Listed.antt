-- What is held, as references to it list it.
use Rattle.std.proofs.Common.{◌≡◌, ℕ, suc, ◌+◌, ◌<◌, ◌≤◌, List, ◌∷◌, ◌++◌, length, get_or, drop, map, sym, ap, ◌∙◌, add-one, append_assoc, append-nil}
use Rattle.std.proofs.Common.{drop-cons, drop_of_length-le}
use Rattle.ds_paxos.specs.declared.instance.Instance.{Instance}
use Rattle.ds_paxos.specs.declared.message.Place.{Place}
use Rattle.ds_paxos.specs.declared.world.Held.{Held}
use Rattle.ds_paxos.specs.Holdings.{Holding, holding_of, holdings_from, member_holdings}

abbrev pub listed : List Held → List Holding
listed list = map (λ h. holding_of h.member h.log h.position h.entry.now) list

-- one member more
pub listed_more : (before after all : List Holding) (m : ℕ) (members : List (List (Place × Instance))) (kept : List (Place × Instance))
    → m < length members → kept ≡ get_or members m kept → after ≡ before ++ member_holdings m kept
    → before ++ holdings_from m (drop m members) ≡ all → after ++ holdings_from (m + 1) (drop (m + 1) members) ≡ all
listed_more before after all m members kept less is put whole =
    let rest : drop m members ≡ kept ∷ drop (m + 1) members =
    drop-cons members m kept less ∙ ap (λ (x : List (Place × Instance)). x ∷ drop (suc m) members) (sym is)
    ∙ ap (λ (k : ℕ). kept ∷ drop k members) (sym (add-one m)) in
    ap (λ (l : List Holding). l ++ holdings_from (m + 1) (drop (m + 1) members)) put
    ∙ append_assoc before (member_holdings m kept) (holdings_from (m + 1) (drop (m + 1) members))
    ∙ ap (λ (l : List (List (Place × Instance))). before ++ holdings_from m l) (sym rest) ∙ whole

-- all members
pub listed_all : (list all : List Holding) (members : List (List (Place × Instance))) (m : ℕ) → length members ≤ m
    → list ++ holdings_from m (drop m members) ≡ all → list ≡ all
listed_all list all members m reach whole =
    sym (append-nil list) ∙ ap (λ (l : List (List (Place × Instance))). list ++ holdings_from m l) (sym (drop_of_length-le members reach)) ∙ whole
