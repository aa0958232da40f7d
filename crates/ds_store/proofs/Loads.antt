-- How a loaded pass grows.
use Rattle.std.proofs.Common.{◌≡◌, ℕ, zero, suc, ◌+◌, ◌-◌, ◌≤◌, List, [], ◌∷◌, ◌++◌, length, replicate, ap, sym, subst, ◌∙◌, arith}
use Rattle.std.specs.Prelude.{Err, Ok, OnErr, OnOk, Result}
use Rattle.std.specs.List.{range_with_len}
use Rattle.std.proofs.lemmas.List.{length-append, replicate_more, same_from_push}
use Rattle.ds_base.specs.Limits.{first_drawn_id}
use Rattle.ds_draw.specs.Draws.{numbers}
use Rattle.ds_log.specs.declared.Commit.{Commit}
use Rattle.ds_store_passes.specs.Loads.{loaded, has_all, also_owns}
use Rattle.ds_journal.specs.declared.refusals.CommitRefused.{CommitRefused}
use Rattle.ds_store_passes.specs.Passes.{PassParts, nothing_seen}

-- a run of numbers is its front and what follows it
pub range_split : (a k m : ℕ) → range_with_len a (k + m) ≡ range_with_len a k ++ range_with_len (a + k) m
range_split a zero m = ap (λ n. range_with_len a n) (omega arith) ∙ ap (λ b. range_with_len b m) (omega arith)
range_split a (suc k) m =
    let more : suc k + m ≡ suc (k + m) = omega arith in
    let from : a + 1 + k ≡ a + suc k = omega arith in
    ap (range_with_len a) more
    ∙ ap (λ rest. a ∷ rest) (range_split (a + 1) k m ∙ ap (λ b. range_with_len (a + 1) k ++ range_with_len b m) from)

-- a commit more
pub loaded_more : (shards : ℕ) (journal : List Commit) (c : Commit) (next : ℕ)
    → also_owns (has_all (loaded shards journal next) (journal ++ c ∷ [])) (length (journal ++ c ∷ [])) ≡ loaded shards (journal ++ c ∷ []) next
loaded_more shards journal c next =
    let long : length (journal ++ c ∷ []) ≡ length journal + 1 = length-append journal (c ∷ []) in
    let number : length (journal ++ c ∷ []) ≡ 1 + length journal = omega (arith, long) in
    let own : range_with_len 1 (length journal) ++ length (journal ++ c ∷ []) ∷ [] ≡ range_with_len 1 (length (journal ++ c ∷ [])) =
    ap (λ n. range_with_len 1 (length journal) ++ n ∷ []) number
    ∙ sym (range_split 1 (length journal) 1) ∙ ap (range_with_len 1) (sym long) in
    ap (λ commits. record (loaded shards (journal ++ c ∷ []) next) { commits = commits }) own

-- ids up to a counter more
pub loaded_drawn : (shards : ℕ) (journal : List Commit) (next to : ℕ) → first_drawn_id ≤ next → next ≤ to
    → record (loaded shards journal next) {
      next = next + (to - next);
      draws = range_with_len first_drawn_id (next - first_drawn_id) ++ numbers next (next + (to - next));
    } ≡ loaded shards journal to
loaded_drawn shards journal next to low high =
    let up : next + (to - next) ≡ to = omega (arith, high) in
    let count : next + (to - next) - next ≡ to - next = omega (arith, high) in
    let from : first_drawn_id + (next - first_drawn_id) ≡ next = omega (arith, low) in
    let all : (next - first_drawn_id) + (to - next) ≡ to - first_drawn_id = omega (arith, low, high) in
    let draws : range_with_len first_drawn_id (next - first_drawn_id) ++ numbers next (next + (to - next))
    ≡ range_with_len first_drawn_id (to - first_drawn_id) =
    ap (λ n. range_with_len first_drawn_id (next - first_drawn_id) ++ range_with_len next n) count
    ∙ ap (λ a. range_with_len first_drawn_id (next - first_drawn_id) ++ range_with_len a (to - next)) (sym from)
    ∙ sym (range_split first_drawn_id (next - first_drawn_id) (to - next)) ∙ ap (range_with_len first_drawn_id) all in
    λ i. record (loaded shards journal to) { next = up i; draws = draws i }

-- a pass that drew ids up to a counter more
pub drawn_up : (p q : PassParts) (shards : ℕ) (journal : List Commit) (before to : ℕ) → first_drawn_id ≤ p.next → p.next ≤ to
    → before ≡ p.next → p ≡ loaded shards journal p.next
    → q ≡ record p { next = p.next + (to - before); draws = p.draws ++ numbers p.next (p.next + (to - before)) } → q ≡ loaded shards journal to
drawn_up p q shards journal before to low high at_next is drew =
    let n = p.next in
    drew
    ∙ ap (λ m. record p { next = n + (to - m); draws = p.draws ++ numbers n (n + (to - m)) }) at_next
    ∙ ap (λ (r : PassParts). record r { next = n + (to - n); draws = r.draws ++ numbers n (n + (to - n)) }) is
    ∙ loaded_drawn shards journal n to low high

-- a pass that appended a commit more
pub committed_more : (p q : PassParts) (shards : ℕ) (journal after : List Commit) (c : Commit) → p ≡ loaded shards journal p.next
    → after ≡ journal ++ c ∷ [] → q ≡ also_owns (has_all p after) (length after) → q ≡ loaded shards after p.next
committed_more p q shards journal after c is more owns =
    owns
    ∙ ap (λ (js : List Commit). also_owns (has_all p js) (length js)) more
    ∙ ap (λ (r : PassParts). also_owns (has_all r (journal ++ c ∷ [])) (length (journal ++ c ∷ []))) is
    ∙ loaded_more shards journal c p.next
    ∙ ap (λ (js : List Commit). loaded shards js p.next) (sym more)

-- a pass that saw the commits again
pub seen_again : (p q : PassParts) (shards : ℕ) (journal : List Commit) → p ≡ loaded shards journal p.next → q ≡ has_all p journal → q ≡ p
seen_again p q shards journal is same =
    same ∙ ap (λ (r : PassParts). has_all r journal) is ∙ sym is

-- told by its own counter
pub by_its_counter : (q : PassParts) (shards : ℕ) (journal after : List Commit) (next : ℕ) → q ≡ loaded shards journal next → after ≡ journal
    → q ≡ loaded shards after q.next
by_its_counter q shards journal after next is same =
    is ∙ (λ i. loaded shards (sym same i) (ap (λ (r : PassParts). r.next) (sym is) i))

-- ---- passes of which each has seen nothing

-- the last of them, and those before it
pub last_of_alike : {X : Type 0} (n : ℕ) (x : X) (xs : List X) (y : X) → replicate n x ≡ xs ++ y ∷ []
    → (xs ≡ replicate (n - 1) x) × (y ≡ x) × (1 ≤ n)
last_of_alike zero x xs y alike = absurd (omega (arith, ap length alike, length-append xs (y ∷ [])))
last_of_alike (suc n) x xs y alike =
    let one : n + 1 ≡ suc n = omega arith in
    let less : suc n - 1 ≡ n = omega arith in
    let same = same_from_push xs (replicate n x) y x (sym alike ∙ ap (λ m. replicate m x) (sym one) ∙ sym (replicate_more n x)) in
    (same.0 ∙ ap (λ m. replicate m x) (sym less), same.1, omega arith)

-- they are those before the last, and it
pub alike_again : {X : Type 0} (n : ℕ) (x : X) → 1 ≤ n → replicate (n - 1) x ++ x ∷ [] ≡ replicate n x
alike_again n x some =
    let all : n - 1 + 1 ≡ n = omega (arith, some) in
    replicate_more (n - 1) x ∙ ap (λ m. replicate m x) all

-- a pass that has seen nothing has loaded nothing
pub nothing_loaded : (shards : ℕ) → loaded shards [] first_drawn_id ≡ nothing_seen shards
nothing_loaded shards =
    let none : first_drawn_id - first_drawn_id ≡ 0 = omega arith in
    ap (λ n. record (loaded shards [] first_drawn_id) { draws = range_with_len first_drawn_id n }) none

-- a pass behind whichever call of the journal's desk
pub loaded_after : (r : Result ℕ CommitRefused) (p q : PassParts) (shards : ℕ) (journal after : List Commit) (c : Commit)
    → OnOk r ((after ≡ journal ++ c ∷ []) × (q ≡ also_owns (has_all p after) (length after)))
    → OnErr r ((after ≡ journal) × (q ≡ has_all p journal)) → p ≡ loaded shards journal p.next
    → (q ≡ loaded shards after q.next) × (q.next ≡ p.next)
loaded_after (Ok n) p q shards journal after c ok err is =
    let next : q.next ≡ p.next = ap (λ (r : PassParts). r.next) ok.1 in
    (committed_more p q shards journal after c is ok.0 ok.1 ∙ ap (λ m. loaded shards after m) (sym next), next)
loaded_after (Err e) p q shards journal after c ok err is =
    let next : q.next ≡ p.next = ap (λ (r : PassParts). r.next) err.1 in
    (seen_again p q shards journal is err.1 ∙ is ∙ (λ i. loaded shards (sym err.0 i) (sym next i)), next)

-- ---- either answer

pub ok_of : {A E X : Type 0} (r : Result A E) (a : A) → r ≡ Ok a → X → OnOk r X
ok_of {A} {E} {X} r a is x = subst (λ (s : Result A E). OnOk s X) (sym is) x

pub none_ok : {A E : Type 0} (X : Type 0) (r : Result A E) (e : E) → r ≡ Err e → OnOk r X
none_ok {A} {E} X r e is = subst (λ (s : Result A E). OnOk s X) (sym is) tt

pub err_of : {A E X : Type 0} (r : Result A E) (e : E) → r ≡ Err e → X → OnErr r X
err_of {A} {E} {X} r e is x = subst (λ (s : Result A E). OnErr s X) (sym is) x

pub none_err : {A E : Type 0} (X : Type 0) (r : Result A E) (a : A) → r ≡ Ok a → OnErr r X
none_err {A} {E} X r a is = subst (λ (s : Result A E). OnErr s X) (sym is) tt
