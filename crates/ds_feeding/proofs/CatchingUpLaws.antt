-- Passes that go on from others, and catch up with one of another store.
use Rattle.std.proofs.Common.{◌≡◌, ℕ, zero, suc, ◌-◌, ◌≤◌, List, [], ◌∷◌, ◌++◌, length, map, max, replicate, refl, ap, sym, ◌∙◌, subst}
use Rattle.std.proofs.Common.{arith}
use Rattle.std.specs.Prelude.{All}
use Rattle.std.proofs.lemmas.List.Elements.{All-cons, All-nil}
use Rattle.ds_hub.specs.Growing.{AreLonger}
use Rattle.ds_indexdef.specs.declared.IndexDef.{IndexDef}
use Rattle.ds_log.specs.declared.Commit.{Commit}
use Rattle.ds_log.specs.declared.Entry.{Entry}
use Rattle.ds_store.specs.Answered.{AreAtLeast, HasSettled}
use Rattle.ds_store.specs.Loads.{LoadingParts, loaded}
use Rattle.ds_store.specs.Passes.{HasRead, PassParts, StoreParts, counts_of, nothing_seen}
use Rattle.ds_store_passes.proofs.Growing.{begins_no_longer}
use Rattle.ds_feeding.specs.Feeding.{AreCaughtUp, HasCaughtUp, HasFedAll, HaveRead, IsCutOver, IsSharedWith}

-- counts that were met stay met
at_least_longer : (least : List ℕ) (xs ys : List (List Entry)) → AreAtLeast least (map length xs) → AreLonger xs ys
    → AreAtLeast least (map length ys)
at_least_longer [] [] [] met longer = tt
at_least_longer [] [] (y ∷ ys) met longer = absurd longer
at_least_longer [] (x ∷ xs) ys met longer = absurd met
at_least_longer (c ∷ cs) [] ys met longer = absurd met
at_least_longer (c ∷ cs) (x ∷ xs) [] met longer = absurd longer
at_least_longer (c ∷ cs) (x ∷ xs) (y ∷ ys) met longer =
    let more = begins_no_longer x y longer.0 in
    let here = met.0 in
    (omega (arith, more, here), at_least_longer cs xs ys met.1 longer.1)

-- a pass that has met another one, and then applies all entries
pub caught_up : (shards : ℕ) (old met now : PassParts) (place : ℕ) (counts : List ℕ) (commit : ℕ) → old.place ≤ met.place
    → AreAtLeast (counts_of old) (counts_of met) → old.next ≤ met.next → HasSettled shards met now place counts commit
    → HasCaughtUp shards old now
caught_up shards old met now place counts commit high least next settled = record {
  no_lower = record {
    journal = omega (arith, high, settled.seen, settled.within);
    place = omega (arith, high, settled.read.place);
    counts = at_least_longer (counts_of old) met.lists now.lists least settled.read.lists;
    next = omega (arith, next, settled.read.next);
  };
  place = place;
  up_to = omega (arith, high, settled.seen);
  applied = settled.applied;
}

-- one pass more went on
pub read_more : (before after : List PassParts) (p q : PassParts) → HaveRead before after → HasRead p q
    → HaveRead (before ++ p ∷ []) (after ++ q ∷ [])
read_more [] [] p q all one = (one, tt)
read_more [] (r ∷ after) p q all one = absurd all
read_more (o ∷ before) [] p q all one = absurd all
read_more (o ∷ before) (r ∷ after) p q all one = (all.0, read_more before after p q all.1 one)

-- ---- passes of which all but the last are alike

record Parts (n : ℕ) (p loader : PassParts) (later : List PassParts) : Type 0 where
  pub front : List PassParts
  pub last : PassParts
  pub all : later ≡ front ++ last ∷ []
  pub many : length front ≡ n
  pub idle : All (HasRead p) front
  pub read : HasRead loader last

parts : (n : ℕ) (p loader : PassParts) (later : List PassParts) → HaveRead (replicate n p ++ loader ∷ []) later → Parts n p loader later
parts zero p loader [] all = absurd all
parts zero p loader (q ∷ []) all =
    record { front = []; last = q; all = refl; many = refl; idle = All-nil (HasRead p); read = all.0 }
parts zero p loader (q ∷ r ∷ later) all = absurd (all.1)
parts (suc n) p loader [] all = absurd all
parts (suc n) p loader (q ∷ later) all =
    let rest = parts n p loader later all.1 in
    record {
      front = q ∷ rest.front;
      last = rest.last;
      all = ap (λ xs. q ∷ xs) rest.all;
      many = ap suc rest.many;
      idle = All-cons (HasRead p) q rest.front all.0 rest.idle;
      read = rest.read;
    }

-- the passes of a shared store that went on, and have caught up
pub shared_with : (before fed : LoadingParts) (old : PassParts) (store : StoreParts) (passes later : List PassParts) → fed ≡ before
    → store.shards ≡ fed.shards → store.passes ≡ fed.passes → 1 ≤ fed.passes
    → passes ≡ replicate (fed.passes - 1) (nothing_seen fed.shards) ++ loaded fed.shards fed.journal fed.next ∷ []
    → HaveRead passes later → All (HasCaughtUp store.shards old) later → IsSharedWith before old store later
shared_with before fed old store passes later same shards many some are read caught_up =
    subst (λ (p : LoadingParts). IsSharedWith p old store later) same (
    let loader = loaded fed.shards fed.journal fed.next in
    let all = parts (fed.passes - 1) (nothing_seen fed.shards) loader later (subst (λ ps. HaveRead ps later) are read) in
    record {
      shards = shards;
      many = many;
      some = some;
      caught_up = record {
        front = all.front;
        last = all.last;
        all = all.all;
        many = all.many;
        idle = all.idle;
        read = all.read;
        caught_up = subst (λ n. All (HasCaughtUp n old) later) shards caught_up;
      };
    }
    )

-- ---- the cut

-- where all was fed, what is shared has all
pub cut_over : (definitions : List IndexDef) (before fed : LoadingParts) (old : PassParts) (up_to place : ℕ) (store : StoreParts)
    (passes : List PassParts) → HasFedAll definitions before fed old up_to → IsSharedWith fed old store passes → place ≡ up_to
    → IsCutOver definitions before old store passes place
cut_over definitions before fed old up_to place store passes all shared is =
    let next = max before.next old.next in
    record {
      shards = shared.shards ∙ all.fed.shards;
      many = shared.many ∙ all.fed.passes;
      caught_up =
          subst (λ n. AreCaughtUp n old (before.passes - 1) (loaded n old.journal next) passes) all.fed.shards
          (subst (λ n. AreCaughtUp fed.shards old (n - 1) (loaded fed.shards old.journal next) passes) all.fed.passes
          (subst (λ n. AreCaughtUp fed.shards old (fed.passes - 1) (loaded fed.shards old.journal n) passes) all.drawn
          (subst (λ (js : List Commit). AreCaughtUp fed.shards old (fed.passes - 1) (loaded fed.shards js fed.next) passes) all.all
          shared.caught_up)));
      whole = is ∙ all.whole;
      stands = all.stands ∙ sym is;
      some = omega (arith, shared.some, all.fed.passes);
      behind = all.fed.behind;
      fed = sym all.all ∙ all.fed.fed;
      few = all.fed.few;
    }
