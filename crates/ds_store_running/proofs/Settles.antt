-- All shards settled, one after another.
use Rattle.std.proofs.Common.{◌≡◌, ℕ, zero, suc, ◌+◌, ◌<◌, ◌≤◌, max, List, [], ◌∷◌, ◌++◌, length, take, map, set, refl, sym, ap, subst}
use Rattle.std.proofs.Common.{◌∙◌, arith, add-one}
use Rattle.std.proofs.Math.Seq.{take-suc-set, take-length}
use Rattle.std.proofs.lemmas.List.{take_all, length-take-le}
use Rattle.ds_log.specs.declared.Commit.{Commit}
use Rattle.ds_log.specs.declared.Entry.{Entry}
use Rattle.ds_log.specs.Logs.{shard_list}
use Rattle.ds_model.specs.Sessions.{counted_place, last_commit}
use Rattle.ds_store_passes.specs.Answered.{AllApplied, HasSettled, entries_up_to}
use Rattle.ds_store_passes.specs.Passes.{PassParts, HasRead}
use Rattle.ds_store_shards.specs.Standing.{IsSettled}
use Rattle.ds_store_passes.proofs.Growing.{begins_no_longer}
use Rattle.ds_store_passes.proofs.Seeing.{HasRead-through}
use Rattle.ds_store_shards.proofs.ShardLists.{first_of}

-- the first shards are settled at a place: their counts are these, and this is the greatest commit of their last entries
pub record AreSettled (shards place : ℕ) (before after : PassParts) (done : ℕ) (counts : List ℕ) (commit : ℕ) : Type 0 where
  pub read : HasRead before after
  pub seen : before.place ≤ place
  pub within : place ≤ length after.journal
  pub place_shown : place ≤ after.place
  pub commit_shown : commit ≤ after.place
  pub all : length after.lists ≡ shards
  pub counts_are : counts ≡ map length (take done after.lists)
  pub applied : AllApplied shards after.journal place 0 (take done after.lists)
  pub commit_is : commit ≡ counted_place (take done after.lists) counts

counted-push : (ls : List (List Entry)) (x : List Entry)
    → counted_place (ls ++ x ∷ []) (map length (ls ++ x ∷ [])) ≡ max (last_commit x) (counted_place ls (map length ls))
counted-push [] x = ap (λ (es : List Entry). max (last_commit es) 0) (take-length x)
counted-push (l ∷ ls) x =
    let rest = counted-push ls x in
    let first : ℕ = last_commit (take (length l) l) in
    let others : ℕ = counted_place ls (map length ls) in
    let swap : max first (max (last_commit x) others) ≡ max (last_commit x) (max first others) = omega arith in
    ap (λ n. max first n) rest ∙ swap

applied-push : (shards : ℕ) (journal : List Commit) (m k n : ℕ) (ls : List (List Entry)) (x : List Entry) → AllApplied shards journal m k ls
    → n ≡ k + length ls → entries_up_to journal shards m n ≤ length x → AllApplied shards journal m k (ls ++ x ∷ [])
applied-push shards journal m k n [] x h is le =
    let here : n ≡ k = omega (arith, is) in (subst (λ i. entries_up_to journal shards m i ≤ length x) here le, tt)
applied-push shards journal m k n (l ∷ ls) x h is le =
    (h.0, applied-push shards journal m (k + 1) n ls x h.1 (omega (arith, is)) le)

applied-longer : (shards : ℕ) (before after : List Commit) (m k : ℕ) (ls : List (List Entry)) → take m after ≡ take m before
    → AllApplied shards before m k ls → AllApplied shards after m k ls
applied-longer shards before after m k [] same h = tt
applied-longer shards before after m k (l ∷ ls) same h =
    (subst (λ cs. length (shard_list cs k shards) ≤ length l) (sym same) h.0, applied-longer shards before after m (k + 1) ls same h.1)

length-set : {X : Type 0} (xs : List X) (i : ℕ) (x : X) → length (set xs i x) ≡ length xs
length-set [] i x = refl
length-set (y ∷ ys) zero x = refl
length-set (y ∷ ys) (suc i) x = ap suc (length-set ys i x)

pushed : (ls : List (List Entry)) (x : List Entry) → map length ls ++ length x ∷ [] ≡ map length (ls ++ x ∷ [])
pushed [] x = refl
pushed (l ∷ ls) x = ap (λ ns. length l ∷ ns) (pushed ls x)

-- one more
pub settled_more : (shards place : ℕ) (before p q : PassParts) (done : ℕ) (counts : List ℕ) (commit count last : ℕ)
    → AreSettled shards place before p done counts commit → done < shards → IsSettled shards p q done place count last
    → AreSettled shards place before q (done + 1) (counts ++ count ∷ []) (max last commit)
settled_more shards place before p q done counts commit count last so_far below one =
    let lt : done < length p.lists = omega (arith, below, so_far.all) in
    let now : take (done + 1) q.lists ≡ take done p.lists ++ one.list ∷ [] =
    ap (λ n. take n q.lists) (add-one done) ∙ ap (take (suc done)) one.lists ∙ take-suc-set p.lists done one.list lt in
    let first : take place q.journal ≡ take place p.journal = first_of place p.journal q.journal one.read.journal so_far.within in
    let few : length (take done p.lists) ≡ done = length-take-le done p.lists (omega (arith, lt)) in
    let counted : counts ++ count ∷ [] ≡ map length (take done p.lists ++ one.list ∷ []) =
    (λ i. so_far.counts_are i ++ one.count_is i ∷ []) ∙ pushed (take done p.lists) one.list in
    record {
      read = HasRead-through before p q so_far.read one.read;
      seen = so_far.seen;
      within = omega (arith, so_far.within, begins_no_longer p.journal q.journal one.read.journal);
      place_shown = omega (arith, so_far.place_shown, one.read.place);
      commit_shown = omega (arith, so_far.commit_shown, one.read.place, one.shown);
      all = ap length one.lists ∙ length-set p.lists done one.list ∙ so_far.all;
      counts_are = counted ∙ ap (λ ls. map length ls) (sym now);
      applied = subst (λ ls. AllApplied shards q.journal place 0 ls) (sym now)
          (applied-push shards q.journal place 0 done (take done p.lists) one.list
          (applied-longer shards p.journal q.journal place 0 (take done p.lists) first so_far.applied)
          (omega (arith, few)) one.all);
      commit_is = (λ i. max (one.commit_is i) ((so_far.commit_is ∙ ap (counted_place (take done p.lists)) so_far.counts_are) i))
          ∙ sym (counted-push (take done p.lists) one.list)
          ∙ (λ i. counted_place (sym now i) (sym counted i));
    }

-- all of them
pub settled_all : (shards place : ℕ) (before after : PassParts) (counts : List ℕ) (commit : ℕ)
    → AreSettled shards place before after shards counts commit → HasSettled shards before after place counts commit
settled_all shards place before after counts commit so =
    let whole : take shards after.lists ≡ after.lists = take_all shards after.lists (omega (arith, so.all)) in
    record {
      read = so.read;
      seen = so.seen;
      within = so.within;
      counts_are = so.counts_are ∙ ap (λ ls. map length ls) whole;
      applied = subst (λ ls. AllApplied shards after.journal place 0 ls) whole so.applied;
      commit_is = so.commit_is ∙ ap (λ ls. counted_place ls counts) whole;
      stands = (so.place_shown, so.commit_shown);
    }
