-- What a pass has seen begins what it sees later, and answers over it are answers over all that goes on from it.
use Rattle.std.proofs.Common.{◌≡◌, ℕ, ◌≤◌, List, [], ◌∷◌, ◌++◌, length, refl, ap, sym, ◌∙◌, subst, append_assoc, arith, Option}
use Rattle.std.proofs.Common.{length-append}
use Rattle.std.proofs.lemmas.List.{append-nil}
use mathlib.Core.List.{IsPrefix}
use Rattle.ds_hub.specs.Growing.{AreLonger}
use Rattle.ds_indexdef.specs.declared.IndexDef.{IndexDef}
use Rattle.ds_log.specs.declared.Commit.{Commit}
use Rattle.ds_log.specs.declared.Entry.{Entry}
use Rattle.ds_reply.specs.declared.reply.Reply.{Reply}
use Rattle.ds_rounds.specs.Rounds.{NumberedLine}
use Rattle.ds_model.specs.Asked.{Reading}
use Rattle.ds_model.specs.Legal.{ClientSteps}
use Rattle.ds_model.specs.Sessions.{Session}
use Rattle.ds_model.specs.Worlds.{World, shard_lists}
use Rattle.ds_model.proofs.LongerJournals as longer
use Rattle.ds_model.proofs.LongerJournals.{answers-grown, grown}
use Rattle.ds_store.specs.Ending.{Begins}
use Rattle.ds_store.specs.Passes.{PassParts, HasRead}
use Rattle.ds_session_state.specs.Sessions.{HasGrown, world_seen}

-- ---- lists that begin lists

module _ {A : Type 0} where
  pub begins_itself : (xs : List A) → IsPrefix xs xs
  begins_itself xs = ([], append-nil xs)

  pub begins_more : (xs ys : List A) → IsPrefix xs (xs ++ ys)
  begins_more xs ys = (ys, refl)

  pub begins_same : (xs ys : List A) → ys ≡ xs → IsPrefix xs ys
  begins_same xs ys same = ([], append-nil xs ∙ sym same)

  pub begins_through : (xs ys zs : List A) → IsPrefix xs ys → IsPrefix ys zs → IsPrefix xs zs
  begins_through xs ys zs p q = (p.0 ++ q.0, sym (append_assoc xs p.0 q.0) ∙ (ap (λ w. w ++ q.0) p.1 ∙ q.1))

  pub begins_no_longer : (xs ys : List A) → IsPrefix xs ys → length xs ≤ length ys
  begins_no_longer xs ys p = omega (arith, ap (λ (zs : List A). length zs) p.1, length-append xs p.0)

  pub longer_itself : (xs : List (List A)) → AreLonger xs xs
  longer_itself [] = tt
  longer_itself (x ∷ xs) = (begins_itself x, longer_itself xs)

  pub longer_same : (xs ys : List (List A)) → ys ≡ xs → AreLonger xs ys
  longer_same xs ys same = subst (λ zs. AreLonger xs zs) (sym same) (longer_itself xs)

  pub longer_through : (xs ys zs : List (List A)) → AreLonger xs ys → AreLonger ys zs → AreLonger xs zs
  longer_through [] [] [] h k = tt
  longer_through [] [] (z ∷ zs) h k = absurd k
  longer_through [] (y ∷ ys) zs h k = absurd h
  longer_through (x ∷ xs) [] zs h k = absurd h
  longer_through (x ∷ xs) (y ∷ ys) [] h k = absurd k
  longer_through (x ∷ xs) (y ∷ ys) (z ∷ zs) h k = (begins_through x y z h.0 k.0, longer_through xs ys zs h.1 k.1)

-- ---- passes

pub grown_itself : (p : PassParts) → HasGrown p p
grown_itself p = record { journal = begins_itself p.journal; lists = longer_itself p.lists; place = omega arith; next = omega arith }

pub grown_through : (p q r : PassParts) → HasGrown p q → HasGrown q r → HasGrown p r
grown_through p q r h k = record {
  journal = begins_through p.journal q.journal r.journal h.journal k.journal;
  lists = longer_through p.lists q.lists r.lists h.lists k.lists;
  place = omega (arith, h.place, k.place);
  next = omega (arith, h.next, k.next);
}

pub read_itself : (p : PassParts) → HasRead p p
read_itself p = record {
  journal = begins_itself p.journal;
  lists = longer_itself p.lists;
  place = omega arith;
  next = omega arith;
  commits = refl;
  draws = refl;
}

pub read_through : (p q r : PassParts) → HasRead p q → HasRead q r → HasRead p r
read_through p q r h k = record {
  journal = begins_through p.journal q.journal r.journal h.journal k.journal;
  lists = longer_through p.lists q.lists r.lists h.lists k.lists;
  place = omega (arith, h.place, k.place);
  next = omega (arith, h.next, k.next);
  commits = k.commits ∙ h.commits;
  draws = k.draws ∙ h.draws;
}

pub grown_by_reading : (p q : PassParts) → HasRead p q → HasGrown p q
grown_by_reading p q h = record { journal = h.journal; lists = h.lists; place = h.place; next = h.next }

-- a journal that goes on from what a pass sees later goes on from what it saw before
pub begins_before : (shards : ℕ) (journal : List Commit) (p q : PassParts) → HasGrown p q → Begins shards journal q
    → Begins shards journal p
begins_before shards journal p q h k = (
  begins_through p.journal q.journal journal h.journal k.0,
  longer_through p.lists q.lists (shard_lists shards journal) h.lists k.1,
)

-- ---- answers

-- each list has some behind
has_behind : (lists longer_lists : List (List Entry)) → AreLonger lists longer_lists → longer.AreLonger lists longer_lists
has_behind [] [] h = tt
has_behind [] (f ∷ fs) h = absurd h
has_behind (e ∷ es) [] h = absurd h
has_behind (e ∷ es) (f ∷ fs) h = ((h.0.0, sym h.0.1), has_behind es fs h.1)

steps-grown : (reading : Reading) (w : World) (more : List Commit) (lists : List (List Entry)) → longer.AreLonger w.lists lists
    → (s t : Session) (lines : List NumberedLine) (replies : List Reply) → ClientSteps reading w s lines replies t
    → ClientSteps reading (grown w more lists) s lines replies t
steps-grown reading w more lists h s t [] [] same = same
steps-grown reading w more lists h s t [] (r ∷ replies) steps = absurd steps
steps-grown reading w more lists h s t (l ∷ lines) [] steps = absurd steps
steps-grown reading w more lists h s t (l ∷ lines) (r ∷ replies) (next, step, steps) =
    (next, answers-grown w more lists h reading s l r next step, steps-grown reading w more lists h next t lines replies steps)

-- steps of a client over what a pass has seen are steps over a journal and lists that go on from it
pub steps_over : (definitions : List IndexDef) (shards : ℕ) (window : Option ℕ) (p : PassParts) (journal : List Commit)
    (lists : List (List Entry)) → IsPrefix p.journal journal → AreLonger p.lists lists → (reading : Reading) (s t : Session)
    (lines : List NumberedLine) (replies : List Reply) → ClientSteps reading (world_seen definitions shards window p) s lines replies t
    → ClientSteps reading (record (world_seen definitions shards window p) { journal = journal; lists = lists }) s lines replies t
steps_over definitions shards window p journal lists begins more reading s t lines replies steps =
    subst (λ cs. ClientSteps reading (record (world_seen definitions shards window p) { journal = cs; lists = lists }) s lines replies t)
    begins.1
    (steps-grown reading (world_seen definitions shards window p) begins.0 lists (has_behind p.lists lists more) s t lines replies steps)
