-- What is known at the steps of judging gets.
use Rattle.std.proofs.Common.{◌≡◌, ℕ, ◌+◌, ◌≤◌, length, Bool, true, false, Option, Some, None, refl, ap, sym, ◌∙◌, subst}
use Rattle.std.specs.Prelude.{Result, Ok, Err, IfOk, is_some}
use Rattle.ds_base.specs.Keys.{KeyParts}
use Rattle.ds_log.specs.Shards.{shard_of}
use Rattle.ds_model.specs.Answers.{ExpiredAnswers}
use Rattle.ds_model.specs.Groups.{StandsAt, place_in, with_transaction}
use Rattle.ds_model.specs.Sessions.{Session, Transaction, count_of, list_of, saw_place, saw_shard_count}
use Rattle.ds_model.specs.Worlds.{entries_up_to, shard_lists}
use Rattle.ds_judging_lines.specs.Deciding.{world_in}
use Rattle.ds_judging_lines.specs.declared.turn.Turn.{Turn}

pub if_ok : {A E : Type 0} {P Q : A → Type 0} (r : Result A E) → ((x : A) → P x → Q x) → IfOk r P → IfOk r Q
if_ok (Ok x) f h = f x h
if_ok (Err e) f h = h

pub two_ways : (b : Bool) → b ≡ true → b ≡ false → ⊥
two_ways b is not_is = let both : true ≡ false = sym is ∙ not_is in cc

pub not_open : (o : Option Transaction) (t : Transaction) (b : Bool) → o ≡ Some t → b ≡ is_some o → b ≡ false → ⊥
not_open o t b has is closed = let open_is : b ≡ true = is ∙ ap is_some has in cc

pub same_window : (given window : ℕ) → Some given ≡ Some window → given ≡ window
same_window given window is = cc

has_one : (o : Option Transaction) → is_some o ≡ true → (t : Transaction) × (o ≡ Some t)
has_one None is = absurd (never is) where
  never : false ≡ true → ⊥
  never e = cc
has_one (Some t) is = (t, refl)

-- what is told of versions that are gone is an answer
pub expired_answers : (turn : Turn) (s : Session) (g : KeyParts) (m applied shard snapshot seen : ℕ)
    → is_some s.transaction ≡ true
    → StandsAt turn.run.now.history.journal s (place_in s.transaction g) m → shard ≡ shard_of g turn.run.now.history.shards
    → snapshot ≡ entries_up_to (world_in turn) m shard → snapshot + turn.run.now.window ≤ applied
    → seen ≡ count_of s.counts shard → seen ≤ applied
    → applied ≤ length (list_of (shard_lists turn.run.now.history.shards turn.run.now.history.journal) shard)
    → ExpiredAnswers (world_in turn) s g applied m (entries_up_to (world_in turn) m (shard_of g turn.run.now.history.shards))
    (saw_shard_count (shard_lists turn.run.now.history.shards turn.run.now.history.journal) (shard_of g turn.run.now.history.shards) applied
    (saw_place m (with_transaction None s)))
expired_answers turn s g m applied shard snapshot seen is_open stands shard_is entries gone seen_is no_lower within =
    let inside = has_one s.transaction is_open in
    record {
      inside = inside.0;
      has = inside.1;
      place = stands;
      entries = refl;
      window = turn.run.now.window;
      windowed = refl;
      gone = subst (λ n. n + turn.run.now.window ≤ applied) (entries ∙ ap (entries_up_to (world_in turn) m) shard_is) gone;
      no_lower = subst (λ n. n ≤ applied) (seen_is ∙ ap (count_of s.counts) shard_is) no_lower;
      applied_within =
          subst (λ k. applied ≤ length (list_of (shard_lists turn.run.now.history.shards turn.run.now.history.journal) k)) shard_is within;
      seen = refl;
    }
