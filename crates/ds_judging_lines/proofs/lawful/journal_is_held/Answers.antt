use Rattle.std.proofs.Common.{◌≡◌, ℕ, zero, suc, ◌<◌, ◌≤◌, ◌^◌, Bool, true, false, nat_lt, List, [], ◌∷◌, length, refl, sym, ◌∙◌}
use Rattle.std.proofs.Common.{subst, arith}
use Rattle.std.specs.Prelude.{All}
use Rattle.std.proofs.lemmas.Bool.{ltb-false, ltb-true}
use Rattle.std.proofs.lemmas.List.FromFn.{length-map-range_with_len}
use Rattle.ds_log.specs.declared.Commit.{Commit}
use Rattle.ds_log.specs.declared.Entry.{Entry}
use Rattle.ds_log.specs.Logs.{shard_list}
use Rattle.ds_journal_text.specs.Lawful.{IsLawfulWrite}
use Rattle.ds_model.specs.Sessions.{list_of}
use Rattle.ds_model.specs.Worlds.{shard_lists}
use Rattle.ds_judging_lines.proofs.lawful.journal_is_held.Goals as goal

-- beyond the lists there is none
beyond : (lists : List (List Entry)) (k : ℕ) → length lists ≤ k → length (list_of lists k) ≡ 0
beyond [] k out = refl
beyond (entries ∷ lists) zero out = absurd (omega (arith, out))
beyond (entries ∷ lists) (suc k) out = beyond lists k (omega (arith, out))

everywhere : (shards : ℕ) (journal : List Commit)
    → ((k : ℕ) → k < shards → length (list_of (shard_lists shards journal) k) < 2 ^ 64)
    → (k : ℕ) → length (list_of (shard_lists shards journal) k) < 2 ^ 64
everywhere shards journal each k = by (nat_lt k shards) refl where
  by : (b : Bool) → nat_lt k shards ≡ b → length (list_of (shard_lists shards journal) k) < 2 ^ 64
  by true is = each k (ltb-true k shards is)
  by false is =
      let out : shards ≤ k = ltb-false k shards is in
      let many : length (shard_lists shards journal) ≡ shards =
      length-map-range_with_len (λ shard. shard_list journal shard shards) 0 shards in
      omega (arith, beyond (shard_lists shards journal) k (omega (arith, out, many)))

pub returns : goal.returns
returns c = record {
  least = c.shards-shards.ensures.least;
  most = c.shards-shards.ensures.most;
  commits = let small : c.commits-commits.result < 2 ^ 64 = c.commits-commits.type_inv in omega (arith, small, c.commits-commits.ensures);
  entries = everywhere c.args.history.now.shards c.args.history.now.journal c.entries_are_counted.ensures;
  lawful = subst (All (λ (d : Commit). All IsLawfulWrite d.writes)) (c.as_slice.ensures ∙ sym c.requires) c.commits_are_lawful.ensures;
}
