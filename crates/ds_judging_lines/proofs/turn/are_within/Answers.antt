use Rattle.std.proofs.Common.{◌≡◌, ℕ, length, take, refl, arith, true, false}
use Rattle.ds_log.specs.Logs.{shard_list}
use Rattle.ds_model.specs.Worlds.{shard_lists}
use Rattle.ds_judging_lines.proofs.Telling.{all_of, each_of, lists_many, no_counts}
use Rattle.ds_judging_lines.proofs.turn.are_within.Goals as goal
use Rattle.ds_judging_lines.proofs.turn.are_within.Goals.{then-seen-shards-via-then-seen-shards}
use Rattle.ds_judging_lines.proofs.turn.are_within.Goals.{then-seen-shards-via-else-seen-shards+then-counts-shards}

pub returns-then-seen-shards : goal.returns-then-seen-shards
returns-then-seen-shards c =
    let h = c.args.history.now in
    let least : ℕ → ℕ = λ shard. length (shard_list (take c.args.place h.journal) shard h.shards) in
    let shards = c.shards-shards.ensures.value in
    elim c.then-seen-shards.branch [
      | then-seen-shards-via-then-seen-shards w ↦ (
        λ e. cc,
        λ are. absurd (no_counts least c.args.seen.now (shard_lists h.shards h.journal) c.args.counts.now h.shards
            (lists_many h.shards h.journal) (λ s n. omega (arith, s, shards, w.if-seen-shards.true)) are),
      )
      | then-seen-shards-via-else-seen-shards+then-counts-shards w ↦ (
        λ e. cc,
        λ are. absurd (no_counts least c.args.seen.now (shard_lists h.shards h.journal) c.args.counts.now h.shards
            (lists_many h.shards h.journal) (λ s n. omega (arith, n, shards, w.if-counts-shards.true)) are),
      )
    ]

pub returns-then-not-is_within : goal.returns-then-not-is_within
returns-then-not-is_within c =
    let h = c.args.history.now in
    let least : ℕ → ℕ = λ shard. length (shard_list (take c.args.place h.journal) shard h.shards) in (
      λ e. cc,
      λ are.
          let here = each_of least c.args.seen.now (shard_lists h.shards h.journal) c.args.counts.now h.shards
          (lists_many h.shards h.journal) are
          c.loop-shard.shard (omega (arith, c.shards-shards.ensures.value, c.loop-shard-test.true)) in
          let is : c.is_within.result ≡ true = c.is_within.ensures.1 here in cc,
    )

pub returns : goal.returns
returns c =
    let h = c.args.history.now in
    let least : ℕ → ℕ = λ shard. length (shard_list (take c.args.place h.journal) shard h.shards) in
    let shards = c.shards-shards.ensures.value in (
      λ e. all_of least c.args.seen.now (shard_lists h.shards h.journal) c.args.counts.now h.shards (lists_many h.shards h.journal)
          (omega (arith, shards, c.if-seen-shards.false)) (omega (arith, shards, c.if-counts-shards.false))
          (λ k below. c.loop-shard.invariant k (omega (arith, below, shards, c.loop-shard-test.false))),
      λ are. refl,
    )
