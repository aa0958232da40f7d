use Rattle.std.proofs.Common.{◌<◌, ◌+◌, ◌∙◌, ap, sym, subst, arith}
use Rattle.std.specs.Prelude.{◌^◌, fold}
use Rattle.ds_shard.specs.Contents.{IsTrimmed}
use Rattle.ds_shard.specs.Histories.{written, trimmed}
use Rattle.ds_shard.specs.Shards.{ShardParts, floor_of, absorbed}
use Rattle.ds_shard.proofs.Absorbing.{absorbed_is, next_shard, next_low}
use Rattle.ds_shard.proofs.shard.Shard.absorb.Goals as goal

pub invariant_of-self-2 : goal.invariant_of-self-2
invariant_of-self-2 c =
    let in_it = c.self.inside in
    let few : in_it.count < 2 ^ 62 = subst (λ (s : ShardParts). s.count < 2 ^ 62) (sym c.self.view_is) c.requires in
    let floor = c.floor_of.ensures in
    let within = next_low in_it.window in_it.count in_it.contents c.self.invariant few c.trim.new.self in
    let there : IsTrimmed (in_it.count + 1) c.trim.new.self =
    c.trim.ensures.kept (in_it.count + 1) c.in_ok-absorb.ensures.kept (omega (arith, within, floor)) (omega (arith, few)) in
    next_shard in_it.window in_it.count in_it.contents c.self.invariant few c.trim.new.self c.absorb.new.self.entities
    (c.trim.ensures.floor ∙ floor) there (c.trim.ensures.entities ∙ ap (λ f. trimmed f c.absorb.new.self.entities) floor)

pub returns-clause-ok : goal.returns-clause-ok
returns-clause-ok c =
    let in_it = c.self.inside in
    let few : in_it.count < 2 ^ 62 = subst (λ (s : ShardParts). s.count < 2 ^ 62) (sym c.self.view_is) c.requires in
    let next = floor_of in_it.window (in_it.count + 1) in
    absorbed_is in_it.window in_it.count in_it.contents c.self.invariant few c.trim.new.self in_it.last c.args.entry.now
    (c.trim.ensures.definitions ∙ c.in_ok-absorb.ensures.definitions)
    (c.trim.ensures.entities ∙ ap (λ f. trimmed f c.absorb.new.self.entities) c.floor_of.ensures
    ∙ ap (trimmed next) (c.in_ok-absorb.ensures.entities ∙ ap (fold (written (in_it.count + 1)) in_it.contents.entities) c.as_slice.ensures))
    ∙ ap (λ (s : ShardParts). absorbed s c.args.entry.now) c.self.view_is
