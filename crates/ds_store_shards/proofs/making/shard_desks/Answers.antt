use Rattle.std.proofs.Common.{◌≡◌, suc, ◌+◌, ◌-◌, List, length, drop, ap, sym, ◌∙◌, arith, rules}
use Rattle.std.specs.Prelude.{Option, Some}
use Rattle.std.proofs.lemmas.List.{length-drop}
use Rattle.ds_hub.specs.Line.{HubId}
use Rattle.ds_shard.specs.States.{StateParts, begun}
use Rattle.ds_store_hubs.specs.Origins.{origins}
use Rattle.ds_store_hubs.proofs.ShardHubs.{origin-next, origins-many}
use Rattle.ds_store_shards.proofs.making.shard_desks.Goals as goal

pub overflow_cast-shards : goal.overflow_cast-shards
overflow_cast-shards g c =
    let many = ap (λ (os : List (HubId × Option StateParts)). length os) c.requires.shards
    ∙ origins-many g.J.Names.ledger (length g.J.Names.shards) g.J.Names.definitions g.J.Names.window 0 g.J.Names.shards in
    omega (arith, many, c.len-shards.ensures, c.args.opened.ok.0, c.requires.few.1)

pub shard_desk-desk-requires-clause-hub : goal.shard_desk-desk-requires-clause-hub
shard_desk-desk-requires-clause-hub g c =
    let next = origin-next g.J.Names.ledger g.J.Names.definitions g.J.Names.window g.J.Names.shards c.loop-shard.number c.in-Some.shard
    c.next.new.self.rest.items
    (sym c.in-Some.ensures.steps.0 ∙ c.loop-shard.invariant.left) in
    next.0

pub shard_desk-desk-requires-clause-begun : goal.shard_desk-desk-requires-clause-begun
shard_desk-desk-requires-clause-begun g c =
    let number = c.loop-shard.number in
    let next = origin-next g.J.Names.ledger g.J.Names.definitions g.J.Names.window g.J.Names.shards number c.in-Some.shard
    c.next.new.self.rest.items
    (sym c.in-Some.ensures.steps.0 ∙ c.loop-shard.invariant.left) in
    let all : c.len-shards.result ≡ length c.args.opened.items = search rules in
    let many : length c.args.opened.items ≡ length g.J.Names.shards = ap (λ (os : List (HubId × Option StateParts)). length os)
    c.requires.shards
    ∙ origins-many g.J.Names.ledger (length g.J.Names.shards) g.J.Names.definitions g.J.Names.window 0 g.J.Names.shards in
    next.1
    ∙ ap (λ n. Some (begun g.J.Names.ledger (record { shards = n; number = number }) g.J.Names.definitions g.J.Names.window))
    (sym (all ∙ many))

pub shard_desk-desk-requires-clause-many : goal.shard_desk-desk-requires-clause-many
shard_desk-desk-requires-clause-many g c =
    let all : c.len-shards.result ≡ length c.args.opened.items = search rules in
    let many : length c.args.opened.items ≡ length g.J.Names.shards = ap (λ (os : List (HubId × Option StateParts)). length os)
    c.requires.shards
    ∙ origins-many g.J.Names.ledger (length g.J.Names.shards) g.J.Names.definitions g.J.Names.window 0 g.J.Names.shards in
    (all ∙ many, omega (arith, all, many, c.requires.few.0), omega (arith, all, many, c.requires.few.1))

pub loop-shard-preserved : goal.loop-shard-preserved
loop-shard-preserved g c =
    let os = origins g.J.Names.ledger g.J.Names.definitions g.J.Names.window g.J.Names.shards in
    let number = c.loop-shard.number in
    let next = origin-next g.J.Names.ledger g.J.Names.definitions g.J.Names.window g.J.Names.shards number c.in-Some.shard
    c.next.new.self.rest.items
    (sym c.in-Some.ensures.steps.0 ∙ c.loop-shard.invariant.left) in
    let one : suc number ≡ number + 1 = omega arith in
    let more : length c.push.new.self.items ≡ number + 1 = search rules in
    record {
      left = next.2 ∙ ap (λ n. drop n os) one;
      within = omega (arith, next.3);
      desks = more;
      readers = c.a_reader.ensures.left;
    }

pub returns : goal.returns
returns g c =
    let os = origins g.J.Names.ledger g.J.Names.definitions g.J.Names.window g.J.Names.shards in
    let number = c.loop-shard.number in
    let rest = c.loop-shard.shard-iterator.rest in
    let none : length rest.items ≡ 0 = omega (arith, rest.ok.0, c.in-None.ensures.steps.0) in
    let left : length rest.items ≡ length os - number =
    ap (λ (xs : List (HubId × Option StateParts)). length xs) c.loop-shard.invariant.left ∙ length-drop number os in
    let many = origins-many g.J.Names.ledger (length g.J.Names.shards) g.J.Names.definitions g.J.Names.window 0 g.J.Names.shards in
    omega (arith, none, left, many, c.loop-shard.invariant.within, c.loop-shard.invariant.desks)
