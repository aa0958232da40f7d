use Rattle.std.proofs.Common.{subst, sym, ◌∙◌, arith}
use Rattle.std.specs.Prelude.{All}
use Rattle.ds_engine.specs.Counted.{HasBegun}
use Rattle.ds_store_reads.proofs.QueryLaws.{begun-of, many-origins, placed-origins}
use Rattle.ds_store_reads.proofs.searching.query_wide.Goals as goal

pub query_shards_wide-requires-clause-begun : goal.query_shards_wide-requires-clause-begun
query_shards_wide-requires-clause-begun g c κs within =
    subst (λ n. All (HasBegun n c.args.query.now.defs.now c.args.kept) c.pass.inside.shards.items) (sym c.requires.ledger)
    (begun-of g.J.Names.ledger g.J.Names.definitions c.args.query.now.defs.now g.J.Names.window c.args.kept g.J.Names.shards
    c.pass.inside.shards.items c.requires.definitions c.requires.kept.0 c.pass.invariant.1)

pub query_shards_wide-requires-clause-placed : goal.query_shards_wide-requires-clause-placed
query_shards_wide-requires-clause-placed g c κs within =
    placed-origins g.J.Names.ledger g.J.Names.definitions g.J.Names.window g.J.Names.shards c.pass.inside.shards.items c.pass.invariant.1

pub query_shards_wide-requires-clause-some : goal.query_shards_wide-requires-clause-some
query_shards_wide-requires-clause-some g c κs within =
    let many = many-origins g.J.Names.ledger g.J.Names.definitions g.J.Names.window g.J.Names.shards c.pass.inside.shards.items
    c.pass.invariant.1 in
    let some = c.pass.invariant.5.0 in
    omega (arith, many, some)

pub query_shards_wide-requires-clause-few : goal.query_shards_wide-requires-clause-few
query_shards_wide-requires-clause-few g c κs within =
    let many = many-origins g.J.Names.ledger g.J.Names.definitions g.J.Names.window g.J.Names.shards c.pass.inside.shards.items
    c.pass.invariant.1 in
    let few = c.pass.invariant.5.1 in
    omega (arith, many, few)

pub invariant_of-pass : goal.invariant_of-pass
invariant_of-pass g c =
    let inv = c.pass.invariant in
    (inv.0, c.query_shards_wide.ensures.hubs ∙ inv.1, inv.2, inv.3, inv.4, inv.5, inv.6)
