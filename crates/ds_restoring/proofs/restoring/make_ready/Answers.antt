use Rattle.std.proofs.Common.{◌∙◌, ◌-◌, List, ap, arith, length, replicate}
use Rattle.std.proofs.lemmas.List.{length-replicate}
use Rattle.ds_clients.specs.Runs.{seen_of}
use Rattle.ds_store.specs.Passes.{PassParts, nothing_seen}
use Rattle.ds_restoring.proofs.Starting.{seen_from}
use Rattle.ds_restoring.proofs.restoring.make_ready.Goals as goal

pub returns : goal.returns
returns g c =
    let l = c.args.loading in
    let made = c.in_ok-made in
    let begun = c.in_ok-clients in
    let many = ap (λ (ps : List PassParts). length ps) made.ensures.apart.0 ∙ length-replicate (l.passes - 1) (nothing_seen l.shards) in
    record {
      store_has = made.ensures.store.0;
      first = begun.ensures.rounds;
      seen = seen_from (seen_of begun.clients.begun.sessions) (record { journal = l.journal; next = l.next }) l.shards
          made.made.store.shards c.len-place.result c.next-next.result c.len-place.ensures c.next-next.ensures.value
          made.ensures.store.0 begun.ensures.seen;
      idle = begun.ensures.idle;
      written = begun.ensures.written;
      follows = made.ensures.apart.1;
      none_counted = begun.ensures.counts ∙ ap (λ n. replicate n 0) made.ensures.store.0;
      appliers_idle = begun.ensures.appliers;
      all = omega (arith, begun.ensures.all, many, made.ensures.store.1, c.requires);
      room = omega (arith, begun.ensures.room, many, made.ensures.store.1, c.requires);
    }
