use Rattle.std.proofs.Common.{sym, subst, map, refl, arith}
use Rattle.ds_log.specs.Logs.{key_of}
use Rattle.ds_shard.specs.Expiries.{AreBy}
use Rattle.ds_shard.specs.Contents.{ContentsParts, LeadBack}
use Rattle.ds_shard.proofs.Writing.{Stays, is_back}
use Rattle.ds_shard.proofs.contents.Contents.undo.Goals as goal

pub returns : goal.returns
returns c = λ before kept given back.
    let in_it = c.self.inside in
    let stamp = c.args.stamp in
    let keys = map key_of c.args.writes.now in
    let old : ContentsParts = record { definitions = in_it.defs; table = in_it.table; entities = in_it.entities; ends = in_it.expiring } in
    let new : ContentsParts = record {
      definitions = in_it.defs;
      table = c.undo.new.self;
      entities = c.undo_writes.new.entities;
      ends =
          c.undo-2.new.self;
    } in
    let undone = c.undo.ensures in
    let stays : Stays stamp old new = record {
      definitions = refl;
      floor = undone.same_floor;
      least = undone.same_least;
      least_undone = undone.same_least_undone;
      last = (let a = undone.last in omega (arith, a));
      ends = c.undo-2.ensures.same_others;
      by = c.undo-2.ensures.still_by stamp (subst (λ (d : ContentsParts). AreBy stamp d.ends) (sym c.self.view_is) c.requires.ends);
    } in
    is_back stamp keys before old new kept given (subst (LeadBack stamp keys before) (sym c.self.view_is) back) undone.undone c.undo_writes.ensures stays
