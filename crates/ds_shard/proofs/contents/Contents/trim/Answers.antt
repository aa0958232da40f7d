use Rattle.std.proofs.Common.{◌≤◌, sym, subst, refl}
use Rattle.ds_shard.specs.Contents.{ContentsParts, AreKept}
use Rattle.ds_shard.proofs.Writing.{Falls, is_trimmed}
use Rattle.ds_shard.proofs.contents.Contents.trim.Goals as goal

pub returns-clause-kept : goal.returns-clause-kept
returns-clause-kept c = λ stamp kept low high.
    let in_it = c.self.inside in
    let old : ContentsParts = record { definitions = in_it.defs; table = in_it.table; entities = in_it.entities; ends = in_it.expiring } in
    let new : ContentsParts = record {
      definitions = in_it.defs;
      table = c.trim.new.self;
      entities = c.trim_due.new.entities;
      ends =
          c.trim_due.new.expiring;
    } in
    let falls : Falls c.args.floor old new = record {
      definitions = refl;
      entities = c.trim_due.ensures.entities;
      noted = c.trim_due.ensures.noted;
      still_by = c.trim_due.ensures.still_by;
      trimmed_table = c.trim.ensures.trimmed;
      floor_is = c.trim.ensures.floor;
      last = c.trim.ensures.same_last;
      least = c.trim.ensures.least;
      least_undone = c.trim.ensures.least_undone;
    } in
    let rises : old.table.floor ≤ c.args.floor =
    subst (λ (d : ContentsParts). d.table.floor ≤ c.args.floor) (sym c.self.view_is) c.requires.rises in
    is_trimmed stamp c.args.floor old new (subst (AreKept stamp) (sym c.self.view_is) kept) falls rises c.requires.a_stamp low high
