use Rattle.std.proofs.Common.{refl, sym, ◌∙◌, subst}
use Rattle.ds_shard.specs.Histories.{trimmed}
use Rattle.ds_shard.specs.Expiries.{AreBy, AreNoted}
use Rattle.ds_shard.proofs.Ends.{noted-popped, all_outlive}
use Rattle.ds_shard.proofs.Trimming.{trimmed_next}
use Rattle.ds_shard.proofs.contents.trim_due.Goals as goal

pub due-init : goal.due-init
due-init c = record { entities = refl; noted = c.requires; still_by = λ most by. by }

pub due-preserved : goal.due-preserved
due-preserved c =
    let due = c.in-Some.due in
    let first = c.in-Some.ensures.first in
    let was = c.due.invariant in
    let vs = c.due.entities in
    record {
      entities = trimmed_next c.args.floor due.key vs c.trim.new.self (trimmed c.args.floor c.args.entities.now) c.trim.ensures was.entities;
      noted = subst (AreNoted c.pop_due.new.self) (sym c.trim.ensures)
          (noted-popped c.args.floor due c.pop_due.new.self first.0 vs (subst (λ es. AreNoted es vs) first.1 was.noted));
      still_by = λ most by. (subst (AreBy most) first.1 (was.still_by most by)).1;
    }

pub returns-in-None-clause-entities : goal.returns-in-None-clause-entities
returns-in-None-clause-entities c =
    let was = c.due.invariant in
    let noted = subst (λ es. AreNoted es c.due.entities) (sym c.in-None.ensures.unchanged) was.noted in
    sym (all_outlive c.args.floor c.pop_due.new.self c.in-None.ensures.none_due c.due.entities noted) ∙ was.entities

pub returns-in-None-clause-noted : goal.returns-in-None-clause-noted
returns-in-None-clause-noted c = subst (λ es. AreNoted es c.due.entities) (sym c.in-None.ensures.unchanged) c.due.invariant.noted

pub returns-in-None-clause-still_by : goal.returns-in-None-clause-still_by
returns-in-None-clause-still_by c = λ most by. subst (AreBy most) (sym c.in-None.ensures.unchanged) (c.due.invariant.still_by most by)
