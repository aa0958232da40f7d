use Rattle.std.proofs.Common.{[], ◌∷◌, ◌++◌, ◌∙◌, ap, subst, sym}
use Rattle.std.specs.Prelude.{Ok, Some}
use Rattle.ds_rounds.specs.Reading.{ReadsRound}
use Rattle.ds_asked.proofs.Inputs.{IsReadSoFar, read_more}
use Rattle.ds_asked.proofs.input.asked_of_input.Goals as goal

pub rounds-preserved : goal.rounds-preserved
rounds-preserved c =
    let reads = subst (λ found. ReadsRound c.rounds.reader c.next_round.new.reader (Some c.rounds.source.left) (Some c.next_round.new.source.left) (Ok found))
    c.in-Some.is c.in_ok-round.ensures.reads in
    subst (λ lists. IsReadSoFar c.args.shards c.args.input.now c.next_round.new.source.left c.next_round.new.reader lists)
    (sym (c.in_ok-push.ensures.items ∙ ap (λ lists. c.rounds.rounds.items ++ lists ∷ []) c.from.ensures))
    (read_more c.args.shards c.args.input.now c.rounds.source.left c.next_round.new.source.left c.rounds.reader c.next_round.new.reader
    c.rounds.rounds.items c.in-Some.round c.in_ok-lists.lists.items c.rounds.invariant reads c.in_ok-lists.ensures)
