-- Whatever lines asked what is left, with their answers those of all are answered.
use Rattle.std.proofs.Common.{Some}
use Rattle.ds_client.specs.Clients.{IsReady}
use Rattle.ds_client.proofs.OwnLaws.{AnsweredSoFar}
use Rattle.ds_client.proofs.client.answer_own.Given as goal

abbrev pub invariant-loop-asked : goal.invariant-loop-asked
invariant-loop-asked g l = record {
  ready : IsReady l.store.shards l.session l.asked-iterator.rest.items;
  so_far : AnsweredSoFar g.J.Names.definitions l.store.shards (Some g.J.Names.window) l.fn.session l.fn.own.items l.session
      l.asked-iterator.rest.items;
}
