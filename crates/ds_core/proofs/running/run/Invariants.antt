use Rattle.ds_core.proofs.Words.{◌≡◌, ◌++◌, List, map, All, IsPast, course_of, Happening, event_of, moment_of, IsLawfulEvent, IsLegal}
use Rattle.ds_core.proofs.Words.{parts, AreWaiting}
use Rattle.ds_core.proofs.running.run.Given as goal

-- what was said so far is legal, and the events that are left are lawful
abbrev pub invariant-loop-event : goal.invariant-loop-event
invariant-loop-event l = record {
  legal : IsLegal (parts l.machine);
  definitions : l.machine.state.store.definitions ≡ l.fn.defs;
  shards : l.machine.state.store.shards ≡ l.fn.shards;
  lawful : All (IsLawfulEvent l.fn.shards) l.event-iterator.rest.items;
  waiting : AreWaiting l.machine.state.store.shards (moment_of (parts l.machine));
  happenings : List Happening;
  past : IsPast l.fn.shards (course_of (parts l.machine)) happenings;
  taken : map event_of happenings ++ l.event-iterator.rest.items ≡ l.fn.events;
}
