use Rattle.ds_clients.proofs.answering.LineHandlerHandlerClientAnswering.handle.Goals as goal

pub run-requires-sync-R : goal.run-requires-sync-R
run-requires-sync-R g c κs within = record { shared = c.requires.shared.shared }
