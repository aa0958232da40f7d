use Rattle.ds_hub.specs.Logs.{told_by}
use Rattle.ds_hub.proofs.Turning.{admits, forks, merges}
use Rattle.ds_hub.proofs.hub.seat.Goals as goal

pub reader-requires-clause-admits : goal.reader-requires-clause-admits
reader-requires-clause-admits g c = admits (told_by g.S.Absorb.asks g.S.Absorb.applied) g.S.Absorb.belongs g.S.Absorb.state

pub reader-requires-clause-forks : goal.reader-requires-clause-forks
reader-requires-clause-forks g c = forks (told_by g.S.Absorb.asks g.S.Absorb.applied) g.S.Absorb.belongs g.S.Absorb.state _ _

pub reader-requires-clause-merges : goal.reader-requires-clause-merges
reader-requires-clause-merges g c seat note = merges (told_by g.S.Absorb.asks g.S.Absorb.applied) g.S.Absorb.belongs g.S.Absorb.state seat _ note _
