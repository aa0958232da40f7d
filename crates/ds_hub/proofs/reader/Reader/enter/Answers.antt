use Rattle.ds_hub.specs.Logs.{told_by}
use Rattle.ds_hub.proofs.Turning.{enters}
use Rattle.ds_hub.proofs.reader.Reader.enter.Goals as goal

pub enter_as-requires : goal.enter_as-requires
enter_as-requires g c x = enters (told_by g.S.Absorb.asks g.S.Absorb.applied) g.S.Absorb.belongs g.S.Absorb.state _ _ x
