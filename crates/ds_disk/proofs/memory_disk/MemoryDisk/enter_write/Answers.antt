use Rattle.std.proofs.Common.{◌≡◌, ◌+◌, ◌^◌, ◌<◌, ◌||◌, false, length, subst, sym}
use Rattle.ds_disk.specs.Memory.{is_stopped, is_too_large}
use Rattle.ds_disk.specs.declared.call.Change.TheVariants.{Write}
use Rattle.ds_disk.proofs.Refusals.{lacking, lacking_fails}
use Rattle.ds_disk.proofs.memory_disk.MemoryDisk.enter_write.Goals as goal

pub returns-in_default-clause-after : goal.returns-in_default-clause-after
returns-in_default-clause-after c =
    let d = c.args.self.now in
    let write = Write c.args.at c.args.piece.now in
    lacking d c.lack.new.self write (is_stopped d || is_too_large d c.args.at c.args.piece.now) (c.lack.ensures.after write)

pub returns-in_default-clause-done : goal.returns-in_default-clause-done
returns-in_default-clause-done c =
    let d = c.args.self.now in
    let write = Write c.args.at c.args.piece.now in
    lacking_fails d c.lack.new.self write (is_stopped d || is_too_large d c.args.at c.args.piece.now) (c.lack.ensures.after write)

pub enter-requires : goal.enter-requires
enter-requires c = subst (λ piece. c.refuses-refused.result ≡ false → c.args.at + length piece < 2 ^ 64) (sym c.in-Ok.ensures)
    c.refuses-refused.ensures.below
