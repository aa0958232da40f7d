use Rattle.std.proofs.Common.{◌≡◌, ◌||◌, length, ap, ◌∙◌}
use Rattle.ds_disk.specs.Memory.{StateParts, state_of}
use Rattle.ds_disk.specs.MomentLaws.{look_steps}
use Rattle.ds_disk.proofs.memory_disk.MemoryDiskDisk.len.Goals as goal

pub returns-clause-length : goal.returns-clause-length
returns-clause-length c =
    let held : c.state.result.now.contents ≡ (state_of c.args.self.now).contents =
    ap (λ (s : StateParts). s.contents) (c.state.ensures ∙ ap state_of c.self.view_is)
    ∙ (look_steps c.args.self.now c.enter.new.self (c.has_stopped-stopped.result || c.enter.new.self.lacks) c.enter.new.self.lacks
    c.enter.ensures.after).0 in
    c.len.ensures ∙ ap length held
