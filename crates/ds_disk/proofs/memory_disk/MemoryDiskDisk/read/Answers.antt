use Rattle.std.proofs.Common.{◌≡◌, ◌||◌, ◌-◌, min, length, take, drop, ap, ◌∙◌}
use Rattle.ds_disk.specs.Memory.{StateParts, state_of}
use Rattle.ds_disk.specs.MomentLaws.{look_steps}
use Rattle.ds_disk.proofs.memory_disk.MemoryDiskDisk.read.Goals as goal

pub returns-clause-amount : goal.returns-clause-amount
returns-clause-amount c =
    let held : c.state.result.now.contents ≡ (state_of c.args.self.now).contents =
    ap (λ (s : StateParts). s.contents) (c.state.ensures ∙ ap state_of c.self.view_is)
    ∙ (look_steps c.args.self.now c.enter.new.self (c.has_stopped-stopped.result || c.enter.new.self.lacks) c.enter.new.self.lacks
    c.enter.ensures.after).0 in
    c.read.ensures.amount ∙ ap (λ xs. min (length xs - c.args.at) (length c.read.new.buf)) held

pub returns-clause-front : goal.returns-clause-front
returns-clause-front c =
    let held : c.state.result.now.contents ≡ (state_of c.args.self.now).contents =
    ap (λ (s : StateParts). s.contents) (c.state.ensures ∙ ap state_of c.self.view_is)
    ∙ (look_steps c.args.self.now c.enter.new.self (c.has_stopped-stopped.result || c.enter.new.self.lacks) c.enter.new.self.lacks
    c.enter.ensures.after).0 in
    c.read.ensures.front ∙ ap (λ xs. take c.read.result (drop c.args.at xs)) held
