use Rattle.std.proofs.Common.{[], ◌∷◌, ◌++◌, sym, ap, ◌∙◌}
use Rattle.ds_disk.specs.Memory.{StateParts, at_rest, state_after, after_change}
use Rattle.ds_disk.specs.declared.call.Call.{Call}
use Rattle.ds_disk.specs.MomentLaws.{state_after-push}
use Rattle.ds_disk.proofs.history.History.enter.Goals as goal

pub invariant_of-self-2 : goal.invariant_of-self-2
invariant_of-self-2 c =
    let start = at_rest c.self.inside.first in
    let call : Call = record { change = c.args.change; failed = c.args.failed } in
    c.in_ok-apply.ensures.ok
    ∙ ap (λ (s : StateParts). after_change s c.args.change c.args.failed) c.self.invariant
    ∙ sym (state_after-push start c.self.inside.calls.items call)
    ∙ ap (state_after start) (sym (c.keep.ensures ∙ ap (λ calls. calls ++ call ∷ []) c.reserve.ensures.items))
