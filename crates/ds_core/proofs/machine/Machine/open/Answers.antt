use Rattle.ds_core.proofs.Words.{subst, sym, slice_set, IsLegal, parts, Advances, course_of}
use Rattle.ds_effects.specs.declared.gathered.Step.TheVariants as steps
use Rattle.ds_core.proofs.Calls.{ok-then}
use Rattle.ds_core.proofs.Changing.{opened-changes}
use Rattle.ds_core.proofs.Gathers.{open-legal}
use Rattle.ds_core.proofs.machine.Machine.open.Goals as goal

pub advance-requires-clause-legal : goal.advance-requires-clause-legal
advance-requires-clause-legal c =
    subst (λ o. IsLegal (record (parts c.args.self.now) { opens = slice_set c.args.self.now.opens.items c.args.client o }))
    (sym c.in_ok-open_request.ensures)
    (open-legal (parts c.args.self.now) c.requires.legal c.args.client c.requires.client c.args.request c.args.work c.shards-shards.result
    c.requires.work c.shards-shards.ensures.counts c.shards-shards.ensures.value c.requires.lawful c.requires.closed)

pub returns-clause-opens : goal.returns-clause-opens
returns-clause-opens c =
    ok-then c.advance.result (λ is. opened-changes (parts c.args.self.now) c.requires.legal c.args.client c.requires.client c.args.request
    c.requires.closed c.args.work c.shards-shards.result (course_of (parts c.advance.new.self)) c.shards-shards.ensures.value
    c.requires.work.0
    (subst (λ o. Advances c.args.self.now.state.store.shards steps.Touch c.args.client
    (course_of (record (parts c.args.self.now) { opens = slice_set c.args.self.now.opens.items c.args.client o }))
    (course_of (parts c.advance.new.self))) c.in_ok-open_request.ensures is)) c.advance.ensures.advances
