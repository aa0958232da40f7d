use Rattle.std.proofs.Common.{◌≡◌, [], ◌∷◌, ◌++◌, Some, None, Err, rules}
use Rattle.std.proofs.lemmas.List.{append-nil}
use Rattle.ds_json_reading.proofs.EntriesLemmas.{entry_read, entry_refused}
use Rattle.ds_json_reading.proofs.entries.read_entries.Goals as goal

pub returns-in_err-item-clause-read : goal.returns-in_err-item-clause-read
returns-in_err-item-clause-read g c =
    let r : c.from_residual.result ≡ Err c.in_err-item.field-0.0 = search rules in
    rw r (λ known. entry_refused (g.F.EntryForm.reads c.args.form.now) _ c.loop-name.items.items c.loop-name.name-iterator c.in-Some.name c.in-Some.value c.next.new.self c.in_err-item.field-0.0 c.loop-name.invariant c.in-Some.ensures.steps (c.in_err-item.ensures known))

pub loop-name-preserved-in_default-push : goal.loop-name-preserved-in_default-push
loop-name-preserved-in_default-push g c =
    let pushed : c.push.new.self.items ≡ c.loop-name.items.items ++ c.in-Some-2.item ∷ [] = c.in_default-push.ensures.items in
    rw pushed (entry_read (g.F.EntryForm.reads c.args.form.now) _ c.loop-name.items.items c.loop-name.name-iterator c.in-Some.name c.in-Some.value c.next.new.self (Some c.in-Some-2.item) c.loop-name.invariant c.in-Some.ensures.steps
    (rw c.in-Some-2.is at c.in_ok-item.ensures))

pub loop-name-preserved : goal.loop-name-preserved
loop-name-preserved g c =
    let kept : c.loop-name.items.items ++ [] ≡ c.loop-name.items.items = append-nil c.loop-name.items.items in
    rw kept at (entry_read (g.F.EntryForm.reads c.args.form.now) _ c.loop-name.items.items c.loop-name.name-iterator c.in-Some.name c.in-Some.value c.next.new.self None c.loop-name.invariant c.in-Some.ensures.steps
    (rw c.in_default-2.is at c.in_ok-item.ensures))
