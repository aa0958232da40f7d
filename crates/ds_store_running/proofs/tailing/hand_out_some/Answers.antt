use Rattle.std.proofs.Common.{◌+◌, List, drop, take, ap, sym, subst, ◌∙◌, arith}
use Rattle.ds_journal.specs.Books.{BookParts}
use Rattle.ds_log.specs.declared.Commit.{Commit}
use Rattle.ds_log.specs.Conflicts.{IsSerial}
use Rattle.ds_store_passes.specs.Passes.{PassParts}
use Rattle.ds_store_running.proofs.Tails.{issued_some}
use Rattle.ds_store_running.proofs.tailing.hand_out_some.Goals as goal

pub returns-clause-serial : goal.returns-clause-serial
returns-clause-serial g c =
    let same = ap (λ (s : PassParts). s.journal) c.look_past.ensures.pass ∙ ap (λ (s : PassParts). s.journal) c.show-place.ensures.pass
    ∙ ap (λ (b : BookParts). b.journal) (sym c.show-place.ensures.desk) in
    subst IsSerial (sym same) c.journal.ensures.lawful.serial

pub returns-clause-issued : goal.returns-clause-issued
returns-clause-issued g c =
    issued_some c.show-place.new.self.book.journal c.in_ok-commits.commits c.args.part.from (c.args.part.from + c.args.part.most)
    c.show-place.new.self.book.next c.next-2.result
    c.next.ensures.lawful.issued (omega (arith, c.next.ensures.value, c.look_past.ensures.risen.1, c.next-2.ensures.value))
    (c.in_ok-commits.ensures ∙ ap (λ (js : List Commit). drop c.args.part.from (take (c.args.part.from + c.args.part.most) js)) c.journal.ensures.value)
