use Rattle.std.proofs.Common.{◌≡◌, IfSome, Ok, sym, ap, subst, ◌∙◌}
use Rattle.ds_request.specs.Lawful.{IsLawfulCall}
use Rattle.ds_request.specs.Requests.{call_of}
use Rattle.ds_request.proofs.common.calls.call_of.Goals as goal

pub returns-in-Put : goal.returns-in-Put
returns-in-Put c = λ client ms h.
    subst (λ o. IfSome c.put.result (λ x. (call_of client ms o ≡ Ok x) × IsLawfulCall x)) (sym c.in-Put.is) (c.put.ensures client ms (h.1.0 ∙ ap Ok (sym c.take.ensures.value)))

pub returns-in-Delete : goal.returns-in-Delete
returns-in-Delete c = λ client ms h.
    subst (λ o. IfSome c.delete.result (λ x. (call_of client ms o ≡ Ok x) × IsLawfulCall x)) (sym c.in-Delete.is) (c.delete.ensures client ms (h.1.1.1.0 ∙ ap Ok (sym c.take-in-Delete.ensures.value)))

pub returns-in-Get : goal.returns-in-Get
returns-in-Get c = λ client ms h.
    subst (λ o. IfSome c.get.result (λ x. (call_of client ms o ≡ Ok x) × IsLawfulCall x)) (sym c.in-Get.is) (c.get.ensures client ms (h.1.1.1.0 ∙ ap Ok (sym c.take-in-Get.ensures.value)))

pub returns-in-Begin : goal.returns-in-Begin
returns-in-Begin c = λ client ms h.
    subst (λ o. (call_of client ms o ≡ Ok c.begin.result) × IsLawfulCall c.begin.result) (sym c.in-Begin.is) (c.begin.ensures client ms h.1.1.1.1.0)

pub returns-in-AllocateIds : goal.returns-in-AllocateIds
returns-in-AllocateIds c = λ client ms h.
    subst (λ o. IfSome c.allocate_ids.result (λ x. (call_of client ms o ≡ Ok x) × IsLawfulCall x)) (sym c.in-AllocateIds.is) (c.allocate_ids.ensures client ms h.1.1.1.1.1.0)

pub returns-in-Apply : goal.returns-in-Apply
returns-in-Apply c = λ client ms h.
    subst (λ o. IfSome c.apply.result (λ x. (call_of client ms o ≡ Ok x) × IsLawfulCall x)) (sym c.in-Apply.is) (c.apply.ensures client ms h.1.1.1.1.1.1.0)

pub returns-in-Query : goal.returns-in-Query
returns-in-Query c = λ client ms h.
    subst (λ o. (call_of client ms o ≡ Ok c.query_of.result) × IsLawfulCall c.query_of.result) (sym c.in-Query.is) (c.query_of.ensures client ms h.1.1.1.1.1.1.1)
