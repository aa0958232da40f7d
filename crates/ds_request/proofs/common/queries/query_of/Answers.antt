use Rattle.std.proofs.Common.{[], false, Ok, codes, sym, ap, ◌∙◌}
use Rattle.std.specs.Option.{unwrap_or}
use Rattle.ds_json_reading.specs.Reading.{member_of, list_of}
use Rattle.ds_query.specs.declared.query.Select.TheVariants as select
use Rattle.ds_member_reading.specs.Forms.{namespace_of, filter_of, order_of, select_of, results_of, flag_of}
use Rattle.ds_member_reading.proofs.MemberLaws.{defaulted_is}
use Rattle.ds_request.specs.Lawful.{IsLawfulCall}
use Rattle.ds_request.specs.Requests.{query_call_of}
use Rattle.ds_request.proofs.LawfulLemmas.{value_kept, query_lawful}
use Rattle.ds_request.proofs.QueryLaws.{query_made}
use Rattle.ds_request.proofs.common.queries.query_of.Goals as goal

pub returns : goal.returns
returns c = λ client ms h.
    let q = c.args.members.now.slots in
    let namespace = defaulted_is namespace_of [] (member_of (codes "namespace") ms) c.take.result (h.0 ∙ ap Ok (sym c.take.ensures.value)) ∙ ap Ok (sym (c.unwrap_or-namespace.ensures ∙ ap (unwrap_or c.take.result) c.new.ensures)) in
    let kind = h.1.0 ∙ ap Ok (sym c.take-kind.ensures.value) in
    let ancestor = h.1.1.0 ∙ ap Ok (sym c.take-ancestor.ensures.value) in
    let filters = defaulted_is (list_of filter_of) [] (member_of (codes "filters") ms) c.take-2.result (h.1.1.1.0 ∙ ap Ok (sym c.take-2.ensures.value)) ∙ ap Ok (sym (c.unwrap_or-filters.ensures ∙ ap (unwrap_or c.take-2.result) c.new-2.ensures)) in
    let orders = defaulted_is (list_of order_of) [] (member_of (codes "orders") ms) c.take-3.result (h.1.1.1.1.0 ∙ ap Ok (sym c.take-3.ensures.value)) ∙ ap Ok (sym (c.unwrap_or-orders.ensures ∙ ap (unwrap_or c.take-3.result) c.new-3.ensures)) in
    let selected = defaulted_is select_of select.Entities (member_of (codes "select") ms) c.take-4.result (h.1.1.1.1.1.0 ∙ ap Ok (sym c.take-4.ensures.value)) ∙ ap Ok (sym c.unwrap_or-select.ensures) in
    let offset = defaulted_is results_of 0 (member_of (codes "offset") ms) q.1.1.1.1.1.1.0.found h.1.1.1.1.1.1.0 ∙ ap Ok (sym c.unwrap_or-offset.ensures) in
    let start = h.1.1.1.1.1.1.1.1.0 ∙ ap Ok (sym c.take-start.ensures.value) in
    let end = h.1.1.1.1.1.1.1.1.1.0 ∙ ap Ok (sym c.take-end.ensures.value) in
    let cursor = defaulted_is flag_of false (member_of (codes "cursor") ms) q.1.1.1.1.1.1.1.1.1.1.0.found h.1.1.1.1.1.1.1.1.1.1.0 ∙ ap Ok (sym c.unwrap_or-cursor.ensures) in
    let made = query_made client ms c.unwrap_or-namespace.result c.take-kind.result c.take-ancestor.result c.unwrap_or-filters.result c.unwrap_or-orders.result c.unwrap_or-select.result c.unwrap_or-offset.result q.1.1.1.1.1.1.1.0.found c.take-start.result c.take-end.result c.unwrap_or-cursor.result namespace kind ancestor filters orders selected offset h.1.1.1.1.1.1.1.0 start end cursor in
    (made, value_kept IsLawfulCall (query_call_of client ms) _ made (query_lawful client ms))
