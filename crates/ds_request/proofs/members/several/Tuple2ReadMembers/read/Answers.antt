use Rattle.std.proofs.Common.{◌≡◌, Ok, Err, ap, ◌∙◌, rules}
use Rattle.serde_json.specs.View.{members_view}
use Rattle.ds_request.specs.declared.call.RequestRefused.TheVariants as refused
use Rattle.ds_request.specs.Requests.{told_at}
use Rattle.ds_request.proofs.SeveralLemmas.{agree_after, apart_parts, then_read}
use Rattle.ds_request.proofs.members.several.Tuple2ReadMembers.read.Goals as goal

pub returns-in_err-items : goal.returns-in_err-items
returns-in_err-items g c = λ asked agree make.
    let field = g.A.ReadMember.field c.args.self.0 in
    let reads = g.A.ReadMember.reads c.args.self.0 in
    let apart = apart_parts field (g.B.ReadMembers.fields c.args.self.1) c.requires in
    let r : c.from_residual-in_err-items.result ≡ Err c.in_err-items.field-0.0 = search rules in
    rw r (then_read refused.NoMemory _ (λ x. g.B.ReadMembers.reads c.args.self.1 c.args.client asked (λ xs. make (x, xs))) c.in_ok-item.item (Err c.in_err-items.field-0.0)
    (ap (λ d. told_at c.args.client field (reads d)) agree.0 ∙ c.in_ok-item.ensures.read)
    (c.in_err-items.ensures asked (agree_after field _ asked (members_view c.args.members.entries) _ apart.0 agree.1 c.in_ok-item.ensures.others) (λ xs. make (c.in_ok-item.item, xs))))

pub returns : goal.returns
returns g c = λ asked agree make.
    let field = g.A.ReadMember.field c.args.self.0 in
    let reads = g.A.ReadMember.reads c.args.self.0 in
    let apart = apart_parts field (g.B.ReadMembers.fields c.args.self.1) c.requires in
    then_read refused.NoMemory _ (λ x. g.B.ReadMembers.reads c.args.self.1 c.args.client asked (λ xs. make (x, xs))) c.in_ok-item.item (Ok (make (c.in_ok-item.item, c.in_ok-items.items)))
    (ap (λ d. told_at c.args.client field (reads d)) agree.0 ∙ c.in_ok-item.ensures.read)
    (c.in_ok-items.ensures asked (agree_after field _ asked (members_view c.args.members.entries) _ apart.0 agree.1 c.in_ok-item.ensures.others) (λ xs. make (c.in_ok-item.item, xs)))
