use Rattle.std.proofs.Common.{◌≡◌, ℕ, List, Bool, Option, Err, refl, rules}
use Rattle.serde_json.specs.View.{members_view}
use Rattle.ds_base.specs.Keys.{KeyParts}
use Rattle.ds_base.specs.declared.column.Column.{Column}
use Rattle.ds_query.specs.declared.query.Filter.{Filter}
use Rattle.ds_query.specs.declared.query.Select.{Select}
use Rattle.ds_request.specs.declared.call.Call.{Call}
use Rattle.ds_request.specs.declared.call.Call.TheVariants as call
use Rattle.ds_request.proofs.operations.query.read_query.Goals as goal

-- what is read of a page: offset, limit, start, end and whether a cursor is asked for
abbrev Page : Type 0
Page = ℕ × (Option ℕ × (Option (List ℕ) × (Option (List ℕ) × (Bool × Unit {0}))))

-- the call of the members that were read
abbrev made : List ℕ × (Option (List ℕ) × (Option KeyParts × (List Filter × (List Column × (Select × Page))))) → Call
made p = with_page p.1.1.1.1.1.1 where
  with_page : Page → Call
  with_page q = call.Query p.0 p.1.0 p.1.1.0 p.1.1.1.0 p.1.1.1.1.0 p.1.1.1.1.1.0 q.0 q.1.0 q.1.1.0 q.1.1.1.0 q.1.1.1.1.0

pub returns-in_err-namespace : goal.returns-in_err-namespace
returns-in_err-namespace c =
    let r : c.from_residual.result ≡ Err c.in_err-namespace.field-0.0 = search rules in
    let ms = members_view c.args.members.entries in
    rw r (rw (c.new.ensures, c.new-2.ensures, c.new-3.ensures) at
    (c.in_err-namespace.ensures ms (refl, (refl, (refl, (refl, (refl, (refl, (refl, (refl, (refl, (refl, (refl, tt))))))))))) made))

pub returns : goal.returns
returns c =
    let ms = members_view c.args.members.entries in
    rw (c.new.ensures, c.new-2.ensures, c.new-3.ensures) at
    (c.in_ok-namespace.ensures ms (refl, (refl, (refl, (refl, (refl, (refl, (refl, (refl, (refl, (refl, (refl, tt))))))))))) made)
