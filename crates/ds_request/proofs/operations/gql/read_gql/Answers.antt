use Rattle.std.proofs.Common.{◌≡◌, ℕ, List, Bool, Option, Err, refl, rules}
use Rattle.serde_json.specs.View.{members_view}
use Rattle.ds_base.specs.declared.value.Value.{Value}
use Rattle.ds_base.specs.declared.named_value.NamedValue.{NamedValue}
use Rattle.ds_request.specs.declared.call.Call.{Call}
use Rattle.ds_request.specs.declared.call.Call.TheVariants as call
use Rattle.ds_request.proofs.operations.gql.read_gql.Goals as goal

-- the call of the members that were read
abbrev made : List ℕ × (List ℕ × (List Value × (List NamedValue × (Option (List ℕ) × (Option (List ℕ) × (Bool × Unit {0})))))) → Call
made p = call.Gql p.0 p.1.0 p.1.1.0 p.1.1.1.0 p.1.1.1.1.0 p.1.1.1.1.1.0 p.1.1.1.1.1.1.0

pub returns-in_err-namespace : goal.returns-in_err-namespace
returns-in_err-namespace c =
    let r : c.from_residual.result ≡ Err c.in_err-namespace.field-0.0 = search rules in
    let ms = members_view c.args.members.entries in
    rw r (rw (c.new.ensures, c.new-2.ensures, c.new-3.ensures) at (c.in_err-namespace.ensures ms (refl, (refl, (refl, (refl, (refl, (refl, (refl, tt))))))) made))

pub returns : goal.returns
returns c =
    let ms = members_view c.args.members.entries in
    rw (c.new.ensures, c.new-2.ensures, c.new-3.ensures) at (c.in_ok-namespace.ensures ms (refl, (refl, (refl, (refl, (refl, (refl, (refl, tt))))))) made)
