-- What every call that is read keeps beside the rules of its types, so that what it asks can be done.
use Rattle.std.specs.Prelude.{◌≤◌, ⊤, IsTrue}
use Rattle.std.specs.List.{list_all}
use Rattle.ds_base.specs.Keys.{is_namespace}
use Rattle.ds_query.specs.Filters.{has_operands}
use Rattle.ds_request.specs.declared.call.Call.{Call}
use Rattle.ds_request.specs.declared.call.Call.TheVariants as call
use Rattle.ds_request.specs.Entities.{IsPut}

-- a put has a key and properties that an entity may have; a query and a statement have a namespace, a query's filters their values;
-- at least one id is asked for
abbrev pub IsLawfulCall : Call → Type 0
IsLawfulCall (call.Put key incomplete properties) = IsPut key incomplete properties
IsLawfulCall (call.Query namespace kind ancestor filters orders selected offset limit start end cursor) =
    IsTrue (is_namespace namespace) × IsTrue (list_all has_operands filters)
IsLawfulCall (call.Gql namespace text args names start end cursor) = IsTrue (is_namespace namespace)
IsLawfulCall (call.AllocateIds count) = 1 ≤ count
IsLawfulCall _ = ⊤
