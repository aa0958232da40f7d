-- The one table of refusals: the number, the name, and what is told beside them.
use Rattle.std.specs.Prelude.{ℕ, List, [], ◌∷◌, ◌++◌, codes}
use Rattle.serde_json.specs.Data.{string}
use Rattle.ds_query.specs.declared.field.Field.{Field}
use Rattle.ds_query.specs.Fields.{field_name}
use Rattle.ds_reply.specs.declared.reply.Body.{Body}
use Rattle.ds_reply.specs.declared.reply.Body.TheVariants as body
use Rattle.ds_json_printing.specs.Objects.{Named, named}
use Rattle.ds_reply.specs.Names.{reason_name}
use Rattle.ds_json_printing.specs.Printing.{natural, key_data, optional_key_data}
use Rattle.ds_reply.specs.Results.{constraint_data, index_def_data}

-- a refusal tells its number, more, and its name
abbrev pub refused : ℕ → List ℕ → List Named → List Named
refused number name more = named (codes "error") (natural number) ∷ (more ++ named (codes "name") (string name) ∷ [])

-- a member that is a number
abbrev pub counted : List ℕ → ℕ → Named
counted name n = named name (natural n)

-- the member of the request that is refused
abbrev pub at_field : Field → Named
at_field f = named (codes "field") (string (field_name f))

-- what a refusal tells; what went well is none
abbrev pub refusal_members : Body → List Named
refusal_members body.BadJson = refused 1 (codes "BadJson") []
refusal_members body.LineTooLong = refused 2 (codes "LineTooLong") []
refusal_members (body.BadRequest f) = refused 3 (codes "BadRequest") (at_field f ∷ [])
refusal_members (body.BadKey f) = refused 4 (codes "BadKey") (at_field f ∷ [])
refusal_members (body.BadValue f) = refused 5 (codes "BadValue") (at_field f ∷ [])
refusal_members (body.TooLarge size) = refused 6 (codes "TooLarge") (counted (codes "size") size ∷ [])
refusal_members (body.TooManyRows count) = refused 7 (codes "TooManyRows") (counted (codes "count") count ∷ [])
refusal_members body.InTransaction = refused 8 (codes "InTransaction") []
refusal_members body.NoTransaction = refused 9 (codes "NoTransaction") []
refusal_members (body.SecondGroup group) = refused 10 (codes "SecondGroup") (named (codes "group") (optional_key_data group) ∷ [])
refusal_members body.TooManyGroups = refused 11 (codes "TooManyGroups") []
refusal_members body.TooManyWrites = refused 12 (codes "TooManyWrites") []
refusal_members (body.Conflict commit group place) =
    refused 13 (codes "Conflict")
    (counted (codes "commit") commit ∷ named (codes "group") (key_data group) ∷ counted (codes "place") place ∷ [])
refusal_members body.NeedAncestor = refused 14 (codes "NeedAncestor") []
refusal_members (body.BadQuery r) = refused 15 (codes "BadQuery") (named (codes "reason") (string (reason_name r)) ∷ [])
refusal_members (body.TooManySubqueries count) = refused 16 (codes "TooManySubqueries") (counted (codes "count") count ∷ [])
refusal_members (body.MissingIndex c suggestion) =
    refused 17 (codes "MissingIndex")
    (named (codes "constraint") (constraint_data c) ∷ named (codes "suggestion") (index_def_data suggestion) ∷ [])
refusal_members (body.BadCursor f) = refused 18 (codes "BadCursor") (at_field f ∷ [])
refusal_members (body.CursorMismatch f) = refused 19 (codes "CursorMismatch") (at_field f ∷ [])
refusal_members (body.BadGql at) = refused 20 (codes "BadGql") (counted (codes "at") at ∷ [])
refusal_members (body.IdNotIssued id next) = refused 21 (codes "IdNotIssued") (counted (codes "id") id ∷ counted (codes "next") next ∷ [])
refusal_members (body.IdsExhausted next) = refused 22 (codes "IdsExhausted") (counted (codes "next") next ∷ [])
refusal_members (body.Expired applied place snapshot) =
    refused 23 (codes "Expired")
    (counted (codes "applied") applied ∷ counted (codes "place") place ∷ counted (codes "snapshot") snapshot ∷ [])
refusal_members body.NoMemory = refused 24 (codes "NoMemory") []
refusal_members _ = []
