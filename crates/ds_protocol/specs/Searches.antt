-- What is promised of the search of a call.
use Rattle.std.specs.Prelude.{◌≡◌, Bool, true, false, Some, Ok, IsTrue}
use Rattle.std.specs.List.{list_all}
use Rattle.ds_base.specs.Keys.{is_namespace}
use Rattle.ds_query.specs.Filters.{has_operands}
use Rattle.ds_gql.specs.declared.statement.Statement.{Statement}
use Rattle.ds_request.specs.declared.call.Call.{Call}
use Rattle.ds_request.specs.declared.call.Call.TheVariants as call
use Rattle.ds_model.specs.Asked
use Rattle.ds_model.specs.Asked.{search_of, has_cursors}
use Rattle.ds_protocol.specs.declared.searching.Search.{Search}

-- a search, however it was written
abbrev pub search_parts : Search → Asked.Search
search_parts s = record { query = s.query; offset = s.offset; limit = s.limit; start = s.start; end = s.end; cursor = s.cursor }

-- was it written as a statement?
abbrev pub is_statement : Call → Bool
is_statement (call.Gql namespace text args names start end cursor) = true
is_statement _ = false

-- the namespace is one, each operator has its values, and the query knows of the search's cursors
pub record IsLawfulSearch (s : Search) : Type 0 where
  pub namespace : IsTrue (is_namespace s.query.namespace)
  pub operands : IsTrue (list_all has_operands s.query.filters)
  pub cursors : s.query.cursors ≡ has_cursors s.start s.end s.cursor

-- each operator of a statement has its values
abbrev pub has_operands_of : Statement → Type 0
has_operands_of s = IsTrue (list_all has_operands s.query.filters)

-- the search of a call, and how it was written
pub record IsSearchOf (c : Call) (s : Search) : Type 0 where
  pub exact : search_of c ≡ Some (Ok (search_parts s))
  pub written : s.statement ≡ is_statement c
  pub lawful : IsLawfulSearch s
