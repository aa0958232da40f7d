use Rattle.serde_json.specs.View.{members_view}
use Rattle.ds_request.proofs.LawfulLemmas.{read_lawful, query_lawful, gql_lawful, allocate_ids_lawful}
use Rattle.ds_request.proofs.line.read_call.Goals as goal

pub returns-in-Query-clause-lawful : goal.returns-in-Query-clause-lawful
returns-in-Query-clause-lawful c = read_lawful _ _ c.read_query.result c.read_query.ensures (query_lawful c.args.client (members_view c.args.members.entries))

pub returns-in-Gql-clause-lawful : goal.returns-in-Gql-clause-lawful
returns-in-Gql-clause-lawful c = read_lawful _ _ c.read_gql.result c.read_gql.ensures (gql_lawful c.args.client (members_view c.args.members.entries))

pub returns-in-AllocateIds-clause-lawful : goal.returns-in-AllocateIds-clause-lawful
returns-in-AllocateIds-clause-lawful c = read_lawful _ _ c.read_allocate_ids.result c.read_allocate_ids.ensures (allocate_ids_lawful c.args.client (members_view c.args.members.entries))
