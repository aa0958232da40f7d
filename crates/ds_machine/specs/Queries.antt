-- What a query or a statement is told.
use Rattle.std.specs.Prelude.{◌≡◌, ◌≤◌, List, None, Some, length, is_some}
use Rattle.ds_entity.specs.declared.results.Seen.{Seen}
use Rattle.ds_entity.specs.Entities.{EntityParts}
use Rattle.ds_base.specs.Keys.{KeyParts, root_of}
use Rattle.ds_query.specs.declared.branch.Normal.{Normal}
use Rattle.ds_query.specs.declared.branch.Window.{Window}
use Rattle.ds_query.specs.Lawful.{IsLawfulNormal}
use Rattle.ds_reply.specs.declared.reply.Body.{Body}
use Rattle.ds_model.specs.Answers.{cursor_of}
use Rattle.ds_model.specs.Groups.{ReadsAt, group_refusal}
use Rattle.ds_model.specs.Results.{items_of, result}
use Rattle.ds_model.specs.Sessions.{Session}
use Rattle.ds_protocol.specs.declared.preparing.Ready.{Ready}
use Rattle.ds_protocol.specs.declared.searching.Search.{Search}
use Rattle.ds_protocol.specs.Finishing.{found}
use Rattle.ds_protocol.specs.Preparing.{IsReady}
use Rattle.ds_protocol.specs.Searches.{search_parts}
use Rattle.ds_protocol.specs.declared.seen.GroupRead.{GroupRead}
use Rattle.ds_machine.specs.Reads.{IsReached}
use Rattle.ds_machine.specs.States.{StateParts}

-- what is told of the results of a search over these entities
abbrev pub told_over : Search → Normal → Window → List EntityParts → Seen → Body
told_over r n w entities seen =
    found r.statement r.query.select (items_of n.merged r.query.select entities (result n w entities).rows) seen
    (cursor_of r.cursor n.branches (result n w entities).next)

-- in such a session nothing but its group can refuse the search, and the query is taken apart
pub record IsPrepared (st : StateParts) (s : Session) (r : Search) (ready : Ready) : Type 0 where
  pub form : IsReady st.store.definitions (is_some s.transaction) (search_parts r) ready.normal ready.window
  pub lawful : IsLawfulNormal ready.normal

-- the search reads the group of its ancestor, which may be touched, and whose shard has applied its entries up to the place
pub record IsGroupSearch (st : StateParts) (s : Session) (r : Search) (read : GroupRead) : Type 0 where
  pub ancestor : KeyParts
  pub has : r.query.ancestor ≡ Some ancestor
  pub some : 1 ≤ length ancestor.elems
  pub allowed : group_refusal s.transaction (Some (root_of ancestor)) ≡ None
  pub stands : ReadsAt st.store.journal s (root_of ancestor) read.place
  pub reached : IsReached st (root_of ancestor) read
