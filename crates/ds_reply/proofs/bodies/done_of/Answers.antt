use Rattle.std.proofs.Common.{codes, refl}
use Rattle.ds_reply.specs.Replies.{done}
use Rattle.ds_reply.proofs.Telling.{done_told, one, two}
use Rattle.ds_reply.proofs.bodies.done_of.Goals as goal

pub returns-in-Put : goal.returns-in-Put
returns-in-Put c = done_told _ _ _ _ c.in-Put.is c.done.ensures (two (done (codes "put")) _ _ _ _ c.written.ensures c.key.ensures)

pub returns-in-Delete : goal.returns-in-Delete
returns-in-Delete c = done_told _ _ _ _ c.in-Delete.is c.done-in-Delete.ensures (two (done (codes "delete")) _ _ _ _ c.written-in-Delete.ensures c.key-in-Delete.ensures)

pub returns-in-Get : goal.returns-in-Get
returns-in-Get c = done_told _ _ _ _ c.in-Get.is c.done-in-Get.ensures (two (done (codes "get")) _ _ _ _ c.optional_entity.ensures c.at_place.ensures)

pub returns-in-Query : goal.returns-in-Query
returns-in-Query c = done_told _ _ _ _ c.in-Query.is c.found.ensures refl

pub returns-in-Gql : goal.returns-in-Gql
returns-in-Gql c = done_told _ _ _ _ c.in-Gql.is c.found-in-Gql.ensures refl

pub returns-in-Begin : goal.returns-in-Begin
returns-in-Begin c = done_told _ _ _ _ c.in-Begin.is c.done-in-Begin.ensures refl

pub returns-in-Commit : goal.returns-in-Commit
returns-in-Commit c = done_told _ _ _ _ c.in-Commit.is c.done-in-Commit.ensures (one (done (codes "commit")) _ _ c.number.ensures)

pub returns-in-Rollback : goal.returns-in-Rollback
returns-in-Rollback c = done_told _ _ _ _ c.in-Rollback.is c.done-in-Rollback.ensures refl

pub returns-in-AllocateIds : goal.returns-in-AllocateIds
returns-in-AllocateIds c = done_told _ _ _ _ c.in-AllocateIds.is c.ids.ensures refl

pub returns-in-Settle : goal.returns-in-Settle
returns-in-Settle c = done_told _ _ _ _ c.in-Settle.is c.done-in-Settle.ensures (two (done (codes "settle")) _ _ _ _ c.counts.ensures c.at_place-in-Settle.ensures)

pub returns-in-Apply : goal.returns-in-Apply
returns-in-Apply c = done_told _ _ _ _ c.in-Apply.is c.entry.ensures refl
