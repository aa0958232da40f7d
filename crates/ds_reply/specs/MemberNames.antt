-- The names of the members that replies have, and their order.
use Rattle.std.specs.Prelude.{ℕ, List, codes}
use Rattle.ds_reply.specs.declared.member_name.MemberName.{MemberName}
use Rattle.ds_reply.specs.declared.member_name.MemberName.TheVariants as name

abbrev pub name_text : MemberName → List ℕ
name_text name.Applied = codes "applied"
name_text name.At = codes "at"
name_text name.Client = codes "client"
name_text name.Commit = codes "commit"
name_text name.Constraint = codes "constraint"
name_text name.Count = codes "count"
name_text name.Cursor = codes "cursor"
name_text name.Entity = codes "entity"
name_text name.Error = codes "error"
name_text name.Field = codes "field"
name_text name.First = codes "first"
name_text name.Group = codes "group"
name_text name.Id = codes "id"
name_text name.Key = codes "key"
name_text name.Line = codes "line"
name_text name.Name = codes "name"
name_text name.Next = codes "next"
name_text name.Ok = codes "ok"
name_text name.Place = codes "place"
name_text name.Reason = codes "reason"
name_text name.Results = codes "results"
name_text name.Shard = codes "shard"
name_text name.Size = codes "size"
name_text name.Snapshot = codes "snapshot"
name_text name.Suggestion = codes "suggestion"

-- how many of the names stand before it in byte order
abbrev pub name_rank : MemberName → ℕ
name_rank name.Applied = 0
name_rank name.At = 1
name_rank name.Client = 2
name_rank name.Commit = 3
name_rank name.Constraint = 4
name_rank name.Count = 5
name_rank name.Cursor = 6
name_rank name.Entity = 7
name_rank name.Error = 8
name_rank name.Field = 9
name_rank name.First = 10
name_rank name.Group = 11
name_rank name.Id = 12
name_rank name.Key = 13
name_rank name.Line = 14
name_rank name.Name = 15
name_rank name.Next = 16
name_rank name.Ok = 17
name_rank name.Place = 18
name_rank name.Reason = 19
name_rank name.Results = 20
name_rank name.Shard = 21
name_rank name.Size = 22
name_rank name.Snapshot = 23
name_rank name.Suggestion = 24
