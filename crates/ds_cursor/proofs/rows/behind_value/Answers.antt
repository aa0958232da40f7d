use Rattle.ds_cursor.proofs.RowLemmas.{value_behind}
use Rattle.ds_cursor.proofs.rows.behind_value.Goals as goal

pub returns-in-Some : goal.returns-in-Some
returns-in-Some c = value_behind c.args.descending c.args.bytes.now c.split_at.result.1.now c.in-Some.found.value c.in-Some.found.rest
    (rw c.in-Some.is at c.in_ok-decode.ensures.lawful) (rw c.in-Some.is at c.in_ok-decode.ensures.found) c.split_at.ensures.back
