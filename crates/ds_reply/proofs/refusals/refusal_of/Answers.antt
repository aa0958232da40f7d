use Rattle.std.proofs.Common.{codes, refl}
use Rattle.ds_reply.specs.Refusals.{refused}
use Rattle.ds_reply.proofs.Telling.{refusal_told, one, two}
use Rattle.ds_reply.proofs.refusals.refusal_of.Goals as goal

pub returns-in-BadRequest : goal.returns-in-BadRequest
returns-in-BadRequest c =
    refusal_told _ _ _ _ c.in-BadRequest.is c.refused-in-BadRequest.ensures (one (refused 3 (codes "BadRequest")) _ _ c.at_field.ensures)

pub returns-in-BadKey : goal.returns-in-BadKey
returns-in-BadKey c =
    refusal_told _ _ _ _ c.in-BadKey.is c.refused-in-BadKey.ensures (one (refused 4 (codes "BadKey")) _ _ c.at_field-in-BadKey.ensures)

pub returns-in-BadValue : goal.returns-in-BadValue
returns-in-BadValue c =
    refusal_told _ _ _ _ c.in-BadValue.is c.refused-in-BadValue.ensures (one (refused 5 (codes "BadValue")) _ _ c.at_field-in-BadValue.ensures)

pub returns-in-TooLarge : goal.returns-in-TooLarge
returns-in-TooLarge c =
    refusal_told _ _ _ _ c.in-TooLarge.is c.refused-in-TooLarge.ensures (one (refused 6 (codes "TooLarge")) _ _ c.number.ensures)

pub returns-in-TooManyRows : goal.returns-in-TooManyRows
returns-in-TooManyRows c =
    refusal_told _ _ _ _ c.in-TooManyRows.is c.refused-in-TooManyRows.ensures (one (refused 7 (codes "TooManyRows")) _ _ c.counted.ensures)

pub returns-in-SecondGroup : goal.returns-in-SecondGroup
returns-in-SecondGroup c =
    refusal_told _ _ _ _ c.in-SecondGroup.is c.refused-in-SecondGroup.ensures (one (refused 10 (codes "SecondGroup")) _ _ c.optional_key.ensures)

pub returns-in-TooManySubqueries : goal.returns-in-TooManySubqueries
returns-in-TooManySubqueries c =
    refusal_told _ _ _ _ c.in-TooManySubqueries.is c.refused-in-TooManySubqueries.ensures (one (refused 16 (codes "TooManySubqueries")) _ _ c.counted-in-TooManySubqueries.ensures)

pub returns-in-BadCursor : goal.returns-in-BadCursor
returns-in-BadCursor c =
    refusal_told _ _ _ _ c.in-BadCursor.is c.refused-in-BadCursor.ensures (one (refused 18 (codes "BadCursor")) _ _ c.at_field-in-BadCursor.ensures)

pub returns-in-CursorMismatch : goal.returns-in-CursorMismatch
returns-in-CursorMismatch c =
    refusal_told _ _ _ _ c.in-CursorMismatch.is c.refused-in-CursorMismatch.ensures (one (refused 19 (codes "CursorMismatch")) _ _ c.at_field-in-CursorMismatch.ensures)

pub returns-in-BadGql : goal.returns-in-BadGql
returns-in-BadGql c =
    refusal_told _ _ _ _ c.in-BadGql.is c.refused-in-BadGql.ensures (one (refused 20 (codes "BadGql")) _ _ c.number-in-BadGql.ensures)

pub returns-in-IdNotIssued : goal.returns-in-IdNotIssued
returns-in-IdNotIssued c =
    refusal_told _ _ _ _ c.in-IdNotIssued.is c.refused-in-IdNotIssued.ensures (two (refused 21 (codes "IdNotIssued")) _ _ _ _ c.number-in-IdNotIssued.ensures c.next_id.ensures)

pub returns-in-IdsExhausted : goal.returns-in-IdsExhausted
returns-in-IdsExhausted c =
    refusal_told _ _ _ _ c.in-IdsExhausted.is c.refused-in-IdsExhausted.ensures (one (refused 22 (codes "IdsExhausted")) _ _ c.next_id-in-IdsExhausted.ensures)

pub returns-in-LineTooLong : goal.returns-in-LineTooLong
returns-in-LineTooLong c = refusal_told _ _ _ _ c.in-LineTooLong.is c.refused-in-LineTooLong.ensures refl

pub returns-in-InTransaction : goal.returns-in-InTransaction
returns-in-InTransaction c = refusal_told _ _ _ _ c.in-InTransaction.is c.refused-in-InTransaction.ensures refl

pub returns-in-NoTransaction : goal.returns-in-NoTransaction
returns-in-NoTransaction c = refusal_told _ _ _ _ c.in-NoTransaction.is c.refused-in-NoTransaction.ensures refl

pub returns-in-TooManyGroups : goal.returns-in-TooManyGroups
returns-in-TooManyGroups c = refusal_told _ _ _ _ c.in-TooManyGroups.is c.refused-in-TooManyGroups.ensures refl

pub returns-in-TooManyWrites : goal.returns-in-TooManyWrites
returns-in-TooManyWrites c = refusal_told _ _ _ _ c.in-TooManyWrites.is c.refused-in-TooManyWrites.ensures refl

pub returns-in-NeedAncestor : goal.returns-in-NeedAncestor
returns-in-NeedAncestor c = refusal_told _ _ _ _ c.in-NeedAncestor.is c.refused-in-NeedAncestor.ensures refl

pub returns-in-NoMemory : goal.returns-in-NoMemory
returns-in-NoMemory c = refusal_told _ _ _ _ c.in-NoMemory.is c.refused-in-NoMemory.ensures refl

pub returns-in-Conflict : goal.returns-in-Conflict
returns-in-Conflict c = refusal_told _ _ _ _ c.in-Conflict.is c.conflict.ensures refl

pub returns-in-MissingIndex : goal.returns-in-MissingIndex
returns-in-MissingIndex c = refusal_told _ _ _ _ c.in-MissingIndex.is c.missing_index.ensures refl

pub returns-in-Expired : goal.returns-in-Expired
returns-in-Expired c = refusal_told _ _ _ _ c.in-Expired.is c.expired.ensures refl
