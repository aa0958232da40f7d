use Rattle.std.proofs.Common.{List, sym, ap, ◌∙◌, ◌-◌, ◌∷◌, ◌++◌, [], ◌≡◌, false, cond, take, length, None}
use Rattle.ds_base.specs.declared.column.Column.{Column}
use Rattle.ds_base.specs.KeyColumn.{key_name, is_ascending_key}
use Rattle.ds_query.specs.ColumnLists.{ascending}
use Rattle.ds_query.specs.Lawful.{ends_in_key}
use Rattle.ds_planner.specs.Indexes.{by_key, with_key, in_front_of}
use Rattle.ds_planner.proofs.ColumnEnds.{last_split, in_front_of-last, ascending_key, stripped}
use Rattle.ds_planner.proofs.key_columns.in_front_of.Goals as goal

-- where an index doesn't name `__key__` last, the columns must end in `__key__` ascending
implied : (last columns t : List Column) (x : Column) → last ≡ t ++ x ∷ [] → ends_in_key columns ≡ false → in_front_of last (with_key columns) ≡ cond (is_ascending_key x) (in_front_of t columns) None
implied last columns t x split ends =
    (λ i. in_front_of (split i) (cond (ends i) columns (columns ++ by_key)))
    ∙ in_front_of-last t columns x (ascending key_name)
    ∙ ap (λ b. cond b (in_front_of t columns) None) (ascending_key x)

pub returns-then-is_ascending_key : goal.returns-then-is_ascending_key
returns-then-is_ascending_key c =
    let last = c.args.last.now in
    let t = take (length last - 1) last in
    let x = c.key-item.result in
    let ends = sym c.ends_in_key.ensures ∙ c.if-ends_in_key.false in
    let e = implied last c.args.columns.now t x (last_split last x c.in-len1-up.len_at_least c.key-item.is) ends in
    stripped t c.args.columns.now c.strip_suffix-then-is_ascending_key.result c.strip_suffix-then-is_ascending_key.ensures.cases
    ∙ sym (e ∙ ap (λ b. cond b (in_front_of t c.args.columns.now) None) (sym c.is_ascending_key.ensures ∙ c.if-is_ascending_key.true))

pub returns-else-is_ascending_key : goal.returns-else-is_ascending_key
returns-else-is_ascending_key c =
    let last = c.args.last.now in
    let t = take (length last - 1) last in
    let x = c.key-item.result in
    let ends = sym c.ends_in_key.ensures ∙ c.if-ends_in_key.false in
    let e = implied last c.args.columns.now t x (last_split last x c.in-len1-up.len_at_least c.key-item.is) ends in
    sym (e ∙ ap (λ b. cond b (in_front_of t c.args.columns.now) None) (sym c.is_ascending_key.ensures ∙ c.if-is_ascending_key.false))
