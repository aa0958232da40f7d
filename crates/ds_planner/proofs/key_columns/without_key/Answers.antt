use Rattle.std.proofs.Common.{sym, ap, ◌∙◌, ◌-◌, ◌∷◌, ◌++◌, [], ◌≡◌, cond, take, length}
use Rattle.ds_planner.specs.Missing.{without_key}
use Rattle.ds_base.specs.KeyColumn.{is_ascending_key}
use Rattle.ds_planner.proofs.ColumnEnds.{last_split, without_key-last}
use Rattle.ds_planner.proofs.key_columns.without_key.Goals as goal

pub returns-then-is_ascending_key : goal.returns-then-is_ascending_key
returns-then-is_ascending_key c =
    let cs = c.args.columns.now in
    let t = take (length cs - 1) cs in
    let x = c.last-item.result in
    let e : without_key cs ≡ cond (is_ascending_key x) t (t ++ x ∷ []) = ap without_key (last_split cs x c.in-len1-up.len_at_least c.last-item.is) ∙ without_key-last t x in
    sym (e ∙ ap (λ b. cond b t (t ++ x ∷ [])) (sym c.is_ascending_key.ensures ∙ c.if-is_ascending_key.true))

pub returns-else-is_ascending_key : goal.returns-else-is_ascending_key
returns-else-is_ascending_key c =
    let cs = c.args.columns.now in
    let t = take (length cs - 1) cs in
    let x = c.last-item.result in
    let s : cs ≡ t ++ x ∷ [] = last_split cs x c.in-len1-up.len_at_least c.last-item.is in
    let e : without_key cs ≡ cond (is_ascending_key x) t (t ++ x ∷ []) = ap without_key s ∙ without_key-last t x in
    s ∙ sym (e ∙ ap (λ b. cond b t (t ++ x ∷ [])) (sym c.is_ascending_key.ensures ∙ c.if-is_ascending_key.false))
