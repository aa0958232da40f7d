use Rattle.std.proofs.Common.{ap, drop, subst, sym, ◌∙◌}
use Rattle.std.specs.Prelude.{All}
use Rattle.std.proofs.lemmas.List.{drop_min}
use Rattle.ds_cursor.specs.RowsOfColumns.{IsRowOf}
use Rattle.ds_pages.specs.Pages.{plus_limit}
use Rattle.ds_engine.proofs.Placings.{all_seen, page_read}
use Rattle.ds_engine.proofs.over_shards.page_of_places.Goals as goal

pub rows_at-requires : goal.rows_at-requires
rows_at-requires c =
    let w = c.args.window.now in
    let seen = c.as_slice-seen.result.now in
    subst (All (IsRowOf c.args.columns.now))
    (sym (c.split_at.ensures.back ∙ ap (λ n. drop n seen) c.min-first.ensures ∙ drop_min w.offset seen
    ∙ ap (drop w.offset) (c.as_slice-seen.ensures.value ∙ c.in_ok-seen.ensures)))
    (all_seen c.args.columns.now (IsRowOf c.args.columns.now) (plus_limit w.offset w.limit) w.offset c.args.places.items c.requires)

pub returns : goal.returns
returns c = λ rows are.
    let w = c.args.window.now in
    let seen = c.as_slice-seen.result.now in
    page_read c.args.columns.now w rows c.args.places.items seen c.split_at.result.1.now c.in_ok-rows.rows.items
    (record { rows = c.from.result; next = c.in_ok-next.next }) are (c.as_slice-seen.ensures.value ∙ c.in_ok-seen.ensures)
    (c.split_at.ensures.back ∙ ap (λ n. drop n seen) c.min-first.ensures ∙ drop_min w.offset seen) c.in_ok-rows.ensures c.from.ensures
    c.in_ok-next.ensures
