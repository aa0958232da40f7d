use Rattle.std.proofs.Common.{ap, drop, sym, ◌∙◌, subst, arith}
use Rattle.std.specs.Prelude.{All}
use Rattle.ds_pages.specs.Places.{IsPlaced}
use Rattle.ds_branch.proofs.KeptLaws.{behind_told, last_is, marks_told, placed_behind}
use Rattle.ds_branch.proofs.kept.KeptRows.finish.Goals as goal

pub returns-then-is_whole : goal.returns-then-is_whole
returns-then-is_whole c = λ columns rows kept.
    let b = behind_told columns c.args.self rows kept.told (sym c.is_whole-is_whole.ensures ∙ c.if-is_whole.true) in
    record {
      rows = c.from.ensures ∙ b.are;
      left = omega arith;
      count = c.len-count.ensures columns rows kept;
      last = last_is rows c.len-count.result c.args.self.last.items c.last_place-last.result (c.len-count.ensures columns rows kept)
          c.last_place-last.ensures.none c.last_place-last.ensures.some kept.last;
      places = kept.places;
      placed = placed_behind columns c.args.self.skip c.from.result rows (c.from.ensures ∙ b.are) kept.told.placed;
    }

pub returns-else-is_whole : goal.returns-else-is_whole
returns-else-is_whole c = λ columns rows kept.
    let all = c.finish.ensures ∙ marks_told columns c.args.self rows kept.told (sym c.is_whole-is_whole.ensures ∙ c.if-is_whole.false) in
    record {
      rows = ap (drop c.args.self.skip) all;
      left = omega arith;
      count = c.len-count.ensures columns rows kept;
      last = last_is rows c.len-count.result c.args.self.last.items c.last_place-last.result (c.len-count.ensures columns rows kept)
          c.last_place-last.ensures.none c.last_place-last.ensures.some kept.last;
      places = kept.places;
      placed = subst (All (IsPlaced columns)) (sym all) kept.told.placed;
    }
