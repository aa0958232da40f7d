-- The scans have the strings that they had, and the rows up to where the walk stands were collected, which what is kept tells. It ends as
-- the first scan has fewer strings left.
use Rattle.std.proofs.Common.{◌≡◌, ◌+◌, ◌≤◌, List, [], length, map, get_or, Some, None}
use Rattle.std.specs.Option.{option_copied}
use Rattle.ds_query.specs.Filters.{projected}
use Rattle.ds_query.specs.declared.row.Row.{Row}
use Rattle.ds_zigzag.specs.Spans.{count_between}
use Rattle.ds_branch.specs.Kept.{AreKept}
use Rattle.ds_branch.specs.Places.{bytes_of}
use Rattle.ds_zigzag.specs.Walks.{IsWalked}
use Rattle.ds_branch.proofs.Collected.{AreCollected, IsAtLast}
use Rattle.ds_branch.proofs.collecting.first_common.Given as goal

abbrev pub invariant-answers : goal.invariant-answers
invariant-answers g l = record {
  rows : List Row;
  kept : AreKept l.branch.columns l.firsts rows;
  skip : l.firsts.skip ≡ l.skip;
  places : l.firsts.keeps_places ≡ l.places;
  strings : map g.S.Scan.strings l.scans ≡ map g.S.Scan.strings l.fn.scans;
  as_many : length l.scans ≡ length l.fn.scans;
  number : l.walk.scans ≡ length l.scans;
  collected : AreCollected l.branch.columns (projected l.branch.select) (bytes_of (option_copied l.start)) (map g.S.Scan.strings
      l.fn.scans) l.most
      l.firsts.keeps_all l.firsts.firsts.slots l.walk.last rows;
  passed : map g.S.Scan.passed l.scans ≡ map g.S.Scan.passed l.fn.scans;
  walked : IsWalked (length l.fn.scans) (bytes_of (option_copied l.start)) l.walk.last (map g.S.Scan.strings l.fn.scans)
      (map g.S.Scan.passed l.fn.scans) l.fn.steps l.steps;
  at_last : IsAtLast l.most rows l.walk.last l.fn.steps l.steps;
  counted : l.fn.steps + length rows ≤ l.steps;
  none_asked : l.most ≡ Some 0 → l.steps ≡ l.fn.steps;
}

abbrev pub decreases-answers : goal.decreases-answers
decreases-answers g l = count_between l.walk.last None (get_or (map g.S.Scan.strings l.fn.scans) 0 [])
