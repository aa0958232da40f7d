use Rattle.std.proofs.Common.{◌≡◌, ◌<◌, List, length, get_or, ap, subst, ◌∙◌, option_copied}
use Rattle.std.proofs.lemmas.List.Elements.{All-more}
use Rattle.ds_planner.specs.declared.planned.PlannedScan.{PlannedScan}
use Rattle.ds_scan.specs.Ranging.{range_of}
use Rattle.ds_scan.specs.Scans.{IsLawfulScan}
use Rattle.ds_scan.proofs.PlannedScans.{one_more_made}
use Rattle.ds_scan.proofs.ranging.scans_of.Goals as goal

pub loop-planned-preserved : goal.loop-planned-preserved
loop-planned-preserved g c =
    let scans = c.args.plan.now.scans in
    let i = c.loop-planned.planned-index in
    let s = c.planned-item.result in
    let same : c.as_slice-planned-items.result.now ≡ scans = c.as_slice-planned-items.ensures in
    let below : i < length scans = subst (λ (ss : List PlannedScan). i < length ss) same c.loop-planned-test.true in
    let at_i : s ≡ get_or scans i s = c.planned-item.is ∙ ap (λ (ss : List PlannedScan). get_or ss i s) same in
    record {
      made = one_more_made
          (λ (p : PlannedScan). record {
            rows = record { tables = c.args.tables.now; stamp = c.args.at };
            range = range_of
                c.args.branch.now c.args.defs.now (option_copied c.args.end) p;
          })
          scans i s c.loop-planned.scans.items c.push.new.self.items c.in_ok-scan.scan below at_i c.loop-planned.invariant.made
          c.in_ok-push.ensures.items
          (c.in_ok-scan.ensures ∙ (λ j. record {
            rows = c.new-rows.ensures j;
            range = record {
              prefix = (c.bytes.ensures ∙ c.in_ok-prefix.ensures.prefix) j;
              low = (c.bytes-in-loop-planned.ensures ∙ c.in_ok-low.ensures.low) j;
              high = (c.bytes_of-below.ensures ∙ c.in_ok-high.ensures.high) j;
            };
          }));
      lawful = All-more (IsLawfulScan c.args.defs.now) scans i s below c.loop-planned.invariant.lawful
          (subst (IsLawfulScan c.args.defs.now) at_i c.in_ok-prefix.ensures.lawful);
    }
