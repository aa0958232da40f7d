use Rattle.std.proofs.Common.{rules, List, ℕ, sym, subst}
use Rattle.ds_gql_printing.specs.Printers.{PutsText}
use Rattle.ds_gql_printing.proofs.PrintingSteps.{doubled_none, doubled_step}
use Rattle.ds_gql_printing.proofs.printer.Printer.append_doubled.Goals as goal

pub quotes-preserved : goal.quotes-preserved
quotes-preserved c =
    let split = c.in-Some.ensures in (
      search rules,
      λ u h. c.quotes.invariant.1 u (doubled_step c.quotes.self c.append.new.self c.append-in-Some.new.self u c.quotes.rest.now c.in-Some.run'.now c.in-Some.behind.now split.0 split.1 split.2 c.append.ensures c.append-in-Some.ensures h),
    )

pub returns-in-None : goal.returns-in-None
returns-in-None c = c.quotes.invariant.1 c.append-in-None.new.self (subst (λ (t : List ℕ). PutsText t c.quotes.self c.append-in-None.new.self) (sym (doubled_none c.quotes.rest.now c.in-None.ensures)) c.append-in-None.ensures)
