-- What holds of a value that may be there.
use Rattle.std.proofs.Common.{◌≡◌, ◌∙◌, sym, ap, List, ℕ, Option, Some, None}
use Rattle.std.specs.Prelude.{IfOk, IfSome, Ok, Err, Result, nat_eq, true}
use Rattle.std.specs.List.{starts_with}
use Rattle.serde_json.specs.Data.{Data}
use Rattle.ds_request.specs.Requests.{line_data}
use Rattle.ds_load.specs.declared.reading.Counts.{Counts}
use Rattle.ds_load.specs.declared.reading.Summary.{Summary}
use Rattle.ds_load.specs.Telling.{CountsAll, counts_of, counts_text, sum_of, summary_in}

pub in_some : {A P : Type 0} (o : Option A) → P → IfSome o (λ s. P)
in_some None p = tt
in_some (Some s) p = p

-- what was told of the JSON that was read of a line
pub told_some : (o : Option Summary) (v : Data) (line : List ℕ) → o ≡ summary_in v → ((d : Data) → line_data line ≡ Some d → v ≡ d)
    → IfSome o (λ s. (d : Data) → line_data line ≡ Some d → summary_in d ≡ Some s)
told_some None v line is read = tt
told_some (Some s) v line is read = λ d back. ap summary_in (sym (read d back)) ∙ sym is

-- a line that begins with these counts, whose sum is that of all items
pub counts_told : (n sum : ℕ) (line text : List ℕ) (counts : Counts) → sum ≡ n → sum ≡ sum_of (counts_of counts)
    → text ≡ counts_text (counts_of counts) → starts_with nat_eq line text ≡ true → CountsAll n line
counts_told n sum line text counts all together text_is begins = record {
  counts = counts_of counts;
  all = sym together ∙ all;
  begins = ap (starts_with nat_eq line) (sym text_is) ∙ begins;
}

pub ok_some : {A E : Type 0} {P : Type 0} (r : Result (Option A) E) → P → IfOk r (λ found. IfSome found (λ s. P))
ok_some (Ok None) p = tt
ok_some (Ok (Some s)) p = p
ok_some (Err e) p = tt
