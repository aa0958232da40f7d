-- The bytes of a row's values, value by value.
use Rattle.std.proofs.Common.{◌≡◌, ℕ, ◌+◌, ◌<◌, Bool, List, ◌++◌, length, get_or, drop, sym, ap, ◌∙◌, append_assoc}
use Rattle.std.proofs.lemmas.List.{drop_more}
use Rattle.ds_base.specs.declared.index_value.IndexValue.{IndexValue}
use Rattle.ds_bytes.specs.Encoding.{encoding}
use Rattle.ds_bytes.specs.Rows.{columns_bytes}

pub columns_put : (ds : List Bool) (vs : List IndexValue) (i : ℕ) (x : Bool) (v : IndexValue) (old new whole : List ℕ)
    → i < length ds → i < length vs → v ≡ get_or vs i v → new ≡ old ++ encoding (get_or ds i x) v
    → old ++ columns_bytes (drop i ds) (drop i vs) ≡ whole
    → new ++ columns_bytes (drop (i + 1) ds) (drop (i + 1) vs) ≡ whole
columns_put ds vs i x v old new whole p q is put all =
    let rest : List ℕ = columns_bytes (drop (i + 1) ds) (drop (i + 1) vs) in
    ap (λ bs. bs ++ rest) put
    ∙ append_assoc old (encoding (get_or ds i x) v) rest
    ∙ ap (λ w. old ++ (encoding (get_or ds i x) w ++ rest)) is
    ∙ ap (λ bs. old ++ bs) (sym (λ j. columns_bytes (drop_more ds i x p j) (drop_more vs i v q j)))
    ∙ all
