-- Where no entry is counted, nothing is seen.
use Rattle.std.proofs.Common.{◌≡◌, ℕ, ◌++◌, List, [], ◌∷◌, Some, refl, ap, sym, ◌∙◌}
use Rattle.std.specs.Prelude.{All}
use Rattle.std.proofs.lemmas.List.Elements.{All-head, All-tail}
use Rattle.ds_entity.specs.EntityOrder.{sorted_by_key}
use Rattle.ds_log.specs.declared.Entry.{Entry}
use Rattle.ds_model.specs.ByKey.{left_by, shard_views}
use Rattle.ds_history.specs.Versions.{of_kind}

no_views : (lists : List (List Entry)) (counts : List ℕ) → All (λ (n : ℕ). n ≡ 0) counts → shard_views lists counts ≡ []
no_views [] counts none = refl
no_views (entries ∷ lists) [] none = refl
no_views (entries ∷ lists) (count ∷ counts) none =
    ap (λ n. left_by entries n ++ shard_views lists counts) (All-head (λ (n : ℕ). n ≡ 0) count counts none)
    ∙ no_views lists counts (All-tail (λ (n : ℕ). n ≡ 0) count counts none)

pub none_seen : (kind : List ℕ) (lists : List (List Entry)) (counts : List ℕ) → All (λ (n : ℕ). n ≡ 0) counts
    → [] ≡ of_kind (Some kind) (sorted_by_key (shard_views lists counts))
none_seen kind lists counts none = sym (ap (λ es. of_kind (Some kind) (sorted_by_key es)) (no_views lists counts none))
