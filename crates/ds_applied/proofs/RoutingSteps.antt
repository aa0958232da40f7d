-- One routed entry more, put behind those of its shard.
use Rattle.std.proofs.Common.{◌≡◌, ℕ, suc, ◌+◌, ◌<◌, ◌≤◌, List, [], ◌∷◌, ◌++◌, length, map, get_or, set, ap, sym, ◌∙◌, subst, arith}
use Rattle.std.specs.Prelude.{All}
use Rattle.std.proofs.lemmas.List.{length-set}
use Rattle.std.proofs.lemmas.List.Elements.{All-head, All-tail}
use Rattle.ds_log.specs.declared.Entry.{Entry}
use Rattle.ds_log.specs.declared.projection.Routed.{Routed}
use Rattle.ds_log.specs.Routing.{IsRouted, entry_of}
use Rattle.ds_applied.specs.AppliedLists.{AppliedShard, entries_of, applied_of}
use Rattle.ds_applied.specs.Routing.{HasRoom, added}
use Rattle.ds_applied.proofs.PullLaws.{added_one, applied_one, room_one}

-- one entry put behind those of its shard, of which some are left
pub put_more : (n : ℕ) (ss : List AppliedShard) (all rest : List Routed) (one : Routed) (d s : AppliedShard) (lists : List (List Entry))
    (counts : List ℕ)
    → all ≡ one ∷ rest
    → s.entries ≡ (get_or ss one.shard d).entries ++ one.entry ∷ [] → s.applied ≡ (get_or ss one.shard d).applied
    → (get_or ss one.shard d).spare ≤ s.spare + 1
    → (length ss ≡ n) × All (IsRouted n) all × All (HasRoom (length all)) ss × (added n 0 (entries_of ss) (map entry_of all) ≡ lists) ×
    (applied_of ss ≡ counts)
    → (length (set ss one.shard s) ≡ n) × All (IsRouted n) rest × All (HasRoom (length rest)) (set ss one.shard s)
    × (added n 0 (entries_of (set ss one.shard s)) (map entry_of rest) ≡ lists) × (applied_of (set ss one.shard s) ≡ counts)
put_more n ss all rest one d s lists counts is entries applied spare was =
    let routed : All (IsRouted n) (one ∷ rest) = subst (All (IsRouted n)) is was.1 in
    let room : All (HasRoom (suc (length rest))) ss = subst (λ (rs : List Routed). All (HasRoom (length rs)) ss) is was.2 in
    let here = All-head (IsRouted n) one rest routed in
    let below : one.shard < length ss = let h = here.1 in omega (arith, h, was.0) in (
      length-set ss one.shard s ∙ was.0,
      All-tail (IsRouted n) one rest routed,
      room_one (length rest) one.shard ss d s room below spare,
      added_one n ss one.shard d s one.entry (map entry_of rest) (sym here.0) below entries
          ∙ ap (λ rs. added n 0 (entries_of ss) (map entry_of rs)) (sym is) ∙ was.3,
      applied_one ss one.shard d s applied ∙ was.4,
    )
