-- Feeding that goes on.
use Rattle.std.proofs.Common.{◌≡◌, ℕ, ◌+◌, ◌≤◌, List, ◌++◌, None, length, take, ap, refl, ◌∙◌, append_assoc, arith}
use Rattle.std.proofs.lemmas.List.{length-take, take_all}
use Rattle.std.proofs.lemmas.List.Elements.{All-append}
use mathlib.Core.List.{IsPrefix}
use Rattle.ds_feeding.proofs.FeedLaws.{fed_nothing}
use Rattle.ds_feeding.specs.Feeding.{HasFed}
use Rattle.ds_row_limit.specs.ManyRows.{first_too_many}
use Rattle.ds_indexdef.specs.declared.IndexDef.{IndexDef}
use Rattle.ds_log.specs.declared.Commit.{Commit}
use Rattle.ds_store.specs.Loads.{LoadingParts}
use Rattle.ds_store.specs.Passes.{PassParts}
use Rattle.ds_store_passes.proofs.Seeing.{HasRead-itself, HasRead-through}

-- nothing was fed
pub fed_none : (definitions : List IndexDef) (seen : PassParts) (fed : LoadingParts) → IsPrefix fed.journal seen.journal
    → length fed.journal ≤ seen.place → HasFed definitions seen seen fed fed
fed_none definitions seen fed begins place = record {
  read = HasRead-itself seen;
  fed = fed_nothing definitions seen.journal fed fed refl begins;
  stands = place;
  next = omega arith;
}

-- and then more
pub fed_more : (definitions : List IndexDef) (old seen new : PassParts) (before fed after : LoadingParts)
    → HasFed definitions old seen before fed → HasFed definitions seen new fed after → HasFed definitions old new before after
fed_more definitions old seen new before fed after a b = record {
  read = HasRead-through old seen new a.read b.read;
  fed = record {
    behind = a.fed.behind ++ b.fed.behind;
    fed = b.fed.fed ∙ ap (λ js. js ++ b.fed.behind) a.fed.fed ∙ append_assoc before.journal a.fed.behind b.fed.behind;
    few = All-append (λ (c : Commit). first_too_many definitions c.writes ≡ None) a.fed.behind b.fed.behind a.fed.few b.fed.few;
    begins = b.fed.begins;
    shards = b.fed.shards ∙ a.fed.shards;
    passes = b.fed.passes ∙ a.fed.passes;
    least = omega (arith, a.fed.least, b.fed.least);
  };
  stands = b.stands;
  next = omega (arith, a.next, b.next, b.read.next);
}

-- where a part that isn't empty has none, nothing is left
pub none_left : (fed journal : List Commit) (before most moved : ℕ) → fed ≡ take (before + most) journal → length fed ≡ before + moved
    → 1 ≤ most → moved ≡ 0 → fed ≡ journal
none_left fed journal before most moved part many some none =
    part ∙ take_all (before + most) journal (omega (arith, ap length part, length-take (before + most) journal, many, some, none))
