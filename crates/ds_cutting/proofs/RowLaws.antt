-- Commits with too many index rows, told of the journal that goes on from what was fed.
use Rattle.std.proofs.Common.{◌≡◌, ℕ, ◌+◌, List, [], ◌∷◌, ◌++◌, length, take, ap, sym, ◌∙◌, subst, append_assoc}
use Rattle.std.specs.Prelude.{None, Some, slice_get}
use Rattle.std.proofs.Math.Seq.{take-append_seam}
use Rattle.std.proofs.lemmas.List.Elements.{All-append}
use mathlib.Core.List.{IsPrefix}
use Rattle.ds_feeding.specs.Feeding.{HasTooManyLeft}
use Rattle.ds_row_limit.specs.ManyRows.{HaveFewRows, first_too_many}
use Rattle.ds_feeding.specs.declared.refused.ReindexRefused.{ReindexRefused}
use Rattle.ds_feeding.specs.declared.refused.ReindexRefused.TheVariants as refused
use Rattle.ds_indexdef.specs.declared.IndexDef.{IndexDef}
use Rattle.ds_log.specs.declared.Commit.{Commit}
use Rattle.ds_store.specs.Passes.{PassParts}
use Rattle.ds_cutting.specs.CutRuns.{AreTooMany, IsFirstTooMany}
use Rattle.ds_cutting.specs.CutSteps.{IsRefused, of_refused}

-- the front of a journal that begins with these commits
pub front_taken : (front journal : List Commit) → IsPrefix front journal → take (length front) journal ≡ front
front_taken front journal begins =
    ap (λ (js : List Commit). take (length front) js) (sym begins.1) ∙ take-append_seam front begins.0

-- the commit at the place behind these is the next one
next_there : (front rest : List Commit) (c : Commit) → slice_get (front ++ rest) (length front) ≡ Some c
    → (behind : List Commit) × (rest ≡ c ∷ behind)
next_there [] [] c is = cc
next_there [] (d ∷ rest) c is = (rest, cc)
next_there (f ∷ front) rest c is = next_there front rest c is

module _ (definitions : List IndexDef) where
  pub few_both : (fed behind : List Commit) → HaveFewRows definitions fed → HaveFewRows definitions behind
      → HaveFewRows definitions (fed ++ behind)
  few_both fed behind few more = All-append (λ (c : Commit). first_too_many definitions c.writes ≡ None) fed behind few more

  -- all that a pass has seen was fed, and none of it has too many
  pub few_fed : (fed behind seen : List Commit) → HaveFewRows definitions fed → HaveFewRows definitions behind → seen ≡ fed ++ behind
      → HaveFewRows definitions seen
  few_fed fed behind seen few more are = subst (HaveFewRows definitions) (sym are) (few_both fed behind few more)

  -- the first that has too many among what a pass has seen is the first of the whole journal
  first_many : (fed seen whole : List Commit) (commit count : ℕ) → HaveFewRows definitions fed
      → HasTooManyLeft definitions seen fed commit count → IsPrefix seen whole → IsFirstTooMany definitions whole commit count
  first_many fed seen whole commit count few left begins =
      let front = fed ++ left.behind in
      let rest = left.begins.0 in
      let next = next_there front rest left.many.next
      (subst (λ (js : List Commit). slice_get js (length front) ≡ Some left.many.next) (sym left.begins.1) left.many.there) in
      record {
        before = front;
        next = left.many.next;
        behind = next.0 ++ begins.0;
        all = sym begins.1 ∙ ap (λ (js : List Commit). js ++ begins.0) (sym left.begins.1 ∙ ap (λ (js : List Commit). front ++ js) next.1)
            ∙ append_assoc front (left.many.next ∷ next.0) begins.0;
        number = left.many.number;
        few = few_both fed left.behind few left.few;
        many = left.many.many;
      }

  pub refused_many : (feeder : PassParts) (whole : List Commit) (r : ReindexRefused) → IsRefused definitions feeder r
      → IsPrefix feeder.journal whole → AreTooMany (of_refused r) definitions whole
  refused_many feeder whole (refused.TooManyRows commit count) told begins =
      first_many told.fed feeder.journal whole commit count told.few told.many begins
  refused_many feeder whole refused.NoMemory told begins = tt
