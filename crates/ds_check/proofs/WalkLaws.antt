-- One step more of the walk over a run.
use Rattle.std.proofs.Common.{◌≡◌, ℕ, zero, suc, ◌+◌, ◌<◌, ◌≤◌, List, [], ◌∷◌, ◌++◌, length, take, drop, refl, ap, sym, ◌∙◌}
use Rattle.std.proofs.Common.{subst, arith, Some, append_assoc, append-nil}
use Rattle.std.specs.Prelude.{slice_get, Ok, Err}
use Rattle.std.proofs.Common.{length-append}
use Rattle.std.proofs.lemmas.List.{take_all}
use Rattle.ds_asked.specs.declared.lines.Asked.{Asked}
use Rattle.ds_model.specs.Sessions.{Session}
use Rattle.ds_model.specs.Worlds.{World}
use Rattle.ds_reply.specs.declared.reply.Reply.{Reply}
use Rattle.ds_told.specs.Told.{ToldParts}
use Rattle.ds_check.specs.Walks.{IsFirstWrong, IsReplied, IsTaken, IsTold, IsWalked, Stands, asks}
use Rattle.ds_check.specs.declared.steps.Step.{Step}
use Rattle.ds_check.specs.declared.steps.Step.TheVariants.{Meet, Ask}
use Rattle.ds_check.proofs.Walking.{asks-append, stands_ask, stands_begun, stands_meet, told-ask, told-meet}

-- so many replies are answers to the steps so far, and noted; these steps are left
pub record IsSoFar (w : World) (first : List Session) (steps : List Step) (lines : List (List ℕ)) (left : List Step) (now : List Session)
    (answered : ℕ) (told : ToldParts) : Type 0 where
  pub done : List Step
  pub whole : steps ≡ done ++ left
  pub replies : List Reply
  pub counted : length replies ≡ answered
  pub within : answered ≤ length lines
  pub stands : Stands w first done (take answered lines) now replies
  pub told_is : IsTold done replies told

take-more : (lines : List (List ℕ)) (i : ℕ) (line : List ℕ) → slice_get lines i ≡ Some line → take (i + 1) lines ≡ take i lines ++ line ∷ []
take-more lines i line at = ap (λ k. take k lines) (let k : i + 1 ≡ suc i = omega arith in k) ∙ by lines i at where
  by : (ls : List (List ℕ)) (j : ℕ) → slice_get ls j ≡ Some line → take (suc j) ls ≡ take j ls ++ line ∷ []
  by [] j is = cc
  by (l ∷ ls) zero is = let same : l ≡ line = cc in ap (λ x. x ∷ []) same
  by (l ∷ ls) (suc j) is = ap (λ xs. l ∷ xs) (by ls j is)

drop-more : (lines : List (List ℕ)) (i : ℕ) (line : List ℕ) → slice_get lines i ≡ Some line
    → lines ≡ take i lines ++ line ∷ drop (suc i) lines
drop-more [] i line at = cc
drop-more (l ∷ ls) zero line at = let same : l ≡ line = cc in ap (λ x. x ∷ ls) same
drop-more (l ∷ ls) (suc i) line at = ap (λ xs. l ∷ xs) (drop-more ls i line at)

got-below : (lines : List (List ℕ)) (i : ℕ) (line : List ℕ) → slice_get lines i ≡ Some line → i < length lines
got-below [] i line at = cc
got-below (l ∷ ls) zero line at = omega arith
got-below (l ∷ ls) (suc i) line at = let rest = got-below ls i line at in omega (arith, rest)

pub so_far_begun : (w : World) (first : List Session) (steps : List Step) (lines : List (List ℕ)) (told : ToldParts)
    → told ≡ record { commits = []; drawn = []; accepted = 0; printed = 0 } → IsSoFar w first steps lines steps first 0 told
so_far_begun w first steps lines told is = record {
  done = [];
  whole = refl;
  replies = [];
  counted = refl;
  within = omega arith;
  stands = stands_begun w first;
  told_is = subst (λ t. IsTold [] [] t) (sym is) (record { commits = refl; drawn = refl; accepted = refl; printed = refl });
}

module _ (w : World) (first : List Session) (steps : List Step) (lines : List (List ℕ)) where
  pub so_far_more : (step : Step) (left : List Step) (now next : List Session) (answered count : ℕ) (told later : ToldParts)
      → IsSoFar w first steps lines (step ∷ left) now answered told → IsTaken w now told lines answered step (Ok count) next later
      → IsSoFar w first steps lines left next count later
  so_far_more Meet left now next answered count told later so_far (same, sessions, kept) = record {
    done = so_far.done ++ Meet ∷ [];
    whole = so_far.whole ∙ sym (append_assoc so_far.done (Meet ∷ []) left);
    replies = so_far.replies;
    counted = so_far.counted ∙ sym same;
    within = let low = so_far.within in omega (arith, low, same);
    stands = subst (λ n. Stands w first (so_far.done ++ Meet ∷ []) (take n lines) next so_far.replies) (sym same)
        (subst (λ ss. Stands w first (so_far.done ++ Meet ∷ []) (take answered lines) ss so_far.replies) (sym sessions)
        (stands_meet w first so_far.done (take answered lines) now so_far.replies so_far.stands));
    told_is = subst (λ t. IsTold (so_far.done ++ Meet ∷ []) so_far.replies t) (sym kept)
        (told-meet so_far.done so_far.replies told so_far.stands.counted so_far.told_is);
  }
  so_far_more (Ask a) left now next answered count told later so_far (same, line, at, right) = record {
    done = so_far.done ++ Ask a ∷ [];
    whole = so_far.whole ∙ sym (append_assoc so_far.done (Ask a ∷ []) left);
    replies = so_far.replies ++ (record { client = a.client; line = a.number; body = right.said }) ∷ [];
    counted = let all = so_far.counted in
        let many = length-append so_far.replies ((record { client = a.client; line = a.number; body = right.said }) ∷ []) in omega
        (arith, all, many, same);
    within = let below = got-below lines answered line at in omega (arith, below, same);
    stands = subst (λ n. Stands w first (so_far.done ++ Ask a ∷ []) (take n lines) next
        (so_far.replies ++ (record { client = a.client; line = a.number; body = right.said }) ∷ [])) (sym same)
        (subst (λ ls. Stands w first (so_far.done ++ Ask a ∷ []) ls next
        (so_far.replies ++ (record { client = a.client; line = a.number; body = right.said }) ∷ []))
        (sym (take-more lines answered line at))
        (subst (λ ss. Stands w first (so_far.done ++ Ask a ∷ []) (take answered lines ++ line ∷ []) ss
        (so_far.replies ++ (record { client = a.client; line = a.number; body = right.said }) ∷ [])) (sym right.put)
        (stands_ask w first so_far.done (take answered lines) now so_far.replies a line right.said right.session right.after so_far.stands
        right.own
        right.answer)));
    told_is = told-ask so_far.done so_far.replies told later a (record { client = a.client; line = a.number; body = right.said })
        so_far.stands.counted so_far.told_is right.noted;
  }

  -- a step that is left has a reply
  pub left_replied : (a : Asked) (left : List Step) (now : List Session) (answered : ℕ) (told : ToldParts)
      → IsSoFar w first steps lines (Ask a ∷ left) now answered told → asks steps ≡ length lines → answered < length lines
  left_replied a left now answered told so_far all =
      let parts = ap asks so_far.whole ∙ asks-append so_far.done (Ask a ∷ left) in
      let done = so_far.stands.counted in
      let counted = so_far.counted in omega (arith, parts, done, counted, all)

  pub replied_next : (step : Step) (left : List Step) (now : List Session) (answered : ℕ) (told : ToldParts)
      → IsSoFar w first steps lines (step ∷ left) now answered told → asks steps ≡ length lines → IsReplied step answered (length lines)
  replied_next Meet left now answered told so_far all = tt
  replied_next (Ask a) left now answered told so_far all = left_replied a left now answered told so_far all

  pub so_far_wrong : (step : Step) (left : List Step) (now next : List Session) (answered number : ℕ) (told later : ToldParts)
      → IsSoFar w first steps lines (step ∷ left) now answered told → IsTaken w now told lines answered step (Err number) next later
      → IsFirstWrong w first steps lines number
  so_far_wrong Meet left now next answered number told later so_far taken = absurd taken
  so_far_wrong (Ask a) left now next answered number told later so_far (same, line, at, wrong) = record {
    before = so_far.done;
    asked = a;
    behind = left;
    split = so_far.whole;
    front = take answered lines;
    line = line;
    others = drop (suc answered) lines;
    lines_split = drop-more lines answered line at;
    now = now;
    replies = so_far.replies;
    stands = so_far.stands;
    wrong = wrong;
    told = same;
  }

  pub so_far_whole : (now : List Session) (answered : ℕ) (told : ToldParts) → IsSoFar w first steps lines [] now answered told
      → asks steps ≡ length lines → IsWalked w first steps lines told
  so_far_whole now answered told so_far all =
      let steps_are : steps ≡ so_far.done = so_far.whole ∙ append-nil so_far.done in
      let lines_are : take answered lines ≡ lines =
      take_all answered lines (let done = so_far.stands.counted in let counted = so_far.counted in let same =
      ap asks steps_are in omega (arith, done, counted, same, all)) in
      record {
        after = now;
        replies = so_far.replies;
        stands = subst (λ xs. Stands w first xs lines now so_far.replies) (sym steps_are)
            (subst (λ ls. Stands w first so_far.done ls now so_far.replies) lines_are so_far.stands);
        told_is = subst (λ xs. IsTold xs so_far.replies told) (sym steps_are) so_far.told_is;
      }
