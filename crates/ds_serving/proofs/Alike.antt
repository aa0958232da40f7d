-- Sessions that have seen and done the same, whatever is left of their texts.
use Rattle.std.proofs.Common.{◌≡◌, ℕ, zero, suc, drop, ◌≤◌, List, [], ◌∷◌, ◌++◌, length, refl, ap, sym, ◌∙◌, subst, Option}
use Rattle.std.specs.Prelude.{flat_map, All, IsPermutation}
use Rattle.std.proofs.lemmas.List.{length-map}
use Rattle.std.proofs.lemmas.List.Elements.{All-nil, All-cons, All-head, All-tail}
use Rattle.ds_indexdef.specs.declared.IndexDef.{IndexDef}
use Rattle.ds_model.specs.Asked.{asked}
use Rattle.ds_model.specs.Legal.{RoundsSteps, acknowledged, answered_lines, drawn_in}
use Rattle.ds_model.specs.Sessions.{Session}
use Rattle.ds_model.specs.Worlds.{world_of}
use Rattle.ds_rounds.specs.Rounds.{NumberedLine}
use Rattle.ds_store.specs.Ending.{Begins}
use Rattle.ds_store.specs.Passes.{PassParts}
use Rattle.ds_clients.specs.Clients.{AreAlike}
use Rattle.ds_clients.specs.Runs.{HasRun, passes_of}
use Rattle.ds_clients.specs.Sessions.{SessionParts}

pub flat_of : (f : PassParts → List ℕ) (s : List SessionParts) → flat_map f (passes_of s) ≡ flat_map (λ v. f v.pass) s
flat_of f [] = refl
flat_of f (x ∷ s) = ap (λ ns. f x.pass ++ ns) (flat_of f s)

flat-alike : (f : PassParts → List ℕ) (s t : List SessionParts) → passes_of t ≡ passes_of s
    → flat_map (λ v. f v.pass) t ≡ flat_map (λ v. f v.pass) s
flat-alike f s t same = sym (flat_of f t) ∙ ap (flat_map f) same ∙ flat_of f s

pub all_passes : (P : PassParts → Type 0) (s : List SessionParts) → All (λ v. P v.pass) s → All P (passes_of s)
all_passes P [] all = All-nil P
all_passes P (x ∷ s) all =
    All-cons P x.pass (passes_of s) (All-head (λ v. P v.pass) x s all) (all_passes P s (All-tail (λ v. P v.pass) x s all))

pub all_sessions : (P : PassParts → Type 0) (s : List SessionParts) → All P (passes_of s) → All (λ v. P v.pass) s
all_sessions P [] all = All-nil (λ v. P v.pass)
all_sessions P (x ∷ s) all =
    All-cons (λ v. P v.pass) x s (All-head P x.pass (passes_of s) all) (all_sessions P s (All-tail P x.pass (passes_of s) all))

pub all_drop : (P : PassParts → Type 0) (n : ℕ) (ps : List PassParts) → All P ps → All P (drop n ps)
all_drop P zero ps all = all
all_drop P (suc n) [] all = all
all_drop P (suc n) (p ∷ ps) all = all_drop P n ps (All-tail P p ps all)

all-alike : (P : PassParts → Type 0) (s t : List SessionParts) → passes_of t ≡ passes_of s → All (λ v. P v.pass) t → All (λ v. P v.pass) s
all-alike P s t same all = all_sessions P s (subst (All P) same (all_passes P t all))

-- as many sessions as passes
pub length-passes : (s : List SessionParts) → length (passes_of s) ≡ length s
length-passes s = length-map s (λ v. v.pass)

-- the rounds that were run, told of sessions that are alike
pub run_alike : (definitions : List IndexDef) (shards : ℕ) (window : Option ℕ) (first : List Session) (rounds : List (List NumberedLine))
    (s t : List SessionParts) (text : List ℕ) → AreAlike s t → HasRun definitions shards window first rounds s text
    → HasRun definitions shards window first rounds t text
run_alike definitions shards window first rounds s t text alike run = record {
  replies = run.replies;
  clients = sym (length-passes t) ∙ ap (λ (ps : List PassParts). length ps) alike.passes ∙ length-passes s ∙ run.clients;
  steps = λ journal on.
      subst (λ (vs : List Session).
      RoundsSteps (asked shards) (world_of definitions shards window journal) rounds first run.replies vs)
      (sym alike.seen) (run.steps journal (all-alike (Begins shards journal) s t alike.passes on));
  counted = run.counted;
  printed = run.printed;
  commits = subst (IsPermutation (flat_map acknowledged run.replies)) (sym (flat-alike (λ p. p.commits) s t alike.passes)) run.commits;
  draws = subst (IsPermutation (drawn_in (asked shards) (answered_lines (asked shards) rounds) run.replies))
      (sym (flat-alike (λ p. p.draws) s t alike.passes)) run.draws;
  accepts = λ bound below. run.accepts bound (all-alike (λ p. p.next ≤ bound) s t alike.passes below);
  prints = λ bound below. run.prints bound (all-alike (λ p. p.next ≤ bound) s t alike.passes below);
}

-- their replies are the same
pub run_alike_replies : (definitions : List IndexDef) (shards : ℕ) (window : Option ℕ) (first : List Session)
    (rounds : List (List NumberedLine)) (s t : List SessionParts) (text : List ℕ) (alike : AreAlike s t)
    (run : HasRun definitions shards window first rounds s text)
    → (run_alike definitions shards window first rounds s t text alike run).replies ≡ run.replies
unfolding run_alike
run_alike_replies definitions shards window first rounds s t text alike run = refl
