-- Groups that are noted one after another: what is left to note, and what the heads say then.
use Rattle.std.proofs.Common.{◌≡◌, ℕ, ◌+◌, ◌≤◌, Bool, true, false, ◌||◌, cond, List, ◌∷◌, length, Option, Some, refl, ap, sym, ◌∙◌}
use Rattle.std.proofs.Common.{arith}
use Rattle.std.specs.List.{list_any}
use Rattle.ds_base.specs.Keys.{KeyParts}
use Rattle.ds_base.specs.KeyOrder.{same_key}
use Rattle.ds_log.specs.Heads.{HeadsParts, last_noted}

pub record IsNoting (all rest : List KeyParts) (commit : ℕ) (before now : HeadsParts) : Type 0 where
  pub room : length rest ≤ now.spare
  pub commits : now.commits ≡ before.commits
  pub lasts : (g : KeyParts)
      → cond (list_any (λ k. same_key k g) all) (Some commit) (last_noted before g) ≡ cond (list_any (λ k. same_key k g) rest)
      (Some commit) (last_noted now g)

chosen : (a b : Bool) (x y : Option ℕ) → cond (a || b) x y ≡ cond b x (cond a x y)
chosen true true x y = refl
chosen true false x y = refl
chosen false b x y = refl

pub noted_more : (all rest : List KeyParts) (commit : ℕ) (before now after : HeadsParts) (k : KeyParts)
    → IsNoting all (k ∷ rest) commit before now
    → ((g : KeyParts) → last_noted after g ≡ cond (same_key k g) (Some commit) (last_noted now g)) → after.commits ≡ now.commits
    → now.spare ≤ after.spare + 1
    → IsNoting all rest commit before after
noted_more all rest commit before now after k noting noted commits room = record {
  room = (let h = noting.room in omega arith);
  commits = commits ∙ noting.commits;
  lasts = λ g. noting.lasts g ∙ chosen (same_key k g) (list_any (λ k. same_key k g) rest) (Some commit) (last_noted now g)
      ∙ ap (λ last. cond (list_any (λ k. same_key k g) rest) (Some commit) last) (sym (noted g));
}
