use Rattle.std.proofs.Common.{◌≡◌, ℕ, List, ◌∙◌, ap, sym, subst, Option, Some}
use Rattle.std.specs.Prelude.{Result, Ok, Err, IfOk, IfSome, slice_get}
use Rattle.std.specs.Result.{result_ok}
use Rattle.ds_base.specs.Keys.{KeyParts}
use Rattle.ds_log.specs.declared.Commit.{Commit}
use Rattle.ds_log.specs.declared.Touch.{Touch}
use Rattle.ds_session_writes.specs.Touched.{IsTouchedAs}
use Rattle.ds_session_writes.proofs.transactions.group_at.Goals as goal

copied_group : {E : Type 0} (r : Result KeyParts E) (touched : List Touch) (turn : ℕ) (touch : Touch) → slice_get touched turn ≡ Some touch
    → IfOk r (λ k. k ≡ touch.group) → IfSome (result_ok r) (λ group. IsTouchedAs touched turn group)
copied_group (Ok k) touched turn touch named is =
    record { place = touch.place; named = named ∙ ap (λ (g : KeyParts). Some (record { group = g; place = touch.place })) (sym is) }
copied_group (Err e) touched turn touch named is = tt

pub returns : goal.returns
returns c =
    subst (λ (o : Option KeyParts). IfSome o (λ group. IsTouchedAs c.args.draft.now.touched c.args.turn group)) (sym c.ok.ensures.value)
    (copied_group c.copy.result c.args.draft.now.touched c.args.turn c.in_ok-touch.touch.now
    (ap (λ (d : Commit). slice_get d.touched c.args.turn) (sym c.commit.ensures.value) ∙ sym c.in_ok-touch.ensures)
    c.copy.ensures.copied)
