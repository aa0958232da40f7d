-- Lemmas that functions cite, and sets of those that they cite together.
use Rattle.ds_machine.proofs.Words.{◌≡◌, true, Option, Some, None, arith, refl, is_some, in_transaction, Transaction, Due, IfReply}
use Rattle.ds_effects.specs.declared.effect.Plan.{Plan}
use Rattle.ds_applied.proofs.FollowLaws.{Follows-made}
use Rattle.ds_effects.specs.declared.effect.Due.TheVariants as dues
use Rattle.ds_machine.proofs.Growing.{looked-shown}
use Rattle.ds_machine.proofs.Grown.{up_to-risen, up_to-same}
use Rattle.ds_machine.proofs.QueryPlans.{ancestor_due, form_due}
use Rattle.ds_machine.proofs.ReadPlans.{raised-beyond, up_to-count}
use Rattle.ds_machine.proofs.ToldPlans.{silent-refused}
use Rattle.ds_machine.proofs.ToldRefusals.{form-bare, quiet-is}
use Rattle.ds_machine.proofs.WriteAnswers.{stands-touched}

-- an operation that no transaction may ask has none
pub outside : (o : Option Transaction) → in_transaction o ≡ None → o ≡ None
outside o none = grind arith

-- what holds of a reply holds of it by a law
pub reply_map : (P Q : Plan → Type 0) (d : Due) → ((p : Plan) → P p → Q p) → IfReply d P → IfReply d Q
reply_map P Q (dues.Waits step) law is = tt
reply_map P Q (dues.Reply p) law is = law p is

pub some-of : {A : Type 0} (o : Option A) → is_some o ≡ true → (x : A) × (o ≡ Some x)
some-of (Some x) is = (x, refl)
some-of None is = cc

pub ruleset count_laws = (up_to-same, up_to-risen, up_to-count, raised-beyond, looked-shown)

pub ruleset prepared_laws = (ancestor_due, form_due, silent-refused, form-bare, quiet-is)

pub ruleset place_laws = (stands-touched)

pub ruleset first_laws = (Follows-made)
