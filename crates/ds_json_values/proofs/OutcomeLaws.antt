-- An outcome where it is known whether something was given.
use Rattle.std.proofs.Common.{◌≡◌, List, Option, Some, None, option_map, subst}
use Rattle.json.specs.Token.{Token}
use Rattle.ds_json_values.specs.Outcomes.{Refuses, Gives}

module _ {T D V : Type 0} (means : T → Option D) (seen : V → D) (found : Option (T × List Token)) (left : List Token) where
  pub given : (o : Option V) (v : V) → o ≡ Some v → Gives means found (option_map seen o) left → Gives means found (Some (seen v)) left
  given o v is g = subst (λ x. Gives means found (option_map seen x) left) is g

  pub not_given : (o : Option V) → o ≡ None → Gives means found (option_map seen o) left → Refuses means found
  not_given o is g = subst (λ x. Gives means found (option_map seen x) left) is g
