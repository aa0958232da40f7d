-- What a reply tells, once it is known which one it is.
use Rattle.std.proofs.Common.{◌≡◌, List, ◌∷◌, [], Option, Some, None, sym, ap, ◌∙◌}
use Rattle.std.specs.Prelude.{MatchOption, unwrap_or}
use Rattle.ds_reply.specs.declared.reply.Body.{Body}
use Rattle.ds_json_printing.specs.Objects.{Named}
use Rattle.ds_reply.specs.Refusals.{refusal_members}
use Rattle.ds_reply.specs.Replies.{body_members}

pub refusal_told : (r : Option (List Named)) (b v : Body) (told : List Named) → b ≡ v → r ≡ Some told → told ≡ refusal_members v
    → unwrap_or r [] ≡ refusal_members b
refusal_told r b v told is h same = ap (λ (x : Option (List Named)). unwrap_or x []) h ∙ same ∙ ap refusal_members (sym is)

pub done_told : (r : Option (List Named)) (b v : Body) (told : List Named) → b ≡ v → r ≡ Some told → told ≡ body_members v
    → MatchOption r (body_members b ≡ refusal_members b) (λ t. t ≡ body_members b)
done_told None b v told is h same = absurd (cc)
done_told (Some t) b v told is h same =
    let e : t ≡ told = cc in
    e ∙ same ∙ ap body_members (sym is)

-- one member is another, in what is told of it
pub one : (f : List Named → List Named) (m n : Named) → m ≡ n → f (m ∷ []) ≡ f (n ∷ [])
one f m n e = ap (λ (x : Named). f (x ∷ [])) e

pub two : (f : List Named → List Named) (m n p q : Named) → m ≡ n → p ≡ q → f (m ∷ p ∷ []) ≡ f (n ∷ q ∷ [])
two f m n p q e g = ap (λ (x : Named). f (x ∷ p ∷ [])) e ∙ ap (λ (x : Named). f (n ∷ x ∷ [])) g

pub three : (f : List Named → List Named) (m n p q r s : Named) → m ≡ n → p ≡ q → r ≡ s → f (m ∷ p ∷ r ∷ []) ≡ f (n ∷ q ∷ s ∷ [])
three f m n p q r s e g h =
    ap (λ (x : Named). f (x ∷ p ∷ r ∷ [])) e ∙ ap (λ (x : Named). f (n ∷ x ∷ r ∷ [])) g ∙ ap (λ (x : Named). f (n ∷ q ∷ x ∷ [])) h
