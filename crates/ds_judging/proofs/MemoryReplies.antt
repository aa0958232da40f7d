-- The line that says that there was no memory is no other reply's: it differs in the first member's name, in the second's, or in the
-- number of the error.
use Rattle.std.proofs.Common.{◌≡◌, ℕ, ◌+◌, ◌*◌, false, List, [], ◌∷◌, ◌++◌, drop, get_or, eqb, refl, ap, ◌∙◌, sym}
use Rattle.std.proofs.Common.{Some, None, append_assoc}
use Rattle.std.proofs.lemmas.Bool.{eqb-false}
use Rattle.std.proofs.lemmas.List.{append_cancel_left}
use Rattle.std.specs.Fmt.{digits}
use Rattle.std.specs.Prelude.{decimal}
use Rattle.json.specs.Print.{escape_byte}
use Rattle.ds_entity.specs.declared.results.Seen.TheVariants as seen
use Rattle.ds_reply.specs.declared.reply.WriteAt.TheVariants as at
use Rattle.ds_reply.specs.declared.reply.Body.{Body}
use Rattle.ds_reply.specs.declared.reply.Body.TheVariants as body
use Rattle.ds_reply.specs.Replies.{reply_text}

differ : (a b : ℕ) → a ≡ b → eqb a b ≡ false → ⊥
differ a b same apart = eqb-false a b apart same

-- the first letter of the first member's name
abbrev first_letter : List ℕ → ℕ
first_letter text = get_or text 2 0

-- the first two letters of a name behind a comma
abbrev letters : List ℕ → ℕ
letters text = get_or text 2 0 * 1000 + get_or text 3 0

-- the first two digits of an error behind a comma
abbrev error_digits : List ℕ → ℕ
error_digits text = get_or text 9 0 * 1000 + get_or text 10 0

module _ (client line : ℕ) where
  abbrev said : Body → List ℕ
  said b = reply_text (record { client = client; line = line; body = b })

  abbrev IsSame : Body → Type 0
  IsSame b = said b ≡ said body.NoMemory

  by_first : (b : Body) → IsSame b → eqb (first_letter (said b)) (first_letter (said body.NoMemory)) ≡ false → b ≡ body.NoMemory
  by_first b same apart = absurd (differ _ _ (ap first_letter same) apart)

  behind : (xs ys : List ℕ) → (decimal client ++ xs) ++ 10 ∷ [] ≡ (decimal client ++ ys) ++ 10 ∷ [] → xs ++ 10 ∷ [] ≡ ys ++ 10 ∷ []
  behind xs ys same = append_cancel_left (decimal client) (xs ++ 10 ∷ []) (ys ++ 10 ∷ [])
      (sym (append_assoc (decimal client) xs (10 ∷ [])) ∙ same ∙ append_assoc (decimal client) ys (10 ∷ []))

  by_letters : (b : Body) (xs ys : List ℕ) → (decimal client ++ xs) ++ 10 ∷ [] ≡ (decimal client ++ ys) ++ 10 ∷ []
      → eqb (letters (xs ++ 10 ∷ [])) (letters (ys ++ 10 ∷ [])) ≡ false → b ≡ body.NoMemory
  by_letters b xs ys same apart = absurd (differ _ _ (ap letters (behind xs ys same)) apart)

  by_digits : (b : Body) (xs ys : List ℕ) → (decimal client ++ xs) ++ 10 ∷ [] ≡ (decimal client ++ ys) ++ 10 ∷ []
      → eqb (error_digits (xs ++ 10 ∷ [])) (error_digits (ys ++ 10 ∷ [])) ≡ false → b ≡ body.NoMemory
  by_digits b xs ys same apart = absurd (differ _ _ (ap error_digits (behind xs ys same)) apart)

  pub memory_alone : (b : Body) → IsSame b → b ≡ body.NoMemory
  unfolding escape_byte digits
  memory_alone (body.Put k (at.Commit n)) same = by_letters _ _ _ (ap (drop 10) same) refl
  memory_alone (body.Put k (at.Place p)) same = by_letters _ _ _ (ap (drop 10) same) refl
  memory_alone (body.Delete k (at.Commit n)) same = by_letters _ _ _ (ap (drop 10) same) refl
  memory_alone (body.Delete k (at.Place p)) same = by_letters _ _ _ (ap (drop 10) same) refl
  memory_alone (body.Get e m) same = by_letters _ _ _ (ap (drop 10) same) refl
  memory_alone (body.Query s results (seen.Counts counts) None) same = by_first _ same refl
  memory_alone (body.Query s results (seen.Counts counts) (Some text)) same = by_first _ same refl
  memory_alone (body.Query s results (seen.Place m) None) same = by_letters _ _ _ (ap (drop 10) same) refl
  memory_alone (body.Query s results (seen.Place m) (Some text)) same = by_letters _ _ _ (ap (drop 10) same) refl
  memory_alone (body.Gql s results (seen.Counts counts) None) same = by_first _ same refl
  memory_alone (body.Gql s results (seen.Counts counts) (Some text)) same = by_first _ same refl
  memory_alone (body.Gql s results (seen.Place m) None) same = by_letters _ _ _ (ap (drop 10) same) refl
  memory_alone (body.Gql s results (seen.Place m) (Some text)) same = by_letters _ _ _ (ap (drop 10) same) refl
  memory_alone body.Begin same = by_letters _ _ _ (ap (drop 10) same) refl
  memory_alone (body.Commit n) same = by_letters _ _ _ (ap (drop 10) same) refl
  memory_alone body.Rollback same = by_letters _ _ _ (ap (drop 10) same) refl
  memory_alone (body.AllocateIds first count) same = by_letters _ _ _ (ap (drop 10) same) refl
  memory_alone (body.Settle m counts) same = by_first _ same refl
  memory_alone (body.Apply applied count m shard) same = by_first _ same refl
  memory_alone body.BadJson same = by_digits _ _ _ (ap (drop 10) same) refl
  memory_alone body.LineTooLong same = by_digits _ _ _ (ap (drop 10) same) refl
  memory_alone (body.BadRequest f) same = by_digits _ _ _ (ap (drop 10) same) refl
  memory_alone (body.BadKey f) same = by_digits _ _ _ (ap (drop 10) same) refl
  memory_alone (body.BadValue f) same = by_digits _ _ _ (ap (drop 10) same) refl
  memory_alone (body.TooLarge size) same = by_digits _ _ _ (ap (drop 10) same) refl
  memory_alone (body.TooManyRows count) same = by_letters _ _ _ (ap (drop 10) same) refl
  memory_alone body.InTransaction same = by_digits _ _ _ (ap (drop 10) same) refl
  memory_alone body.NoTransaction same = by_digits _ _ _ (ap (drop 10) same) refl
  memory_alone (body.SecondGroup group) same = by_digits _ _ _ (ap (drop 10) same) refl
  memory_alone body.TooManyGroups same = by_digits _ _ _ (ap (drop 10) same) refl
  memory_alone body.TooManyWrites same = by_digits _ _ _ (ap (drop 10) same) refl
  memory_alone (body.Conflict commit group m) same = by_letters _ _ _ (ap (drop 10) same) refl
  memory_alone body.NeedAncestor same = by_digits _ _ _ (ap (drop 10) same) refl
  memory_alone (body.BadQuery r) same = by_digits _ _ _ (ap (drop 10) same) refl
  memory_alone (body.TooManySubqueries count) same = by_letters _ _ _ (ap (drop 10) same) refl
  memory_alone (body.MissingIndex c suggestion) same = by_letters _ _ _ (ap (drop 10) same) refl
  memory_alone (body.BadCursor f) same = by_digits _ _ _ (ap (drop 10) same) refl
  memory_alone (body.CursorMismatch f) same = by_digits _ _ _ (ap (drop 10) same) refl
  memory_alone (body.BadGql place) same = by_first _ same refl
  memory_alone (body.IdNotIssued id next) same = by_digits _ _ _ (ap (drop 10) same) refl
  memory_alone (body.IdsExhausted next) same = by_digits _ _ _ (ap (drop 10) same) refl
  memory_alone (body.Expired applied m snapshot) same = by_first _ same refl
  memory_alone body.NoMemory same = refl
