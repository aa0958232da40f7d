-- A reply is decided where one body alone may be said; and what its line tells is what that body tells.
use Rattle.std.proofs.Common.{◌≡◌, ℕ, refl, sym, ◌∙◌, subst, Option, Some, None}
use Rattle.serde_json.specs.Read.{max_depth}
use Rattle.ds_reply.specs.declared.reply.Body.{Body}
use Rattle.ds_reply.specs.declared.reply.Reply.{Reply}
use Rattle.ds_reply.specs.Replies.{reply_data}
use Rattle.ds_journal_text.proofs.PlainData.{IsPlain}
use Rattle.ds_reply_lines.proofs.RepliesBack.{reply_back}
use Rattle.ds_reply_lines.specs.ReplyLines.{IsSaid, told_by}
use Rattle.ds_model.specs.Sessions.{Session}
use Rattle.ds_judging_lines.specs.Deciding.{DecidesTurn, HasCounter, IsOnlyTold, IsTurn, SaysThen}
use Rattle.ds_judging_lines.specs.declared.turn.Turn.{Turn}

module _ (answers : Body → Session → Type 0) (turn : Turn) where
  -- where the line is a reply at all, it is the one with this body, and leaves this session
  abbrev pub IsOnly : Body → Session → Type 0
  IsOnly b t = (other : Body) (later : Session) → HasCounter other → IsSaid turn.client turn.number turn.line.now other
      → answers other later → (other ≡ b) × (later ≡ t)

  pub decides_one : (b : Body) (t after : Session) (found : Option Body) → HasCounter b → answers b t → IsOnly b t
      → SaysThen turn b t found after → DecidesTurn turn answers found after
  decides_one b t after None counter is only says = λ other later told said answered.
      says (subst (IsSaid turn.client turn.number turn.line.now) (only other later told said answered).0 said)
  decides_one b t after (Some f) counter is only says = record {
    counter = subst HasCounter (sym says.0) counter;
    is_said = says.1;
    is_answer = subst (λ x. answers x after) (sym says.0) (subst (answers b) (sym says.2) is);
    only = λ other later told said answered.
        let same = only other later told said answered in (same.0 ∙ sym says.0, same.1 ∙ sym says.2);
  }

  -- answers in one sense are answers in another, where the line has them
  pub decides_as : (others : Body → Session → Type 0) (after : Session) (found : Option Body)
      → ((b : Body) (t : Session) → HasCounter b → IsSaid turn.client turn.number turn.line.now b → answers b t → others b t)
      → ((b : Body) (t : Session) → HasCounter b → IsSaid turn.client turn.number turn.line.now b → others b t → answers b t)
      → DecidesTurn turn answers found after → DecidesTurn turn others found after
  decides_as others after None there back decided = λ other later told said answered.
      decided other later told said (back other later told said answered)
  decides_as others after (Some f) there back decided = record {
    counter = decided.counter;
    is_said = decided.is_said;
    is_answer = there f after decided.counter decided.is_said decided.is_answer;
    only = λ other later told said answered. decided.only other later told said (back other later told said answered);
  }

-- what the turn's line tells is what its reply tells
pub told_is : (turn : Turn) (b : Body) → IsTurn turn
    → IsPlain (reply_data (record { client = turn.client; line = turn.number; body = b })) max_depth
    → IsSaid turn.client turn.number turn.line.now b
    → told_by turn.told ≡ reply_data (record { client = turn.client; line = turn.number; body = b })
told_is turn b read plain said =
    let r : Reply = record { client = turn.client; line = turn.number; body = b } in
    read.told (reply_data r) (reply_back r turn.line.now plain said)

-- ---- what is found in parts

-- a number that is told in one way is the number that is told in another
pub one_number : (o p : Option ℕ) (m n : ℕ) → o ≡ p → o ≡ Some m → p ≡ Some n → m ≡ n
one_number o p m n same first second = cc

pub only_none : (P : ℕ → Type 0) (told r : Option ℕ) → IsOnlyTold P told r → ((m : ℕ) → r ≡ Some m → ⊥) → (k : ℕ) → told ≡ Some k → P k → ⊥
only_none P told None only never = only
only_none P told (Some m) only never = absurd (never m refl)

pub only_some : (P : ℕ → Type 0) (told r : Option ℕ) (m : ℕ) → IsOnlyTold P told r → r ≡ Some m
    → P m × ((k : ℕ) → told ≡ Some k → P k → k ≡ m)
only_some P told r m only is = subst (IsOnlyTold P told) is only
