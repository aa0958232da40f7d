-- What a reply says, and refusals.
use Rattle.std.proofs.Common.{◌≡◌, ◌⊎◌, inl, inr, true, false, [], ◌∷◌, refl, sym, Option, Some, None}
use Rattle.std.specs.Prelude.{IfOk, Result, Ok, Err}
use Rattle.std.specs.declared.alloc.AllocError.{AllocError}
use Rattle.ds_reply.specs.declared.reply.Body.{Body}
use Rattle.ds_reply.specs.declared.reply.Body.TheVariants as body
use Rattle.ds_model.specs.Sessions.{Session}
use Rattle.ds_protocol.specs.Quiet.{IsQuiet}
use Rattle.ds_protocol.specs.Refused.{IsRefusal, is_quiet}
use Rattle.ds_judging_lines.specs.Deciding.{HasCounter, SaidIs, SaysThen}
use Rattle.ds_judging_lines.specs.declared.turn.Turn.{Turn}

-- ---- results

pub ok_so : {A : Type 0} (r : Result A AllocError) (P Q : A → Type 0) → ((x : A) → P x → Q x) → IfOk r P → IfOk r Q
ok_so (Ok x) P Q so p = so x p
ok_so (Err e) P Q so p = tt

pub ok_two : {A : Type 0} (r : Result A AllocError) (P Q R : A → Type 0) → ((x : A) → P x → Q x → R x) → IfOk r P → IfOk r Q → IfOk r R
ok_two (Ok x) P Q R so p q = so x p q
ok_two (Err e) P Q R so p q = tt

-- ---- refusals tell of no counter

pub quiet_counter : (b : Body) → IsQuiet b → HasCounter b
quiet_counter (body.IdsExhausted next) quiet = absurd (never quiet.prints) where
  never : next ∷ [] ≡ [] → ⊥
  never is = cc
quiet_counter _ quiet = tt

pub silent_counter : (b : Body) → is_quiet b ≡ true → HasCounter b
silent_counter (body.IdsExhausted next) quiet = absurd (never quiet) where
  never : false ≡ true → ⊥
  never is = cc
silent_counter _ quiet = tt

-- a session that isn't changed is the one then
pub says_same : (turn : Turn) (b : Body) (s : Session) (found : Option Body) → SaidIs turn b found → SaysThen turn b s found s
says_same turn b s None says = says
says_same turn b s (Some f) says = (says.0, says.1, refl)

-- what isn't lack of memory is the refusal
pub told_refusal : (refusal : Option Body) (b : Body) → IsRefusal refusal (Some b) → (b ≡ body.NoMemory → ⊥) → refusal ≡ Some b
told_refusal refusal b (inl is) other = sym is
told_refusal refusal b (inr is) other = absurd (other (same is)) where
  same : Some b ≡ Some body.NoMemory → b ≡ body.NoMemory
  same is = cc

-- of two reasons the one that isn't lack of memory
pub not_memory : (b : Body) (P : Type 0) → (b ≡ body.NoMemory → ⊥) → ((b ≡ body.NoMemory) ⊎ P) → P
not_memory b P other (inl is) = absurd (other is)
not_memory b P other (inr p) = p
