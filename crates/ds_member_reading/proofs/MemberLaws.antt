-- Members that were met, or weren't.
use Rattle.std.proofs.Common.{◌≡◌, ℕ, ◌≤◌, List, Bool, cond, nat_le, le-leb, Option, Some, None, option_and_then, Result, Ok, Err, IfSome, refl, sym, ap, ◌∙◌}
use Rattle.std.specs.Option.{ok_or, unwrap_or}
use Rattle.json.specs.Token.{Token}
use Rattle.serde_json.specs.Data.{Data, boolean}
use Rattle.ds_json_reading.specs.declared.refusal.Refusal.{Refusal}
use Rattle.ds_json_reading.specs.declared.refusal.Refusal.TheVariants as refusal
use Rattle.ds_json_reading.specs.Reading.{read_as, required, optional, defaulted, natural_of, up_to, from}
use Rattle.ds_line_reading.specs.Parts.{BeginsWith, IsRead}
use Rattle.ds_line_reading.proofs.PartLaws.{scalar_read}
use Rattle.ds_member_reading.specs.Forms.{flag_of}

-- ---- a member that was met, or wasn't

module _ {A : Type 0} (form : Data → Result A Refusal) where
  pub required_is : (d : Option Data) (x : A) → optional form d ≡ Ok (Some x) → required form d ≡ Ok x
  required_is None x h = absurd cc
  required_is (Some d) x h = by (form d) h where
    by : (r : Result A Refusal) → read_as Some r ≡ Ok (Some x) → r ≡ Ok x
    by (Ok y) h = cc
    by (Err e) h = absurd cc

  pub defaulted_is : (absent : A) (d : Option Data) (found : Option A) → optional form d ≡ Ok found → defaulted absent form d ≡ Ok (unwrap_or found absent)
  defaulted_is absent None found h = ap (λ r. Ok (unwrap_or r absent)) (let e : None ≡ found = cc in e)
  defaulted_is absent (Some d) found h = by (form d) h where
    by : (r : Result A Refusal) → read_as Some r ≡ Ok found → r ≡ Ok (unwrap_or found absent)
    by (Ok y) h = ap (λ r. Ok (unwrap_or r absent)) (let e : Some y ≡ found = cc in e)
    by (Err e) h = absurd cc

-- ---- numbers

pub up_to_read : (greatest : ℕ) (d : Data) (n : ℕ) → natural_of d ≡ Some n → n ≤ greatest → ok_or (up_to greatest d) refusal.Request ≡ Ok n
up_to_read greatest d n is le =
    ap (λ r. ok_or (option_and_then (λ m. cond (nat_le m greatest) (Some m) None) r) refusal.Request) is ∙ ap (λ b. ok_or (cond b (Some n) None) refusal.Request) (le-leb n greatest le)

pub from_read : (least : ℕ) (d : Data) (n : ℕ) → natural_of d ≡ Some n → least ≤ n → ok_or (from least d) refusal.Request ≡ Ok n
from_read least d n is le =
    ap (λ r. ok_or (option_and_then (λ m. cond (nat_le least m) (Some m) None) r) refusal.Request) is ∙ ap (λ b. ok_or (cond b (Some n) None) refusal.Request) (le-leb least n le)

-- ---- what may not be read

pub flag_if : (depth : ℕ) (old left : List Token) (found : Option Bool) → IfSome found (λ b. BeginsWith old (boolean b) left) → IfSome found (λ b. IsRead depth flag_of old b left)
flag_if depth old left None h = tt
flag_if depth old left (Some b) h = scalar_read depth flag_of old (boolean b) b left h refl
