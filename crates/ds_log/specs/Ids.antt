-- Ids of 2^52 and above, which the server alone draws: a written key may have only those that were issued (our own profile).
use Rattle.std.specs.Prelude.{◌≡◌, ℕ, ◌&&◌, nat_le, List, [], ◌∷◌, cond, Option, Some, None}
use Rattle.std.specs.List.{All}
use Rattle.std.specs.Option.{option_or}
use Rattle.ds_base.specs.declared.key.Ident.{Ident}
use Rattle.ds_base.specs.declared.key.Ident.TheVariants.{Id, Name}
use Rattle.ds_base.specs.declared.key.Elem.{Elem}
use Rattle.ds_base.specs.Limits.{first_drawn_id}
use Rattle.ds_log.specs.declared.Write.{Write}
use Rattle.ds_log.specs.declared.Commit.{Commit}
use Rattle.ds_log.specs.Logs.{key_of}

-- an id that is drawn from the counter and isn't below it
abbrev pub unissued_id : ℕ → ℕ → Option ℕ
unissued_id next n = cond (nat_le first_drawn_id n && nat_le next n) (Some n) None

abbrev pub unissued : ℕ → Ident → Option ℕ
unissued next (Id n) = unissued_id next n
unissued next (Name x) = None

-- the first such id of a path
abbrev pub first_unissued : ℕ → List Elem → Option ℕ
first_unissued next [] = None
first_unissued next (e ∷ es) = option_or (unissued next e.ident) (first_unissued next es)

-- each id of 2^52 or more in a written key is below the counter
abbrev pub AreIssued : ℕ → List Write → Type 0
AreIssued next = All (λ w. first_unissued next (key_of w).elems ≡ None)

-- and so in each commit
abbrev pub AllIssued : ℕ → List Commit → Type 0
AllIssued next = All (λ c. AreIssued next c.writes)
