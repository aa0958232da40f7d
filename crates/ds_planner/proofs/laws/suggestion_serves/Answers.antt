use Rattle.std.proofs.Common.{◌≡◌, List, [], ◌∷◌, ◌++◌, length, refl, ◌∙◌, ap, Some}
use Rattle.std.specs.List.{slice_get}
use Rattle.std.proofs.lemmas.Option.{slice_get-get_or}
use Rattle.ds_planner.specs.Missing.{suggestion_of}
use Rattle.ds_planner.proofs.Served.{missing_none}
use Rattle.ds_planner.proofs.SuggestionLaws.{suggestion_served}
use Rattle.ds_planner.proofs.laws.suggestion_serves.Goals as goal

at_end : {A : Type 0} (xs : List A) (x : A) → slice_get (xs ++ x ∷ []) (length xs) ≡ Some x
at_end [] x = refl
at_end (y ∷ xs) x = at_end xs x

pub returns-clause-added : goal.returns-clause-added
returns-clause-added c =
    let b = c.args.branch.now in
    let defs = c.args.defs.now ++ suggestion_of b ∷ [] in
    missing_none b defs (suggestion_served b defs (length c.args.defs.now) c.requires.lawful c.requires.kind (at_end c.args.defs.now (suggestion_of b)))

pub returns-clause-among : goal.returns-clause-among
returns-clause-among c = λ m.
    let b = c.args.branch.now in
    let defs = c.args.defs.now in
    missing_none b defs (suggestion_served b defs m.0 c.requires.lawful c.requires.kind (slice_get-get_or defs m.0 (suggestion_of b) m.1 ∙ ap Some m.2))
