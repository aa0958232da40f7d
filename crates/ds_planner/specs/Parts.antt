-- The parts of what a branch asks for: its pairs and its ancestor.
use Rattle.std.specs.Prelude.{Bool, true, false, List, [], ◌∷◌, ◌++◌, map, cond, None, is_some}
use Rattle.ds_query.specs.declared.branch.Pair.{Pair}
use Rattle.ds_query.specs.declared.branch.Branch.{Branch}

-- some of a branch's pairs, and whether its ancestor is asked for
pub record Part : Type 0 where
  pub equal : List Pair
  pub ancestor : Bool

abbrev pub pair_part : Pair → Part
pair_part p = record { equal = p ∷ []; ancestor = false }

abbrev pub ancestor_part : Part
ancestor_part = record { equal = []; ancestor = true }

abbrev pub empty_part : Part
empty_part = record { equal = []; ancestor = false }

-- all that the branch asks for at once
abbrev pub asked : Branch → Part
asked b = record { equal = b.equal; ancestor = is_some b.ancestor }

-- its pairs in their order, and then the ancestor
abbrev pub conditions : Branch → List Part
conditions b = map pair_part b.equal ++ cond (is_some b.ancestor) (ancestor_part ∷ []) []

abbrev pub or_empty_part : List Part → List Part
or_empty_part [] = empty_part ∷ []
or_empty_part (p ∷ ps) = p ∷ ps

-- the parts of a branch: each pair and the ancestor; one that asks for neither is its own one part
abbrev pub parts : Branch → List Part
parts b = or_empty_part (conditions b)

-- the branch with this part alone
abbrev pub branch_of_part : Branch → Part → Branch
branch_of_part b part = record b { equal = part.equal; ancestor = cond part.ancestor b.ancestor None }
