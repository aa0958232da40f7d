-- What is printed: a line for each entry that is held, by member, log and position.
use Rattle.std.specs.Prelude.{ℕ, List, [], ◌∷◌, ◌++◌, codes, decimal}
use Rattle.ds_paxos.specs.Holdings.{Holding, holdings}
use Rattle.ds_paxos.specs.Worlds.{WorldParts}

abbrev pub holding_line : Holding → List ℕ
holding_line h = (codes "replica " ++ (decimal h.member ++ (codes " log " ++ (decimal h.log
    ++ (codes " position " ++ (decimal h.position ++ codes " ")))))) ++ (h.entry ++ codes "\n")

abbrev pub holding_lines : List Holding → List ℕ
holding_lines [] = []
holding_lines (h ∷ hs) = holding_line h ++ holding_lines hs

-- what all members hold
abbrev pub world_text : WorldParts → List ℕ
world_text w = holding_lines (holdings w)
