use Rattle.std.proofs.Common.{subst, IfSome, ℕ, List, ◌≡◌, Some}
use Rattle.ds_paxos.specs.Worlds.{WorldParts, held_by}
use Rattle.ds_paxos.proofs.Reached.{held_agreed}
use Rattle.ds_paxos.proofs.world.World.held.Goals as goal

pub returns-clause-agreed : goal.returns-clause-agreed
returns-clause-agreed c = subst (λ (w : WorldParts). IfSome c.held.result (λ entry. (other : ℕ) (second : List ℕ)
    → held_by w other c.args.log c.args.position ≡ Some second → second ≡ entry.now)) c.self.view_is
    (held_agreed c.self.inside.cluster c.args.member c.args.log c.args.position c.held.result c.self.invariant c.held.ensures)
