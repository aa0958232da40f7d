use Rattle.std.proofs.Common.{◌≤◌, subst, sym}
use Rattle.ds_base.specs.Limits.{greatest_client}
use Rattle.ds_store.specs.Lower.{IsNoLower}
use Rattle.ds_session_state.specs.Sessions.{IsWithin, SessionParts}
use Rattle.ds_session.proofs.MovingLaws.{within_moved}
use Rattle.ds_session.proofs.session.Session.moved.Goals as goal

pub invariant_of-result : goal.invariant_of-result
invariant_of-result g c =
    subst (λ (v : SessionParts). IsWithin v.seen c.args.pass × (v.client ≤ greatest_client) × (c.self.inside.room ≤ v.room))
    (sym c.state.view_is) (
      within_moved c.self.inside.state.seen c.self.inside.state.pass c.args.pass
          (subst (λ (v : SessionParts). IsNoLower v.pass c.args.pass) (sym c.self.view_is) c.requires) c.self.invariant.0,
      c.self.invariant.1,
      c.self.invariant.2,
    )
