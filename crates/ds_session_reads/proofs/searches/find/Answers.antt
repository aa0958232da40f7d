use Rattle.std.proofs.Common.{◌≡◌, ◌⊎◌, ap, sym, ◌∙◌, subst}
use Rattle.std.specs.Prelude.{is_some}
use Rattle.ds_reply.specs.declared.reply.Body.TheVariants as body
use Rattle.ds_protocol.specs.Preparing.{IsRefused}
use Rattle.ds_protocol.specs.Searches.{search_parts}
use Rattle.ds_session_state.specs.Sessions.{SessionParts}
use Rattle.ds_session_reads.proofs.RefusedSearches.{search_refused}
use Rattle.ds_session_reads.proofs.searches.find.Goals as goal

pub returns-in-Err-clause-replied : goal.returns-in-Err-clause-replied
returns-in-Err-clause-replied g c = λ call is.
    let inside = c.is_open.ensures ∙ ap (λ (v : SessionParts). is_some v.seen.transaction) c.state.view_is in
    let told = subst (λ ds. (c.in-Err.body ≡ body.NoMemory)
    ⊎ IsRefused ds c.is_open.result (search_parts c.args.search) c.in-Err.body) c.requires.definitions c.in-Err.ensures.refused in
    c.refuse.ensures _ c.args.store.now.shards
    (search_refused g.J.Names.definitions c.args.store.now.shards (record { client = c.args.state.now.client; call = call })
    c.args.state.now.seen c.args.search c.in-Err.body is c.is_open.result (sym inside) told)
