-- What is told of gets and searches, in the parts in which replies to them are judged.
use Rattle.std.specs.Prelude.{Bool, true, false, List}
use Rattle.ds_base.specs.Keys.{KeyParts}
use Rattle.ds_entity.specs.declared.results.Seen.{Seen}
use Rattle.ds_entity.specs.Entities.{EntityParts}
use Rattle.ds_query.specs.declared.branch.Normal.{Normal}
use Rattle.ds_query.specs.declared.branch.Window.{Window}
use Rattle.ds_query.specs.Normals.{normal_form}
use Rattle.ds_reply.specs.declared.reply.Body.{Body}
use Rattle.ds_reply.specs.declared.reply.Body.TheVariants as body
use Rattle.ds_model.specs.Answers.{ExpiredAnswers, ExpiredUnder, FoundOver, UnlessRefused, cursor_of}
use Rattle.ds_model.specs.Asked
use Rattle.ds_model.specs.Refusals.{IfUnrefused, Places, PlacesRead, form_refusal, search_refusal}
use Rattle.ds_model.specs.Results.{items_of, result}
use Rattle.ds_model.specs.Sessions.{Session}
use Rattle.ds_model.specs.Worlds.{World}
use Rattle.ds_protocol.specs.declared.searching.Search.{Search}
use Rattle.ds_protocol.specs.Finishing.{found}
use Rattle.ds_protocol.specs.Searches.{search_parts}

-- the versions of the group's place are gone
abbrev pub IsExpired : World → Session → KeyParts → Body → Session → Type 0
IsExpired w s group (body.Expired applied m snapshot) after = ExpiredAnswers w s group applied m snapshot after
IsExpired w s group _ after = ⊥

-- what is told of the results of a search over these entities
abbrev pub told_over : Search → Normal → Window → List EntityParts → Seen → Body
told_over r n w entities seen =
    found r.statement r.query.select (items_of n.merged r.query.select entities (result n w entities).rows) seen
    (cursor_of r.cursor n.branches (result n w entities).next)

-- what a search is told that nothing before refuses: as a statement's reply, or as a query's; or that the versions are gone
abbrev pub FoundAs : World → Session → Bool → Asked.Search → Places → Body → Session → Type 0
FoundAs w s false search places (body.Query selected results seen told) after =
    FoundOver w s search places search.query.ancestor selected results seen told after
FoundAs w s true search places (body.Gql selected results seen told) after =
    FoundOver w s search places search.query.ancestor selected results seen told after
FoundAs w s statement search places (body.Expired applied m snapshot) after =
    ExpiredUnder w s search.query.ancestor applied m snapshot after
FoundAs w s statement search places _ after = ⊥

-- A search is refused by its form and its places, or answered: as each request is that stands for it.
pub record IsSearched (w : World) (s : Session) (search : Search) (said : Body) (after : Session) : Type 0 where
  pub places : Places
  pub read : IfUnrefused (form_refusal s search.query) (PlacesRead (normal_form search.query).branches (search_parts search) places)
  pub answered : UnlessRefused (search_refusal w.definitions s (search_parts search) places) s said after
      (FoundAs w s search.statement (search_parts search) places said after)
