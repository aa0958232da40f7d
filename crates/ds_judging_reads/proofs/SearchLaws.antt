-- What the lines of replies to queries and statements tell, and which replies those are.
use Rattle.std.proofs.Common.{◌≡◌, ℕ, ◌≤◌, Bool, true, false, List, length, refl, ap, sym, ◌∙◌, subst, arith}
use Rattle.std.proofs.Common.{◌⊎◌, inl, inr, Option, Some, None, take}
use Rattle.std.specs.Prelude.{All, codes, is_some}
use Rattle.std.specs.List.{AllByRecursion}
use Rattle.ds_entity.specs.declared.results.Item.{Item}
use Rattle.ds_entity.specs.declared.results.Seen.{Seen}
use Rattle.ds_entity.specs.declared.results.Seen.TheVariants as seen
use Rattle.ds_entity.specs.Entities.{EntityParts}
use Rattle.ds_entity.specs.EntityOrder.{sorted_by_key}
use Rattle.ds_base.specs.Keys.{KeyParts, root_of}
use Rattle.ds_query.specs.declared.branch.Normal.{Normal}
use Rattle.ds_query.specs.declared.branch.Window.{Window}
use Rattle.ds_query.specs.declared.query.Select.{Select}
use Rattle.ds_query.specs.declared.row.Place.{Place}
use Rattle.ds_query.specs.Normals.{normal_form}
use Rattle.ds_log.specs.declared.Commit.{Commit}
use Rattle.ds_log.specs.declared.Entry.{Entry}
use Rattle.ds_log.specs.After.{after}
use Rattle.ds_log.specs.Logs.{writes_of}
use Rattle.ds_reply.specs.declared.reply.Body.{Body}
use Rattle.ds_reply.specs.declared.reply.Body.TheVariants as body
use Rattle.ds_journal_text.specs.Lawful.{IsLawfulEntity}
use Rattle.ds_applied.specs.AppliedLists.{shard_views}
use Rattle.ds_model.specs.Answers.{CountsWithin, ExpiredUnder, FoundOver, UnlessRefused, cursor_of, saw_group}
use Rattle.ds_model.specs.Groups.{ReadsAt, place_in}
use Rattle.ds_model.specs.Refusals.{IfUnrefused, Places, PlacesRead, ancestor_group_refusal, form_refusal, search_refusal}
use Rattle.ds_model.specs.Results.{items_of, result}
use Rattle.ds_model.specs.Sessions.{Session, saw_counts}
use Rattle.ds_model.specs.Views.{global_view, strong_view}
use Rattle.ds_model.specs.Worlds.{World, shard_lists}
use Rattle.ds_model.proofs.AncestorResults.{HaveAncestor, normal_have}
use Rattle.ds_model.proofs.ShardViews.{views_items, views_result}
use Rattle.ds_history.specs.Writers.{writing}
use Rattle.ds_history.proofs.StrongReads.{group_items, group_result}
use Rattle.ds_protocol.specs.declared.searching.Search.{Search}
use Rattle.ds_protocol.specs.Finishing.{found}
use Rattle.ds_protocol.specs.Preparing.{IsReady, IsRefused}
use Rattle.ds_protocol.specs.Searches.{search_parts}
use Rattle.ds_reply_lines.specs.LawfulResults.{HasTexts}
use Rattle.ds_reply_lines.specs.ReplyLines.{IsSaid, number_at, numbers_at}
use Rattle.ds_judging_lines.specs.Deciding.{DecidesTurn, HasCounter, IsOnlyTold, IsTurn, NoAnswer, SaysThen, told_in, world_in}
use Rattle.ds_judging_lines.specs.Deciding.{AsksLawful}
use Rattle.ds_judging_reads.specs.Reading.{FoundAs, IsExpired, IsSearched, told_over}
use Rattle.ds_judging_lines.specs.declared.turn.Turn.{Turn}
use Rattle.ds_judging_lines.proofs.CountLaws.{counts_fit}
use Rattle.ds_judging_lines.proofs.Decisions.{decides_as, decides_one, told_is}
use Rattle.ds_judging_reads.proofs.GetLaws.{IsPlaceTold, expired_told, none_some, stands_within}
use Rattle.ds_judging_lines.proofs.LawfulItems.{items_lawful}
use Rattle.ds_judging_lines.proofs.LawfulViews.{global_lawful, strong_lawful}
use Rattle.ds_judging_lines.proofs.OnePlace.{one_refusal, one_window}
use Rattle.ds_judging_reads.proofs.FoundLaws.{IsSmall, as_found, by_pairs, data_of, expired_as, finds_told, found_as, found_counts}
use Rattle.ds_judging_reads.proofs.FoundLaws.{found_error, found_place, found_plain, same_told, told_found, unless}
pub use Rattle.ds_judging_reads.proofs.FoundLaws.{HasAncestor, all_by_key, ancestor_of, by_key, refused_in, told_page, unrefused_in}

-- ---- decisions

module _ (turn : Turn) (is : IsTurn turn) (s : Session) (r : Search) where
  abbrev journal : List Commit
  journal = turn.run.now.history.journal

  abbrev lists : List (List Entry)
  lists = shard_lists turn.run.now.history.shards journal

  abbrev w : World
  w = world_in turn

  abbrev searches : Body → Session → Type 0
  searches said after = IsSearched w s r said after

  abbrev refusal_at : Places → Option Body
  refusal_at places = search_refusal w.definitions s (search_parts r) places

  abbrev WasRead : Places → Type 0
  WasRead places = IfUnrefused (form_refusal s r.query) (PlacesRead (normal_form r.query).branches (search_parts r) places)

  -- ---- refusals

  refused_alone : (places : Places) (b other : Body) (later : Session) → WasRead places → refusal_at places ≡ Some b → searches other later
      → (other ≡ b) × (later ≡ s)
  refused_alone places b other later read told answers =
      subst (λ o. UnlessRefused o s other later (FoundAs w s r.statement (search_parts r) answers.places other later))
      (one_refusal w.definitions s (search_parts r) answers.places places answers.read read ∙ told) answers.answered

  pub refused_decided : (places : Places) (b : Body) (found : Option Body) (after : Session) → WasRead places → refusal_at places ≡ Some b
      → HasCounter b → SaysThen turn b s found after → DecidesTurn turn searches found after
  refused_decided places b found after read told counter says =
      decides_one searches turn b s after found counter
      (record {
        places = places;
        read = read;
        answered = subst (λ o. UnlessRefused o s b s (FoundAs w s r.statement (search_parts r) places b s)) (sym told) (refl, refl);
      })
      (λ other later counted said answers. refused_alone places b other later read told answers) says

  pub form_decided : (b : Body) (found : Option Body) (after : Session) → IsRefused w.definitions (is_some s.transaction) (search_parts r) b
      → HasCounter b → SaysThen turn b s found after → DecidesTurn turn searches found after
  form_decided b found after refused counter says =
      refused_decided refused.places b found after (refused.read s refl) (refused.told s refl) counter says

  module _ (n : Normal) (v : Window) (ready : IsReady w.definitions (is_some s.transaction) (search_parts r) n v) where
    ready_read : WasRead ready.places
    ready_read = unless (form_refusal s r.query) (PlacesRead (normal_form r.query).branches (search_parts r) ready.places) ready.read

    pub group_decided : (b : Body) (found : Option Body) (after : Session) → ancestor_group_refusal s.transaction r.query.ancestor ≡ Some b
        → HasCounter b → SaysThen turn b s found after → DecidesTurn turn searches found after
    group_decided b found after told counter says =
        refused_decided ready.places b found after ready_read (ready.unrefused s refl ∙ told) counter says

    module _ (unrefused : ancestor_group_refusal s.transaction r.query.ancestor ≡ None) (texts : HasTexts r.query.select)
        (asks : All AsksLawful n.branches) where
      open_at : refusal_at ready.places ≡ None
      open_at = ready.unrefused s refl ∙ unrefused

      abbrev finds_so : Body → Session → Type 0
      finds_so other later = FoundAs w s r.statement (search_parts r) ready.places other later

      in_window : (other : Body) (later : Session) → searches other later → finds_so other later
      in_window other later answers =
          let same : refusal_at answers.places ≡ None =
          one_refusal w.definitions s (search_parts r) answers.places ready.places answers.read ready_read ∙ open_at in
          subst (λ places. FoundAs w s r.statement (search_parts r) places other later)
          (one_window w.definitions s (search_parts r) answers.places ready.places (ready.formed s refl) same answers.read ready_read)
          (subst (λ o. UnlessRefused o s other later (FoundAs w s r.statement (search_parts r) answers.places other later)) same
          answers.answered)

      from_window : (other : Body) (later : Session) → finds_so other later → searches other later
      from_window other later finds = record {
        places = ready.places;
        read = ready_read;
        answered = subst (λ o. UnlessRefused o s other later (finds_so other later)) (sym open_at) finds;
      }

      abbrev over : List EntityParts → Seen → Body
      over es sn = told_over r n v es sn

      -- what is told of lawful entities is what is read from its line
      told_so : (es : List EntityParts) (sn : Seen) → AllByRecursion IsLawfulEntity es → IsSmall sn
          → IsSaid turn.client turn.number turn.line.now (over es sn)
          → told_in turn ≡ data_of turn.client turn.number is.client is.number (over es sn)
      told_so es sn lawful small said =
          told_is turn (over es sn) is
          (found_plain turn.client turn.number is.client is.number r.statement r.cursor r.query.select
          (items_of n.merged r.query.select es (result n v es).rows) sn n.branches (result n v es).next texts
          (items_lawful n v r.query.select es (by_pairs n.branches asks) lawful) small) said

      over_place : (es : List EntityParts) (m : ℕ)
          → number_at (codes "place") (data_of turn.client turn.number is.client is.number (over es (seen.Place m))) ≡ Some m
      over_place es m =
          found_place turn.client turn.number is.client is.number r.statement r.query.select
          (items_of n.merged r.query.select es (result n v es).rows) m (cursor_of r.cursor n.branches (result n v es).next)

      over_counts : (es : List EntityParts) (counts : List ℕ)
          → numbers_at (codes "applied") (data_of turn.client turn.number is.client is.number (over es (seen.Counts counts))) ≡ Some counts
      over_counts es counts =
          found_counts turn.client turn.number is.client is.number r.statement r.query.select
          (items_of n.merged r.query.select es (result n v es).rows) counts (cursor_of r.cursor n.branches (result n v es).next)

      over_error : (es : List EntityParts) (sn : Seen)
          → number_at (codes "error") (data_of turn.client turn.number is.client is.number (over es sn)) ≡ None
      over_error es sn =
          found_error turn.client turn.number is.client is.number r.statement r.query.select
          (items_of n.merged r.query.select es (result n v es).rows) sn (cursor_of r.cursor n.branches (result n v es).next)

      over_counter : (es : List EntityParts) (sn : Seen) → HasCounter (over es sn)
      over_counter es sn = by r.statement where
        by : (b : Bool) → HasCounter (found b r.query.select (items_of n.merged r.query.select es (result n v es).rows) sn
            (cursor_of r.cursor n.branches (result n v es).next))
        by true = tt
        by false = tt

      -- ---- in all shards

      module _ (everywhere : r.query.ancestor ≡ None) where
        -- what the line of a reply tells
        record ToldCounted (other : Body) (later : Session) : Type 0 where
          pub counts : List ℕ
          pub body_is : other ≡ over (global_view lists counts) (seen.Counts counts)
          pub counts_told : numbers_at (codes "applied") (told_in turn) ≡ Some counts
          pub within : CountsWithin (λ shard. 0) 0 s.counts lists counts
          pub seen : later ≡ saw_counts lists counts s

        counted_told : (other : Body) (later : Session) → IsSaid turn.client turn.number turn.line.now other → searches other later
            → ToldCounted other later
        counted_told other later said answers =
            as_found w s r ready.places other later (ToldCounted other later)
            (λ selected results sn cursor body_is finds. by selected results sn cursor body_is
            (subst (λ o. FoundOver w s (search_parts r) ready.places o selected results sn cursor later) everywhere finds))
            (λ applied m snapshot body_is gone.
            absurd (subst (λ o. ExpiredUnder w s o applied m snapshot later) everywhere gone))
            (in_window other later answers)
          where
            by : (selected : Select) (results : List Item) (sn : Seen) (cursor : Option (List ℕ))
                → other ≡ found r.statement selected results sn cursor
                → FoundOver w s (search_parts r) ready.places None selected results sn cursor later → ToldCounted other later
            by selected results (seen.Place m) cursor body_is finds = absurd finds
            by selected results (seen.Counts counts) cursor body_is finds =
                let same : other ≡ over (global_view lists counts) (seen.Counts counts) =
                body_is ∙ told_found r n v ready.places (global_view lists counts) selected results cursor (seen.Counts counts)
                ready.normal_is ready.window_is finds.1 in
                let told =
                told_so (global_view lists counts) (seen.Counts counts)
                (global_lawful journal is.held.lawful turn.run.now.history.shards counts)
                (counts_fit turn.run.now.history.shards journal (λ shard. 0) s.counts counts is.held finds.0)
                (subst (IsSaid turn.client turn.number turn.line.now) same said) in record {
                  counts = counts;
                  body_is = same;
                  counts_told = ap (numbers_at (codes "applied")) told ∙ over_counts (global_view lists counts) counts;
                  within = finds.0;
                  seen = finds.2;
                }

        abbrev AreTold : Option (List ℕ) → Type 0
        AreTold o = IsOnlyTold (CountsWithin (λ shard. 0) 0 s.counts lists) (numbers_at (codes "applied") (told_in turn)) o

        pub counted_countless : AreTold None → NoAnswer searches turn.client turn.number turn.line.now
        counted_countless none = λ other later counter said answers.
            let t = counted_told other later said answers in none t.counts t.counts_told t.within

        abbrev shown : List ℕ → Body
        shown counts = over (sorted_by_key (shard_views lists counts)) (seen.Counts counts)

        shown_same : (counts : List ℕ) → shown counts ≡ over (global_view lists counts) (seen.Counts counts)
        shown_same counts =
            same_told r n v (sorted_by_key (shard_views lists counts)) (global_view lists counts) (seen.Counts counts)
            (views_result journal turn.run.now.history.shards counts n v)
            (views_items journal turn.run.now.history.shards counts n.merged r.query.select (result n v (global_view lists counts)).rows)

        pub counted_decided : (counts : List ℕ) (found : Option Body) (after : Session) → AreTold (Some counts)
            → SaysThen turn (shown counts) (saw_counts lists counts s) found after → DecidesTurn turn searches found after
        counted_decided counts found after are says =
            decides_one searches turn (over (global_view lists counts) (seen.Counts counts)) (saw_counts lists counts s) after found
            (over_counter (global_view lists counts) (seen.Counts counts))
            (from_window (over (global_view lists counts) (seen.Counts counts)) (saw_counts lists counts s)
            (found_as w s r ready.places r.query.select
            (items_of n.merged r.query.select (global_view lists counts) (result n v (global_view lists counts)).rows) (seen.Counts counts)
            (cursor_of r.cursor n.branches (result n v (global_view lists counts)).next) (saw_counts lists counts s)
            (subst (λ o. FoundOver w s (search_parts r) ready.places o r.query.select
            (items_of n.merged r.query.select (global_view lists counts) (result n v (global_view lists counts)).rows) (seen.Counts counts)
            (cursor_of r.cursor n.branches (result n v (global_view lists counts)).next) (saw_counts lists counts s)) (sym everywhere) (
              are.0,
              finds_told r n v ready.places (global_view lists counts) ready.normal_is ready.window_is,
              refl,
            ))))
            (λ other later counter said answers.
            let t = counted_told other later said answers in
            let same : t.counts ≡ counts = are.1 t.counts t.counts_told t.within in (
              t.body_is ∙ ap (λ ns. over (global_view lists ns) (seen.Counts ns)) same,
              t.seen ∙ ap (λ ns. saw_counts lists ns s) same,
            ))
            (subst (λ b. SaysThen turn b (saw_counts lists counts s) found after) (shown_same counts) says)

      -- ---- in a group

      module _ (ancestor : KeyParts) (has : r.query.ancestor ≡ Some ancestor) (some : 1 ≤ length ancestor.elems) where
        abbrev group : KeyParts
        group = root_of ancestor

        -- what the line of a reply with results tells
        record ToldUnder (other : Body) (later : Session) : Type 0 where
          pub place : ℕ
          pub body_is : other ≡ over (strong_view journal place) (seen.Place place)
          pub place_told : number_at (codes "place") (told_in turn) ≡ Some place
          pub error_told : number_at (codes "error") (told_in turn) ≡ None
          pub stands : ReadsAt journal s group place
          pub seen : later ≡ saw_group w group place s

        abbrev IsGone : Body → Session → Type 0
        IsGone other later = IsExpired w s group other later × (number_at (codes "error") (told_in turn) ≡ Some 23)

        under_told : (other : Body) (later : Session) → IsSaid turn.client turn.number turn.line.now other → searches other later
            → ToldUnder other later ⊎ IsGone other later
        under_told other later said answers =
            as_found w s r ready.places other later (ToldUnder other later ⊎ IsGone other later)
            (λ selected results sn cursor body_is finds. inl (by selected results sn cursor body_is
            (subst (λ o. FoundOver w s (search_parts r) ready.places o selected results sn cursor later) has finds)))
            (λ applied m snapshot body_is gone.
            let expired : IsExpired w s group other later =
            subst (λ b. IsExpired w s group b later) (sym body_is) (subst (λ o. ExpiredUnder w s o applied m snapshot later) has gone) in
            inr (expired, (expired_told turn is s group other later said expired).error_told))
            (in_window other later answers)
          where
            by : (selected : Select) (results : List Item) (sn : Seen) (cursor : Option (List ℕ))
                → other ≡ found r.statement selected results sn cursor
                → FoundOver w s (search_parts r) ready.places (Some ancestor) selected results sn cursor later → ToldUnder other later
            by selected results (seen.Counts counts) cursor body_is finds = absurd finds
            by selected results (seen.Place m) cursor body_is finds =
                let same : other ≡ over (strong_view journal m) (seen.Place m) =
                body_is ∙ told_found r n v ready.places (strong_view journal m) selected results cursor (seen.Place m)
                ready.normal_is ready.window_is finds.1 in
                let told =
                told_so (strong_view journal m) (seen.Place m) (strong_lawful journal is.held.lawful m)
                (omega (arith, stands_within journal s (place_in s.transaction group) m finds.0, is.held.commits))
                (subst (IsSaid turn.client turn.number turn.line.now) same said) in record {
                  place = m;
                  body_is = same;
                  place_told = ap (number_at (codes "place")) told ∙ over_place (strong_view journal m) m;
                  error_told = ap (number_at (codes "error")) told ∙ over_error (strong_view journal m) (seen.Place m);
                  stands = finds.0;
                  seen = finds.2;
                }

        abbrev PlaceTold : Option ℕ → Type 0
        PlaceTold o = IsPlaceTold turn is s group o

        pub under_placeless : PlaceTold None → NoAnswer searches turn.client turn.number turn.line.now
        under_placeless none = λ other later counter said answers. by other later said (under_told other later said answers) where
          by : (other : Body) (later : Session) → IsSaid turn.client turn.number turn.line.now other
              → ToldUnder other later ⊎ IsGone other later → ⊥
          by other later said (inl t) = none t.place t.place_told t.stands
          by other later said (inr gone) =
              let t = expired_told turn is s group other later said gone.0 in none t.place t.place_told t.answers.place

        -- where the line tells that the versions are gone, no other reply has it
        pub under_expired : (found : Option Body) (after : Session) → number_at (codes "error") (told_in turn) ≡ Some 23
            → DecidesTurn turn (λ said t. IsExpired w s group said t) found after → DecidesTurn turn searches found after
        under_expired found after error = decides_as (λ said t. IsExpired w s group said t) turn searches after found
            (λ b t counter said expired. from_window b t (there b t expired))
            (λ b t counter said answers. back b t (under_told b t said answers))
          where
            there : (b : Body) (t : Session) → IsExpired w s group b t → finds_so b t
            there (body.Expired applied m snapshot) t expired =
                expired_as w s r ready.places applied m snapshot t
                (subst (λ o. ExpiredUnder w s o applied m snapshot t) (sym has) expired)
            there _ t expired = absurd expired

            back : (b : Body) (t : Session) → ToldUnder b t ⊎ IsGone b t → IsExpired w s group b t
            back b t (inl told) = absurd (none_some told.error_told error)
            back b t (inr gone) = gone.0

        abbrev shown_under : ℕ → Body
        shown_under m = over (sorted_by_key (after (writes_of (writing group (take m journal))))) (seen.Place m)

        under_same : (m : ℕ) → shown_under m ≡ over (strong_view journal m) (seen.Place m)
        under_same m =
            let branches : HaveAncestor ancestor n.branches =
            subst (λ (u : Normal). HaveAncestor ancestor u.branches) (sym ready.normal_is) (normal_have r.query ancestor has) in
            same_told r n v (sorted_by_key (after (writes_of (writing group (take m journal))))) (strong_view journal m) (seen.Place m)
            (group_result journal m ancestor some n v branches)
            (group_items journal m ancestor some n v n.merged r.query.select branches)

        pub under_decided : (m : ℕ) (found : Option Body) (later : Session) → PlaceTold (Some m)
            → (number_at (codes "error") (told_in turn) ≡ Some 23 → ⊥)
            → SaysThen turn (shown_under m) (saw_group w group m s) found later → DecidesTurn turn searches found later
        under_decided m found later place not_gone says =
            decides_one searches turn (over (strong_view journal m) (seen.Place m)) (saw_group w group m s) later found
            (over_counter (strong_view journal m) (seen.Place m))
            (from_window (over (strong_view journal m) (seen.Place m)) (saw_group w group m s)
            (found_as w s r ready.places r.query.select
            (items_of n.merged r.query.select (strong_view journal m) (result n v (strong_view journal m)).rows) (seen.Place m)
            (cursor_of r.cursor n.branches (result n v (strong_view journal m)).next) (saw_group w group m s)
            (subst (λ o. FoundOver w s (search_parts r) ready.places o r.query.select
            (items_of n.merged r.query.select (strong_view journal m) (result n v (strong_view journal m)).rows) (seen.Place m)
            (cursor_of r.cursor n.branches (result n v (strong_view journal m)).next) (saw_group w group m s)) (sym has) (
              place.0,
              finds_told r n v ready.places (strong_view journal m) ready.normal_is ready.window_is,
              refl,
            ))))
            (λ other t counter said answers. only other t (under_told other t said answers))
            (subst (λ b. SaysThen turn b (saw_group w group m s) found later) (under_same m) says)
          where
            only : (other : Body) (t : Session) → ToldUnder other t ⊎ IsGone other t
                → (other ≡ over (strong_view journal m) (seen.Place m)) × (t ≡ saw_group w group m s)
            only other t (inl told) =
                let same : told.place ≡ m = place.1 told.place told.place_told told.stands in (
                  told.body_is ∙ ap (λ k. over (strong_view journal k) (seen.Place k)) same,
                  told.seen ∙ ap (λ k. saw_group w group k s) same,
                )
            only other t (inr gone) = absurd (not_gone gone.1)

      -- ---- in the group as the code has it

      module _ (group : KeyParts) (a : HasAncestor r group) where
        abbrev GroupTold : Option ℕ → Type 0
        GroupTold o = IsPlaceTold turn is s group o

        pub group_placeless : GroupTold None → NoAnswer searches turn.client turn.number turn.line.now
        group_placeless none = under_placeless a.ancestor a.has a.some (subst (λ g. IsPlaceTold turn is s g None) a.root none)

        pub group_gone : (found : Option Body) (later : Session) → number_at (codes "error") (told_in turn) ≡ Some 23
            → DecidesTurn turn (λ said t. IsExpired w s group said t) found later → DecidesTurn turn searches found later
        group_gone found later error decided =
            under_expired a.ancestor a.has a.some found later error
            (subst (λ g. DecidesTurn turn (λ said t. IsExpired w s g said t) found later) a.root decided)

        abbrev shown_in : KeyParts → ℕ → Body
        shown_in g m = over (sorted_by_key (after (writes_of (writing g (take m journal))))) (seen.Place m)

        pub group_found : (m : ℕ) (found : Option Body) (later : Session) → GroupTold (Some m)
            → (number_at (codes "error") (told_in turn) ≡ Some 23 → ⊥)
            → SaysThen turn (shown_in group m) (saw_group w group m s) found later → DecidesTurn turn searches found later
        group_found m found later place not_gone says =
            under_decided a.ancestor a.has a.some m found later (subst (λ g. IsPlaceTold turn is s g (Some m)) a.root place) not_gone
            (subst (λ g. SaysThen turn (shown_in g m) (saw_group w g m s) found later) a.root says)
