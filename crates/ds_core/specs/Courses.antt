-- The course of a run over single events: what happened from the first moment on, what each step changed, what was said, and when.
use Rattle.std.specs.Prelude.{◌≡◌, ℕ, List, [], ◌++◌, All, map}
use Rattle.ds_core.specs.declared.event.Event.{Event}
use Rattle.ds_core.specs.declared.event.Transcript.{Transcript}
use Rattle.ds_core.specs.Happenings.{Follow, Happening, Moment, event_of, first_moment, none_open, replies_in, requests_in}
use Rattle.ds_core.specs.Takings.{AreTaken, IsMissing}
use Rattle.ds_core.specs.Timelines.{AreMoves, AreTimely}

-- The events' steps happen in their order and then others, for each of which its client's open request waits, from nothing at all to the
-- transcript's journal and no request open; and what was said, in this order, are the transcript's replies to its requests. So each request
-- that was opened is replied to once, and no other is. A step that an open request waits for takes effect or is answered, and another
-- changes nothing but an applied entry; a request is replied to as soon as no step is missing, with the numbers that it has gathered since
-- its opening. Each step changes what such a step may, and the numbers of each reply are those of steps of its client that happened up to
-- it.
pub record HasHappened (events : List Event) (shards : ℕ) (t : Transcript) : Type 0 where
  pub happenings : List Happening
  pub missing : List Happening
  pub last : Moment
  pub taken : map event_of happenings ≡ events
  pub waited : All (IsMissing shards) missing
  pub follow : Follow (first_moment shards) (happenings ++ missing) last
  pub journal : last.journal ≡ t.journal
  pub closed : last.opens ≡ none_open
  pub requests : t.requests ≡ requests_in (happenings ++ missing)
  pub replies : t.replies ≡ replies_in (happenings ++ missing)
  pub takes : AreTaken shards (happenings ++ missing)
  pub moves : AreMoves shards (happenings ++ missing)
  pub timely : AreTimely [] (happenings ++ missing)
