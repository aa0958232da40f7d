-- A round: from what was done with each client to what was done with all.
use Rattle.std.proofs.Common.{◌≡◌, ℕ, ◌+◌, ◌*◌, ◌≤◌, List, [], ◌∷◌, ◌++◌, length, length-append, map, refl, ap, sym, ◌∙◌}
use Rattle.std.proofs.Common.{subst, arith, zero, suc, Option}
use Rattle.std.specs.Prelude.{All, fold}
use Rattle.std.specs.List.{range_with_len}
use Rattle.std.proofs.lemmas.List.{append-nil, length-map, length-replicate}
use Rattle.std.proofs.lemmas.List.Elements.{All-nil, All-cons, All-head, All-tail}
use Rattle.ds_base.specs.Limits.{greatest_client}
use Rattle.ds_indexdef.specs.declared.IndexDef.{IndexDef}
use Rattle.ds_rounds.specs.Rounds.{NumberedLine}
use Rattle.ds_model.specs.Sessions.{Session}
use Rattle.ds_protocol.specs.Watermarks.{HaveCounts, greatest_of, nothing_seen, raised_by}
use Rattle.ds_protocol.proofs.Meetings.{greater-length}
use Rattle.ds_store.specs.Passes.{PassParts}
use Rattle.ds_asked.specs.declared.lines.Asked.{Asked}
use Rattle.ds_asked.specs.AskedLines.{AreAskedBy, AreAskedFrom}
use Rattle.ds_clients.specs.Clients.{AreAlike, AreReady, EachOf, HasAnsweredOwn, IsReady, StartsRound, clients_of}
use Rattle.ds_client.specs.Room.{most_no_memory}
use Rattle.ds_clients.specs.Runs.{AreWritten, HaveMet, HaveRun, passes_of, seen_of}
use Rattle.ds_client.specs.Meeting.{HasTaken}
use Rattle.ds_client.specs.Sessions.{SessionParts}
use Rattle.ds_clients.proofs.ClientLaws.{IsAlike, alike, all_ready, counts_kept, each_map, each_through, each_weaker, have_answered}
use Rattle.ds_clients.proofs.ClientLaws.{have_taken, met_alike}
use Rattle.ds_clients.proofs.ClientLaws.{are_written, written_each, written_kept}
use Rattle.ds_clients.proofs.MeetingLaws.{have_met}

-- ---- the greatest of all

greatest-from : (g : Session) (all : List Session) → length (fold (λ seen s. raised_by s seen) g all).counts ≡ length g.counts
greatest-from g [] = refl
greatest-from g (s ∷ all) = greatest-from (raised_by s g) all ∙ greater-length g.counts s.counts

pub greatest_many : (shards : ℕ) (all : List Session) → length (greatest_of shards all).counts ≡ shards
greatest_many shards all = greatest-from (nothing_seen shards) all ∙ length-replicate shards 0

-- ---- clients

pub so_many : {A : Type 0} (number : A → ℕ) (n : ℕ) (xs : List A) → map number xs ≡ range_with_len 0 n → length xs ≡ n
so_many number n xs is = sym (length-map xs number) ∙ ap (λ (ns : List ℕ). length ns) is ∙ by 0 n where
  by : (a m : ℕ) → length (range_with_len a m) ≡ m
  by a zero = refl
  by a (suc m) = ap suc (by (a + 1) m)

module _ {A : Type 0} (session : A → SessionParts) (own : A → List Asked) where
  -- room was made
  abbrev pub Roomed : A → A → Type 0
  Roomed x y = session y ≡ record (session x) { room = (session y).room }

  -- it took what this one has seen
  abbrev pub Met : Session → A → A → Type 0
  Met greatest x y =
      HasTaken greatest (session x) (session y) × (own y ≡ own x) × ((session y).room ≡ (session x).room)
      × (length (session y).seen.counts ≡ length (session x).seen.counts)

  -- lines were handed out, and then room was made
  pub roomed_after : (xs ys zs : List A) → EachOf (λ x y. session y ≡ session x) xs ys
      → EachOf (λ y z. (session z ≡ record (session y) { room = (session z).room }) × (own z ≡ own y)) ys zs → EachOf Roomed xs zs
  roomed_after = each_through (λ x y. session y ≡ session x)
      (λ y z. (session z ≡ record (session y) { room = (session z).room }) × (own z ≡ own y)) Roomed
      (λ x y z same made. made.0 ∙ ap (λ (s : SessionParts). record s { room = (session z).room }) same)

  pub owned_after : (ys zs : List A)
      → EachOf (λ y z. (session z ≡ record (session y) { room = (session z).room }) × (own z ≡ own y)) ys zs → map own zs ≡ map own ys
  owned_after ys zs h = each_map own ys zs
      (each_weaker (λ y z. (session z ≡ record (session y) { room = (session z).room }) × (own z ≡ own y)) (λ y z. own z ≡ own y)
      (λ y z made. made.1) ys zs h)

  roomed-alike : (x y : A) → Roomed x y → IsAlike (session x) (session y)
  roomed-alike x y h = record {
    client = ap (λ (s : SessionParts). s.client) h;
    seen = ap (λ (s : SessionParts). s.seen) h;
    pass = ap (λ (s : SessionParts). s.pass) h;
  }

  each-alike : (xs ys : List A) → EachOf Roomed xs ys → EachOf (λ x y. IsAlike (session x) (session y)) xs ys
  each-alike = each_weaker Roomed (λ x y. IsAlike (session x) (session y)) roomed-alike

  pub alike_roomed : (xs ys : List A) → EachOf Roomed xs ys → AreAlike (map session xs) (map session ys)
  alike_roomed xs ys h = alike session xs ys (each-alike xs ys h)

  pub written_roomed : (xs ys : List A) → EachOf Roomed xs ys → AreWritten (map session xs) → AreWritten (map session ys)
  written_roomed xs ys h = written_kept session xs ys
      (each_weaker Roomed (λ x y. (session y).text ≡ (session x).text) (λ x y r. ap (λ (s : SessionParts). s.text) r) xs ys h)

  pub counts_roomed : (n : ℕ) (xs ys : List A) → EachOf Roomed xs ys → HaveCounts n (seen_of (map session xs))
      → HaveCounts n (seen_of (map session ys))
  counts_roomed n xs ys h have = subst (HaveCounts n) (sym (alike_roomed xs ys h).seen) have

  pub numbers_roomed : (xs ys : List A) → EachOf Roomed xs ys → map (λ x. (session x).client) ys ≡ map (λ x. (session x).client) xs
  numbers_roomed xs ys h = each_map (λ x. (session x).client) xs ys
      (each_weaker Roomed (λ x y. (session y).client ≡ (session x).client) (λ x y r. ap (λ (s : SessionParts). s.client) r) xs ys h)

  numbers-met : (g : Session) (xs ys : List A) → EachOf (Met g) xs ys → map (λ x. (session x).client) ys ≡ map (λ x. (session x).client) xs
  numbers-met g xs ys h = each_map (λ x. (session x).client) xs ys
      (each_weaker (Met g) (λ x y. (session y).client ≡ (session x).client) (λ x y m. m.0.client) xs ys h)

  pub clients_mapped : (xs : List A) → clients_of (map session xs) ≡ map (λ x. (session x).client) xs
  clients_mapped [] = refl
  clients_mapped (x ∷ xs) = ap (λ ns. (session x).client ∷ ns) (clients_mapped xs)

  rooms-met : (g : Session) (xs ys : List A) → EachOf (Met g) xs ys → All (λ x. length (own x) * most_no_memory ≤ (session x).room) xs
      → All (λ x. length (own x) * most_no_memory ≤ (session x).room) ys
  rooms-met g [] [] h all = All-nil (λ x. length (own x) * most_no_memory ≤ (session x).room)
  rooms-met g [] (y ∷ ys) h all = absurd h
  rooms-met g (x ∷ xs) [] h all = absurd h
  rooms-met g (x ∷ xs) (y ∷ ys) h all =
      let first : length (own x) * most_no_memory ≤ (session x).room =
      All-head (λ z. length (own z) * most_no_memory ≤ (session z).room) x xs all in
      let same : length (own y) ≡ length (own x) = ap (λ (asked : List Asked). length asked) h.0.1 in
      All-cons (λ z. length (own z) * most_no_memory ≤ (session z).room) y ys
      (omega (arith, first, same, h.0.2))
      (rooms-met g xs ys h.1 (All-tail (λ z. length (own z) * most_no_memory ≤ (session z).room) x xs all))

  owned-met : (g : Session) (ready met : List A) → EachOf (Met g) ready met → map own met ≡ map own ready
  owned-met g ready met h = each_map own ready met (each_weaker (Met g) (λ x y. own y ≡ own x) (λ x y m. m.1) ready met h)

  -- who has met may answer
  pub ready_met : (g : Session) (shards : ℕ) (round : List NumberedLine) (first ready met : List A) (lists : List (List Asked))
      → map (λ x. (session x).client) first ≡ range_with_len 0 (greatest_client + 1) → EachOf Roomed first ready
      → map own ready ≡ lists → AreAskedBy shards round lists
      → All (λ x. length (own x) * most_no_memory ≤ (session x).room) ready → EachOf (Met g) ready met
      → All (λ x. IsReady shards (session x) (own x)) met
  ready_met g shards round first ready met lists numbers roomed owned asked rooms h =
      all_ready session own shards round 0 (greatest_client + 1) met
      (clients_mapped met ∙ numbers-met g ready met h ∙ numbers_roomed first ready roomed ∙ numbers)
      (subst (AreAskedFrom shards 0 round) (sym (owned-met g ready met h ∙ owned)) asked.each)
      (rooms-met g ready met h rooms)

  starting : (shards : ℕ) (xs : List A) → All (λ x. IsReady shards (session x) (own x)) xs → AreWritten (map session xs)
      → HaveCounts shards (seen_of (map session xs)) → All (λ x. StartsRound shards (session x) (own x)) xs
  starting shards [] ready written counts = All-nil (λ x. StartsRound shards (session x) (own x))
  starting shards (x ∷ xs) ready written counts =
      All-cons (λ x. StartsRound shards (session x) (own x)) x xs
      (record {
        ready = All-head (λ x. IsReady shards (session x) (own x)) x xs ready;
        written = written.0;
        counts = All-head (λ (s : Session). length s.counts ≡ shards) (session x).seen (seen_of (map session xs)) counts;
      })
      (starting shards xs (All-tail (λ x. IsReady shards (session x) (own x)) x xs ready) written.1
      (All-tail (λ (s : Session). length s.counts ≡ shards) (session x).seen (seen_of (map session xs)) counts))

  -- clients that have met start their round
  pub all_start : (g : Session) (shards : ℕ) (ready met : List A) → EachOf (Met g) ready met
      → All (λ x. IsReady shards (session x) (own x)) met → HaveCounts shards (seen_of (map session met))
      → All (λ x. StartsRound shards (session x) (own x)) met
  all_start g shards ready met h may counts =
      starting shards met may
      (are_written session ready met (each_weaker (Met g) (λ x y. (session y).text ≡ []) (λ x y m. m.0.text) ready met h)) counts

  -- clients that have met have lists of what their lines ask
  pub are_ready : (g : Session) (shards : ℕ) (round : List NumberedLine) (first ready met : List A) (lists : List (List Asked))
      → EachOf Roomed first ready → map own ready ≡ lists → AreAskedBy shards round lists
      → HaveCounts shards (seen_of (map session first)) → g ≡ greatest_of shards (seen_of (map session ready))
      → EachOf (Met g) ready met → AreReady shards round (map session first) (map session met) (map own met)
  are_ready g shards round first ready met lists roomed owned asked counts greatest h = record {
    met = subst (λ all. HaveMet all (map session first) (map session met)) (alike_roomed first ready roomed).seen
        (met_alike session (seen_of (map session ready)) first ready (map session met) (each-alike first ready roomed)
        (have_met shards (map session ready) (map session met) (counts_roomed shards first ready roomed counts)
        (have_taken session (greatest_of shards (seen_of (map session ready))) ready met
        (subst (λ s. EachOf (λ x y. HasTaken s (session x) (session y)) ready met) greatest
        (each_weaker (Met g) (λ x y. HasTaken g (session x) (session y)) (λ x y m. m.0) ready met h)))));
    asked = subst (AreAskedFrom shards 0 round) (sym (owned-met g ready met h ∙ owned)) asked.each;
  }

  pub counts_met : (g : Session) (shards : ℕ) (first ready met : List A) → EachOf Roomed first ready
      → HaveCounts shards (seen_of (map session first)) → EachOf (Met g) ready met → HaveCounts shards (seen_of (map session met))
  counts_met g shards first ready met roomed counts h =
      counts_kept session shards ready met
      (each_weaker (Met g) (λ x y. length (session y).seen.counts ≡ length (session x).seen.counts) (λ x y m. m.3) ready met h)
      (counts_roomed shards first ready roomed counts)

  pub numbers_met : (g : Session) (first ready met : List A)
      → map (λ x. (session x).client) first ≡ range_with_len 0 (greatest_client + 1) → EachOf Roomed first ready
      → EachOf (Met g) ready met → map (λ x. (session x).client) met ≡ range_with_len 0 (greatest_client + 1)
  numbers_met g first ready met numbers roomed h = numbers-met g ready met h ∙ numbers_roomed first ready roomed ∙ numbers

  -- a round was run
  pub have_run : (definitions : List IndexDef) (window : Option ℕ) (shards : ℕ) (round : List NumberedLine) (first : List SessionParts)
      (met last : List A) → map (λ x. (session x).client) met ≡ range_with_len 0 (greatest_client + 1)
      → AreReady shards round first (map session met) (map own met)
      → EachOf (λ x y. HasAnsweredOwn definitions shards window (session x) (own x) (session y)) met last
      → HaveRun definitions shards window round first (map session last)
  have_run definitions window shards round first met last numbers ready answered = record {
    between = map session met;
    met = ready.met;
    answered = have_answered session own shards round definitions window 0 (greatest_client + 1) met last
        (clients_mapped met ∙ numbers) ready.asked answered;
  }

  pub counts_run : (definitions : List IndexDef) (window : Option ℕ) (shards : ℕ) (met last : List A)
      → HaveCounts shards (seen_of (map session met))
      → EachOf (λ x y. HasAnsweredOwn definitions shards window (session x) (own x) (session y)) met last
      → HaveCounts shards (seen_of (map session last))
  counts_run definitions window shards met last counts answered =
      counts_kept session shards met last
      (each_weaker (λ x y. HasAnsweredOwn definitions shards window (session x) (own x) (session y))
      (λ x y. length (session y).seen.counts ≡ length (session x).seen.counts) (λ x y a. a.counts) met last answered) counts

  pub numbers_run : (definitions : List IndexDef) (window : Option ℕ) (shards : ℕ) (met last : List A)
      → map (λ x. (session x).client) met ≡ range_with_len 0 (greatest_client + 1)
      → EachOf (λ x y. HasAnsweredOwn definitions shards window (session x) (own x) (session y)) met last
      → map (λ x. (session x).client) last ≡ range_with_len 0 (greatest_client + 1)
  numbers_run definitions window shards met last numbers answered =
      each_map (λ x. (session x).client) met last
      (each_weaker (λ x y. HasAnsweredOwn definitions shards window (session x) (own x) (session y))
      (λ x y. (session y).client ≡ (session x).client) (λ x y a. a.client) met last answered)
      ∙ numbers

  pub texts_met : (xs : List A) → AreWritten (map session xs) → All (λ x. (session x).text ≡ []) xs
  texts_met = written_each session

-- ---- all sessions, whose clients are a list

module _ {A : Type 0} (session : A → SessionParts) where
  -- what was done with each client leaves them alike, and numbered as before
  pub closed_alike : (items given left final : List A) (sessions : List SessionParts) → given ≡ items → final ≡ left
      → map session items ≡ sessions → EachOf (λ x y. IsAlike (session x) (session y)) given left
      → map (λ x. (session x).client) items ≡ range_with_len 0 (greatest_client + 1)
      → (map (λ x. (session x).client) final ≡ range_with_len 0 (greatest_client + 1)) × AreAlike sessions (map session final)
  closed_alike items given left final sessions same is view each numbers = (
    ap (map (λ x. (session x).client)) is
        ∙ each_map (λ x. (session x).client) given left
        (each_weaker (λ x y. IsAlike (session x) (session y)) (λ x y. (session y).client ≡ (session x).client) (λ x y h. h.client) given
        left each)
        ∙ ap (map (λ x. (session x).client)) same ∙ numbers,
    subst (λ ss. AreAlike ss (map session final)) (ap (map session) same ∙ view)
        (subst (λ ys. AreAlike (map session given) (map session ys)) (sym is) (alike session given left each)),
  )

  pub closed_written : (given left final : List A) → final ≡ left → EachOf (λ x y. (session y).text ≡ []) given left
      → AreWritten (map session final)
  closed_written given left final is each =
      subst (λ ys. AreWritten (map session ys)) (sym is) (are_written session given left each)

  pub no_passes : (passes whole : List PassParts) (xs : List A) → xs ≡ [] → passes ++ passes_of (map session xs) ≡ whole → passes ≡ whole
  no_passes passes whole xs none is =
      sym (append-nil passes) ∙ ap (λ ys. passes ++ passes_of (map session ys)) (sym none) ∙ is

  pub as_many_passes : (items : List A) (before after : List PassParts)
      → map (λ x. (session x).client) items ≡ range_with_len 0 (greatest_client + 1)
      → after ≡ before ++ passes_of (map session items) → length after ≡ length before + (greatest_client + 1)
  as_many_passes items before after numbers is =
      ap (λ (ps : List PassParts). length ps) is ∙ length-append before (passes_of (map session items))
      ∙ ap (λ n. length before + n) (length-map (map session items) (λ (s : SessionParts). s.pass) ∙ length-map items session
      ∙ so_many (λ x. (session x).client) (greatest_client + 1) items numbers)

-- what holds of two lists of sessions holds of the same lists
pub carried : (Holds : List SessionParts → List SessionParts → Type 0) (given sessions left final : List SessionParts) → given ≡ sessions
    → final ≡ left → Holds given left → Holds sessions final
carried Holds given sessions left final same is h =
    subst (λ ss. Holds ss final) same (subst (Holds given) (sym is) h)
