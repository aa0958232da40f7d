-- What the calls of the writer make of what it keeps.
use Rattle.std.proofs.Common.{◌≡◌, ℕ, ◌+◌, ◌<◌, ◌^◌, List, [], ◌∷◌, ◌++◌, drop, length, fold, refl, ap, sym, ◌∙◌, subst, arith}
use Rattle.std.proofs.Common.{append_assoc, length-append, Option, Some, None, false, All}
use Rattle.std.specs.Prelude.{is_some, IfSome}
use Rattle.std.proofs.lemmas.List.{append-nil}
use Rattle.std.proofs.lemmas.List.Elements.{All-nil, All-push}
use Rattle.std.proofs.Math.Seq.{drop-append_seam, drop-length}
use Rattle.ds_hub.specs.Line.{HubId, Line}
use Rattle.ds_hub.specs.Logs.{Fits, changed, taken_in, told_by, queued, IsMarked}
use Rattle.ds_hub.specs.Holding.{IsOf, AllBelong, start_of}
use Rattle.ds_hub.specs.Running.{IsRunning, unseen}
use Rattle.ds_hub.specs.declared.version.Logged.{Logged}
use Rattle.ds_hub.specs.declared.rule.Origin.{Origin}

-- where nothing is kept aside, the log is all that is queued
pub queued-none : {L : Type 0} (log : List L) (p : Option L) → is_some p ≡ false → queued log p ≡ log
queued-none log None is = refl
queued-none log (Some x) is = absurd (cc)

module _ {O E : Type 0} (asks : E → O) where
  abbrev pub logged : O → Line E → Logged O E
  logged operation mark = record { operation = Some operation; mark = mark }

  pub marked_more : (line : Line E) (log : List (Logged O E)) (told : List E) (op : O) (t : E) (mark : Line E) → IsMarked asks line log told
      → mark.hub ≡ line.hub → mark.list ≡ (line.list ++ told) ++ t ∷ [] → asks t ≡ op → IsMarked asks line (log ++ logged op mark ∷ []) (told ++ t ∷ [])
  marked_more line [] [] op t mark m hub list is = (hub, list ∙ ap (λ l. l ++ t ∷ []) (append-nil line.list), ap Some is, tt)
  marked_more line [] (u ∷ told) op t mark m hub list is = absurd m
  marked_more line (l ∷ log) [] op t mark m hub list is = absurd m
  marked_more line (l ∷ log) (u ∷ told) op t mark m hub list is = (
    m.0,
    m.1,
    m.2,
    marked_more l.mark log told op t mark m.3 (hub ∙ sym m.0)
        (list ∙ ap (λ o. o ++ t ∷ []) (sym (append_assoc line.list (u ∷ []) told) ∙ ap (λ o. o ++ told) (sym m.1))) is,
  )

  -- the last mark, or the line where there is none
  abbrev pub last_mark : Line E → List (Logged O E) → Line E
  last_mark line [] = line
  last_mark line (l ∷ log) = last_mark l.mark log

  pub last_is : (line : Line E) (log : List (Logged O E)) (told : List E) → IsMarked asks line log told
      → ((last_mark line log).hub ≡ line.hub) × ((last_mark line log).list ≡ line.list ++ told)
  last_is line [] [] m = (refl, sym (append-nil line.list))
  last_is line [] (u ∷ told) m = absurd m
  last_is line (l ∷ log) [] m = absurd m
  last_is line (l ∷ log) (u ∷ told) m =
      let rest = last_is l.mark log told m.3 in (
        rest.0 ∙ m.0,
        rest.1 ∙ (ap (λ o. o ++ told) m.1 ∙ append_assoc line.list (u ∷ []) told),
      )

-- what is unseen stands behind what is shown
pub unseen_is : {E : Type 0} (shown announced : Line E) (more : List E) → announced.list ≡ shown.list ++ more → unseen shown announced ≡ more
unseen_is shown announced more is = ap (λ l. drop (length shown.list) l) is ∙ drop-append_seam shown.list more

-- nothing is unseen where all that was announced is shown
pub unseen_none : {E : Type 0} (shown announced : Line E) → announced.list ≡ shown.list → unseen shown announced ≡ []
unseen_none shown announced is = ap (λ l. drop (length shown.list) l) is ∙ drop-length shown.list

module _ {T O E : Type 0} (asks : E → O) (applied : T → O → T) where
  -- a copy that took in the log has all that was told, and the last mark
  pub taken : (state : T) (line : Line E) (log : List (Logged O E)) (told : List E) → IsMarked asks line log told
      → fold (taken_in applied) (state, line) log ≡ (fold (told_by asks applied) state told, last_mark asks line log)
  taken state line [] [] m = refl
  taken state line [] (u ∷ told) m = absurd m
  taken state line (l ∷ log) [] m = absurd m
  taken state line (l ∷ log) (u ∷ told) m =
      taken (changed applied state l.operation) l.mark log told m.3
      ∙ ap (λ o. (fold (told_by asks applied) (changed applied state o) told, last_mark asks l.mark log)) (sym m.2)

module _ {T O E : Type 0} (asks : E → O) (applied : T → O → T) (belongs : T → E → Type 0) where
  -- one more of what belongs
  belong_more : (start : Option T) (xs : List E) (x : E) → AllBelong belongs start xs → IfSome start (λ s. belongs s x)
      → AllBelong belongs start (xs ++ x ∷ [])
  belong_more None xs x all own = all
  belong_more (Some s) xs x all own = All-push (belongs s) xs x all own

  pub runs_added : (hub : HubId) (knows : Option (Origin T E)) (state : T) (shown : Line E) (log : List (Logged O E)) (announced mark : Line E) (waiting : ℕ) (op : O) (t : E)
      → IsRunning asks applied belongs hub knows state shown log announced waiting → length shown.list + length (unseen shown announced) < 2 ^ 62
      → mark.hub ≡ announced.hub → mark.list ≡ announced.list ++ t ∷ [] → asks t ≡ op
      → IfSome (start_of knows) (λ s. belongs s t)
      → IsRunning asks applied belongs hub knows state shown (log ++ logged asks op mark ∷ []) mark (waiting + 1)
  runs_added hub knows state shown log announced mark waiting op t r room same list is own =
      let all : mark.list ≡ (shown.list ++ unseen shown announced) ++ t ∷ [] = list ∙ ap (λ l. l ++ t ∷ []) r.whole in
      let behind : mark.list ≡ shown.list ++ (unseen shown announced ++ t ∷ []) = all ∙ append_assoc shown.list (unseen shown announced) (t ∷ []) in
      let more = unseen_is shown mark (unseen shown announced ++ t ∷ []) behind in record {
        told = r.told;
        fits = r.fits;
        belong = rw more (belong_more (start_of knows) (unseen shown announced) t r.belong own);
        shown_hub = r.shown_hub;
        announced_hub = same ∙ r.announced_hub;
        marked = rw more (marked_more asks shown log (unseen shown announced) op t mark r.marked (same ∙ (r.announced_hub ∙ sym r.shown_hub)) all is);
        whole = rw more behind;
        waiting_is = rw more (omega (arith, r.waiting_is, length-append (unseen shown announced) (t ∷ [])));
        room = omega (arith, ap length all, room, length-append shown.list (unseen shown announced), length-append (shown.list ++ unseen shown announced) (t ∷ []));
      }

  -- nothing is pending where the hub begins
  belong_none : (hub : HubId) (knows : Option (Origin T E)) → IsOf hub knows → AllBelong belongs (start_of knows) []
  belong_none hub None told = told
  belong_none hub (Some origin) told = All-nil (belongs origin.start)

  -- the copy that took in the log is shown, and nothing is left
  pub runs_published : (hub : HubId) (knows known : Option (Origin T E)) (state next : T) (shown after announced : Line E) (log : List (Logged O E)) (waiting : ℕ)
      → IsRunning asks applied belongs hub knows state shown log announced waiting
      → after ≡ last_mark asks shown log → known ≡ knows → Fits (told_by asks applied) belongs next after knows
      → IsRunning asks applied belongs hub known next after [] announced 0
  runs_published hub knows known state next shown after announced log waiting r is same fits =
      let last = last_is asks shown log (unseen shown announced) r.marked in
      let list : announced.list ≡ after.list = r.whole ∙ (sym last.1 ∙ ap (λ l. l.list) (sym is)) in
      let none = unseen_is after announced [] (list ∙ sym (append-nil after.list)) in record {
        told = subst (IsOf hub) (sym same) r.told;
        fits = subst (Fits (told_by asks applied) belongs next after) (sym same) fits;
        belong = rw none (belong_none hub known (subst (IsOf hub) (sym same) r.told));
        shown_hub = ap (λ l. l.hub) is ∙ (last.0 ∙ r.shown_hub);
        announced_hub = r.announced_hub;
        marked = rw none tt;
        whole = rw none (list ∙ sym (append-nil after.list));
        waiting_is = rw none refl;
        room = r.room;
      }
