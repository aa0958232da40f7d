-- A text that isn't read is refused with the line that the grammar says; one that is read is a file.
use Rattle.std.proofs.Common.{◌≡◌, ℕ, Bool, true, false, not, ◌||◌, cond, List, [], ◌∷◌, ◌++◌, refl, sym, ap, subst, ◌∙◌, append_assoc}
use Rattle.std.proofs.Common.{append-nil, Option, Some, None, Ok, Err, Result, ◌⊎◌, inl, inr}
use Rattle.std.specs.Prelude.{is_some, codes}
use Rattle.ds_base.specs.declared.column.Column.{Column}
use Rattle.ds_indexdef.specs.Forms.{either}
use Rattle.ds_indexdef.specs.Reading.{Reading, Line, is_bare, may_follow, takes, next, opened, gone_on, finished, finish, refused, step}
use Rattle.ds_indexdef.specs.Reading.{and_then, read_from, nothing_read, with_entry, may_become, with_column, turned}
use Rattle.ds_indexdef.specs.Grammar.{says, are_orderly, AreProperties, IsFile, one, plain, absent, none, nothing, with_entries, BeginsFile}
use Rattle.ds_indexdef.specs.Grammar.{IsFirstWrong, EndEarly, EndsTooMany, RefusedFor, wrong, early, many}
use Rattle.ds_indexdef.specs.declared.IndexDef.{IndexDef}
use Rattle.ds_indexdef.specs.declared.form.Form.{Form}
use Rattle.ds_indexdef.specs.declared.form.Form.TheVariants.{Blank, Indexes, Kind, Ancestor, Properties, Name, Direction, Wrong}
use Rattle.ds_indexdef.specs.declared.part.Moved.{Moved}
use Rattle.ds_indexdef.specs.declared.part.Moved.TheVariants.{On, Stuck}
use Rattle.ds_indexdef.specs.declared.part.Part.{Part}
use Rattle.ds_indexdef.specs.declared.part.Part.TheVariants.{Start, Listed, Headed, Flagged, Filled}
use Rattle.ds_indexdef.proofs.GrammarLaws.{moves, moved_by, may_end, closing, closing_by, Rest, start, listed, headed, flagged, filled}
use Rattle.ds_indexdef.proofs.GrammarLaws.{done, on, Forward, forward, back, is_fine, orderly-push, orderly-turned}
use Rattle.ds_indexdef.proofs.FileLaws.{Steps, step-ok, finish-ok, with_entries-append}

-- ---- the order of columns is kept

name-fine : (b : Bool) (e : IndexDef) (p q : Part) (name : List ℕ) → may_follow e.columns name ≡ b → are_orderly e.columns ≡ true
    → moved_by (cond b (On (Filled (with_column e (record { name = name; descending = false })) true)) (Stuck p)) ≡ Some q → is_fine q ≡ true
name-fine true e p q name t fine m =
    let same : Filled (with_column e (record { name = name; descending = false })) true ≡ q = cc in
    subst (λ x. is_fine x ≡ true) same (orderly-push e.columns (record { name = name; descending = false }) fine t)
name-fine false e p q name t fine m = absurd (cc)

kind-fine : (b : Bool) (kind : List ℕ) (q : Part) → cond b None (Some (Headed kind)) ≡ Some q → is_fine q ≡ true
kind-fine true kind q m = absurd (cc)
kind-fine false kind q m = let same : Headed kind ≡ q = cc in subst (λ x. is_fine x ≡ true) same refl

to_fine : (p q : Part) → Some p ≡ Some q → is_fine p ≡ true → is_fine q ≡ true
to_fine p q e h = let same : p ≡ q = cc in subst (λ x. is_fine x ≡ true) same h

fine-moves : (p q : Part) (f : Form) → is_fine p ≡ true → moves p f ≡ Some q → is_fine q ≡ true
fine-moves Start q Indexes fine m = to_fine Listed q m refl
fine-moves Listed q (Kind kind) fine m = to_fine (Headed kind) q m refl
fine-moves (Headed kind) q (Ancestor ancestor) fine m = to_fine (Flagged kind ancestor) q m refl
fine-moves (Headed kind) q Properties fine m = to_fine (Filled (record { kind = kind; ancestor = false; columns = [] }) false) q m refl
fine-moves (Flagged kind ancestor) q Properties fine m = to_fine (Filled (record { kind = kind; ancestor = ancestor; columns = [] }) false) q m refl
fine-moves (Filled e fresh) q (Name name) fine m = name-fine (may_follow e.columns name) e (Filled e fresh) q name refl fine m
fine-moves (Filled e true) q (Direction descending) fine m = to_fine (Filled (turned e descending) false) q m (orderly-turned e.columns descending ∙ fine)
fine-moves (Filled e fresh) q (Kind kind) fine m = kind-fine (is_bare e.columns) kind q m
fine-moves p q f fine m = absurd (cc)

-- ---- a part can be completed

abbrev a_property : Column
a_property = record { name = codes "a"; descending = false }

bare-orderly : (cs : List Column) → is_bare cs ≡ true → are_orderly (cs ++ a_property ∷ []) ≡ true
bare-orderly [] h = refl
bare-orderly (c ∷ more) h = absurd (cc)

complete-filled : (b : Bool) (e : IndexDef) (fresh : Bool) → is_bare e.columns ≡ b → are_orderly e.columns ≡ true → (left : List Line) × (es : List IndexDef) × Rest (Filled e fresh) left es
complete-filled true e fresh h fine =
    let lines = says 0 (Name (codes "a")) ∷ [] in (
      lines ++ [],
      record { kind = e.kind; ancestor = e.ancestor; columns = e.columns ++ a_property ∷ [] } ∷ [],
      filled e fresh lines [] (e.columns ++ a_property ∷ []) [] (on fresh e.columns (a_property ∷ []) lines (one lines a_property (plain 0 (codes "a")))) (bare-orderly e.columns h) none,
    )
complete-filled false e fresh h fine = ([], record { kind = e.kind; ancestor = e.ancestor; columns = e.columns } ∷ [], filled e fresh [] [] e.columns [] (done fresh e.columns h) fine none)

complete : (p : Part) → is_fine p ≡ true → (left : List Line) × (es : List IndexDef) × Rest p left es
complete Start fine = ([], [], start [] [] nothing)
complete Listed fine = ([], [], listed [] [] none)
complete (Headed kind) fine =
    let lines = says 0 (Name (codes "a")) ∷ [] in (
      ([] ++ says 0 Properties ∷ lines) ++ [],
      record { kind = kind; ancestor = false; columns = a_property ∷ [] } ∷ [],
      headed 0 kind [] lines [] false (a_property ∷ []) [] absent (one lines a_property (plain 0 (codes "a"))) refl none,
    )
complete (Flagged kind ancestor) fine =
    let lines = says 0 (Name (codes "a")) ∷ [] in (
      says 0 Properties ∷ lines ++ [],
      record { kind = kind; ancestor = ancestor; columns = a_property ∷ [] } ∷ [],
      flagged 0 kind lines [] ancestor (a_property ∷ []) [] (one lines a_property (plain 0 (codes "a"))) refl none,
    )
complete (Filled e fresh) fine = complete-filled (is_bare e.columns) e fresh refl fine

-- ---- what was read so far

-- the last line of those read, which is there once a part has begun
abbrev LastOf : Part → List Line → ℕ → Type 0
LastOf Start front n = Unit {0}
LastOf Listed front n = (f : List Line) × (l : Line) × (front ≡ f ++ l ∷ []) × (l.number ≡ n)
LastOf (Headed kind) front n = (f : List Line) × (l : Line) × (front ≡ f ++ l ∷ []) × (l.number ≡ n)
LastOf (Flagged kind ancestor) front n = (f : List Line) × (l : Line) × (front ≡ f ++ l ∷ []) × (l.number ≡ n)
LastOf (Filled e fresh) front n = (f : List Line) × (l : Line) × (front ≡ f ++ l ∷ []) × (l.number ≡ n)

pub record Reached (front : List Line) (r : Reading) : Type 0 where
  pub fine : is_fine r.part ≡ true
  pub onward : (left : List Line) (es : List IndexDef) → IsFile (front ++ left) es → (later : List IndexDef) × Rest r.part left later
  pub backward : (left : List Line) (later : List IndexDef) → Rest r.part left later
      → (before : List IndexDef) × IsFile (front ++ left) (before ++ later) × (with_entries [] before ≡ Some r.defs)
  pub latest : LastOf r.part front r.last

start-back : (left : List Line) (later : List IndexDef) → Rest Start left later → (before : List IndexDef) × IsFile ([] ++ left) (before ++ later) × (with_entries [] before ≡ Some [])
start-back left later (start _ _ d) = ([], d, refl)

pub reached-nothing : Reached [] nothing_read
reached-nothing = record { fine = refl; onward = λ left es file. (es, start left es file); backward = start-back; latest = tt }

last-here : (p : Part) (front : List Line) (l : Line) (n : ℕ) → n ≡ l.number → LastOf p (front ++ l ∷ []) n
last-here Start front l n e = tt
last-here Listed front l n e = (front, l, refl, sym e)
last-here (Headed kind) front l n e = (front, l, refl, sym e)
last-here (Flagged kind ancestor) front l n e = (front, l, refl, sym e)
last-here (Filled def fresh) front l n e = (front, l, refl, sym e)

some_part : (p q : Part) → Some p ≡ Some q → p ≡ q
some_part p q e = cc

onward-step : (front : List Line) (p q : Part) (l : Line) → moves p l.form ≡ Some q
    → ((left : List Line) (es : List IndexDef) → IsFile (front ++ left) es → (later : List IndexDef) × Rest p left later)
    → (left : List Line) (es : List IndexDef) → IsFile ((front ++ l ∷ []) ++ left) es → (later : List IndexDef) × Rest q left later
onward-step front p q l moved each left es file =
    let rest = each (l ∷ left) es (subst (λ x. IsFile x es) (append_assoc front (l ∷ []) left) file) in
    let f : Forward p rest.0 l left = forward p (l ∷ left) rest.0 rest.1 in
    (f.later, subst (λ x. Rest x left f.later) (some_part f.part q (sym f.moved ∙ moved)) f.rest)

backward-step : (front : List Line) (p q : Part) (l : Line) (defs more : List IndexDef) → is_fine p ≡ true → moves p l.form ≡ Some q → with_entries defs (closing_by p l.form) ≡ Some more
    → ((left : List Line) (later : List IndexDef) → Rest p left later → (before : List IndexDef) × IsFile (front ++ left) (before ++ later) × (with_entries [] before ≡ Some defs))
    → (left : List Line) (later : List IndexDef) → Rest q left later → (before : List IndexDef) × IsFile ((front ++ l ∷ []) ++ left) (before ++ later) × (with_entries [] before ≡ Some more)
backward-step front p q l defs more fine moved given each left later rest =
    let ends = closing_by p l.form in
    let b = each (l ∷ left) (ends ++ later) (back p l.number l.form q left later fine moved rest) in (
      b.0 ++ ends,
      subst (λ x. IsFile x ((b.0 ++ ends) ++ later)) (sym (append_assoc front (l ∷ []) left)) (subst (λ x. IsFile (front ++ l ∷ left) x) (sym (append_assoc b.0 ends later)) b.1),
      with_entries-append [] defs b.0 ends b.2 ∙ given,
    )

pub reached-step : (front : List Line) (r next : Reading) (l : Line) → Reached front r → step r l.number l.form ≡ Ok next → Reached (front ++ l ∷ []) next
reached-step front r next l so_far stepped =
    let s : Steps r.part r.defs l.form l.number next = step-ok r.part r.defs r.last l.number l.form next stepped in
    record {
      fine = fine-moves r.part next.part l.form so_far.fine s.0;
      onward = onward-step front r.part next.part l s.0 so_far.onward;
      backward = backward-step front r.part next.part l r.defs next.defs so_far.fine s.0 s.1 so_far.backward;
      latest = last-here next.part front l next.last s.2;
    }

-- ---- a text that is read is a file

-- at the end nothing is left
at_end : (b : Bool) (e : IndexDef) (fresh : Bool) → is_bare e.columns ≡ b → not b ≡ true → are_orderly e.columns ≡ true → Rest (Filled e fresh) [] (e ∷ [])
at_end true e fresh h ends fine = absurd (cc)
at_end false e fresh h ends fine = filled e fresh [] [] e.columns [] (done fresh e.columns h) fine none

pub rest-end : (p : Part) → is_fine p ≡ true → may_end p ≡ true → Rest p [] (closing p)
rest-end Start fine ends = start [] [] nothing
rest-end Listed fine ends = listed [] [] none
rest-end (Headed kind) fine ends = absurd (cc)
rest-end (Flagged kind ancestor) fine ends = absurd (cc)
rest-end (Filled e fresh) fine ends = at_end (is_bare e.columns) e fresh refl ends fine

read-by : (s : Result Reading ℕ) (ls : List Line) (front : List Line) (l : Line) (r : Reading) (after : ℕ) (defs : List IndexDef)
    → ((next : Reading) → Reached (front ++ l ∷ []) next → read_from ls next after ≡ Ok defs → (es : List IndexDef) × IsFile ((front ++ l ∷ []) ++ ls) es × (with_entries [] es ≡ Some defs))
    → Reached front r → step r l.number l.form ≡ s → and_then s (λ next. read_from ls next after) ≡ Ok defs
    → (es : List IndexDef) × IsFile ((front ++ l ∷ []) ++ ls) es × (with_entries [] es ≡ Some defs)
read-by (Ok next) ls front l r after defs each so_far stepped e = each next (reached-step front r next l so_far stepped) e
read-by (Err n) ls front l r after defs each so_far stepped e = absurd (cc)

pub read-file : (ls front : List Line) (r : Reading) (after : ℕ) (defs : List IndexDef) → Reached front r → read_from ls r after ≡ Ok defs
    → (es : List IndexDef) × IsFile (front ++ ls) es × (with_entries [] es ≡ Some defs)
read-file [] front r after defs so_far e =
    let ends = finish-ok r.part r.defs defs r.last after e in
    let b = so_far.backward [] (closing r.part) (rest-end r.part so_far.fine ends.0) in
    (b.0 ++ closing r.part, b.1, with_entries-append [] r.defs b.0 (closing r.part) b.2 ∙ ends.1)
read-file (l ∷ ls) front r after defs so_far e =
    let f = read-by (step r l.number l.form) ls front l r after defs (λ next reached h. read-file ls (front ++ l ∷ []) next after defs reached h) so_far refl e in
    (f.0, subst (λ x. IsFile x f.0) (append_assoc front (l ∷ []) ls) f.1, f.2)

-- ---- a text that isn't read

-- the entry before would be the 201st definition
record Over (r : Reading) (m : ℕ) : Type 0 where
  entry : IndexDef
  fresh : Bool
  here : r.part ≡ Filled entry fresh
  whole : is_bare entry.columns ≡ false
  over : with_entry r.defs entry ≡ None
  number : m ≡ r.last

-- the line is wrong behind the part, or the entry before it is over
abbrev Fails : Reading → Form → ℕ → ℕ → Type 0
Fails r f n m = ((moves r.part f ≡ None) × (m ≡ n)) ⊎ Over r m

opened-fails : (b : Bool) (w : Option (List IndexDef)) (e : IndexDef) (fresh : Bool) (defs : List IndexDef) (last n m : ℕ) (kind : List ℕ) → is_bare e.columns ≡ b → with_entry defs e ≡ w
    → opened (cond b (Ok None) (either w (λ more. Ok (Some more)) (Err last))) n kind ≡ Err m
    → ((cond b None (Some (Headed kind)) ≡ None) × (m ≡ n)) ⊎ Over (record { defs = defs; part = Filled e fresh; last = last }) m
opened-fails true w e fresh defs last n m kind h k f = inl (refl, cc)
opened-fails false None e fresh defs last n m kind h k f = inr (record { entry = e; fresh = fresh; here = refl; whole = h; over = k; number = cc })
opened-fails false (Some more) e fresh defs last n m kind h k f = absurd (cc)

choice-fails : (b c : Bool) (w : Option (List IndexDef)) (e : IndexDef) (fresh : Bool) (defs : List IndexDef) (last n m : ℕ) → is_bare e.columns ≡ b → with_entry defs e ≡ w
    → cond (b || (c || is_some w)) n last ≡ m → (m ≡ n) ⊎ Over (record { defs = defs; part = Filled e fresh; last = last }) m
choice-fails true c w e fresh defs last n m h k f = inl (sym f)
choice-fails false true w e fresh defs last n m h k f = inl (sym f)
choice-fails false false None e fresh defs last n m h k f = inr (record { entry = e; fresh = fresh; here = refl; whole = h; over = k; number = sym f })
choice-fails false false (Some more) e fresh defs last n m h k f = inl (sym f)

refused-fails : (p : Part) (defs : List IndexDef) (last n m : ℕ) → refused p defs last n ≡ m → (m ≡ n) ⊎ Over (record { defs = defs; part = p; last = last }) m
refused-fails Start defs last n m f = inl (sym f)
refused-fails Listed defs last n m f = inl (sym f)
refused-fails (Headed kind) defs last n m f = inl (sym f)
refused-fails (Flagged kind ancestor) defs last n m f = inl (sym f)
refused-fails (Filled e fresh) defs last n m f = choice-fails (is_bare e.columns) (may_become defs e fresh) (with_entry defs e) e fresh defs last n m refl refl f

either-fails : (p : Part) (defs : List IndexDef) (last n m : ℕ) (N : Type 0) → N → (m ≡ n) ⊎ Over (record { defs = defs; part = p; last = last }) m
    → (N × (m ≡ n)) ⊎ Over (record { defs = defs; part = p; last = last }) m
either-fails p defs last n m N x (inl e) = inl (x, e)
either-fails p defs last n m N x (inr o) = inr o

-- a wrong line leaves the part as it is
kept-name : (b : Bool) (p q r : Part) → cond b (On p) (Stuck q) ≡ Stuck r → r ≡ q
kept-name true p q r e = absurd (cc)
kept-name false p q r e = cc

next-kept : (p q : Part) (f : Form) → next p f ≡ Stuck q → q ≡ p
next-kept Start q Indexes e = absurd (cc)
next-kept (Headed kind) q (Ancestor ancestor) e = absurd (cc)
next-kept (Headed kind) q Properties e = absurd (cc)
next-kept (Flagged kind ancestor) q Properties e = absurd (cc)
next-kept (Filled entry fresh) q (Name name) e = kept-name (takes entry name) (Filled (with_column entry (record { name = name; descending = false })) true) (Filled entry fresh) q e
next-kept (Filled entry true) q (Direction descending) e = absurd (cc)
next-kept p q f e = cc

gone_on-fails : (x : Moved) (p : Part) (f : Form) (defs : List IndexDef) (last n m : ℕ) → next p f ≡ x → gone_on x defs last n ≡ Err m
    → ((moved_by x ≡ None) × (m ≡ n)) ⊎ Over (record { defs = defs; part = p; last = last }) m
gone_on-fails (On part) p f defs last n m is e = absurd (cc)
gone_on-fails (Stuck part) p f defs last n m is e =
    let same = next-kept p part f is in
    let k : refused part defs last n ≡ m = cc in
    either-fails p defs last n m (moved_by (Stuck part) ≡ None) refl (refused-fails p defs last n m (ap (λ x. refused x defs last n) (sym same) ∙ k))

step-fails : (p : Part) (defs : List IndexDef) (last n : ℕ) (f : Form) (m : ℕ) → step (record { defs = defs; part = p; last = last }) n f ≡ Err m
    → Fails (record { defs = defs; part = p; last = last }) f n m
step-fails Start defs last n (Kind kind) m e = inl (refl, cc)
step-fails Listed defs last n (Kind kind) m e = absurd (cc)
step-fails (Headed k) defs last n (Kind kind) m e = inl (refl, cc)
step-fails (Flagged k ancestor) defs last n (Kind kind) m e = inl (refl, cc)
step-fails (Filled def fresh) defs last n (Kind kind) m e = opened-fails (is_bare def.columns) (with_entry defs def) def fresh defs last n m kind refl refl e
step-fails p defs last n f m e = gone_on-fails (next p f) p f defs last n m refl e

end-fails : (b : Bool) (w : Option (List IndexDef)) (e : IndexDef) (fresh : Bool) (defs : List IndexDef) (last after m : ℕ) → is_bare e.columns ≡ b → with_entry defs e ≡ w
    → finished (cond b (Ok None) (either w (λ more. Ok (Some more)) (Err last))) after ≡ Err m → ((not b ≡ false) × (m ≡ after)) ⊎ Over (record { defs = defs; part = Filled e fresh; last = last }) m
end-fails true w e fresh defs last after m h k f = inl (refl, cc)
end-fails false None e fresh defs last after m h k f = inr (record { entry = e; fresh = fresh; here = refl; whole = h; over = k; number = cc })
end-fails false (Some more) e fresh defs last after m h k f = absurd (cc)

finish-fails : (p : Part) (defs : List IndexDef) (last after m : ℕ) → finish (record { defs = defs; part = p; last = last }) after ≡ Err m
    → ((may_end p ≡ false) × (m ≡ after)) ⊎ Over (record { defs = defs; part = p; last = last }) m
finish-fails Start defs last after m e = absurd (cc)
finish-fails Listed defs last after m e = absurd (cc)
finish-fails (Headed kind) defs last after m e = inl (refl, cc)
finish-fails (Flagged kind ancestor) defs last after m e = inl (refl, cc)
finish-fails (Filled def fresh) defs last after m e = end-fails (is_bare def.columns) (with_entry defs def) def fresh defs last after m refl refl e

-- some file begins with what was read
begins : (front : List Line) (r : Reading) → Reached front r → BeginsFile front
begins front r so_far =
    let c = complete r.part so_far.fine in
    let b = so_far.backward c.0 c.1 c.2 in
    (c.0, b.0 ++ c.1, b.1)

-- and none with what was read and a wrong line
begins-none : (front : List Line) (r : Reading) (l : Line) → Reached front r → moves r.part l.form ≡ None → ¬ BeginsFile (front ++ l ∷ [])
begins-none front r l so_far stuck = λ b.
    let rest = so_far.onward (l ∷ b.0) b.1 (subst (λ x. IsFile x b.1) (append_assoc front (l ∷ []) b.0) b.2) in
    let f : Forward r.part rest.0 l b.0 = forward r.part (l ∷ b.0) rest.0 rest.1 in
    let never : None ≡ Some f.part = sym stuck ∙ f.moved in absurd (cc never)

is-none : (front : List Line) (r : Reading) → Reached front r → may_end r.part ≡ false → (es : List IndexDef) → ¬ IsFile front es
is-none front r so_far stuck es = λ file.
    let rest = so_far.onward [] es (subst (λ x. IsFile x es) (sym (append-nil front)) file) in
    let ends = forward r.part [] rest.0 rest.1 in
    let never : false ≡ true = sym stuck ∙ ends.0 in absurd (cc never)

over-many : (front ls : List Line) (r : Reading) (m after : ℕ) (e : IndexDef) (fresh : Bool) (p : Part) → p ≡ Filled e fresh → is_bare e.columns ≡ false → with_entry r.defs e ≡ None → m ≡ r.last
    → is_fine p ≡ true → LastOf p front r.last
    → ((left : List Line) (later : List IndexDef) → Rest p left later → (before : List IndexDef) × IsFile (front ++ left) (before ++ later) × (with_entries [] before ≡ Some r.defs))
    → RefusedFor (front ++ ls) after m
over-many front ls r m after e fresh p is whole over number fine latest backward =
    let fine2 = subst (λ x. is_fine x ≡ true) is fine in
    let last = subst (λ x. LastOf x front r.last) is latest in
    let b = backward [] (e ∷ []) (subst (λ x. Rest x [] (e ∷ [])) (sym is) (filled e fresh [] [] e.columns [] (done fresh e.columns whole) fine2 none)) in
    many (front ++ ls) after m (record {
      front = last.0;
      last = last.1;
      behind = ls;
      apart = ap (λ x. x ++ ls) last.2;
      number = last.3 ∙ sym number;
      before = b.0;
      entry = e;
      file = subst (λ x. IsFile x (b.0 ++ e ∷ [])) (append-nil front ∙ last.2) b.1;
      defs = r.defs;
      given = b.2;
      refused = over;
    })

over-refused : (front ls : List Line) (r : Reading) (m after : ℕ) → Reached front r → Over r m → RefusedFor (front ++ ls) after m
over-refused front ls r m after so_far o = over-many front ls r m after o.entry o.fresh r.part o.here o.whole o.over o.number so_far.fine so_far.latest so_far.backward

line-refused : (front ls : List Line) (r : Reading) (l : Line) (m after : ℕ) → Reached front r → Fails r l.form l.number m → RefusedFor (front ++ l ∷ ls) after m
line-refused front ls r l m after so_far (inl w) =
    wrong (front ++ l ∷ ls) after m (record { front = front; wrong = l; behind = ls; apart = refl; number = sym w.1; begins = begins front r so_far; begins_none = begins-none front r l so_far w.0 })
line-refused front ls r l m after so_far (inr o) = over-refused front (l ∷ ls) r m after so_far o

end-refused : (front : List Line) (r : Reading) (m after : ℕ) → Reached front r → ((may_end r.part ≡ false) × (m ≡ after)) ⊎ Over r m → RefusedFor (front ++ []) after m
end-refused front r m after so_far (inl w) =
    subst (λ x. RefusedFor x after m) (sym (append-nil front)) (subst (λ k. RefusedFor front after k) (sym w.1) (early front after (record { begins = begins front r so_far; is_none = is-none front r so_far w.0 })))
end-refused front r m after so_far (inr o) = over-refused front [] r m after so_far o

refused-by : (s : Result Reading ℕ) (ls front : List Line) (l : Line) (r : Reading) (after m : ℕ)
    → ((next : Reading) → Reached (front ++ l ∷ []) next → read_from ls next after ≡ Err m → RefusedFor ((front ++ l ∷ []) ++ ls) after m)
    → Reached front r → step r l.number l.form ≡ s → and_then s (λ next. read_from ls next after) ≡ Err m → RefusedFor (front ++ l ∷ ls) after m
refused-by (Ok next) ls front l r after m each so_far stepped e =
    subst (λ x. RefusedFor x after m) (append_assoc front (l ∷ []) ls) (each next (reached-step front r next l so_far stepped) e)
refused-by (Err n) ls front l r after m each so_far stepped e =
    line-refused front ls r l m after so_far (step-fails r.part r.defs r.last l.number l.form m (let k : n ≡ m = cc in stepped ∙ ap (λ x. Err x) k))

pub read-refused : (ls front : List Line) (r : Reading) (after m : ℕ) → Reached front r → read_from ls r after ≡ Err m → RefusedFor (front ++ ls) after m
read-refused [] front r after m so_far e = end-refused front r m after so_far (finish-fails r.part r.defs r.last after m e)
read-refused (l ∷ ls) front r after m so_far e =
    refused-by (step r l.number l.form) ls front l r after m (λ next reached h. read-refused ls (front ++ l ∷ []) next after m reached h) so_far refl e
