-- What is read of the lines of a file is what the grammar says of them: the definitions of its entries, or the line that is refused.
use Rattle.std.proofs.Common.{◌≡◌, ℕ, Bool, true, false, not, ◌||◌, cond, List, [], ◌∷◌, ◌++◌, refl, sym, ap, subst, ◌∙◌, append_assoc}
use Rattle.std.proofs.Common.{append-nil, Option, Some, None, Ok, Err, Result, ◌⊎◌, inl, inr}
use Rattle.std.specs.Prelude.{option_and_then, is_some, codes}
use Rattle.ds_base.specs.declared.column.Column.{Column}
use Rattle.ds_indexdef.specs.Forms.{either}
use Rattle.ds_indexdef.specs.Reading.{Reading, Line, is_bare, takes, next, closed, opened, gone_on, finished, finish, refused, is_start}
use Rattle.ds_indexdef.specs.Reading.{step, and_then, read_from, nothing_read, with_entry, may_become, with_column, turned, turned_columns}
use Rattle.ds_indexdef.specs.Grammar.{says, are_orderly, AreProperties, IsFile, one, plain, absent, none, nothing, with_entries, BeginsFile}
use Rattle.ds_indexdef.specs.Grammar.{IsFirstWrong, EndEarly, EndsTooMany, RefusedFor, wrong, early, many}
use Rattle.ds_indexdef.specs.declared.IndexDef.{IndexDef}
use Rattle.ds_indexdef.specs.declared.form.Form.{Form}
use Rattle.ds_indexdef.specs.declared.form.Form.TheVariants.{Blank, Indexes, Kind, Ancestor, Properties, Name, Direction, Wrong}
use Rattle.ds_indexdef.specs.declared.part.Moved.{Moved}
use Rattle.ds_indexdef.specs.declared.part.Moved.TheVariants.{On, Stuck}
use Rattle.ds_indexdef.specs.declared.part.Part.{Part}
use Rattle.ds_indexdef.specs.declared.part.Part.TheVariants.{Start, Listed, Headed, Flagged, Filled}
use Rattle.ds_indexdef.proofs.GrammarLaws.{moves, moved_by, may_end, closing, closing_by, Rest, start, listed, headed, flagged, filled}
use Rattle.ds_indexdef.proofs.GrammarLaws.{done, on, Forward, forward, back, is_fine, orderly-push, orderly-turned}

-- ---- definitions of entries

some_same : {A : Type 0} {x y : A} → Some x ≡ Some y → x ≡ y
some_same e = cc

append-by : (w : Option (List IndexDef)) (more xs ys : List IndexDef) → ((d : List IndexDef) → with_entries d xs ≡ Some more → with_entries d (xs ++ ys) ≡ with_entries more ys)
    → option_and_then (λ d. with_entries d xs) w ≡ Some more → option_and_then (λ d. with_entries d (xs ++ ys)) w ≡ with_entries more ys
append-by None more xs ys each e = absurd (cc)
append-by (Some d) more xs ys each e = each d e

pub with_entries-append : (defs more : List IndexDef) (xs ys : List IndexDef) → with_entries defs xs ≡ Some more → with_entries defs (xs ++ ys) ≡ with_entries more ys
with_entries-append defs more [] ys e = ap (λ d. with_entries d ys) (some_same e)
with_entries-append defs more (x ∷ xs) ys e = append-by (with_entry defs x) more xs ys (λ d h. with_entries-append d more xs ys h) e

-- ---- a step that goes on

gone_on-ok : (x : Moved) (defs : List IndexDef) (last n : ℕ) (r : Reading) → gone_on x defs last n ≡ Ok r
    → (moved_by x ≡ Some r.part) × (Some defs ≡ Some r.defs) × (r.last ≡ n)
gone_on-ok (On part) defs last n r e =
    let same : record { defs = defs; part = part; last = n } ≡ r = cc in
    (ap (λ (s : Reading). Some s.part) same, ap (λ (s : Reading). Some s.defs) same, sym (ap (λ (s : Reading). s.last) same))
gone_on-ok (Stuck part) defs last n r e = absurd (cc)

-- what is known of a step
abbrev pub Steps : Part → List IndexDef → Form → ℕ → Reading → Type 0
Steps p defs f n r = (moves p f ≡ Some r.part) × (with_entries defs (closing_by p f) ≡ Some r.defs) × (r.last ≡ n)

opened-ok : (b : Bool) (w : Option (List IndexDef)) (last n : ℕ) (kind : List ℕ) (r : Reading)
    → opened (cond b (Ok None) (either w (λ more. Ok (Some more)) (Err last))) n kind ≡ Ok r
    → (cond b None (Some (Headed kind)) ≡ Some r.part) × (option_and_then (λ more. Some more) w ≡ Some r.defs) × (r.last ≡ n)
opened-ok true w last n kind r e = absurd (cc)
opened-ok false None last n kind r e = absurd (cc)
opened-ok false (Some defs) last n kind r e =
    let same : record { defs = defs; part = Headed kind; last = n } ≡ r = cc in
    (ap (λ (s : Reading). Some s.part) same, ap (λ (s : Reading). Some s.defs) same, sym (ap (λ (s : Reading). s.last) same))

listed-ok : (defs : List IndexDef) (n : ℕ) (kind : List ℕ) (r : Reading) → opened (Ok (Some defs)) n kind ≡ Ok r
    → (Some (Headed kind) ≡ Some r.part) × (Some defs ≡ Some r.defs) × (r.last ≡ n)
listed-ok defs n kind r e =
    let same : record { defs = defs; part = Headed kind; last = n } ≡ r = cc in
    (ap (λ (s : Reading). Some s.part) same, ap (λ (s : Reading). Some s.defs) same, sym (ap (λ (s : Reading). s.last) same))

pub step-ok : (p : Part) (defs : List IndexDef) (last n : ℕ) (f : Form) (r : Reading) → step (record { defs = defs; part = p; last = last }) n f ≡ Ok r → Steps p defs f n r
step-ok Start defs last n (Kind kind) r e = absurd (cc)
step-ok Listed defs last n (Kind kind) r e = listed-ok defs n kind r e
step-ok (Headed k) defs last n (Kind kind) r e = absurd (cc)
step-ok (Flagged k ancestor) defs last n (Kind kind) r e = absurd (cc)
step-ok (Filled def fresh) defs last n (Kind kind) r e = opened-ok (is_bare def.columns) (with_entry defs def) last n kind r e
step-ok p defs last n f r e = gone_on-ok (next p f) defs last n r e

gone_on-from : (x : Moved) (q : Part) (defs more : List IndexDef) (last n : ℕ) → moved_by x ≡ Some q → Some defs ≡ Some more
    → gone_on x defs last n ≡ Ok (record { defs = more; part = q; last = n })
gone_on-from (On part) q defs more last n e d = let a : part ≡ q = cc in let b : defs ≡ more = cc in rw (a, b) refl
gone_on-from (Stuck part) q defs more last n e d = absurd (cc)

opened-from : (b : Bool) (w : Option (List IndexDef)) (q : Part) (more : List IndexDef) (last n : ℕ) (kind : List ℕ) → cond b None (Some (Headed kind)) ≡ Some q
    → option_and_then (λ x. Some x) w ≡ Some more
    → opened (cond b (Ok None) (either w (λ x. Ok (Some x)) (Err last))) n kind ≡ Ok (record { defs = more; part = q; last = n })
opened-from true w q more last n kind e d = absurd (cc)
opened-from false None q more last n kind e d = absurd (cc)
opened-from false (Some defs) q more last n kind e d = let a : Headed kind ≡ q = cc in let b : defs ≡ more = cc in rw (← a, b) refl

listed-from : (q : Part) (defs more : List IndexDef) (n : ℕ) (kind : List ℕ) → Some (Headed kind) ≡ Some q → Some defs ≡ Some more
    → opened (Ok (Some defs)) n kind ≡ Ok (record { defs = more; part = q; last = n })
listed-from q defs more n kind e d = let a : Headed kind ≡ q = cc in let b : defs ≡ more = cc in rw (← a, b) refl

pub step-from : (p q : Part) (defs more : List IndexDef) (last n : ℕ) (f : Form) → moves p f ≡ Some q → with_entries defs (closing_by p f) ≡ Some more
    → step (record { defs = defs; part = p; last = last }) n f ≡ Ok (record { defs = more; part = q; last = n })
step-from Start q defs more last n (Kind kind) e d = absurd (cc)
step-from Listed q defs more last n (Kind kind) e d = listed-from q defs more n kind e d
step-from (Headed k) q defs more last n (Kind kind) e d = absurd (cc)
step-from (Flagged k ancestor) q defs more last n (Kind kind) e d = absurd (cc)
step-from (Filled def fresh) q defs more last n (Kind kind) e d = opened-from (is_bare def.columns) (with_entry defs def) q more last n kind e d
step-from p q defs more last n f e d = gone_on-from (next p f) q defs more last n e d

-- ---- the end

end-by : (b : Bool) (w : Option (List IndexDef)) (defs : List IndexDef) (last after : ℕ)
    → finished (cond b (Ok None) (either w (λ more. Ok (Some more)) (Err last))) after ≡ Ok defs → (not b ≡ true) × (option_and_then (λ more. Some more) w ≡ Some defs)
end-by true w defs last after e = absurd (cc)
end-by false None defs last after e = absurd (cc)
end-by false (Some more) defs last after e = (refl, (let a : more ≡ defs = cc in ap (λ x. Some x) a))

pub finish-ok : (p : Part) (given defs : List IndexDef) (last after : ℕ) → finish (record { defs = given; part = p; last = last }) after ≡ Ok defs
    → (may_end p ≡ true) × (with_entries given (closing p) ≡ Some defs)
finish-ok Start given defs last after e = (refl, (let a : given ≡ defs = cc in ap (λ x. Some x) a))
finish-ok Listed given defs last after e = (refl, (let a : given ≡ defs = cc in ap (λ x. Some x) a))
finish-ok (Headed kind) given defs last after e = absurd (cc)
finish-ok (Flagged kind ancestor) given defs last after e = absurd (cc)
finish-ok (Filled def fresh) given defs last after e = end-by (is_bare def.columns) (with_entry given def) defs last after e

end-from : (b : Bool) (w : Option (List IndexDef)) (defs : List IndexDef) (last after : ℕ) → not b ≡ true → option_and_then (λ more. Some more) w ≡ Some defs
    → finished (cond b (Ok None) (either w (λ more. Ok (Some more)) (Err last))) after ≡ Ok defs
end-from true w defs last after h e = absurd (cc)
end-from false None defs last after h e = absurd (cc)
end-from false (Some more) defs last after h e = let a : more ≡ defs = cc in ap (λ x. Ok x) a

pub finish-from : (p : Part) (given defs : List IndexDef) (last after : ℕ) → may_end p ≡ true → with_entries given (closing p) ≡ Some defs
    → finish (record { defs = given; part = p; last = last }) after ≡ Ok defs
finish-from Start given defs last after h e = let a : given ≡ defs = cc in ap (λ x. Ok x) a
finish-from Listed given defs last after h e = let a : given ≡ defs = cc in ap (λ x. Ok x) a
finish-from (Headed kind) given defs last after h e = absurd (cc)
finish-from (Flagged kind ancestor) given defs last after h e = absurd (cc)
finish-from (Filled def fresh) given defs last after h e = end-from (is_bare def.columns) (with_entry given def) defs last after h e

-- ---- a file is read

split-by : (w : Option (List IndexDef)) (xs later defs : List IndexDef)
    → ((d : List IndexDef) → with_entries d (xs ++ later) ≡ Some defs → (more : List IndexDef) × (with_entries d xs ≡ Some more) × (with_entries more later ≡ Some defs))
    → option_and_then (λ d. with_entries d (xs ++ later)) w ≡ Some defs
    → (more : List IndexDef) × (option_and_then (λ d. with_entries d xs) w ≡ Some more) × (with_entries more later ≡ Some defs)
split-by None xs later defs each e = absurd (cc)
split-by (Some d) xs later defs each e = each d e

split-list : (xs : List IndexDef) (given defs later : List IndexDef) → with_entries given (xs ++ later) ≡ Some defs
    → (more : List IndexDef) × (with_entries given xs ≡ Some more) × (with_entries more later ≡ Some defs)
split-list [] given defs later e = (given, refl, e)
split-list (x ∷ xs) given defs later e = split-by (with_entry given x) xs later defs (λ d h. split-list xs d defs later h) e

split-closing : (p : Part) (f : Form) (given defs later : List IndexDef) → with_entries given (closing_by p f ++ later) ≡ Some defs
    → (more : List IndexDef) × (with_entries given (closing_by p f) ≡ Some more) × (with_entries more later ≡ Some defs)
split-closing p f given defs later e = split-list (closing_by p f) given defs later e

pub read-from : (lines : List Line) (p : Part) (given defs es : List IndexDef) (last after : ℕ) → Rest p lines es → with_entries given es ≡ Some defs
    → read_from lines (record { defs = given; part = p; last = last }) after ≡ Ok defs
read-from [] p given defs es last after rest e =
    let ends = forward p [] es rest in
    finish-from p given defs last after ends.0 (subst (λ x. with_entries given x ≡ Some defs) ends.1 e)
read-from (l ∷ ls) p given defs es last after rest e =
    let f : Forward p es l ls = forward p (l ∷ ls) es rest in
    let parts = split-closing p l.form given defs f.later (subst (λ x. with_entries given x ≡ Some defs) f.same e) in
    ap (λ s. and_then s (λ next. read_from ls next after)) (step-from p f.part given parts.0 last l.number l.form f.moved parts.1)
    ∙ read-from ls f.part parts.0 defs f.later l.number after f.rest parts.2
