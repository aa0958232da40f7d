use Rattle.std.proofs.Common.{◌≡◌, ℕ, ◌<◌, ◌^◌, List, Bool, false, ap, subst, arith}
use Rattle.std.specs.Prelude.{Result, Ok, Err, Option, IfOk, IfSome, IfNone, IsTrue}
use Rattle.ds_log.specs.declared.Commit.{Commit}
use Rattle.ds_kept_file.specs.Files.{Kept, next_line}
use Rattle.ds_kept_file.specs.Readings.{kept_in, AreNext, AreLinesRead, IsBodyRead, HasNoBody}
use Rattle.ds_kept_file.proofs.Bodies.{with_next, body_read, body_broken, body_without_next, body_falls, body_exceeds, body_refused}
use Rattle.ds_kept_file.proofs.body.read_body.Goals as goal

map_if : {E : Type 0} (result : Result Bool E) (T : Bool → Type 0) (P Q : Type 0) → (P → Q) → IfOk result (λ w. T w → P) → IfOk result (λ w. T w → Q)
map_if (Ok w) T P Q f h = λ t. f (h t)
map_if (Err e) T P Q f h = h

pub returns-in-None-clause-refused : goal.returns-in-None-clause-refused
returns-in-None-clause-refused c = λ same. body_broken (kept_in c.args.book.now) c.args.body.now c.in-None.ensures.none

pub returns-in-None-2-clause-refused : goal.returns-in-None-2-clause-refused
returns-in-None-2-clause-refused c = λ same.
    let line = c.in-Some.parts.0.now in
    let none = subst (λ (o : Option ℕ). IfNone o ((n : ℕ) → n < 2 ^ 64 → line ≡ next_line n → ⊥)) c.in-None-2.is c.in_ok-next.ensures.none in
    body_without_next (kept_in c.args.book.now) c.args.body.now line c.in-Some.parts.1.now c.in-Some.ensures.whole c.in-Some.ensures.split none

pub returns-then-next-clause-refused : goal.returns-then-next-clause-refused
returns-then-next-clause-refused c = λ same.
    let line = c.in-Some.parts.0.now in
    let line_is = subst (λ (o : Option ℕ). IfSome o (λ n. line ≡ next_line n)) c.in-Some-2.is c.in_ok-next.ensures.some in
    body_falls (kept_in c.args.book.now) c.args.body.now line c.in-Some.parts.1.now c.in-Some-2.next c.in-Some.ensures.whole c.in-Some.ensures.split line_is
    (omega (arith, c.if-next.true, c.next.ensures.value, c.next.ensures.lawful.left)) (omega (arith, c.if-next.true, c.next.ensures.value))

pub returns-then-next-gt-MAX_ID-clause-refused : goal.returns-then-next-gt-MAX_ID-clause-refused
returns-then-next-gt-MAX_ID-clause-refused c = λ same.
    let line = c.in-Some.parts.0.now in
    let line_is = subst (λ (o : Option ℕ). IfSome o (λ n. line ≡ next_line n)) c.in-Some-2.is c.in_ok-next.ensures.some in
    body_exceeds (kept_in c.args.book.now) c.args.body.now line c.in-Some.parts.1.now c.in-Some-2.next c.in-Some.ensures.whole c.in-Some.ensures.split
    line_is (omega arith) (omega (arith, c.if-next-gt-MAX_ID.true))

pub returns-clause-read : goal.returns-clause-read
returns-clause-read c =
    let kept : Kept = kept_in c.args.book.now in
    let now : Kept = kept_in c.read_lines.new.book in
    let line = c.in-Some.parts.0.now in
    let lines = c.in-Some.parts.1.now in
    let next = c.in-Some-2.next in
    let line_is = subst (λ (o : Option ℕ). IfSome o (λ n. line ≡ next_line n)) c.in-Some-2.is c.in_ok-next.ensures.some in
    let raised : kept_in c.raise.new.self ≡ with_next kept next = ap kept_in c.raise.ensures in
    map_if c.read_lines.result IsTrue (AreLinesRead (kept_in c.raise.new.self) lines now) (IsBodyRead kept c.args.body.now now)
    (λ read. body_read kept c.args.body.now line lines next now c.in-Some.ensures.whole c.in-Some.ensures.split line_is
    (omega (arith, c.if-next.false, c.next.ensures.value)) (omega (arith, c.if-next-gt-MAX_ID.false))
    (subst (λ (k : Kept). AreLinesRead k lines now) raised read))
    c.read_lines.ensures.read

pub returns-clause-refused : goal.returns-clause-refused
returns-clause-refused c =
    let kept : Kept = kept_in c.args.book.now in
    let line = c.in-Some.parts.0.now in
    let lines = c.in-Some.parts.1.now in
    let next = c.in-Some-2.next in
    let line_is = subst (λ (o : Option ℕ). IfSome o (λ n. line ≡ next_line n)) c.in-Some-2.is c.in_ok-next.ensures.some in
    let raised : kept_in c.raise.new.self ≡ with_next kept next = ap kept_in c.raise.ensures in
    let None_of : Kept → Type 0 = λ k. (commits : List Commit) → AreNext k lines commits → ⊥ in
    map_if c.read_lines.result (λ w. w ≡ false) (None_of (kept_in c.raise.new.self)) (HasNoBody kept c.args.body.now)
    (λ none. body_refused kept c.args.body.now line lines next c.in-Some.ensures.whole c.in-Some.ensures.split line_is
    (omega (arith, c.if-next-gt-MAX_ID.false)) (subst None_of raised none))
    c.read_lines.ensures.refused
