use Rattle.std.proofs.Common.{◌≡◌, ◌++◌, ◌+◌, ◌≤◌, ◌∷◌, [], List, ℕ, length, drop, Some, ap, sym, subst, ◌∙◌, refl, arith, length-append}
use Rattle.std.proofs.Common.{drop-drop}
use Rattle.std.specs.Prelude.{flat_map, All}
use Rattle.std.proofs.lemmas.List.Elements.{All-append, All-cons, All-nil}
use Rattle.ds_bytes.specs.Encoding.{directed, elem_rest, elem_bytes, path_bytes}
use Rattle.ds_bytes.specs.Lawful.{IsLawfulElem}
use Rattle.ds_bytes.specs.Reading.{Found, NoneBegins}
use Rattle.ds_bytes.proofs.Putting.{length-directed}
use Rattle.ds_bytes.proofs.Readings.{directed-drop, tag_front, no_front, begins_within}
use Rattle.ds_bytes.proofs.Elements.{no_path_at_end, no_path_at_tag, no_path_at_elem, path_found, path_more, path_longer}
use Rattle.ds_bytes.proofs.decoder.read_path.Goals as goal

pub returns-in-None : goal.returns-in-None
returns-in-None c =
    no_path_at_end (directed c.args.descending c.args.bytes.now) (directed c.args.descending c.elems.rest.now) c.elems.path.items c.elems.invariant.lawful c.elems.invariant.so_far
    (no_front (directed c.args.descending c.elems.rest.now) (sym c.byte_at.ensures ∙ c.in-None.is))

pub returns-then-tag-eq-PATH_END : goal.returns-then-tag-eq-PATH_END
returns-then-tag-eq-PATH_END c =
    let seen : List ℕ = directed c.args.descending c.args.bytes.now in
    let behind : List ℕ = directed c.args.descending (drop 1 c.elems.rest.now) in
    let split : directed c.args.descending c.elems.rest.now ≡ 1 ∷ behind =
    tag_front c.args.descending c.elems.rest.now (drop 1 c.elems.rest.now) 1 (sym c.byte_at.ensures ∙ c.in-Some.is ∙ ap Some c.if-tag-eq-PATH_END.true) refl in
    subst (λ path. Found (All IsLawfulElem) path_bytes seen path (c.elems.taken + 1)) (sym c.from.ensures)
    (path_found seen behind c.elems.path.items c.elems.taken (c.elems.taken + 1) c.elems.invariant.lawful
    (c.elems.invariant.so_far ∙ ap (λ (xs : List ℕ). flat_map elem_bytes c.elems.path.items ++ xs) split) c.elems.invariant.long refl)

pub returns-then-tag-ne-ELEMENT : goal.returns-then-tag-ne-ELEMENT
returns-then-tag-ne-ELEMENT c =
    let behind : List ℕ = directed c.args.descending (drop 1 c.elems.rest.now) in
    let split : directed c.args.descending c.elems.rest.now ≡ c.in-Some.found ∷ behind =
    tag_front c.args.descending c.elems.rest.now (drop 1 c.elems.rest.now) c.in-Some.found (sym c.byte_at.ensures ∙ c.in-Some.is) refl in
    no_path_at_tag (directed c.args.descending c.args.bytes.now) behind c.elems.path.items c.in-Some.found c.elems.invariant.lawful
    (c.elems.invariant.so_far ∙ ap (λ (xs : List ℕ). flat_map elem_bytes c.elems.path.items ++ xs) split) c.if-tag-eq-PATH_END.false c.if-tag-ne-ELEMENT.true

pub returns-in-None-2 : goal.returns-in-None-2
returns-in-None-2 c =
    let behind : List ℕ = directed c.args.descending c.behind.result.now in
    let split : directed c.args.descending c.elems.rest.now ≡ 2 ∷ behind =
    tag_front c.args.descending c.elems.rest.now c.behind.result.now 2 (sym c.byte_at.ensures ∙ c.in-Some.is ∙ ap Some c.if-tag-ne-ELEMENT.false) c.behind.ensures in
    let none : NoneBegins IsLawfulElem elem_rest behind = rw c.in-None-2.is at c.in_ok-read_elem.ensures in
    no_path_at_elem (directed c.args.descending c.args.bytes.now) behind c.elems.path.items c.elems.invariant.lawful
    (c.elems.invariant.so_far ∙ ap (λ (xs : List ℕ). flat_map elem_bytes c.elems.path.items ++ xs) split) none

pub overflow_add-taken-in-Some-2 : goal.overflow_add-taken-in-Some-2
overflow_add-taken-in-Some-2 c =
    let behind : List ℕ = directed c.args.descending c.behind.result.now in
    let split : directed c.args.descending c.elems.rest.now ≡ 2 ∷ behind =
    tag_front c.args.descending c.elems.rest.now c.behind.result.now 2 (sym c.byte_at.ensures ∙ c.in-Some.is ∙ ap Some c.if-tag-ne-ELEMENT.false) c.behind.ensures in
    let found : Found IsLawfulElem elem_rest behind c.in-Some-2.elem c.in-Some-2.more = rw c.in-Some-2.is at c.in_ok-read_elem.ensures in
    let within : c.in-Some-2.more ≤ length behind = begins_within elem_rest behind c.in-Some-2.elem c.in-Some-2.more found.begins in
    let long = ap length (c.elems.invariant.so_far ∙ ap (λ (xs : List ℕ). flat_map elem_bytes c.elems.path.items ++ xs) split) in
    omega (arith, long, c.elems.invariant.long, length-append (flat_map elem_bytes c.elems.path.items) (2 ∷ behind), length-directed c.args.descending c.args.bytes.now)

pub elems-preserved : goal.elems-preserved
elems-preserved c =
    let seen : List ℕ = directed c.args.descending c.args.bytes.now in
    let behind : List ℕ = directed c.args.descending c.behind.result.now in
    let later : List ℕ = directed c.args.descending c.behind-rest.result.now in
    let split : directed c.args.descending c.elems.rest.now ≡ 2 ∷ behind =
    tag_front c.args.descending c.elems.rest.now c.behind.result.now 2 (sym c.byte_at.ensures ∙ c.in-Some.is ∙ ap Some c.if-tag-ne-ELEMENT.false) c.behind.ensures in
    let found : Found IsLawfulElem elem_rest behind c.in-Some-2.elem c.in-Some-2.more = rw c.in-Some-2.is at c.in_ok-read_elem.ensures in
    let at : later ≡ drop c.in-Some-2.more behind =
    ap (directed c.args.descending) (c.behind-rest.ensures ∙ sym (drop-drop c.in-Some-2.more 1 c.elems.rest.now) ∙ ap (drop c.in-Some-2.more) (sym c.behind.ensures))
    ∙ directed-drop c.args.descending c.in-Some-2.more c.behind.result.now in
    let more = c.in_ok-push-in-Some-2.ensures.items in
    record {
      so_far = path_more seen behind later c.elems.path.items c.in-Some-2.elem c.in-Some-2.more
          (c.elems.invariant.so_far ∙ ap (λ (xs : List ℕ). flat_map elem_bytes c.elems.path.items ++ xs) split) found at
          ∙ ap (λ es. flat_map elem_bytes es ++ later) (sym more);
      long = path_longer c.elems.path.items c.in-Some-2.elem behind c.elems.taken c.in-Some-2.more (c.elems.taken + (1 + c.in-Some-2.more)) c.elems.invariant.long found refl
          ∙ ap (λ es. length (flat_map elem_bytes es)) (sym more);
      lawful = subst (All IsLawfulElem) (sym more)
          (All-append IsLawfulElem c.elems.path.items (c.in-Some-2.elem ∷ []) c.elems.invariant.lawful (All-cons IsLawfulElem c.in-Some-2.elem [] found.lawful (All-nil IsLawfulElem)));
    }
