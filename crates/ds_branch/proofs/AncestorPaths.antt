-- The ancestors of a key are the keys under which it lies.
use Rattle.std.proofs.Common.{◌≡◌, inl, inr, ◌<◌, List, [], ◌∷◌, ◌++◌, length, take, drop, true, refl, sym, ap, ◌∙◌, subst}
use Rattle.std.proofs.Common.{arith}
use Rattle.std.specs.Prelude.{nat_eq}
use Rattle.std.specs.Cmp.Lexicographic.{pointwise, pointwise_decides, bytes_decides}
use Rattle.std.specs.Ordering.{eq_by_cmp}
use Rattle.std.specs.List.{starts_with}
use Rattle.std.proofs.lemmas.Bool.{and_parts, and_from}
use Rattle.std.proofs.lemmas.List.{take-append-drop}
use Rattle.std.proofs.Math.Seq.{take-append_seam}
use Rattle.ds_base.specs.declared.key.Elem.{Elem}
use Rattle.ds_base.specs.Keys.{KeyParts}
use Rattle.ds_base.specs.KeyOrder.{elem_cmp, is_ancestor}
use Rattle.ds_base.specs.KeyOrderLaws.{same_elem-decides}
use Rattle.ds_planner.proofs.Members.{Member, map_member, member_map}
use Rattle.ds_rows.specs.Rows.{paths_to, ancestors}

-- ---- paths

-- the paths to the end of one that goes on are among them
path_listed : (e : Elem) (es rest : List Elem) → Member (e ∷ es) (paths_to (e ∷ (es ++ rest)))
path_listed e [] rest = inl refl
path_listed e (f ∷ es) rest =
    inr (member_map (λ (path : List Elem). e ∷ path) (paths_to (f ∷ (es ++ rest))) (f ∷ es) (path_listed f es rest))

listed_path : (es path : List Elem) → Member path (paths_to es) → (rest : List Elem) × (es ≡ path ++ rest)
listed_path [] path m = absurd m
listed_path (e ∷ es) path (inl h) = (es, sym (ap (λ (p : List Elem). p ++ es) h))
listed_path (e ∷ es) path (inr m) =
    let w = map_member (λ (p : List Elem). e ∷ p) (paths_to es) path m in
    let r = listed_path es w.0 w.1.0 in
    (r.0, ap (λ (p : List Elem). e ∷ p) r.1 ∙ sym (ap (λ (p : List Elem). p ++ r.0) w.1.1))

-- ---- keys

abbrev pub key_to : KeyParts → List Elem → KeyParts
key_to k path = record { namespace = k.namespace; elems = path }

some_listed : (path rest : List Elem) → 0 < length path → Member path (paths_to (path ++ rest))
some_listed [] rest some = absurd (omega arith)
some_listed (e ∷ es) rest some = path_listed e es rest

pub under_listed : (b k : KeyParts) → 0 < length b.elems → is_ancestor b k ≡ true → Member b (ancestors k)
under_listed b k some under =
    let two = and_parts (pointwise nat_eq b.namespace k.namespace) (starts_with (eq_by_cmp elem_cmp) k.elems b.elems) under in
    let namespace : b.namespace ≡ k.namespace = (bytes_decides b.namespace k.namespace).0 two.0 in
    let front : b.elems ≡ take (length b.elems) k.elems =
    (pointwise_decides same_elem-decides b.elems (take (length b.elems) k.elems)).0 two.1 in
    let rest : List Elem = drop (length b.elems) k.elems in
    let path : b.elems ++ rest ≡ k.elems =
    ap (λ (es : List Elem). es ++ rest) front ∙ take-append-drop (length b.elems) k.elems in
    let there : Member b.elems (paths_to k.elems) =
    subst (λ (es : List Elem). Member b.elems (paths_to es)) path (some_listed b.elems rest some) in
    let same : key_to k b.elems ≡ b = λ i. record { namespace = sym namespace i; elems = b.elems } in
    subst (λ (a : KeyParts). Member a (ancestors k)) same (member_map (key_to k) (paths_to k.elems) b.elems there)

pub listed_under : (b k : KeyParts) → Member b (ancestors k) → is_ancestor b k ≡ true
listed_under b k m =
    let w = map_member (key_to k) (paths_to k.elems) b m in
    let r = listed_path k.elems w.0 w.1.0 in
    let namespace : b.namespace ≡ k.namespace = ap (λ (a : KeyParts). a.namespace) w.1.1 in
    let elems : b.elems ≡ w.0 = ap (λ (a : KeyParts). a.elems) w.1.1 in
    let whole : k.elems ≡ b.elems ++ r.0 = r.1 ∙ ap (λ (es : List Elem). es ++ r.0) (sym elems) in
    and_from (pointwise nat_eq b.namespace k.namespace) (starts_with (eq_by_cmp elem_cmp) k.elems b.elems)
    ((bytes_decides b.namespace k.namespace).1 namespace)
    ((pointwise_decides same_elem-decides b.elems (take (length b.elems) k.elems)).1
    (sym (ap (take (length b.elems)) whole ∙ take-append_seam b.elems r.0)))
