-- The names of members in byte order.
use Rattle.std.proofs.Common.{◌≡◌, ℕ, zero, suc, ◌-◌, ◌<◌, ◌≤◌, List, [], ◌∷◌, Bool, true, false, length, get_or, codes, refl, sym, ap, ◌∙◌}
use Rattle.std.proofs.Common.{subst, arith, inl, inr}
use Rattle.std.specs.Prelude.{◌&&◌}
use Rattle.std.specs.declared.cmp.Ordering.{Ordering}
use Rattle.std.specs.declared.cmp.Ordering.TheVariants.{Less, Equal, Greater}
use Rattle.std.specs.Ordering.{nat_cmp, is_lt}
use Rattle.std.specs.Cmp.Lexicographic.{slice_cmp}
use Rattle.std.proofs.lemmas.Bool.{and_parts, cases_lt}
use Rattle.std.proofs.lemmas.Bool.Decides.{nat_tests}
use Rattle.ds_reply.specs.declared.member_name.MemberName.{MemberName}
use Rattle.ds_reply.specs.declared.member_name.MemberName.TheVariants as name
use Rattle.ds_reply.specs.MemberNames.{name_text, name_rank}
use Rattle.ds_reply.specs.Orders.{IsBefore, NamesAscend}
use Rattle.ds_reply.proofs.OrderLemmas.{C, behind, C-self}
use Rattle.ds_reply.proofs.Selection.{less-before}
use Rattle.ds_reply.proofs.Projecting.{ascend-pairs}

-- the names in byte order
abbrev names : List (List ℕ)
names = codes "applied" ∷ codes "at" ∷ codes "client" ∷ codes "commit" ∷ codes "constraint" ∷ codes "count" ∷ codes "cursor" ∷ codes "entity" ∷ codes "error" ∷ codes "field" ∷ codes "first" ∷ codes "group" ∷ codes "id" ∷ codes "key" ∷ codes "line" ∷ codes "name" ∷ codes "next" ∷ codes "ok" ∷ codes "place" ∷ codes "reason" ∷ codes "results" ∷ codes "shard" ∷ codes "size" ∷ codes "snapshot" ∷ codes "suggestion" ∷ []

at_rank : (n : MemberName) → name_text n ≡ get_or names (name_rank n) []
at_rank name.Applied = refl
at_rank name.At = refl
at_rank name.Client = refl
at_rank name.Commit = refl
at_rank name.Constraint = refl
at_rank name.Count = refl
at_rank name.Cursor = refl
at_rank name.Entity = refl
at_rank name.Error = refl
at_rank name.Field = refl
at_rank name.First = refl
at_rank name.Group = refl
at_rank name.Id = refl
at_rank name.Key = refl
at_rank name.Line = refl
at_rank name.Name = refl
at_rank name.Next = refl
at_rank name.Ok = refl
at_rank name.Place = refl
at_rank name.Reason = refl
at_rank name.Results = refl
at_rank name.Shard = refl
at_rank name.Size = refl
at_rank name.Snapshot = refl
at_rank name.Suggestion = refl

in_names : (n : MemberName) → name_rank n < 25
in_names name.Applied = omega arith
in_names name.At = omega arith
in_names name.Client = omega arith
in_names name.Commit = omega arith
in_names name.Constraint = omega arith
in_names name.Count = omega arith
in_names name.Cursor = omega arith
in_names name.Entity = omega arith
in_names name.Error = omega arith
in_names name.Field = omega arith
in_names name.First = omega arith
in_names name.Group = omega arith
in_names name.Id = omega arith
in_names name.Key = omega arith
in_names name.Line = omega arith
in_names name.Name = omega arith
in_names name.Next = omega arith
in_names name.Ok = omega arith
in_names name.Place = omega arith
in_names name.Reason = omega arith
in_names name.Results = omega arith
in_names name.Shard = omega arith
in_names name.Size = omega arith
in_names name.Snapshot = omega arith
in_names name.Suggestion = omega arith

abbrev ascends : List (List ℕ) → Bool
ascends [] = true
ascends (n ∷ []) = true
ascends (n ∷ m ∷ ns) = is_lt (slice_cmp nat_cmp n m) && ascends (m ∷ ns)

ascends-at : (ns : List (List ℕ)) → ascends ns ≡ true → NamesAscend ns
ascends-at [] h k lt pos = absurd (omega arith)
ascends-at (n ∷ []) h k lt pos = absurd (omega arith)
ascends-at (n ∷ m ∷ ns) h zero lt pos = absurd (omega arith)
ascends-at (n ∷ m ∷ ns) h (suc zero) lt pos = less-before n m ((and_parts (is_lt (slice_cmp nat_cmp n m)) (ascends (m ∷ ns)) h).0)
ascends-at (n ∷ m ∷ ns) h (suc (suc k)) lt pos =
    let e : suc k - 1 ≡ k = omega arith in
    let f : suc (suc k) - 1 ≡ suc k = omega arith in
    let rest = ascends-at (m ∷ ns) ((and_parts (is_lt (slice_cmp nat_cmp n m)) (ascends (m ∷ ns)) h).1) (suc k) (omega arith) (omega arith) in
    rw f (rw e at rest)

ranked : (m n : MemberName) → name_rank m < name_rank n → IsBefore (name_text m) (name_text n)
ranked m n lt = rw (at_rank m, at_rank n) (ascend-pairs names (ascends-at names refl) (name_rank n) (name_rank m) lt (in_names n))

pub ranks-compare : (m n : MemberName) → nat_cmp (name_rank m) (name_rank n) ≡ C (name_text m) (name_text n)
ranks-compare m n = elim (cases_lt (name_rank m) (name_rank n)) [
  | inl less ↦ (let first : nat_cmp (name_rank m) (name_rank n) ≡ Less = grind (arith, nat_tests) in first ∙ sym (ranked m n less))
  | inr ge ↦ elim (cases_lt (name_rank n) (name_rank m)) [
    | inl more ↦ (let last : nat_cmp (name_rank m) (name_rank n) ≡ Greater = grind (arith, nat_tests) in last ∙ sym (behind (name_text m) (name_text n) (ranked n m more)))
    | inr le ↦ equal (omega arith)
  ]
] where
  equal : name_rank m ≡ name_rank n → nat_cmp (name_rank m) (name_rank n) ≡ C (name_text m) (name_text n)
  equal e =
      let same : name_text m ≡ name_text n = at_rank m ∙ ap (λ (k : ℕ). get_or names k []) e ∙ sym (at_rank n) in
      let both : nat_cmp (name_rank m) (name_rank n) ≡ Equal = grind (arith, nat_tests) in
      both ∙ sym (subst (λ (l : List ℕ). C (name_text m) l ≡ Equal) same (C-self (name_text m)))
