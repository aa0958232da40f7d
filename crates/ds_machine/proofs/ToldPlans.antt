-- The numbers that a plan tells are those that it was given.
use Rattle.ds_machine.proofs.Words.{common_steps, ◌≡◌, ◌⊎◌, inl, inr, ℕ, Bool, true, false, List, [], ◌∷◌, ◌++◌, refl, ap, sym, ◌∙◌, subst}
use Rattle.ds_machine.proofs.Words.{Option, Some, None, arith, rules, ◌&&◌, and_parts, cond_both, Seen, KeyParts, EntityParts, Touch}
use Rattle.ds_machine.proofs.Words.{touch_place, with_touch, Normal, Window, Body, WriteAt, cursor_of, place_in, items_of, result, Session}
use Rattle.ds_machine.proofs.Words.{Transaction, Search, found, Effect, GroupRead, Step, GatheredParts, store_after, session_after}
use Rattle.ds_machine.proofs.Words.{with_write, shown, told_over, StateParts, is_quiet, tells_no_step, eqb-true, none-some, is_touched}
use Rattle.ds_machine.proofs.Words.{touching_if}
use Rattle.ds_effects.specs.declared.effect.GroupWrite.{GroupWrite}
use Rattle.ds_machine.specs.Told.{AreNumbersOf, IsTouchedPlace, IsSeenBy, IsTold, ToldAlways, is_refusal, is_silent, tells_now}
use Rattle.ds_reply.specs.declared.reply.Body.TheVariants as body
use Rattle.ds_reply.specs.declared.reply.WriteAt.TheVariants as stands
use Rattle.ds_effects.specs.declared.effect.Effect.TheVariants as effect
use Rattle.ds_effects.specs.declared.gathered.Step.TheVariants as steps

-- ---- places

-- a touch adds no place but its own
pushed : (g h : KeyParts) (m p : ℕ) (ts : List Touch) → touch_place g (ts ++ record { group = h; place = m } ∷ []) ≡ Some p
    → (touch_place g ts ≡ Some p) ⊎ (m ≡ p)
pushed g h m p [] is = grind (arith, common_steps)
pushed g h m p (t ∷ ts) is = let rest = pushed g h m p ts in grind (arith, common_steps)

touched : (g h : KeyParts) (m p : ℕ) (ts : List Touch) → touch_place g (with_touch h m ts) ≡ Some p → (touch_place g ts ≡ Some p) ⊎ (m ≡ p)
touched g h m p ts = cond_both (is_touched h ts) ts (ts ++ record { group = h; place = m } ∷ [])
    (λ xs. touch_place g xs ≡ Some p → (touch_place g ts ≡ Some p) ⊎ (m ≡ p)) (λ there is. inl is) (λ new. pushed g h m p ts)

read-place : (o : Option Transaction) (g h : KeyParts) (m p : ℕ) → place_in (touching_if h m o) g ≡ Some p
    → (place_in o g ≡ Some p) ⊎ (m ≡ p)
read-place None g h m p is = inl is
read-place (Some t) g h m p is = touched g h m p t.touched is

write-place : (o : Option Transaction) (g : KeyParts) (w : GroupWrite) (p : ℕ) → place_in (with_write w o) g ≡ Some p
    → (place_in o g ≡ Some p) ⊎ (w.place ≡ p)
write-place None g w p is = inl is
write-place (Some t) g w p is = touched g w.group w.place p t.touched is

module _ (s : Session) (g : GatheredParts) where
  one_of : (group : KeyParts) (m p : ℕ) → IsTouchedPlace s g m → (place_in s.transaction group ≡ Some p) ⊎ (m ≡ p) → IsTouchedPlace s g p
  one_of group m p place (inl is) = inr (group, is)
  one_of group m p place (inr is) = subst (IsTouchedPlace s g) is place

-- ---- refusals

numberless : (st : StateParts) (s : Session) (g : GatheredParts) (step : Step) (b : Body) → tells_now st.store.next b ≡ true
    → AreNumbersOf (shown st) s g step b
numberless st s g step (body.IdNotIssued id next) same = eqb-true next st.store.next same
numberless st s g step (body.IdsExhausted next) same = eqb-true next st.store.next same
numberless st s g step _ none = first_of (cc, search rules)

-- a quiet answer prints no id counter
tells-now : (next : ℕ) (b : Body) → tells_no_step b ≡ true → is_quiet b ≡ true → tells_now next b ≡ true
tells-now next (body.IdNotIssued id told) bare quiet = cc
tells-now next (body.IdsExhausted told) bare quiet = cc
tells-now next _ bare quiet = bare

-- a refusal as it is made is silent
pub silent-refused : (st : StateParts) (b v : Body) (e : Effect) → b ≡ v → e ≡ effect.Nothing → tells_no_step v ≡ true → is_quiet v ≡ true
    → is_silent st b e ≡ true
silent-refused st b v e same_body same_effect none quiet =
    ap (λ x. x && is_refusal e) (ap (tells_now st.store.next) same_body ∙ tells-now st.store.next v none quiet) ∙ ap is_refusal same_effect

-- ---- effects

module _ (st : StateParts) (s : Session) (b : Body) (g : GatheredParts) (step : Step) where
  -- the transaction and the store stay as they are
  pub kept-told : (e : Effect) → AreNumbersOf (shown st) s g step b → (session_after e st.store s).transaction ≡ s.transaction
      → store_after e st.store ≡ st.store → IsTold st s g step b e
  kept-told e numbers kept store = record {
    numbers = numbers;
    touches = λ group m is. inr (group, sym (ap (λ o. place_in o group) kept) ∙ is);
    commits = inr store;
  }

  -- no group is touched after it
  pub untouched-told : (e : Effect) → AreNumbersOf (shown st) s g step b
      → ((group : KeyParts) → place_in (session_after e st.store s).transaction group ≡ None)
      → (step ≡ steps.Commit) ⊎ (store_after e st.store ≡ st.store) → IsTold st s g step b e
  untouched-told e numbers none commits = record {
    numbers = numbers;
    touches = λ group m is. absurd (none-some m (sym (none group) ∙ is));
    commits = commits;
  }

  pub read-told : (r : GroupRead) → AreNumbersOf (shown st) s g step b → IsTouchedPlace s g r.place
      → IsTold st s g step b (effect.ReadGroup r)
  read-told r numbers place = record {
    numbers = numbers;
    touches = λ group m is. one_of s g group r.place m place (read-place s.transaction group r.group r.place m is);
    commits = inr refl;
  }

module _ (st : StateParts) (s : Session) where
  refusal-told : (b : Body) (e : Effect) → tells_now st.store.next b ≡ true → is_refusal e ≡ true → ToldAlways st s b e
  refusal-told b effect.Nothing none kept =
      λ g step. kept-told st s b g step effect.Nothing (numberless st s g step b none) refl refl
  refusal-told b (effect.SeeNext next) none kept =
      λ g step. kept-told st s b g step (effect.SeeNext next) (numberless st s g step b none) refl refl
  refusal-told b _ none kept = cc

  pub silent-told : (b : Body) (e : Effect) → is_silent st b e ≡ true → ToldAlways st s b e
  silent-told b e silent = let both = and_parts (tells_now st.store.next b) (is_refusal e) silent in refusal-told b e both.0 both.1

-- ---- searches

pub search-numbers : (st : StateParts) (s : Session) (g : GatheredParts) (step : Step) (r : Search) (n : Normal) (w : Window)
    (es : List EntityParts) (looked : Seen) (b : Body) → b ≡ told_over r n w es looked → IsSeenBy s g looked
    → AreNumbersOf (shown st) s g step b
search-numbers st s g step r n w es looked b is seen = rw is (by r.statement) where
  by : (statement : Bool) → AreNumbersOf (shown st) s g step (found statement r.query.select
      (items_of n.merged r.query.select es (result n w es).rows) looked (cursor_of r.cursor n.branches (result n w es).next))
  by true = seen
  by false = seen

-- ---- writes

module _ (st : StateParts) (s : Session) (g : GatheredParts) (step : Step) (key : KeyParts) where
  pub group-told : (w : GroupWrite) → IsTouchedPlace s g w.place
      → IsTold st s g step (body.Put key (stands.Place w.place)) (effect.WriteGroup w)
  group-told w place = record {
    numbers = place;
    touches = λ k m is. one_of s g k w.place m place (write-place s.transaction k w m is);
    commits = inr refl;
  }

  pub deleted-told : (written : WriteAt) (e : Effect) → IsTold st s g step (body.Put key written) e
      → IsTold st s g step (body.Delete key written) e
  deleted-told written e put = record { numbers = put.numbers; touches = put.touches; commits = put.commits }
