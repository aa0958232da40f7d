-- What a step on the two copies keeps.
use Rattle.std.proofs.Common.{◌≡◌, ℕ, ◌≢◌, List, [], ◌∷◌, ◌++◌, fold, set, refl, ap, sym, ◌∙◌, subst, ⊎_elim, Option, Some, None, All}
use Rattle.std.proofs.lemmas.List.{append-nil}
use Rattle.std.proofs.lemmas.List.Elements.{All-nil, All-append}
use Rattle.std.proofs.lemmas.List.Sums.{fold-append}
use mathlib.Core.Option.{some}
use lib.ListN.{get_elem?}
use Rattle.crossbeam_utils.specs.Register.{Admits, TurnsAt, Forks, Merges}
use Rattle.atomic_table.proofs.Lists.{at_set, at_snoc}
use Rattle.ds_hub.specs.Line.{Line}
use Rattle.ds_hub.specs.Logs.{Fits, AllFit, BeginsWith}
use Rattle.ds_hub.specs.declared.version.Version.{Version}
use Rattle.ds_hub.specs.declared.rule.Origin.{Origin}

module _ {T E : Type 0} (makes : T → E → T) (belongs : T → E → Type 0) where
  -- what one who knows of a beginning at `start` has of a line and a state
  abbrev pub Holds : T → T → Line E → Option (Origin T E) → Type 0
  Holds start s x v = BeginsWith start v × Fits makes belongs s x v

  -- a line and a state that go on by operations which belong there fit whatever they fitted before
  pub fits_on : (start s t : T) (x y : Line E) (more : List E) → y.hub ≡ x.hub → y.list ≡ x.list ++ more → t ≡ fold makes s more
      → All (belongs start) more → (v : Option (Origin T E)) → Holds start s x v → Holds start t y v
  fits_on start s t x y more hub list state own None h = (tt, tt)
  fits_on start s t x y more hub list state own (Some o) h = (
    h.0,
    (
      hub ∙ h.1.0,
      state ∙ (ap (λ z. fold makes z more) h.1.1 ∙ (sym (fold-append makes o.start x.list more) ∙ ap (λ l. fold makes o.start l) (sym list))),
      subst (All (belongs o.start)) (sym list)
          (All-append (belongs o.start) x.list more h.1.2 (subst (λ b. All (belongs b) more) (sym h.0) own)),
    ),
  )

  -- where the views are as before but for one that knows the same or nothing
  known_again : (start s : T) (x : Line E) (views : List (Option (Origin T E))) (seat : ℕ) (v : Option (Origin T E))
      → ((j : ℕ) (u : Option (Origin T E)) → get_elem? views j ≡ some u → Holds start s x u) → Holds start s x v
      → (j : ℕ) (u : Option (Origin T E)) → get_elem? (set views seat v) j ≡ some u → Holds start s x u
  known_again start s x views seat v h fits j u e =
      ⊎_elim (λ (t : (j ≡ seat) × (v ≡ u)). subst (Holds start s x) t.1 fits) (λ (t : (j ≢ seat) × (get_elem? views j ≡ some u)). h j u t.1) (at_set views seat j v u e)

  known_more : (start s : T) (x : Line E) (views : List (Option (Origin T E))) (v : Option (Origin T E))
      → ((j : ℕ) (u : Option (Origin T E)) → get_elem? views j ≡ some u → Holds start s x u) → Holds start s x v
      → (j : ℕ) (u : Option (Origin T E)) → get_elem? (views ++ v ∷ []) j ≡ some u → Holds start s x u
  known_more start s x views v h fits j u e =
      ⊎_elim (h j u) (λ (same : v ≡ u). subst (Holds start s x) same fits) (at_snoc views v u j e)

  -- where the line is empty, all begin with the state that is shown
  begins_here : (start s : T) (x : Line E) → x.list ≡ [] → (v : Option (Origin T E)) → Holds start s x v → BeginsWith s v
  begins_here start s x empty None h = tt
  begins_here start s x empty (Some o) h = sym (h.1.1 ∙ ap (λ l. fold makes o.start l) empty)

  -- one that knows nothing at first
  pub nobody_knows : (s : T) (x : Line E) → AllFit makes belongs s x (None ∷ [])
  nobody_knows s x = (s, known_more s s x [] None (λ j u e. absurd (cc e)) (tt, tt))

  module _ {S : Type 0} (state : S → T) where
    abbrev pub held : Version E S → List (Option (Origin T E)) → Type 0
    held x views = AllFit makes belongs (state x.state) x.prefix views

    -- a new reader may come at any time
    pub admits : Admits held None
    admits x views h = (h.0, known_more h.0 (state x.state) x.prefix views None h.1 (tt, tt))

    -- what is shown goes on by operations that belong where the writer knows the hub to begin, and everyone knows what it knew
    pub turns : (seat : ℕ) (v : Option (Origin T E)) (x y : Version E S) (more : List E) → y.prefix.hub ≡ x.prefix.hub
        → y.prefix.list ≡ x.prefix.list ++ more → state y.state ≡ fold makes (state x.state) more
        → ((start : T) → BeginsWith start v → All (belongs start) more)
        → TurnsAt held seat v x y (λ v x y w. (w ≡ v) × Fits makes belongs (state y.state) y.prefix v)
    turns seat v x y more hub list is own views h at =
        let mine = h.1 seat v at in
        let on = fits_on h.0 (state x.state) (state y.state) x.prefix y.prefix more hub list is (own h.0 mine.0) in (
          v,
          (h.0, known_again h.0 (state y.state) y.prefix views seat v (λ j u e. on u (h.1 j u e)) (on v mine)),
          (refl, (on v mine).1),
        )

    pub enters : (seat : ℕ) (v : Option (Origin T E)) (x : Version E S)
        → TurnsAt held seat v x x (λ v x y w. (w ≡ v) × Fits makes belongs (state y.state) y.prefix v)
    enters seat v x = turns seat v x x [] refl (sym (append-nil x.prefix.list)) refl (λ start knows. All-nil (belongs start))

    -- the writer learns where the hub begins
    pub opens : (seat : ℕ) (v : Option (Origin T E)) (x y : Version E S) → y.prefix ≡ x.prefix → x.prefix.list ≡ [] → state y.state ≡ state x.state
        → TurnsAt held seat v x y (λ v x y w. w ≡ Some (record { start = state x.state; prefix = x.prefix }))
    opens seat v x y same empty is views h at =
        let origin : Origin T E = record { start = state x.state; prefix = x.prefix } in
        let s = state x.state in
        let hub = ap (λ (l : Line E). l.hub) same in
        let list = ap (λ (l : Line E). l.list) same in
        let on = fits_on s s (state y.state) x.prefix y.prefix [] hub (list ∙ sym (append-nil x.prefix.list)) is (All-nil (belongs s)) in
        let here : Holds s (state y.state) y.prefix (Some origin) = (
          refl,
          (
            hub,
            is ∙ ap (λ l. fold makes s l) (sym (list ∙ empty)),
            subst (All (belongs s)) (sym (list ∙ empty)) (All-nil (belongs s)),
          ),
        ) in (
          Some origin,
          (
            s,
            known_again s (state y.state) y.prefix views seat (Some origin)
                (λ j u e. on u (begins_here h.0 s x.prefix empty u (h.1 j u e), (h.1 j u e).1)) here,
          ),
          refl,
        )

    pub forks : (seat : ℕ) (v : Option (Origin T E)) → Forks held seat v v v
    forks seat v x views h at = (
      h.0,
      known_more h.0 (state x.state) x.prefix (set views seat v) v
          (known_again h.0 (state x.state) x.prefix views seat v h.1 (h.1 seat v at)) (h.1 seat v at),
    )

    pub merges : (seat : ℕ) (v : Option (Origin T E)) (other : ℕ) (w : Option (Origin T E)) → Merges held seat v other w w None
    merges seat v other w x views h at apart there =
        let s = state x.state in
        let told : Holds h.0 s x.prefix w =
        ⊎_elim (λ (t : (other ≡ seat) × (w ≡ w)). absurd (apart t.0)) (λ (t : (other ≢ seat) × (get_elem? views other ≡ some w)). h.1 other w t.1) (at_set views seat other w w there) in
        (h.0, known_again h.0 s x.prefix (set views seat w) other None (known_again h.0 s x.prefix views seat w h.1 told) (tt, tt))
