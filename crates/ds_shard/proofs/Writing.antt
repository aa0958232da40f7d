-- One write after another, and a floor that rises: the table goes on holding the rows of the versions.
use Rattle.std.proofs.Common.{◌≡◌, ℕ, suc, zero, ◌+◌, ◌<◌, ◌≤◌, Bool, true, false, cond, List, [], ◌∷◌, ◌++◌, length, get_or, map, Option}
use Rattle.std.proofs.Common.{Some, None, refl, sym, ap, ◌∙◌, subst, arith}
use Rattle.std.specs.Prelude.{◌&&◌, ◌||◌, IsTrue, IsFalse, OnOk, OnErr, Result, Ok, Err, filter, fold, drop, find, option_map, max, nat_lt}
use Rattle.std.specs.List.{list_any}
use Rattle.std.proofs.lemmas.List.{drop_more}
use Rattle.ds_base.specs.Keys.{KeyParts}
use Rattle.std.specs.Ordering.{is_lt}
use Rattle.ds_base.specs.KeyOrder.{key_cmp, same_key}
use Rattle.ds_base.specs.KeyOrderLaws.{same_key-decides}
use Rattle.ds_entity.specs.Entities.{EntityParts}
use Rattle.ds_base.specs.SortingLaws.{Ascends}
use Rattle.ds_indexdef.specs.Definitions.{AreDefs}
use Rattle.ds_log.specs.declared.Write.{Write}
use Rattle.ds_log.specs.Logs.{key_of}
use Rattle.ds_rows.specs.Indexable.{IsIndexable}
use Rattle.ds_rows.specs.Rows.{rows_of}
use Rattle.ds_rows.specs.Versions.{Version}
use Rattle.ds_table.specs.Versions as table
use Rattle.ds_table.specs.Blocks.{versions}
use Rattle.ds_table.specs.UndoLaws.{undo_closed}
use Rattle.ds_shard.specs.Histories.{BeginsBy, EndsBy, EndsWithin, IsOverAt, is_open, is_current, until_stamp, ended, with_version}
use Rattle.ds_shard.specs.Histories.{outlives, trimmed}
use Rattle.std.specs.List.{AllByRecursion as Each}
use Rattle.ds_shard.specs.Rows.{rows_of_versions, all_closed, all_added}
use Rattle.ds_shard.specs.Contents.{ContentsParts, counted, HaveSame, IsGiven, version_cmp, AreHistories, AreKept, CanUndo, LeadBack}
use Rattle.ds_shard.specs.Contents.{LeadsBack, all_undone, IsTrimmed, IsGivenBefore, IsBack}
use Rattle.ds_shard.specs.Expiries.{AreBy, others, IsNotedEnd, AreNoted}
use Rattle.ds_shard.proofs.Kept.{Ascends-ended, Ascends-with, Ascends-filter, given-ended, given-with, given-filter, given-later}
use Rattle.ds_shard.proofs.Kept.{trimmed-twice}
use Rattle.ds_shard.proofs.Ends.{noted-ended, noted-others, by_later}
use Rattle.ds_shard.proofs.Counting.{same-map, same-filter, same-filter_map, same-any}
use Rattle.ds_shard.proofs.Own.{Owns, only_current, histories-ended, histories-with, histories-filter}
use Rattle.ds_shard.proofs.Trimming.{trimmed_rows}
use Rattle.ds_shard.proofs.RowsApart.{each_more, apart, or_true}
use Rattle.ds_shard.proofs.Closing.{Suits, all_closed_map, closed_in, ended_rows}
use Rattle.ds_shard.proofs.Beginning.{Leaves, counted-added, counted-with, alive_own, none_left}
use Rattle.ds_shard.proofs.Undoing.{undone_rows, undone-given, undone-ended, undone-with, begun-given}

-- ---- of each

each_two : {X : Type 0} (P Q R : X → Type 0) (xs : List X) → ((x : X) → P x → Q x → R x) → Each P xs → Each Q xs → Each R xs
each_two P Q R [] f h g = tt
each_two P Q R (x ∷ xs) f h g = (f x h.0 g.0, each_two P Q R xs f h.1 g.1)

indexable-ended : (stamp : ℕ) (k : KeyParts) (vs : List Version) → Each (λ (v : Version). IsIndexable v.entity) vs
    → Each (λ (v : Version). IsIndexable v.entity) (ended stamp k vs)
indexable-ended stamp k [] h = tt
indexable-ended stamp k (v ∷ vs) h = by (is_current k v) (indexable-ended stamp k vs h.1) where
  by : (b : Bool) → Each (λ (w : Version). IsIndexable w.entity) (ended stamp k vs)
      → Each (λ (w : Version). IsIndexable w.entity) (cond b (until_stamp (Some stamp) v) v ∷ ended stamp k vs)
  by true i = (h.0, i)
  by false i = (h.0, i)

each-with : (P : Version → Type 0) (v : Version) (vs : List Version) → P v → Each P vs → Each P (with_version v vs)
each-with P v [] p h = (p, tt)
each-with P v (w ∷ ws) p h = by (is_lt (key_cmp v.entity.key w.entity.key)) (each-with P v ws p h.1) where
  by : (b : Bool) → Each P (with_version v ws) → Each P (cond b (v ∷ w ∷ ws) (w ∷ with_version v ws))
  by true i = (p, h)
  by false i = (h.0, i)

pub each-filter : (P : Version → Type 0) (p : Version → Bool) (vs : List Version) → Each P vs → Each P (filter p vs)
each-filter P p [] h = tt
each-filter P p (v ∷ vs) h = by (p v) (each-filter P p vs h.1) where
  by : (b : Bool) → Each P (filter p vs) → Each P (cond b (v ∷ filter p vs) (filter p vs))
  by true i = (h.0, i)
  by false i = i

true_not_false : true ≡ false → ⊥
true_not_false e = cc

both : (a b : Bool) → (a && b) ≡ true → a ≡ true
both true b h = refl
both false b h = h

-- the entity that is found has the key
current_key : (k : KeyParts) (e : EntityParts) (vs : List Version) → option_map (λ (v : Version). v.entity) (find (is_current k) vs) ≡ Some e
    → e.key ≡ k
current_key k e [] is = absurd (nothing is) where
  nothing : None ≡ Some e → ⊥
  nothing is = cc
current_key k e (v ∷ vs) is = by (is_current k v) refl is (current_key k e vs) where
  same_entity : Some v.entity ≡ Some e → v.entity ≡ e
  same_entity p = cc

  by : (b : Bool) → is_current k v ≡ b → option_map (λ (w : Version). w.entity) (cond b (Some v) (find (is_current k) vs)) ≡ Some e
      → (option_map (λ (w : Version). w.entity) (find (is_current k) vs) ≡ Some e → e.key ≡ k) → e.key ≡ k
  by true c is i =
      ap (λ (a : EntityParts). a.key) (sym (same_entity is))
      ∙ (same_key-decides v.entity.key k).0 (both (same_key v.entity.key k) (is_open v.until) c)
  by false c is i = i is

turned : (a b : KeyParts) → same_key a b ≡ false → same_key b a ≡ false
turned a b h = by (same_key b a) refl where
  by : (c : Bool) → same_key b a ≡ c → same_key b a ≡ false
  by true e = absurd (true_not_false (sym ((same_key-decides a b).1 (sym ((same_key-decides b a).0 e))) ∙ h))
  by false e = e

-- ---- what a write leaves alone

pub record Stays (stamp : ℕ) (c d : ContentsParts) : Type 0 where
  pub definitions : d.definitions ≡ c.definitions
  pub floor : d.table.floor ≡ c.table.floor
  pub least : d.table.least ≡ c.table.least
  pub least_undone : d.table.least_undone ≡ c.table.least_undone
  pub last : d.table.last ≤ stamp
  pub ends : others stamp d.ends ≡ others stamp c.ends
  pub by : AreBy stamp d.ends

module _ (stamp : ℕ) (c d : ContentsParts) (h : AreKept stamp c) (s : Stays stamp c d) where
  -- with other versions, and the rows of these
  kept_with : (vs : List Version) → d.entities ≡ vs → Each (λ (v : Version). IsIndexable v.entity) vs → Each (IsGiven stamp) vs
      → Ascends version_cmp vs → AreHistories vs → HaveSame (versions d.table) (rows_of_versions c.definitions (trimmed c.table.floor vs))
      → AreNoted d.ends vs → AreKept stamp d
  kept_with vs is indexable given ascend histories rows noted = record {
    definitions = subst AreDefs (sym s.definitions) h.definitions;
    indexable = subst (Each (λ (v : Version). IsIndexable v.entity)) (sym is) indexable;
    given = subst (Each (IsGiven stamp)) (sym is) given;
    ascend = subst (Ascends version_cmp) (sym is) ascend;
    histories = subst AreHistories (sym is) histories;
    rows = subst (HaveSame (versions d.table))
        (λ t. rows_of_versions (sym s.definitions t) (trimmed (sym s.floor t) (sym is t))) rows;
    noted = subst (AreNoted d.ends) (sym is) noted;
    ends = s.by;
    last = s.last;
    least = (let a = s.least in let b = h.least in omega (arith, a, b));
    least_undone = (let a = s.least_undone in let b = h.least_undone in omega (arith, a, b));
    floor = (let a = s.floor in let b = h.floor in omega (arith, a, b));
    a_stamp = h.a_stamp;
  }

  can_undo : Each (BeginsBy stamp) d.entities → CanUndo stamp d
  can_undo begun = record {
    begun = begun;
    ends = s.by;
    last = s.last;
    least = (let a = s.least in let b = h.least in omega (arith, a, b));
    least_undone = (let a = s.least_undone in let b = h.least_undone in omega (arith, a, b));
    a_stamp = h.a_stamp;
  }

  pub leads : (k : KeyParts) → table.undone stamp (versions d.table) ≡ table.undone stamp (versions c.table)
      → ((keys : List KeyParts) → IsTrue (list_any (same_key k) keys) → all_undone stamp keys d.entities ≡ all_undone stamp keys c.entities)
      → Each (BeginsBy stamp) d.entities → LeadsBack stamp k c d
  leads k undone entities begun = (
    (λ keys among. record {
      table = undone;
      entities = entities keys among;
      ends = s.ends;
      floor = s.floor;
      least = s.least;
      least_undone = s.least_undone;
      definitions = s.definitions;
    }),
    can_undo begun,
  )

  -- ---- an end

  module _ (k : KeyParts) (e : EntityParts) (found : option_map (λ (v : Version). v.entity) (find (is_current k) c.entities) ≡ Some e)
      (lawful : IsIndexable e) (closed : versions d.table ≡ all_closed stamp (versions c.table) (rows_of c.definitions e))
      (is : d.entities ≡ ended stamp k c.entities) where
    suits : Each (Suits stamp c.definitions k e) c.entities
    suits =
        each_two (λ (v : Version). IsIndexable v.entity × IsGiven stamp v) (Owns k e) (Suits stamp c.definitions k e) c.entities
        (λ v p owns. record {
          given = p.1.ends;
          own = owns;
          apart = λ other.
              apart c.definitions h.definitions v.entity e p.0 lawful
              (subst (λ (l : KeyParts). same_key v.entity.key l ≡ false) (sym (current_key k e c.entities found)) other);
        })
        (each_two (λ (v : Version). IsIndexable v.entity) (IsGiven stamp) (λ (v : Version). IsIndexable v.entity × IsGiven stamp v) c.entities
        (λ v p q. (p, q)) h.indexable h.given)
        (only_current k e c.entities h.histories found)

    end_rows : HaveSame (versions d.table) (rows_of_versions c.definitions (trimmed c.table.floor (ended stamp k c.entities)))
    end_rows =
        let rows = rows_of c.definitions e in
        let before = rows_of_versions c.definitions (trimmed c.table.floor c.entities) in
        let one : versions d.table ≡ map (closed_in stamp rows) (versions c.table) = closed ∙ all_closed_map stamp h.a_stamp rows (versions c.table) in
        let two : rows_of_versions c.definitions (trimmed c.table.floor (ended stamp k c.entities)) ≡ map (closed_in stamp rows) before =
        ended_rows stamp h.a_stamp c.definitions k e c.table.floor h.floor c.entities suits in
        subst (λ (ts : List table.RowVersion). HaveSame ts (rows_of_versions c.definitions (trimmed c.table.floor (ended stamp k c.entities)))) (sym one)
        (subst (HaveSame (map (closed_in stamp rows) (versions c.table))) (sym two) (same-map (versions c.table) before h.rows (closed_in stamp rows)))

    pub end_kept : d.ends ≡ c.ends ++ record { stamp = stamp; key = k } ∷ [] → AreKept stamp d
    end_kept noted =
        kept_with (ended stamp k c.entities) is (indexable-ended stamp k c.entities h.indexable) (given-ended stamp k c.entities h.given)
        (Ascends-ended stamp k c.entities h.ascend) (histories-ended stamp k c.entities h.histories) end_rows
        (subst (λ es. AreNoted es (ended stamp k c.entities)) (sym noted) (noted-ended stamp k c.ends c.entities h.noted))

    all_undone_closed : (rows : List (List ℕ)) (vs : List table.RowVersion) → table.undone stamp (all_closed stamp vs rows) ≡ table.undone stamp vs
    all_undone_closed [] vs = refl
    all_undone_closed (r ∷ rows) vs = all_undone_closed rows (table.closed r stamp vs) ∙ undo_closed r stamp vs h.a_stamp

    pub end_leads : LeadsBack stamp k c d
    end_leads =
        leads k (ap (table.undone stamp) closed ∙ all_undone_closed (rows_of c.definitions e) (versions c.table))
        (λ keys among. ap (all_undone stamp keys) is ∙ undone-ended stamp k keys among c.entities)
        (subst (Each (BeginsBy stamp)) (sym is) (begun-given stamp (ended stamp k c.entities) (given-ended stamp k c.entities h.given)))

  -- ---- a beginning

  module _ (e : EntityParts) (lawful : IsIndexable e) (over : Each (IsOverAt stamp e.key) c.entities) where
    abbrev new : Version
    new = record { entity = e; from = stamp; until = None }

    new_given : IsGiven stamp new
    new_given = record { begins = omega arith; ends = tt }

    begin_rows : versions d.table ≡ all_added stamp (versions c.table) (rows_of c.definitions e)
        → HaveSame (versions d.table) (rows_of_versions c.definitions (trimmed c.table.floor (with_version new c.entities)))
    begin_rows added = λ p.
        let one = ap (counted p) added in
        let two = counted-added p stamp (rows_of c.definitions e) (versions c.table) in
        let three = h.rows p in
        let four = counted-with c.definitions c.table.floor p new c.entities refl in
        omega (arith, one, two, three, four)

    pub begin_kept : versions d.table ≡ all_added stamp (versions c.table) (rows_of c.definitions e) → d.entities ≡ with_version new c.entities
        → d.ends ≡ c.ends → AreKept stamp d
    begin_kept added is same =
        kept_with (with_version new c.entities) is (each-with (λ (v : Version). IsIndexable v.entity) new c.entities lawful h.indexable)
        (given-with stamp new c.entities new_given h.given)
        (Ascends-with new c.entities h.ascend) (histories-with new c.entities h.ascend over h.histories) (begin_rows added)
        (subst (λ es. AreNoted es (with_version new c.entities)) (sym same)
        (each-with (λ (v : Version). IsNotedEnd c.ends v.entity.key v.until) new c.entities tt h.noted))

    pub begin_leads : table.undone stamp (versions d.table) ≡ table.undone stamp (versions c.table) → d.entities ≡ with_version new c.entities
        → LeadsBack stamp e.key c d
    begin_leads undone is =
        leads e.key undone
        (λ keys among. ap (all_undone stamp keys) is ∙ undone-with stamp e.key keys among new refl refl c.entities)
        (subst (Each (BeginsBy stamp)) (sym is)
        (begun-given stamp (with_version new c.entities) (given-with stamp new c.entities new_given h.given)))

  -- ---- a part of a write

  pub part_leads : (k : KeyParts) → table.undone stamp (versions d.table) ≡ table.undone stamp (versions c.table) → d.entities ≡ c.entities
      → LeadsBack stamp k c d
  part_leads k undone is =
      leads k undone (λ keys among. ap (all_undone stamp keys) is)
      (subst (Each (BeginsBy stamp)) (sym is) (begun-given stamp c.entities h.given))

-- ---- which rows are alive

module _ (stamp : ℕ) (c : ContentsParts) (h : AreKept stamp c) (e : EntityParts) where
  pub rows_alive : (k : KeyParts) → option_map (λ (v : Version). v.entity) (find (is_current k) c.entities) ≡ Some e
      → Each (λ x. IsTrue (table.has_alive x (versions c.table))) (rows_of c.definitions e)
  rows_alive k found =
      each_more
      (λ x. list_any (table.is_alive x) (rows_of_versions c.definitions (trimmed c.table.floor c.entities)) ≡ true)
      (λ x. IsTrue (table.has_alive x (versions c.table)))
      (rows_of c.definitions e)
      (λ x alive. same-any (versions c.table) (rows_of_versions c.definitions (trimmed c.table.floor c.entities)) h.rows (table.is_alive x) ∙ alive)
      (alive_own c.definitions c.table.floor k e c.entities found)

  pub rows_not_alive : IsIndexable e → Each (IsOverAt stamp e.key) c.entities
      → Each (λ x. IsFalse (table.has_alive x (versions c.table))) (rows_of c.definitions e)
  rows_not_alive lawful over =
      each_more
      (λ x. list_any (table.is_alive x) (rows_of_versions c.definitions (trimmed c.table.floor c.entities)) ≡ false)
      (λ x. IsFalse (table.has_alive x (versions c.table)))
      (rows_of c.definitions e)
      (λ x none. same-any (versions c.table) (rows_of_versions c.definitions (trimmed c.table.floor c.entities)) h.rows (table.is_alive x) ∙ none)
      (none_left c.definitions stamp h.a_stamp e c.table.floor c.entities
      (each_two (λ (v : Version). IsIndexable v.entity) (IsOverAt stamp e.key) (Leaves c.definitions stamp e) c.entities
      (λ v p o. record {
        over = λ same. (o same).1;
        apart = λ other. apart c.definitions h.definitions e v.entity lawful p (turned v.entity.key e.key other);
      })
      h.indexable over))

-- ---- steps together

-- a key that is written is among those of the writes
pub among : (ws : List Write) (i : ℕ) (w : Write) → i < length ws → w ≡ get_or ws i w → IsTrue (list_any (same_key (key_of w)) (map key_of ws))
among [] i w h e = absurd (omega arith)
among (x ∷ ws) zero w h e =
    ap (λ b. b || list_any (same_key (key_of w)) (map key_of ws)) ((same_key-decides (key_of w) (key_of x)).1 (ap key_of e))
among (x ∷ ws) (suc i) w h e =
    or_true (same_key (key_of w) (key_of x)) (list_any (same_key (key_of w)) (map key_of ws)) (among ws i w (omega (arith, h)) e)

-- where the current entity of a key ended, each of its versions has
pub over-ended : (stamp : ℕ) (k : KeyParts) (vs : List Version) → Each (IsGiven stamp) vs → Each (IsOverAt stamp k) (ended stamp k vs)
over-ended stamp k [] g = tt
over-ended stamp k (v ∷ vs) g = by (same_key v.entity.key k) (is_open v.until) refl refl (over-ended stamp k vs g.1) where
  closed_by : (u : Option ℕ) → is_open u ≡ false → EndsWithin stamp u → EndsBy stamp u
  closed_by None e h = cc
  closed_by (Some u) e h = h

  by : (b o : Bool) → same_key v.entity.key k ≡ b → is_open v.until ≡ o → Each (IsOverAt stamp k) (ended stamp k vs)
      → Each (IsOverAt stamp k) (ended stamp k (v ∷ vs))
  by true true e f i = rw (e, f) ((λ s. (g.0.begins, (omega arith))), i)
  by true false e f i = rw (e, f) ((λ s. (g.0.begins, closed_by v.until f g.0.ends)), i)
  by false o e f i = rw e ((λ s. absurd (true_not_false (sym s ∙ e))), i)

-- what holds where it was refused and where it wasn't
pub either : {T E : Type 0} (r : Result T E) {P Q R : Type 0} → (P → R) → (Q → R) → OnOk r P → OnErr r Q → R
either (Ok x) f g p q = f p
either (Err e) f g p q = g q

pub back_on : (stamp : ℕ) (keys : List KeyParts) (b c d : ContentsParts) → LeadBack stamp keys b c → LeadBack stamp keys c d → LeadBack stamp keys b d
back_on stamp keys b c d p q = record {
  table = q.table ∙ p.table;
  entities = q.entities ∙ p.entities;
  ends = q.ends ∙ p.ends;
  floor = q.floor ∙ p.floor;
  least = q.least ∙ p.least;
  least_undone = q.least_undone ∙ p.least_undone;
  definitions = q.definitions ∙ p.definitions;
}

-- ---- taken back

pub is_back : (stamp : ℕ) (keys : List KeyParts) (before c d : ContentsParts) → AreKept stamp before → Each (IsGivenBefore stamp) before.entities
    → LeadBack stamp keys before c → versions d.table ≡ table.undone stamp (versions c.table) → d.entities ≡ all_undone stamp keys c.entities
    → Stays stamp c d → IsBack stamp before d
is_back stamp keys before c d h given back undone is s =
    let same : d.entities ≡ before.entities = is ∙ back.entities ∙ undone-given stamp keys before.entities given in
    let all : Stays stamp before d = record {
      definitions = s.definitions ∙ back.definitions;
      floor = s.floor ∙ back.floor;
      least = s.least ∙ back.least;
      least_undone = s.least_undone ∙ back.least_undone;
      last = s.last;
      ends = s.ends ∙ back.ends;
      by = s.by;
    } in
    let rows = rows_of_versions before.definitions (trimmed before.table.floor before.entities) in
    record {
      entities = same;
      definitions = all.definitions;
      floor = all.floor;
      kept = kept_with stamp before d h all before.entities same h.indexable h.given h.ascend h.histories
          (subst (λ (ts : List table.RowVersion). HaveSame ts rows) (sym (undone ∙ back.table))
          (subst (HaveSame (table.undone stamp (versions before.table))) (undone_rows stamp h.a_stamp before.definitions before.table.floor before.entities given)
          (same-filter_map (versions before.table) rows h.rows (table.before_stamp stamp))))
          (noted-others stamp before.ends d.ends all.ends before.entities given h.noted);
    }

-- ---- a floor that rises

pub record Falls (floor : ℕ) (c d : ContentsParts) : Type 0 where
  pub definitions : d.definitions ≡ c.definitions
  pub entities : d.entities ≡ trimmed floor c.entities
  pub noted : AreNoted d.ends d.entities
  pub still_by : (most : ℕ) → AreBy most c.ends → AreBy most d.ends
  pub trimmed_table : versions d.table ≡ table.trimmed floor (versions c.table)
  pub floor_is : d.table.floor ≡ floor
  pub last : d.table.last ≡ c.table.last
  pub least : d.table.least ≡ floor + 1
  pub least_undone : d.table.least_undone ≡ max floor c.table.last + 1

pub is_trimmed : (stamp floor : ℕ) (c d : ContentsParts) → AreKept stamp c → Falls floor c d → c.table.floor ≤ floor → floor < table.never
    → floor ≤ stamp → stamp + 1 < table.never → IsTrimmed stamp d
is_trimmed stamp floor c d h f rises below low high =
    let p = outlives floor in
    let given : Each (IsGiven stamp) d.entities = subst (Each (IsGiven stamp)) (sym f.entities) (given-filter stamp p c.entities h.given) in
    let rows = rows_of_versions c.definitions (trimmed c.table.floor c.entities) in
    let same_trimmed : trimmed floor c.entities ≡ trimmed floor d.entities =
    sym (ap (trimmed floor) f.entities ∙ trimmed-twice floor c.entities) in
    record {
      given = given;
      kept = record {
        definitions = subst AreDefs (sym f.definitions) h.definitions;
        indexable = subst (Each (λ (v : Version). IsIndexable v.entity)) (sym f.entities)
            (each-filter (λ (v : Version). IsIndexable v.entity) p c.entities h.indexable);
        given = given-later stamp (stamp + 1) d.entities (omega arith) given;
        ascend = subst (Ascends version_cmp) (sym f.entities) (Ascends-filter p c.entities h.ascend);
        histories = subst AreHistories (sym f.entities) (histories-filter p c.entities h.histories);
        rows = subst (HaveSame (versions d.table))
            (trimmed_rows c.definitions c.table.floor floor rises below c.entities
            ∙ (λ t. rows_of_versions (sym f.definitions t) (same_trimmed t))
            ∙ (λ t. rows_of_versions d.definitions (trimmed (sym f.floor_is t) d.entities)))
            (subst (λ (ts : List table.RowVersion). HaveSame ts (table.trimmed floor rows)) (sym f.trimmed_table)
            (same-filter (versions c.table) rows h.rows (λ v. nat_lt floor v.to)));
        noted = f.noted;
        ends = by_later stamp (stamp + 1) d.ends (omega arith) (f.still_by stamp h.ends);
        last = (let a = f.last in let b = h.last in omega (arith, a, b));
        least = (let a = f.least in omega (arith, a, low));
        least_undone = (let a = f.least_undone in let b = h.last in omega (arith, a, b, low));
        floor = (let a = f.floor_is in omega (arith, a, low));
        a_stamp = high;
      };
    }

-- ---- loops

-- one step of a fold over what is left
pub fold_next : {A B : Type 0} (f : B → A → B) (b : B) (xs : List A) (i : ℕ) (x : A) → i < length xs → x ≡ get_or xs i x → (next : B)
    → next ≡ f b x → (all : B) → fold f b (drop i xs) ≡ all → fold f next (drop (i + 1) xs) ≡ all
fold_next f b xs i x h e next is all inv =
    ap (λ c. fold f c (drop (i + 1) xs)) (is ∙ ap (f b) e) ∙ sym (ap (fold f b) (drop_more xs i x h)) ∙ inv
