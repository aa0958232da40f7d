-- A row is read column by column, in one way.
use Rattle.std.proofs.Common.{◌≡◌, ℕ, ◌+◌, ◌≤◌, Bool, true, false, List, [], ◌∷◌, ◌++◌, length, drop, sym, ap, ◌∙◌, refl, subst, get_or}
use Rattle.std.proofs.Common.{◌<◌, arith}
use Rattle.std.proofs.Common.{append_assoc, append-nil, length-append}
use Rattle.std.specs.Prelude.{◌↔◌, All}
use Rattle.std.proofs.lemmas.List.{drop_all, drop_more}
use Rattle.std.proofs.lemmas.List.Elements.{All-head, All-tail, All-cons, All-nil}
use Rattle.ds_base.specs.declared.column.Column.{Column}
use Rattle.ds_base.specs.declared.index_value.IndexValue.{IndexValue}
use Rattle.ds_base.specs.Keys.{KeyParts}
use Rattle.ds_bytes.specs.Encoding.{encoding, key_encoding}
use Rattle.ds_bytes.specs.EncodingLaws.{encoding-reads_once, key_encoding-reads_once}
use Rattle.ds_bytes.specs.Lawful.{IsLawfulKey, IsLawfulValue}
use Rattle.ds_bytes.specs.LawfulLaws.{key_of_bytes, value_of_bytes}
use Rattle.ds_bytes.specs.Reading.{Begins, NoneBegins}
use Rattle.ds_bytes.specs.Rows.{columns_bytes}
use Rattle.ds_base.specs.KeyColumn.{is_key_name}
use Rattle.ds_cursor.specs.RowsOfColumns.{IsRowIn, directions}
use Rattle.ds_cursor.specs.RowSteps.{NoneStands, Behind}

-- ---- columns

pub directions-key : (c : Column) (cs : List Column) → is_key_name c.name ≡ true → directions (c ∷ cs) ≡ directions cs
directions-key c cs is = rw is refl

pub directions-value : (c : Column) (cs : List Column) → is_key_name c.name ≡ false
    → directions (c ∷ cs) ≡ c.descending ∷ directions cs
directions-value c cs is = rw is refl

-- ---- values

pub within : {A : Type 0} (written : A → List ℕ) (bytes : List ℕ) (x : A) (n : ℕ) → Begins written bytes x n → n ≤ length bytes
within written bytes x n begins = omega (arith, begins.long, ap length begins.front, length-append (written x) (drop n bytes))

into : (d : Bool) (ds : List Bool) (kd : Bool) (bytes rest : List ℕ) (v : IndexValue) (n : ℕ) → IsLawfulValue v
    → Begins (encoding d) bytes v n → rest ≡ drop n bytes
    → (vs : List IndexValue) (k : KeyParts) → length vs ≡ length (d ∷ ds) → All IsLawfulValue vs → IsLawfulKey k
    → bytes ≡ columns_bytes (d ∷ ds) vs ++ key_encoding kd k → IsRowIn ds kd rest
into d ds kd bytes rest v n p begins at [] k long values key written = absurd (omega arith)
into d ds kd bytes rest v n p begins at (w ∷ ws) k long values key written =
    let split = written ∙ append_assoc (encoding d w) (columns_bytes ds ws) (key_encoding kd k) in
    let once = encoding-reads_once d v w (drop n bytes) (columns_bytes ds ws ++ key_encoding kd k) (value_of_bytes v p)
    (value_of_bytes w (All-head IsLawfulValue w ws values)) (sym begins.front ∙ split) in
    record {
      row = record { values = ws; key = k };
      long = omega arith;
      values = All-tail IsLawfulValue w ws values;
      key = key;
      written = at ∙ once.1;
    }

pub value_behind : (d : Bool) (bytes rest : List ℕ) (v : IndexValue) (n : ℕ) → IsLawfulValue v → Begins (encoding d) bytes v n
    → rest ≡ drop n bytes → Behind d bytes rest
value_behind d bytes rest v n p begins at ds kd = (
  λ r. into d ds kd bytes rest v n p begins at r.row.values r.row.key r.long r.values r.key r.written,
  λ r. record {
    row = record { values = v ∷ r.row.values; key = r.row.key };
    long = omega (arith, r.long);
    values = All-cons IsLawfulValue v r.row.values p r.values;
    key = r.key;
    written = begins.front ∙ ap (λ (bs : List ℕ). encoding d v ++ bs) (sym at ∙ r.written)
        ∙ sym (append_assoc (encoding d v) (columns_bytes ds r.row.values) (key_encoding kd r.row.key));
  },
)

none_with : (d : Bool) (ds : List Bool) (kd : Bool) (bytes : List ℕ) → NoneBegins IsLawfulValue (encoding d) bytes
    → (vs : List IndexValue) (k : KeyParts) → length vs ≡ length (d ∷ ds) → All IsLawfulValue vs
    → bytes ≡ columns_bytes (d ∷ ds) vs ++ key_encoding kd k → ⊥
none_with d ds kd bytes none [] k long values written = absurd (omega arith)
none_with d ds kd bytes none (w ∷ ws) k long values written =
    none w (columns_bytes ds ws ++ key_encoding kd k) (All-head IsLawfulValue w ws values)
    (written ∙ append_assoc (encoding d w) (columns_bytes ds ws) (key_encoding kd k))

pub no_value : (d : Bool) (bytes : List ℕ) → NoneBegins IsLawfulValue (encoding d) bytes → NoneStands d bytes
no_value d bytes none ds kd r = none_with d ds kd bytes none r.row.values r.row.key r.long r.values r.written

-- ---- the key

pub key_alone : (kd : Bool) (bytes : List ℕ) (k : KeyParts) (n : ℕ) → IsLawfulKey k → Begins (key_encoding kd) bytes k n
    → (n ≡ length bytes) ↔ IsRowIn [] kd bytes
key_alone kd bytes k n p begins = (
  λ whole. record {
    row = record { values = []; key = k };
    long = refl;
    values = All-nil IsLawfulValue;
    key = p;
    written = begins.front ∙ ap (λ (bs : List ℕ). key_encoding kd k ++ bs) (drop_all n bytes (omega arith))
        ∙ append-nil (key_encoding kd k);
  },
  λ r.
      let once = key_encoding-reads_once kd k r.row.key (drop n bytes) [] (key_of_bytes k p) (key_of_bytes r.row.key r.key)
      (sym begins.front ∙ r.written ∙ sym (append-nil (key_encoding kd r.row.key))) in
      begins.long ∙ sym (ap length (begins.front ∙ ap (λ (bs : List ℕ). key_encoding kd k ++ bs) once.1 ∙ append-nil (key_encoding kd k))),
)

pub no_key : (kd : Bool) (bytes : List ℕ) → NoneBegins IsLawfulKey (key_encoding kd) bytes → IsRowIn [] kd bytes → ⊥
no_key kd bytes none r = none r.row.key [] r.key (r.written ∙ sym (append-nil (key_encoding kd r.row.key)))

-- ---- a loop over the columns

-- a column with a value behind the first i of them
pub value_step : (columns : List Column) (i : ℕ) (c : Column) (kd : Bool) (bytes rest behind : List ℕ) → i < length columns
    → c ≡ get_or columns i c → is_key_name c.name ≡ false → Behind c.descending rest behind
    → (IsRowIn (directions columns) kd bytes ↔ IsRowIn (directions (drop i columns)) kd rest)
    → IsRowIn (directions columns) kd bytes ↔ IsRowIn (directions (drop (i + 1) columns)) kd behind
value_step columns i c kd bytes rest behind below at other step so_far =
    let later : List Column = drop (i + 1) columns in
    let split : drop i columns ≡ c ∷ later = drop_more columns i c below ∙ ap (λ (x : Column). x ∷ later) (sym at) in
    let here : directions (drop i columns) ≡ c.descending ∷ directions later = ap directions split ∙ directions-value c later other in
    let both = step (directions later) kd in (
      λ r. both.0 (subst (λ (ds : List Bool). IsRowIn ds kd rest) here (so_far.0 r)),
      λ r. so_far.1 (subst (λ (ds : List Bool). IsRowIn ds kd rest) (sym here) (both.1 r)),
    )

-- the column `__key__`, which has no value there
pub key_step : (columns : List Column) (i : ℕ) (c : Column) (kd : Bool) (bytes rest : List ℕ) → i < length columns
    → c ≡ get_or columns i c → is_key_name c.name ≡ true
    → (IsRowIn (directions columns) kd bytes ↔ IsRowIn (directions (drop i columns)) kd rest)
    → IsRowIn (directions columns) kd bytes ↔ IsRowIn (directions (drop (i + 1) columns)) kd rest
key_step columns i c kd bytes rest below at key so_far =
    let later : List Column = drop (i + 1) columns in
    let split : drop i columns ≡ c ∷ later = drop_more columns i c below ∙ ap (λ (x : Column). x ∷ later) (sym at) in
    let here : directions (drop i columns) ≡ directions later = ap directions split ∙ directions-key c later key in (
      λ r. subst (λ (ds : List Bool). IsRowIn ds kd rest) here (so_far.0 r),
      λ r. so_far.1 (subst (λ (ds : List Bool). IsRowIn ds kd rest) (sym here) r),
    )
