-- A row that is read back column by column.
use Rattle.std.proofs.Common.{◌≡◌, ℕ, ◌+◌, ◌≤◌, ◌<◌, List, [], ◌∷◌, ◌++◌, length, drop, get_or, Bool, true, false, refl, sym, ap}
use Rattle.std.proofs.Common.{◌∙◌, arith, append_assoc, append-nil}
use Rattle.std.specs.Prelude.{All}
use Rattle.std.proofs.lemmas.List.{drop_all, drop_more}
use Rattle.std.proofs.lemmas.List.Elements.{All-head, All-tail}
use Rattle.ds_base.specs.declared.column.Column.{Column}
use Rattle.ds_base.specs.declared.index_value.IndexValue.{IndexValue}
use Rattle.ds_base.specs.Keys.{KeyParts}
use Rattle.ds_bytes.specs.Encoding.{encoding, key_encoding}
use Rattle.ds_bytes.specs.EncodingLaws.{encoding-reads_once, key_encoding-reads_once}
use Rattle.ds_bytes.specs.Lawful.{IsLawfulKey, IsLawfulValue}
use Rattle.ds_bytes.specs.LawfulLaws.{key_of_bytes, value_of_bytes}
use Rattle.ds_bytes.specs.Reading.{Begins, NoneBegins}
use Rattle.ds_bytes.specs.Rows.{RowParts, columns_bytes}
use Rattle.ds_base.specs.KeyColumn.{is_key_name, key_descends}
use Rattle.ds_query.specs.declared.row.Row.{Row}
use Rattle.ds_cursor.specs.RowsOfColumns.{directions, IsRowOf}
use Rattle.ds_cursor.proofs.RowLemmas.{directions-key, directions-value}
use Rattle.ds_pages.specs.Places.{IsPlaced, placed}
use Rattle.ds_branch.specs.Reading.{ValueStands, KeyStands, StandBehind}

-- ---- what stands at the front

pub value_found : (d : Bool) (bytes rest : List ℕ) (v : IndexValue) (n : ℕ) → IsLawfulValue v → Begins (encoding d) bytes v n
    → rest ≡ drop n bytes → (w : IndexValue) (more : List ℕ) → IsLawfulValue w → bytes ≡ encoding d w ++ more → (v ≡ w) × (rest ≡ more)
value_found d bytes rest v n p begins at_rest w more q written =
    let once = encoding-reads_once d v w (drop n bytes) more (value_of_bytes v p) (value_of_bytes w q) (sym begins.front ∙ written) in
    (once.0, at_rest ∙ once.1)

pub key_found : (d : Bool) (bytes : List ℕ) (k : KeyParts) (n : ℕ) → IsLawfulKey k → Begins (key_encoding d) bytes k n
    → (l : KeyParts) → IsLawfulKey l → bytes ≡ key_encoding d l → k ≡ l
key_found d bytes k n p begins l q written =
    (key_encoding-reads_once d k l (drop n bytes) [] (key_of_bytes k p) (key_of_bytes l q)
    (sym begins.front ∙ written ∙ sym (append-nil (key_encoding d l)))).0

pub no_value : (d : Bool) (bytes : List ℕ) → NoneBegins IsLawfulValue (encoding d) bytes → ValueStands d bytes → ⊥
no_value d bytes none stands = none stands.value stands.more stands.lawful stands.written

pub no_key : (d : Bool) (bytes : List ℕ) → NoneBegins IsLawfulKey (key_encoding d) bytes → KeyStands d bytes → ⊥
no_key d bytes none stands = none stands.key [] stands.lawful (stands.written ∙ sym (append-nil (key_encoding d stands.key)))

-- ---- what is left of a row

-- behind the first i columns: the values of those that are left, and the key
pub record IsLeft (columns : List Column) (i : ℕ) (kd : Bool) (values : List IndexValue) (rest : List ℕ) (row : RowParts) : Type 0 where
  pub left : List IndexValue
  pub whole : row.values ≡ values ++ left
  pub long : length left ≡ length (directions (drop i columns))
  pub lawful : All IsLawfulValue left
  pub bytes : rest ≡ columns_bytes (directions (drop i columns)) left ++ key_encoding kd row.key

-- a column with a value is next
record IsNext (columns : List Column) (i : ℕ) (d kd : Bool) (values : List IndexValue) (rest : List ℕ) (row : RowParts) : Type 0 where
  value : IndexValue
  more : List IndexValue
  whole : row.values ≡ values ++ value ∷ more
  long : length more ≡ length (directions (drop (i + 1) columns))
  first : IsLawfulValue value
  others : All IsLawfulValue more
  bytes : rest ≡ encoding d value ++ (columns_bytes (directions (drop (i + 1) columns)) more ++ key_encoding kd row.key)

next : (columns : List Column) (i : ℕ) (c : Column) (kd : Bool) (values : List IndexValue) (rest : List ℕ) (row : RowParts)
    → i < length columns → c ≡ get_or columns i c → is_key_name c.name ≡ false → IsLeft columns i kd values rest row
    → IsNext columns i c.descending kd values rest row
next columns i c kd values rest row below at_i other is = by is.left is.whole (is.long ∙ ap length here) is.lawful (is.bytes
    ∙ ap (λ (ds : List Bool). columns_bytes ds is.left ++ key_encoding kd row.key) here) where
      later : List Column
      later = drop (i + 1) columns

      here : directions (drop i columns) ≡ c.descending ∷ directions (drop (i + 1) columns)
      here = ap directions (drop_more columns i c below ∙ ap (λ (x : Column). x ∷ drop (i + 1) columns) (sym at_i))
          ∙ directions-value c (drop (i + 1) columns) other

      by : (left : List IndexValue) → row.values ≡ values ++ left → length left ≡ length (c.descending ∷ directions (drop (i + 1) columns))
          → All IsLawfulValue left → rest ≡ columns_bytes (c.descending ∷ directions (drop (i + 1) columns)) left ++ key_encoding kd row.key
          → IsNext columns i c.descending kd values rest row
      by [] whole long lawful bytes = absurd (omega arith)
      by (v ∷ vs) whole long lawful bytes = record {
        value = v;
        more = vs;
        whole = whole;
        long = omega (arith, long);
        first = All-head IsLawfulValue v vs lawful;
        others = All-tail IsLawfulValue v vs lawful;
        bytes = bytes
            ∙ append_assoc (encoding c.descending v) (columns_bytes (directions (drop (i + 1) columns)) vs) (key_encoding kd row.key);
      }

module _ (columns : List Column) (i : ℕ) (c : Column) (kd : Bool) (values : List IndexValue) (rest : List ℕ) (row : RowParts)
    (below : i < length columns) (at_i : c ≡ get_or columns i c) (is : IsLeft columns i kd values rest row) where
  pub value_stands : is_key_name c.name ≡ false → ValueStands c.descending rest
  value_stands other =
      let n = next columns i c kd values rest row below at_i other is in
      record {
        value = n.value;
        more = columns_bytes (directions (drop (i + 1) columns)) n.more ++ key_encoding kd row.key;
        lawful = n.first;
        written = n.bytes;
      }

  pub value_read : is_key_name c.name ≡ false → (values' : List IndexValue) (rest' : List ℕ)
      → ((v : IndexValue) (more : List ℕ) → IsLawfulValue v → rest ≡ encoding c.descending v ++ more → (values' ≡ values
      ++ v ∷ []) × (rest' ≡ more))
      → IsLeft columns (i + 1) kd values' rest' row
  value_read other values' rest' read =
      let n = next columns i c kd values rest row below at_i other is in
      let r = read n.value (columns_bytes (directions (drop (i + 1) columns)) n.more ++ key_encoding kd row.key) n.first n.bytes in
      record {
        left = n.more;
        whole = n.whole ∙ sym (append_assoc values (n.value ∷ []) n.more) ∙ ap (λ (vs : List IndexValue). vs ++ n.more) (sym r.0);
        long = n.long;
        lawful = n.others;
        bytes = r.1;
      }

  pub key_passed : is_key_name c.name ≡ true → IsLeft columns (i + 1) kd values rest row
  key_passed key =
      let here : directions (drop i columns) ≡ directions (drop (i + 1) columns) =
      ap directions (drop_more columns i c below ∙ ap (λ (x : Column). x ∷ drop (i + 1) columns) (sym at_i))
      ∙ directions-key c (drop (i + 1) columns) key in
      record {
        left = is.left;
        whole = is.whole;
        long = is.long ∙ ap length here;
        lawful = is.lawful;
        bytes = is.bytes ∙ ap (λ (ds : List Bool). columns_bytes ds is.left ++ key_encoding kd row.key) here;
      }

-- behind all columns the key stands
key_left : (columns : List Column) (i : ℕ) (kd : Bool) (values : List IndexValue) (rest : List ℕ) (row : RowParts) → length columns ≤ i
    → IsLeft columns i kd values rest row → (row.values ≡ values) × (rest ≡ key_encoding kd row.key)
key_left columns i kd values rest row past is = by is.left is.whole (is.long ∙ ap (λ (cs : List Column). length (directions cs)) none)
    (is.bytes ∙ ap (λ (cs : List Column). columns_bytes (directions cs) is.left ++ key_encoding kd row.key) none) where
      none : drop i columns ≡ []
      none = drop_all i columns past

      by : (left : List IndexValue) → row.values ≡ values ++ left → length left ≡ 0
          → rest ≡ columns_bytes [] left ++ key_encoding kd row.key → (row.values ≡ values) × (rest ≡ key_encoding kd row.key)
      by [] whole long bytes = (whole ∙ append-nil values, bytes)
      by (v ∷ vs) whole long bytes = absurd (omega arith)

pub all_read : (columns : List Column) (i : ℕ) (values : List IndexValue) (rest : List ℕ) (row : RowParts) → length columns ≤ i
    → IsLeft columns i (key_descends columns) values rest row → StandBehind columns values rest row
all_read columns i values rest row past is =
    let left = key_left columns i (key_descends columns) values rest row past is in
    record { read = left.0; stands = left.1 }

-- before all columns nothing is read
pub none_read : (columns : List Column) (bytes : List ℕ) (values : List IndexValue) → values ≡ [] → (r : IsRowOf columns bytes)
    → IsLeft columns 0 (key_descends columns) values bytes r.row
none_read columns bytes values none r = record {
  left = r.row.values;
  whole = ap (λ (vs : List IndexValue). vs ++ r.row.values) (sym none);
  long = r.long;
  lawful = r.values;
  bytes = r.written;
}

pub key_stands : (columns : List Column) (bytes : List ℕ) (values : List IndexValue) (key : List ℕ) (r : IsRowOf columns bytes)
    → StandBehind columns values key r.row → KeyStands (key_descends columns) key
key_stands columns bytes values key r stand = record { key = r.row.key; lawful = r.key; written = stand.stands }

pub row_made : (columns : List Column) (bytes : List ℕ) (values : List IndexValue) (stood : List ℕ) (key : KeyParts) (row : Row)
    (r : IsRowOf columns bytes) → StandBehind columns values stood r.row → key ≡ r.row.key
    → row ≡ record { key = key; values = values; place = record { bytes = bytes } } → row ≡ placed columns r.row
row_made columns bytes values stood key row r stand same made =
    made ∙ (λ t. record { key = same t; values = sym stand.read t; place = record { bytes = r.written t } })

-- the row that stands in bytes has its place there
pub is_placed : (columns : List Column) (bytes : List ℕ) (r : IsRowOf columns bytes) → IsPlaced columns (placed columns r.row)
is_placed columns bytes r = record {
  lawful = record {
    long = r.long;
    values = λ k d below. value_of_bytes _ (r.values k d below);
    key = key_of_bytes r.row.key r.key;
  };
  place = refl;
}
