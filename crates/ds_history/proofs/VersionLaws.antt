-- The versions of a key, one after another, and what the last counted one leaves.
use Rattle.std.proofs.Common.{◌≡◌, ℕ, zero, suc, ◌+◌, ◌-◌, ◌<◌, ◌≤◌, Bool, true, false, cond, List, [], ◌∷◌, ◌++◌, length, take, get_or}
use Rattle.std.proofs.Common.{refl, ap, sym, ◌∙◌, arith, Option, None, append-nil, append_assoc, map}
use Rattle.std.specs.List.{range_with_len}
use Rattle.std.specs.Prelude.{bytes_eq, fold, nat_lt, OnOk, Result, Ok, Err}
use Rattle.std.specs.declared.alloc.AllocError.{AllocError}
use Rattle.std.specs.Cmp.Lexicographic.{bytes_decides}
use Rattle.std.proofs.lemmas.Bool.Decides.{nat_tests}
use Rattle.std.proofs.lemmas.Grind.{fold-append, flat_map-append}
use Rattle.std.proofs.lemmas.List.{take_more}
use Rattle.ds_base.specs.Keys.{KeyParts}
use Rattle.ds_base.specs.KeyOrder.{same_key}
use Rattle.ds_entity.specs.Entities.{EntityParts}
use Rattle.ds_log.specs.declared.Entry.{Entry}
use Rattle.ds_log.specs.declared.Write.{Write}
use Rattle.ds_log.specs.Logs.{entry_writes, key_of}
use Rattle.ds_model.specs.Results.{entity_of}
use Rattle.ds_model.specs.Sessions.{count_of}
use Rattle.ds_model.specs.Views.{counted, global_view}
use Rattle.ds_model.proofs.GroupViews.{same_key-equal}
use Rattle.ds_rows.specs.IndexedValues.{kind_of}
use Rattle.ds_history.specs.Versions.{Keys, Kinds, Versions, entries_versions, is_counted, keys_in}
use Rattle.ds_history.specs.Versions.{listed, numbered, seen_at, seen_in, seen_of}
use Rattle.ds_history.specs.Versions.{versions_at, versions_in, versions_of, write_version, writes_versions}
use Rattle.ds_history.specs.Writers.{left_at, put_by}
use Rattle.ds_history.specs.declared.versions.Version.{Version}
use Rattle.ds_history.proofs.Found.{found_writes}

-- ---- one element more

numbered-push : {A B : Type 0} (f : ℕ → A → List B) (n : ℕ) (xs : List A) (x : A)
    → numbered f n (xs ++ x ∷ []) ≡ numbered f n xs ++ f (n + length xs) x
numbered-push f n [] x = append-nil (f n x) ∙ ap (λ m. f m x) (let e : n ≡ n + 0 = omega arith in e)
numbered-push f n (y ∷ ys) x =
    ap (λ zs. f n y ++ zs)
    (numbered-push f (n + 1) ys x
    ∙ ap (λ m. numbered f (n + 1) ys ++ f m x) (let e : n + 1 + length ys ≡ n + suc (length ys) = omega arith in e))
    ∙ sym (append_assoc (f n y) (numbered f (n + 1) ys) (f (n + suc (length ys)) x))

taken : {A : Type 0} (i : ℕ) (xs : List A) → i < length xs → length (take i xs) ≡ i
taken i [] below = absurd (omega (arith, below))
taken zero (x ∷ xs) below = refl
taken (suc i) (x ∷ xs) below = ap suc (taken i xs (let w : i < length xs = omega (arith, below) in w))

-- behind what the first elements gave stands what one more gives
pub numbered_more : {A B : Type 0} (f : ℕ → A → List B) (xs : List A) (i : ℕ) (x d : A) → i < length xs → x ≡ get_or xs i d
    → numbered f 0 (take (i + 1) xs) ≡ numbered f 0 (take i xs) ++ f i x
numbered_more f xs i x d below is =
    ap (numbered f 0) (take_more xs i d below ∙ ap (λ y. take i xs ++ y ∷ []) (sym is))
    ∙ numbered-push f 0 (take i xs) x
    ∙ ap (λ m. numbered f 0 (take i xs) ++ f m x) (let e : 0 + length (take i xs) ≡ i = omega (arith, taken i xs below) in e)

-- and behind what the first numbers gave
shards_from : {A B : Type 0} (f : ℕ → A → List B) (g : ℕ → A) (m n : ℕ)
    → numbered f m (map g (range_with_len m (suc n))) ≡ numbered f m (map g (range_with_len m n)) ++ f (m + n) (g (m + n))
shards_from f g m zero = append-nil (f m (g m)) ∙ ap (λ k. f k (g k)) (let e : m ≡ m + 0 = omega arith in e)
shards_from f g m (suc n) =
    ap (λ zs. f m (g m) ++ zs)
    (shards_from f g (m + 1) n
    ∙ ap (λ k. numbered f (m + 1) (map g (range_with_len (m + 1) n)) ++ f k (g k)) (let e : m + 1 + n ≡ m + suc n = omega arith in e))
    ∙ sym (append_assoc (f m (g m)) (numbered f (m + 1) (map g (range_with_len (m + 1) n))) (f (m + suc n) (g (m + suc n))))

pub shards_more : {A B : Type 0} (f : ℕ → A → List B) (g : ℕ → A) (n : ℕ)
    → numbered f 0 (map g (range_with_len 0 (n + 1))) ≡ numbered f 0 (map g (range_with_len 0 n)) ++ f n (g n)
shards_more f g n =
    ap (λ k. numbered f 0 (map g (range_with_len 0 k))) (let e : n + 1 ≡ suc n = omega arith in e)
    ∙ shards_from f g 0 n
    ∙ ap (λ k. numbered f 0 (map g (range_with_len 0 n)) ++ f k (g k)) (let e : 0 + n ≡ n = omega arith in e)

-- ---- at counts

module _ (counts : List ℕ) (k : KeyParts) where
  abbrev step : Option EntityParts → Version → Option EntityParts
  step o v = cond (is_counted counts v) v.left o

  -- a write of a counted entry leaves what it puts, and one of another leaves what was there
  one_write : (s i : ℕ) (b : Bool) (o : Option EntityParts) (w : Write) → nat_lt i (count_of counts s) ≡ b
      → fold step o (write_version s i k w) ≡ cond b (left_at k o w) o
  one_write s i b o w is = by (same_key (key_of w) k) b is where
    by : (c d : Bool) → nat_lt i (count_of counts s) ≡ d
        → fold step o (cond c (record { shard = s; entry = i; left = put_by w } ∷ []) []) ≡ cond d (cond c (put_by w) o) o
    by true d is = ap (λ e. cond e (put_by w) o) is
    by false true is = refl
    by false false is = refl

  counted_writes : (s i : ℕ) (o : Option EntityParts) (ws : List Write) → nat_lt i (count_of counts s) ≡ true
      → fold step o (writes_versions s i k ws) ≡ fold (left_at k) o ws
  counted_writes s i o [] is = refl
  counted_writes s i o (w ∷ ws) is =
      fold-append step o (write_version s i k w) (writes_versions s i k ws)
      ∙ ap (λ p. fold step p (writes_versions s i k ws)) (one_write s i true o w is)
      ∙ counted_writes s i (left_at k o w) ws is

  other_writes : (s i : ℕ) (o : Option EntityParts) (ws : List Write) → nat_lt i (count_of counts s) ≡ false
      → fold step o (writes_versions s i k ws) ≡ o
  other_writes s i o [] is = refl
  other_writes s i o (w ∷ ws) is =
      fold-append step o (write_version s i k w) (writes_versions s i k ws)
      ∙ ap (λ p. fold step p (writes_versions s i k ws)) (one_write s i false o w is)
      ∙ other_writes s i o ws is

  abbrev from : ℕ → ℕ → List Entry → List Version
  from s = numbered (λ i (e : Entry). writes_versions s i k e.writes)

  not_below : (n m : ℕ) → m ≤ n → nat_lt n m ≡ false
  not_below n m high = grind (arith, nat_tests)

  below : (n m : ℕ) → n < m → nat_lt n m ≡ true
  below n m low = grind (arith, nat_tests)

  other_entries : (s n : ℕ) (o : Option EntityParts) (es : List Entry) → count_of counts s ≤ n → fold step o (from s n es) ≡ o
  other_entries s n o [] past = refl
  other_entries s n o (e ∷ es) past =
      fold-append step o (writes_versions s n k e.writes) (from s (n + 1) es)
      ∙ ap (λ p. fold step p (from s (n + 1) es)) (other_writes s n o e.writes (not_below n (count_of counts s) past))
      ∙ other_entries s (n + 1) o es (omega (arith, past))

  first_entries : (s n m : ℕ) (o : Option EntityParts) (es : List Entry) → count_of counts s ≡ n + m
      → fold step o (from s n es) ≡ fold (left_at k) o (entry_writes (take m es))
  first_entries s n zero o es is = other_entries s n o es (omega (arith, is))
  first_entries s n (suc m) o [] is = refl
  first_entries s n (suc m) o (e ∷ es) is =
      fold-append step o (writes_versions s n k e.writes) (from s (n + 1) es)
      ∙ ap (λ p. fold step p (from s (n + 1) es)) (counted_writes s n o e.writes (below n (count_of counts s) (omega (arith, is))))
      ∙ first_entries s (n + 1) m (fold (left_at k) o e.writes) es (let f : count_of counts s ≡ n + 1 + m = omega (arith, is) in f)
      ∙ sym (fold-append (left_at k) o e.writes (entry_writes (take m es)))

  abbrev all_from : ℕ → List (List Entry) → List Version
  all_from = numbered (λ s entries. entries_versions s k entries)

  all_entries : (s : ℕ) (rest : List ℕ) (o : Option EntityParts) (lists : List (List Entry))
      → ((i : ℕ) → count_of counts (s + i) ≡ count_of rest i)
      → fold step o (all_from s lists) ≡ fold (left_at k) o (entry_writes (counted lists rest))
  all_entries s rest o [] are = refl
  all_entries s [] o (es ∷ lists) are =
      fold-append step o (entries_versions s k es) (all_from (s + 1) lists)
      ∙ ap (λ p. fold step p (all_from (s + 1) lists))
      (first_entries s 0 0 o es (ap (count_of counts) (let e : s ≡ s + 0 = omega arith in e) ∙ are 0))
      ∙ all_entries (s + 1) [] o lists (λ i. ap (count_of counts) (let e : s + 1 + i ≡ s + suc i = omega arith in e) ∙ are (suc i))
      ∙ ap (λ (es : List Entry). fold (left_at k) o (entry_writes es)) (none_counted lists) where
        none_counted : (lists : List (List Entry)) → counted lists [] ≡ []
        none_counted [] = refl
        none_counted (es ∷ lists) = refl
  all_entries s (c ∷ rest) o (es ∷ lists) are =
      fold-append step o (entries_versions s k es) (all_from (s + 1) lists)
      ∙ ap (λ p. fold step p (all_from (s + 1) lists))
      (first_entries s 0 c o es
      (let own : count_of counts s ≡ c = ap (count_of counts) (let e : s ≡ s + 0 = omega arith in e) ∙ are 0 in
      let e : count_of counts s ≡ 0 + c = omega (arith, own) in e))
      ∙ all_entries (s + 1) rest (fold (left_at k) o (entry_writes (take c es))) lists
      (λ i. ap (count_of counts) (let e : s + 1 + i ≡ s + suc i = omega arith in e) ∙ are (suc i))
      ∙ sym (fold-append (left_at k) o (entry_writes (take c es)) (entry_writes (counted lists rest)))
      ∙ ap (fold (left_at k) o) (sym (flat_map-append (λ (e : Entry). e.writes) (take c es) (counted lists rest)))

-- the last counted version of a key leaves what all counted entries leave there
pub seen_versions : (counts : List ℕ) (k : KeyParts) (lists : List (List Entry))
    → seen_at counts (versions_of k lists) ≡ entity_of (global_view lists counts) k
seen_versions counts k lists =
    all_entries counts k 0 counts None lists (λ i. ap (count_of counts) (let e : 0 + i ≡ i = omega arith in e))
    ∙ sym (found_writes k [] (entry_writes (counted lists counts)))

-- ---- looked for from the end

-- the last of the first versions tells where it is counted, and else those before it
pub seen_back : (counts : List ℕ) (vs : List Version) (n : ℕ) (v d : Version) → 1 ≤ n → n ≤ length vs → v ≡ get_or vs (n - 1) d
    → seen_at counts (take n vs) ≡ cond (is_counted counts v) v.left (seen_at counts (take (n - 1) vs))
seen_back counts vs n v d some within is =
    let below : n - 1 < length vs = omega (arith, some, within) in
    ap (λ m. seen_at counts (take m vs)) (let e : n ≡ n - 1 + 1 = omega (arith, some) in e)
    ∙ ap (seen_at counts) (take_more vs (n - 1) d below ∙ ap (λ u. take (n - 1) vs ++ u ∷ []) (sym is))
    ∙ fold-append (λ (o : Option EntityParts) (u : Version). cond (is_counted counts u) u.left o) None (take (n - 1) vs) (v ∷ [])

-- ---- one version more

noted : (b : Bool) (vs : List Version) (v : Version) → cond b (vs ++ v ∷ []) vs ≡ vs ++ cond b (v ∷ []) []
noted true vs v = refl
noted false vs v = sym (append-nil vs)

-- a write is noted behind those before it
pub noted_write : (s e : ℕ) (k : KeyParts) (ws : List Write) (i : ℕ) (w d : Write) (key : KeyParts) (left : Option EntityParts)
    (first now after : List Version) → i < length ws → w ≡ get_or ws i d → key ≡ key_of w → left ≡ put_by w
    → now ≡ first ++ writes_versions s e k (take i ws)
    → after ≡ cond (same_key key k) (now ++ record { shard = s; entry = e; left = left } ∷ []) now
    → after ≡ first ++ writes_versions s e k (take (i + 1) ws)
noted_write s e k ws i w d key left first now after below is to puts so_far more =
    more
    ∙ noted (same_key key k) now (record { shard = s; entry = e; left = left })
    ∙ ap (λ l. now ++ cond (same_key l k) (record { shard = s; entry = e; left = left } ∷ []) []) to
    ∙ ap (λ o. now ++ cond (same_key (key_of w) k) (record { shard = s; entry = e; left = o } ∷ []) []) puts
    ∙ ap (λ vs. vs ++ write_version s e k w) so_far
    ∙ append_assoc first (writes_versions s e k (take i ws)) (write_version s e k w)
    ∙ ap (λ vs. first ++ vs)
    (sym (ap (writes_versions s e k) (take_more ws i d below ∙ ap (λ u. take i ws ++ u ∷ []) (sym is))
    ∙ flat_map-append (write_version s e k) (take i ws) (w ∷ [])
    ∙ ap (λ vs. writes_versions s e k (take i ws) ++ vs) (append-nil (write_version s e k w))))

-- an entry is noted behind those before it
pub noted_entry : (s : ℕ) (k : KeyParts) (es : List Entry) (i : ℕ) (e d : Entry) (writes : List Write) (first now after : List Version)
    → i < length es → e ≡ get_or es i d → writes ≡ e.writes → now ≡ first ++ entries_versions s k (take i es)
    → after ≡ now ++ writes_versions s i k writes → after ≡ first ++ entries_versions s k (take (i + 1) es)
noted_entry s k es i e d writes first now after below is of_entry so_far more =
    more
    ∙ ap (λ ws. now ++ writes_versions s i k ws) of_entry
    ∙ ap (λ vs. vs ++ writes_versions s i k e.writes) so_far
    ∙ append_assoc first (entries_versions s k (take i es)) (writes_versions s i k e.writes)
    ∙ ap (λ vs. first ++ vs) (sym (numbered_more (λ n (f : Entry). writes_versions s n k f.writes) es i e d below is))

-- the versions of a key are taken out, and put back with one more
pub noted_versions : (key k : KeyParts) (v : Version) (old mid new : Keys) (taken more : List Version) → taken ≡ versions_at old key
    → versions_at mid k ≡ cond (same_key key k) [] (versions_at old k) → more ≡ taken ++ v ∷ []
    → versions_at new k ≡ cond (same_key key k) more (versions_at mid k)
    → versions_at new k ≡ cond (same_key key k) (versions_at old k ++ v ∷ []) (versions_at old k)
noted_versions key k v old mid new taken more is left with put = put ∙ by (same_key key k) refl where
  by : (b : Bool) → same_key key k ≡ b → cond b more (versions_at mid k) ≡ cond b (versions_at old k ++ v ∷ []) (versions_at old k)
  by true same = with ∙ ap (λ vs. vs ++ v ∷ []) (is ∙ ap (versions_at old) (same_key-equal key k same))
  by false same = left ∙ ap (λ b. cond b [] (versions_at old k)) same

-- and so are the keys of a kind
pub noted_kind : (key k : KeyParts) (kind : List ℕ) (v : Version) (old mid new : Kinds) (keys more : Keys) → kind ≡ kind_of key
    → keys ≡ keys_in old kind → versions_in mid k ≡ cond (bytes_eq kind (kind_of k)) [] (versions_in old k)
    → versions_at more k ≡ cond (same_key key k) (versions_at keys k ++ v ∷ []) (versions_at keys k)
    → versions_in new k ≡ cond (bytes_eq kind (kind_of k)) (versions_at more k) (versions_in mid k)
    → versions_in new k ≡ cond (same_key key k) (versions_in old k ++ v ∷ []) (versions_in old k)
noted_kind key k kind v old mid new keys more of_key own left with put = put ∙ by (bytes_eq kind (kind_of k)) refl where
  apart : false ≡ true → ⊥
  apart e = cc

  other : bytes_eq kind (kind_of k) ≡ false → (c : Bool) → same_key key k ≡ c → c ≡ false
  other is false same = refl
  other is true same =
      absurd (apart (sym is ∙ (bytes_decides kind (kind_of k)).1 (of_key ∙ ap kind_of (same_key-equal key k same))))

  by : (b : Bool) → bytes_eq kind (kind_of k) ≡ b
      → cond b (versions_at more k) (versions_in mid k) ≡ cond (same_key key k) (versions_in old k ++ v ∷ []) (versions_in old k)
  by true is =
      let same : versions_at keys k ≡ versions_in old k =
      ap (λ xs. versions_at xs k) (own ∙ ap (keys_in old) ((bytes_decides kind (kind_of k)).0 is)) in
      with ∙ ap (λ vs. cond (same_key key k) (vs ++ v ∷ []) vs) same
  by false is =
      left ∙ ap (λ b. cond b [] (versions_in old k)) is
      ∙ sym (ap (λ b. cond b (versions_in old k ++ v ∷ []) (versions_in old k)) (other is (same_key key k) refl))

-- so where nothing was refused
module _ (key : KeyParts) (v : Version) (r : Result (Unit {0}) AllocError) where
  pub noted_at : (old mid new : Keys) (taken more : List Version) → taken ≡ versions_at old key
      → ((k : KeyParts) → versions_at mid k ≡ cond (same_key key k) [] (versions_at old k)) → more ≡ taken ++ v ∷ []
      → OnOk r ((k : KeyParts) → versions_at new k ≡ cond (same_key key k) more (versions_at mid k))
      → OnOk r ((k : KeyParts) → versions_at new k ≡ cond (same_key key k) (versions_at old k ++ v ∷ []) (versions_at old k))
  noted_at old mid new taken more is left with put = by r put where
    by : (q : Result (Unit {0}) AllocError) → OnOk q ((k : KeyParts) → versions_at new k ≡ cond (same_key key k) more (versions_at mid k))
        → OnOk q ((k : KeyParts) → versions_at new k ≡ cond (same_key key k) (versions_at old k ++ v ∷ []) (versions_at old k))
    by (Ok x) put = λ k. noted_versions key k v old mid new taken more is (left k) with (put k)
    by (Err e) put = tt

  pub noted_in : (kind : List ℕ) (old mid new : Kinds) (keys more : Keys) → kind ≡ kind_of key → keys ≡ keys_in old kind
      → ((k : KeyParts) → versions_in mid k ≡ cond (bytes_eq kind (kind_of k)) [] (versions_in old k))
      → ((k : KeyParts) → versions_at more k ≡ cond (same_key key k) (versions_at keys k ++ v ∷ []) (versions_at keys k))
      → OnOk r ((k : KeyParts) → versions_in new k ≡ cond (bytes_eq kind (kind_of k)) (versions_at more k) (versions_in mid k))
      → OnOk r ((k : KeyParts) → versions_in new k ≡ cond (same_key key k) (versions_in old k ++ v ∷ []) (versions_in old k))
  noted_in kind old mid new keys more of_key own left with put = by r put where
    by : (q : Result (Unit {0}) AllocError)
        → OnOk q ((k : KeyParts) → versions_in new k ≡ cond (bytes_eq kind (kind_of k)) (versions_at more k) (versions_in mid k))
        → OnOk q ((k : KeyParts) → versions_in new k ≡ cond (same_key key k) (versions_in old k ++ v ∷ []) (versions_in old k))
    by (Ok x) put = λ k. noted_kind key k kind v old mid new keys more of_key own (left k) (with k) (put k)
    by (Err e) put = tt

-- ---- keys walked over

pub seen_more : (kind counts : List ℕ) (xs : Keys) (x : KeyParts × Versions) (es : List EntityParts) → es ≡ seen_in kind counts xs
    → es ++ listed (seen_of kind counts x) ≡ seen_in kind counts (xs ++ x ∷ [])
seen_more kind counts xs x es so_far =
    ap (λ fs. fs ++ listed (seen_of kind counts x)) so_far
    ∙ sym (flat_map-append (λ y. listed (seen_of kind counts y)) xs (x ∷ [])
    ∙ ap (λ fs. seen_in kind counts xs ++ fs) (append-nil (listed (seen_of kind counts x))))
