-- The line of the last reply: what it tells is the summary of the load.
use Rattle.std.proofs.Common.{◌≡◌, ℕ, zero, suc, ◌<◌, ◌≤◌, ◌^◌, List, [], ◌∷◌, ◌++◌, refl, ap, sym, ◌∙◌, arith, Bool, true}
use Rattle.std.proofs.Common.{false, cond, inl, inr, map, length, drop, take, lit<, Option, Some, None, subst, append_assoc}
use Rattle.std.proofs.Common.{length-append, get_or, ◌⊎◌, ◌-◌, Bor}
use Rattle.std.proofs.lemmas.Option.{slice_get_read}
use Rattle.std.specs.Prelude.{codes, decimal, slice_get, filter, ◌==◌, ◌%◌, option_map, unwrap_or, nat_eq, Result, Ok, Err, IfOk, IfSome}
use Rattle.std.specs.Char.{digit_value}
use Rattle.std.specs.Cmp.Lexicographic.{pointwise}
use Rattle.std.specs.List.{AllByRecursion, range_with_len, starts_with}
use Rattle.std.proofs.lemmas.Bool.{and_parts, eqb-true}
use Rattle.std.proofs.lemmas.List.{take-append-drop}
use Rattle.std.specs.Str.Parse.{AllDigits}
use Rattle.std.proofs.lemmas.Fmt.{decimal_injective, decimal_is_IsNumeral, decimal_nonempty}
use Rattle.std.proofs.lemmas.List.{map-append}
use Rattle.json.specs.Print.{escape_byte}
use Rattle.json.proofs.Printed.Utf8.{IsUtf8-are_ascii}
use Rattle.serde_json.specs.Data.{Data, string, array, Members}
use Rattle.serde_json.specs.Read.{max_depth}
use Rattle.serde_json.specs.Written.{items_text, members_text}
use Rattle.ds_entity.specs.declared.results.Item.{Item}
use Rattle.ds_entity.specs.declared.results.Seen.TheVariants as seen
use Rattle.ds_query.specs.declared.query.Select.{Select}
use Rattle.ds_query.specs.declared.query.Select.TheVariants as select
use Rattle.ds_request.specs.Requests.{line_data}
use Rattle.ds_reply.specs.declared.reply.Body.{Body}
use Rattle.ds_reply.specs.declared.reply.Body.TheVariants as body
use Rattle.ds_reply.specs.declared.reply.Reply.{Reply}
use Rattle.ds_json_printing.specs.Objects.{by_name, named}
use Rattle.ds_json_printing.specs.Printing.{natural}
use Rattle.ds_reply.specs.Results.{count_items, result_items}
use Rattle.ds_reply.specs.Replies.{reply_data, replies_text}
use Rattle.ds_reply_lines.specs.ReplyLines.{reply_line, whole_lines}
use Rattle.ds_reply_lines.proofs.RepliesBack.{replies_lines}
use Rattle.ds_journal_text.proofs.CommitsBack.{text_back}
use Rattle.ds_journal_text.proofs.PlainData.{ArePlain, IsPlain}
use Rattle.ds_load.specs.declared.reading.Summary.{Summary}
use Rattle.ds_load.specs.Matches.{last_of, matching}
use Rattle.ds_load.specs.Telling.{CountsAll, IsOfRuns, IsSettled, IsSummary, IsToldLast, counts_text, how_many, last_number, sum_of}
use Rattle.ds_load.specs.Telling.{summary_in, summary_of}
use Rattle.ds_load.proofs.Ends.{IsRefusal}
use Rattle.ds_load.proofs.Found.{told_of}
use Rattle.ds_load.proofs.Conclusions.{AreSmall, Concludes, answer, concludes, range_small}

abbrev selected : Select
selected = select.Projection (codes "c" ∷ [])

abbrev answer_with : List ℕ → List Item → Body
answer_with counts results = body.Query selected results (seen.Counts counts) None

abbrev reply_with : ℕ → ℕ → Body → Reply
reply_with client number b = record { client = client; line = number; body = b }

-- ---- how its line begins

abbrev BeginsWith : List ℕ → List ℕ → Type 0
BeginsWith front line = (rest : List ℕ) × (line ≡ front ++ rest)

same_all : (xs ys : List ℕ) → pointwise nat_eq xs ys ≡ true → xs ≡ ys
same_all [] [] e = refl
same_all [] (y ∷ ys) e = cc
same_all (x ∷ xs) [] e = cc
same_all (x ∷ xs) (y ∷ ys) e =
    let p = and_parts _ _ e in ap (λ z. z ∷ xs) (eqb-true x y p.0) ∙ ap (λ zs. y ∷ zs) (same_all xs ys p.1)

begun : (front line : List ℕ) → starts_with nat_eq line front ≡ true → BeginsWith front line
begun front line e = (
  drop (length front) line,
  sym (take-append-drop (length front) line)
      ∙ ap (λ first. first ++ drop (length front) line) (sym (same_all front (take (length front) line) e)),
)

abbrev others : ℕ → ℕ → List Item → Members
others client number results = by_name (
    named (codes "client") (natural client)
    ∷ named (codes "line") (natural number)
    ∷ named (codes "ok") (string (codes "query"))
    ∷ named (codes "results") (array (result_items selected results)) ∷ [])

answer_line : (client number : ℕ) (counts : List ℕ) (results : List Item)
    → reply_line (reply_with client number (answer_with counts results))
    ≡ codes "{\"applied\":[" ++ (items_text false (count_items counts) ++ members_text true (others client number results))
unfolding escape_byte
answer_line client number counts results = refl

-- a refusal begins otherwise
other_line : (counts rest : List ℕ) → slice_get (counts_text counts ++ rest) 2 ≡ Some 97
other_line counts rest = refl

never_two : (m n : ℕ) → m < n → (o : Option ℕ) → o ≡ Some m → o ≡ Some n → ⊥
never_two m n less o first second =
    let same : m ≡ n = ap (λ (p : Option ℕ). unwrap_or p 0) (sym first ∙ second) in omega (arith, less, same)

not_refused : (counts : List ℕ) (client number : ℕ) (b : Body) (line : List ℕ) → IsRefusal b
    → reply_line (reply_with client number b) ≡ line
    → BeginsWith (counts_text counts) line → ⊥
not_refused counts client number b line refusal is (rest, begins) =
    let client_first : slice_get line 2 ≡ Some 99 = ap (λ l. slice_get l 2) (sym is) ∙ refusal client number in
    let counts_first : slice_get line 2 ≡ Some 97 = ap (λ l. slice_get l 2) begins ∙ other_line counts rest in
    never_two 97 99 (lit< tt) (slice_get line 2) counts_first client_first

-- ---- numbers between commas

-- it begins with a bracket or a comma
abbrev IsEnd : List ℕ → Type 0
IsEnd [] = ⊥
IsEnd (c ∷ text) = (c ≡ 93) ⊎ (c ≡ 44)

no_digit : (c : ℕ) → (c ≡ 93) ⊎ (c ≡ 44) → digit_value c < 10 → ⊥
no_digit c (inl is) digit = let value : digit_value 93 < 10 = subst (λ k. digit_value k < 10) is digit in omega (arith, value)
no_digit c (inr is) digit = let value : digit_value 44 < 10 = subst (λ k. digit_value k < 10) is digit in omega (arith, value)

-- digits end where such a text begins
no_more : (e : ℕ) (rest text : List ℕ) → digit_value e < 10 → IsEnd text → text ≡ e ∷ rest → ⊥
no_more e rest [] digit ends is = absurd ends
no_more e rest (c ∷ text) digit ends is =
    let same : c ≡ e = cc in no_digit c ends (subst (λ k. digit_value k < 10) (sym same) digit)

same_front : (a b x y : List ℕ) → AllDigits 10 a → AllDigits 10 b → IsEnd x → IsEnd y → a ++ x ≡ b ++ y → (a ≡ b) × (x ≡ y)
same_front [] [] x y p q ends ends' is = (refl, is)
same_front [] (e ∷ b) x y p q ends ends' is = absurd (no_more e (b ++ y) x q.0 ends is)
same_front (d ∷ a) [] x y p q ends ends' is = absurd (no_more d (a ++ x) y p.0 ends' (sym is))
same_front (d ∷ a) (e ∷ b) x y p q ends ends' is =
    let first : d ≡ e = cc in
    let rest : a ++ x ≡ b ++ y = cc in
    let later = same_front a b x y p.1 q.1 ends ends' rest in
    (ap (λ c. c ∷ a) first ∙ ap (λ cs. e ∷ cs) later.0, later.1)

abbrev AreLow : List ℕ → Type 0
AreLow = AllByRecursion (λ c. c < 2 ^ 64)

-- the counts behind the first one, with the bracket behind them
abbrev behind : List ℕ → List ℕ → List ℕ
behind counts rest = items_text true (count_items counts) ++ rest

ends_behind : (counts rest : List ℕ) → IsEnd (behind counts rest)
ends_behind [] rest = inl refl
ends_behind (c ∷ counts) rest = inr refl

one_behind : (c d : ℕ) (cs ds x y : List ℕ) → c < 2 ^ 64 → d < 2 ^ 64
    → (decimal c ++ items_text true (count_items cs)) ++ x ≡ (decimal d ++ items_text true (count_items ds)) ++ y
    → (c ≡ d) × (behind cs x ≡ behind ds y)
one_behind c d cs ds x y low low' is =
    let parts = same_front (decimal c) (decimal d) (behind cs x) (behind ds y) (decimal_is_IsNumeral c low).0.1
    (decimal_is_IsNumeral d low').0.1 (ends_behind cs x) (ends_behind ds y)
    (sym (append_assoc (decimal c) (items_text true (count_items cs)) x) ∙ is
    ∙ append_assoc (decimal d) (items_text true (count_items ds)) y) in
    (decimal_injective c d low low' parts.0, parts.1)

never_both : (x y : List ℕ) → 93 ∷ x ≡ 44 ∷ y → ⊥
never_both x y is = let same : ◌≡◌ {A = ℕ} 93 44 = cc in absurd (omega (arith, same))

same_behind : (cs ds x y : List ℕ) → AreLow cs → AreLow ds → behind cs x ≡ behind ds y → cs ≡ ds
same_behind [] [] x y p q is = refl
same_behind [] (d ∷ ds) x y p q is = absurd (never_both x ((decimal d ++ items_text true (count_items ds)) ++ y) is)
same_behind (c ∷ cs) [] x y p q is = absurd (never_both y ((decimal c ++ items_text true (count_items cs)) ++ x) (sym is))
same_behind (c ∷ cs) (d ∷ ds) x y p q is =
    let one = one_behind c d cs ds x y p.0 q.0 (ap (drop 1) is) in
    ap (λ k. k ∷ cs) one.0 ∙ ap (λ ks. d ∷ ks) (same_behind cs ds x y p.1 q.1 one.1)

some_digit : (c : ℕ) (x y : List ℕ) → c < 2 ^ 64 → 93 ∷ x ≡ decimal c ++ y → ⊥
some_digit c x y low is = by (decimal c) (decimal_is_IsNumeral c low).0.1 (decimal_nonempty c low) is where
  by : (digits : List ℕ) → AllDigits 10 digits → 0 < length digits → 93 ∷ x ≡ digits ++ y → ⊥
  by [] all some same = omega (arith, some)
  by (e ∷ digits) all some same = no_more e (digits ++ y) (93 ∷ x) all.0 (inl refl) same

-- the counts that a text begins with are these alone
same_counts : (cs ds x y : List ℕ) → AreLow cs → AreLow ds
    → items_text false (count_items cs) ++ x ≡ items_text false (count_items ds) ++ y → cs ≡ ds
same_counts [] [] x y p q is = refl
same_counts [] (d ∷ ds) x y p q is =
    absurd (some_digit d x (behind ds y) q.0 (is ∙ append_assoc (decimal d) (items_text true (count_items ds)) y))
same_counts (c ∷ cs) [] x y p q is =
    absurd (some_digit c y (behind cs x) p.0 (sym is ∙ append_assoc (decimal c) (items_text true (count_items cs)) x))
same_counts (c ∷ cs) (d ∷ ds) x y p q is =
    let one = one_behind c d cs ds x y p.0 q.0 is in
    ap (λ k. k ∷ cs) one.0 ∙ ap (λ ks. d ∷ ks) (same_behind cs ds x y p.1 q.1 one.1)

-- counts are no greater than their sum
each_low : (n : ℕ) (counts : List ℕ) → sum_of counts ≤ n → n ≤ 2 ^ 60 → AreLow counts
each_low n [] within few = tt
each_low n (c ∷ counts) within few = (omega (arith, within, few), each_low n counts (omega (arith, within)) few)

told_counts : (client number : ℕ) (cs counts : List ℕ) (results : List Item) (line : List ℕ) → AreLow cs → AreLow counts
    → reply_line (reply_with client number (answer_with cs results)) ≡ line → BeginsWith (counts_text counts) line → cs ≡ counts
told_counts client number cs counts results line p q is (rest, begins) =
    same_counts cs counts (members_text true (others client number results)) rest p q
    (ap (drop 12) (sym (answer_line client number cs results) ∙ is ∙ begins))

-- ---- it is plain JSON

results_plain : (is : List ℕ) → AreSmall is → ArePlain (result_items selected (map told_of is)) 125
results_plain [] small = tt
results_plain (i ∷ is) small =
    let little : i < 2 ^ 62 = small.0 in (
      (
        (
          IsUtf8-are_ascii (codes "key") refl,
          ((IsUtf8-are_ascii (codes "Item") refl, (omega arith, tt)), tt),
          (IsUtf8-are_ascii (codes "properties") refl, ((IsUtf8-are_ascii (codes "c") refl, omega arith, tt), (tt, tt)), tt),
        ),
        ((refl, tt), (tt, tt)),
      ),
      results_plain is small.1,
    )

counts_plain : (counts : List ℕ) (depth : ℕ) → AreLow counts → ArePlain (count_items counts) depth
counts_plain [] depth low = tt
counts_plain (c ∷ counts) depth low = (low.0, counts_plain counts depth low.1)

answer_plain : (client number : ℕ) (counts is : List ℕ) → client < 2 ^ 64 → number < 2 ^ 64 → AreLow counts → AreSmall is
    → IsPlain (reply_data (reply_with client number (answer_with counts (map told_of is)))) max_depth
answer_plain client number counts is low numbered fits small = (
  (
    IsUtf8-are_ascii (codes "applied") refl,
    counts_plain counts _ fits,
    (
      IsUtf8-are_ascii (codes "client") refl,
      low,
      (
        IsUtf8-are_ascii (codes "line") refl,
        numbered,
        (
          IsUtf8-are_ascii (codes "ok") refl,
          IsUtf8-are_ascii (codes "query") refl,
          (IsUtf8-are_ascii (codes "results") refl, results_plain is small, tt),
        ),
      ),
    ),
  ),
  ((refl, (refl, (refl, (refl, tt)))), ((refl, (refl, (refl, tt))), ((refl, (refl, tt)), ((refl, tt), (tt, tt))))),
)

-- ---- what is read of it

count_is : (is : List ℕ) → how_many (result_items selected (map told_of is)) ≡ length is
count_is [] = refl
count_is (i ∷ is) = omega (arith, count_is is)

last_is : (is : List ℕ) → last_number (result_items selected (map told_of is)) ≡ last_of is
last_is [] = refl
last_is (i ∷ []) = refl
last_is (i ∷ j ∷ is) = last_is (j ∷ is)

all_small : (p : ℕ → Bool) (is : List ℕ) → AreSmall is → AreSmall (filter p is)
all_small p [] small = tt
all_small p (i ∷ is) small = by (p i) (all_small p is small.1) where
  by : (b : Bool) → AreSmall (filter p is) → AreSmall (cond b (i ∷ filter p is) (filter p is))
  by true later = (small.0, later)
  by false later = later

one_of : {X : Type 0} {a b : X} → Some a ≡ Some b → a ≡ b
one_of {X} {a} {b} same = cc

abbrev summary_told : List ℕ → Summary
summary_told is = summary_of (result_items selected (map told_of is))

told_summary : (client number : ℕ) (counts is : List ℕ) → client < 2 ^ 64 → number < 2 ^ 64 → AreLow counts → AreSmall is → (s : Summary)
    → ((d : Data) → line_data (reply_line (reply_with client number (answer_with counts (map told_of is)))) ≡ Some d
    → summary_in d ≡ Some s)
    → (s.matches ≡ length is) × (s.last ≡ last_of is)
told_summary client number counts is low numbered fits small s told =
    let r : Reply = reply_with client number (answer_with counts (map told_of is)) in
    let read : summary_in (reply_data r) ≡ Some s =
    told (reply_data r) (text_back (reply_data r) (answer_plain client number counts is low numbered fits small)) in
    let is_so : Some (summary_told is) ≡ Some s = read in
    let matches_are : option_map (λ (t : Summary). t.matches) (Some (summary_told is)) ≡ Some s.matches =
    ap (option_map (λ (t : Summary). t.matches)) is_so in
    let last_are : option_map (λ (t : Summary). t.last) (Some (summary_told is)) ≡ Some s.last =
    ap (option_map (λ (t : Summary). t.last)) is_so in
    (sym (one_of matches_are) ∙ count_is is, sym (one_of last_are) ∙ last_is is)

-- so whatever is read of a last line that counts all items is their summary
pub summarizes : (n : ℕ) (replies : List Reply) (line : List ℕ) (s : Summary) → n ≤ 2 ^ 60 → (c : Concludes n replies)
    → reply_line c.last ≡ line → CountsAll n line
    → ((d : Data) → line_data line ≡ Some d → summary_in d ≡ Some s) → IsSummary n s
summarizes n replies line s few c is read told = by c.told where
  client_low : c.last.client < 2 ^ 64
  client_low = omega (arith, c.client)

  number_low : c.last.line < 2 ^ 64
  number_low = omega (arith, c.small)

  at_body : (b : Body) → c.last.body ≡ b → reply_line (reply_with c.last.client c.last.line b) ≡ line
  at_body b same = ap (λ (a : Body). reply_line (reply_with c.last.client c.last.line a)) (sym same) ∙ is

  begins : BeginsWith (counts_text read.counts) line
  begins = begun (counts_text read.counts) line read.begins

  low : AreLow read.counts
  low = each_low n read.counts (omega (arith, read.all)) few

  by : ((b : Body) × (c.last.body ≡ b) × IsRefusal b)
      ⊎ ((counts : List ℕ) × (results : List Item) × (c.last.body ≡ answer_with counts results) × (sum_of counts ≤ n)
      × (sum_of counts ≡ n → c.last.body ≡ answer n counts))
      → IsSummary n s
  by (inl (b, same, refusal)) = absurd (not_refused read.counts c.last.client c.last.line b line refusal (at_body b same) begins)
  by (inr (counts, results, same, within, all)) =
      let low_too : AreLow counts = each_low n counts within few in
      let these : counts ≡ read.counts = told_counts c.last.client c.last.line counts read.counts results line low_too low (at_body _ same)
      begins in
      let is_answer : reply_line (reply_with c.last.client c.last.line (answer n counts)) ≡ line =
      at_body (answer n counts) (all (ap sum_of these ∙ read.all)) in
      let two = told_summary c.last.client c.last.line counts (matching n) client_low number_low low_too
      (all_small (λ i. i % 70 == 23) (range_with_len 0 n) (range_small 0 n (omega (arith, few)))) s
      (λ d back. told d (ap line_data (sym is_answer) ∙ back)) in
      record { matches = two.0; last = two.1 }

-- ---- of the whole text

last_at : (front : List (List ℕ)) (line : List ℕ) → slice_get (front ++ line ∷ []) (length front) ≡ Some line
last_at [] line = refl
last_at (l ∷ front) line = last_at front line

last_line : (replies front : List Reply) (last : Reply) (line : List ℕ) → replies ≡ front ++ last ∷ []
    → slice_get (map reply_line replies) (length (map reply_line replies) - 1) ≡ Some line → reply_line last ≡ line
last_line replies front last line are at =
    let whole : map reply_line replies ≡ map reply_line front ++ reply_line last ∷ [] = ap (map reply_line) are
    ∙ map-append reply_line front (last ∷ []) in
    let place : length (map reply_line front ++ reply_line last ∷ []) - 1 ≡ length (map reply_line front) =
    omega (arith, length-append (map reply_line front) (reply_line last ∷ [])) in
    one_of (sym (last_at (map reply_line front) (reply_line last))
    ∙ ap (slice_get (map reply_line front ++ reply_line last ∷ [])) (sym place) ∙ ap (λ ls. slice_get ls (length ls - 1)) (sym whole)
    ∙ at)

same_lines : (replies : List Reply) (text : List ℕ) (lines : List (List ℕ)) → whole_lines text ≡ Some lines → text ≡ replies_text replies
    → lines ≡ map reply_line replies
same_lines replies text lines are is = one_of (sym are ∙ ap whole_lines is ∙ replies_lines replies)

pub of_runs : (n : ℕ) (text : List ℕ) (lines : List (List ℕ)) (s : Summary) → n ≤ 2 ^ 60 → whole_lines text ≡ Some lines
    → IsToldLast n lines s → IsOfRuns n text s
of_runs n text lines s few are last definitions window journal replies legal is =
    let c = concludes definitions window n few journal replies legal in
    let at = subst (λ (ls : List (List ℕ)). slice_get ls (length ls - 1) ≡ Some last.line) (same_lines replies text lines are is) last.last
    in
    summarizes n replies last.line s few c (last_line replies c.front c.last last.line c.are at) last.counted last.told

pub both_ok : {A E : Type 0} {P Q R : A → Type 0} (r : Result (Option A) E) → ((s : A) → P s → Q s → R s) → IfOk r (λ o. IfSome o P)
    → IfOk r (λ o. IfSome o Q) → IfOk r (λ o. IfSome o R)
both_ok (Ok (Some s)) f p q = f s p q
both_ok (Ok None) f p q = tt
both_ok (Err e) f p q = tt

pub each_ok : {A E : Type 0} {P R : A → Type 0} (r : Result (Option A) E) → ((s : A) → P s → R s) → IfOk r (λ o. IfSome o P)
    → IfOk r (λ o. IfSome o R)
each_ok (Ok (Some s)) f p = f s p
each_ok (Ok None) f p = tt
each_ok (Err e) f p = tt

-- the last of slices is the last of their lists
slice_now : (lines : List (Bor (List ℕ))) (k : ℕ) (line : Bor (List ℕ)) → Some line ≡ slice_get lines k
    → slice_get (map (λ l. l.now) lines) k ≡ Some line.now
slice_now [] k line is = cc
slice_now (l ∷ lines) zero line is = ap (λ (o : Option (Bor (List ℕ))). option_map (λ l. l.now) o) (sym is)
slice_now (l ∷ lines) (suc k) line is = slice_now lines k line is

length-now : (lines : List (Bor (List ℕ))) → length (map (λ l. l.now) lines) ≡ length lines
length-now [] = refl
length-now (l ∷ lines) = ap suc (length-now lines)

pub told_last : (n : ℕ) (lines : List (Bor (List ℕ))) (line : Bor (List ℕ)) (s : Summary) → Some line ≡ slice_get lines (length lines - 1)
    → CountsAll n line.now
    → ((d : Data) → line_data line.now ≡ Some d → summary_in d ≡ Some s) → IsToldLast n (map (λ l. l.now) lines) s
told_last n lines line s is counted told = record {
  line = line.now;
  last = ap (λ k. slice_get (map (λ l. l.now) lines) (k - 1)) (length-now lines) ∙ slice_now lines (length lines - 1) line is;
  counted = counted;
  told = told;
}

-- the line before the last one, which begins as an answer to a settle
pub settled_as : (lines : List (Bor (List ℕ))) (k : ℕ) (line : Bor (List ℕ)) → k ≡ length lines - 2 → k < length lines
    → line ≡ get_or lines k line → starts_with nat_eq line.now (codes "{\"applied\":") ≡ true → IsSettled (map (λ l. l.now) lines)
settled_as lines k line is within read begins =
    let there : slice_get lines k ≡ Some line = slice_get_read lines (length lines) k line refl within read in record {
      line = line.now;
      last_but_one = ap (λ n. slice_get (map (λ l. l.now) lines) (n - 2)) (length-now lines)
          ∙ slice_now lines (length lines - 2) line (sym there ∙ ap (slice_get lines) is);
      begins = begins;
    }
