-- The lines of the load as JSON.
use Rattle.std.proofs.Common.{◌≡◌, ℕ, ◌+◌, ◌<◌, ◌≤◌, ◌^◌, List, ◌++◌, refl, ap, sym, ◌∙◌, arith, cond}
use Rattle.std.proofs.Common.{Some, append_assoc, length, length-append, le-leb, lit≤, lit<, subst, mod-lt}
use Rattle.std.specs.Prelude.{codes, decimal, ◌%◌, Ok}
use Rattle.std.proofs.lemmas.Fmt.{length-decimal-le}
use Rattle.core.specs.Fmt.{digits}
use Rattle.json.specs.Print.{escape_byte}
use Rattle.json.proofs.Printed.Utf8.{IsUtf8-are_ascii}
use Rattle.serde_json.specs.Read.{max_depth}
use Rattle.serde_json.specs.Written.{compact_text}
use Rattle.ds_request.specs.Requests.{line_data, data_request_of}
use Rattle.ds_rounds.specs.Drafts.{IsUnbroken}
use Rattle.ds_rounds.specs.Lines.{Kept, TooLong, content_of}
use Rattle.ds_base.specs.Limits.{most_line_bytes}
use Rattle.ds_model.specs.Asked.{asked, request_within}
use Rattle.ds_journal_text.proofs.CommitsBack.{text_back}
use Rattle.ds_journal_text.proofs.PlainData.{IsPlain}
use Rattle.ds_journal_text.proofs.PlainTexts.{whole}
use Rattle.ds_load.specs.Input.{put_text, settle_text, query_text}
use Rattle.ds_load.specs.Items.{client_of_item}
use Rattle.ds_load.proofs.Asked.{put_data, settle_data, query_data, put_request, settle_request, query_request, put_asked}
use Rattle.ds_load.proofs.Rounds.{IsLine}

-- ---- their texts

put_is : (i : ℕ) → compact_text (put_data i) ≡ put_text i
unfolding escape_byte
put_is i = simp append_assoc

settle_is : compact_text settle_data ≡ settle_text
unfolding escape_byte
settle_is = refl

query_is : compact_text query_data ≡ query_text
unfolding escape_byte digits
query_is = refl

-- ---- read back

put_plain : (i : ℕ) → i < 2 ^ 62 → IsPlain (put_data i) max_depth
put_plain i fits =
    let by_four : i % 4 < 4 = mod-lt i (omega arith) in
    let by_ten : i % 10 < 10 = mod-lt i (omega arith) in
    let by_seven : i % 7 < 7 = mod-lt i (omega arith) in (
      (
        IsUtf8-are_ascii (codes "client") refl,
        omega arith,
        (
          IsUtf8-are_ascii (codes "entity") refl,
          (
            (
              IsUtf8-are_ascii (codes "key") refl,
              ((IsUtf8-are_ascii (codes "Item") refl, (omega arith, tt)), tt),
              (
                IsUtf8-are_ascii (codes "properties") refl,
                (
                  (
                    IsUtf8-are_ascii (codes "a") refl,
                    omega arith,
                    (
                      IsUtf8-are_ascii (codes "b") refl,
                      omega arith,
                      (IsUtf8-are_ascii (codes "c") refl, omega arith, tt),
                    ),
                  ),
                  ((refl, (refl, tt)), ((refl, tt), (tt, tt))),
                ),
                tt,
              ),
            ),
            ((refl, tt), (tt, tt)),
          ),
          (IsUtf8-are_ascii (codes "op") refl, IsUtf8-are_ascii (codes "put") refl, tt),
        ),
      ),
      ((refl, (refl, tt)), ((refl, tt), (tt, tt))),
    )

settle_plain : IsPlain settle_data max_depth
settle_plain = ((IsUtf8-are_ascii (codes "op") refl, IsUtf8-are_ascii (codes "settle") refl, tt), (tt, tt))

query_plain : IsPlain query_data max_depth
query_plain = (
  (
    IsUtf8-are_ascii (codes "filters") refl,
    (
      (IsUtf8-are_ascii (codes "a") refl, (IsUtf8-are_ascii (codes "=") refl, (lit< tt, tt))),
      ((IsUtf8-are_ascii (codes "b") refl, (IsUtf8-are_ascii (codes "=") refl, (lit< tt, tt))), tt),
    ),
    (
      IsUtf8-are_ascii (codes "kind") refl,
      IsUtf8-are_ascii (codes "Item") refl,
      (
        IsUtf8-are_ascii (codes "op") refl,
        IsUtf8-are_ascii (codes "query") refl,
        (
          IsUtf8-are_ascii (codes "orders") refl,
          ((IsUtf8-are_ascii (codes "c") refl, (IsUtf8-are_ascii (codes "asc") refl, tt)), tt),
          (IsUtf8-are_ascii (codes "select") refl, (IsUtf8-are_ascii (codes "c") refl, tt), tt),
        ),
      ),
    ),
  ),
  ((refl, (refl, (refl, (refl, tt)))), ((refl, (refl, (refl, tt))), ((refl, (refl, tt)), ((refl, tt), (tt, tt))))),
)

put_back : (i : ℕ) → i < 2 ^ 62 → line_data (put_text i) ≡ Some (put_data i)
put_back i fits = ap line_data (sym (put_is i)) ∙ text_back (put_data i) (put_plain i fits)

settle_back : line_data settle_text ≡ Some settle_data
settle_back = ap line_data (sym settle_is) ∙ text_back settle_data settle_plain

query_back : line_data query_text ≡ Some query_data
query_back = ap line_data (sym query_is) ∙ text_back query_data query_plain

-- ---- what the lines ask

pub put_read : (i : ℕ) → i < 2 ^ 62 → asked 4 (Kept (put_text i)) ≡ Ok (put_request i)
put_read i fits = ap (λ d. request_within 4 (data_request_of d)) (put_back i fits) ∙ ap (request_within 4) (put_asked i fits)

pub settle_read : asked 4 (Kept settle_text) ≡ Ok settle_request
settle_read = ap (λ d. request_within 4 (data_request_of d)) settle_back

pub query_read : asked 4 (Kept query_text) ≡ Ok query_request
query_read = ap (λ d. request_within 4 (data_request_of d)) query_back

-- ---- and that they are lines

number_long : (n : ℕ) → n < 2 ^ 63 → length (decimal n) ≤ 20
number_long n fits = length-decimal-le 20 n (omega arith) (omega arith) (omega arith)

-- the text of a put up to each of its numbers, which have at most 20 digits
abbrev to_client : ℕ → List ℕ
to_client i = codes "{\"client\":" ++ decimal (client_of_item i)

abbrev to_id : ℕ → List ℕ
to_id i = to_client i ++ codes ",\"entity\":{\"key\":[[\"Item\"," ++ decimal (i + 1)

abbrev to_a : ℕ → List ℕ
to_a i = to_id i ++ codes "]],\"properties\":{\"a\":" ++ decimal (i % 10)

abbrev to_b : ℕ → List ℕ
to_b i = to_a i ++ codes ",\"b\":" ++ decimal (i % 7)

abbrev to_c : ℕ → List ℕ
to_c i = to_b i ++ codes ",\"c\":" ++ decimal i

both_long : (a b : List ℕ) (m n : ℕ) → length a ≤ m → length b ≤ n → length (a ++ b) ≤ m + n
both_long a b m n first second = omega (arith, length-append a b, first, second)

more : (a b c : List ℕ) (m n k : ℕ) → length a ≤ m → length b ≤ n → length c ≤ k → length (a ++ b ++ c) ≤ m + n + k
more a b c m n k first second third = both_long (a ++ b) c (m + n) k (both_long a b m n first second) third

put_long : (i : ℕ) → i < 2 ^ 62 → length (put_text i) ≤ 200
put_long i fits =
    let by_four : i % 4 < 4 = mod-lt i (omega arith) in
    let by_ten : i % 10 < 10 = mod-lt i (omega arith) in
    let by_seven : i % 7 < 7 = mod-lt i (omega arith) in
    let client : length (to_client i) ≤ 10 + 20 =
    both_long (codes "{\"client\":") (decimal (i % 4)) 10 20 (lit≤ tt) (number_long (i % 4) (omega arith)) in
    let id : length (to_id i) ≤ 30 + 26 + 20 =
    more (to_client i) (codes ",\"entity\":{\"key\":[[\"Item\",") (decimal (i + 1)) 30 26 20 client (lit≤ tt)
    (number_long (i + 1) (omega arith)) in
    let a : length (to_a i) ≤ 76 + 21 + 20 =
    more (to_id i) (codes "]],\"properties\":{\"a\":") (decimal (i % 10)) 76 21 20 id (lit≤ tt) (number_long (i % 10) (omega arith)) in
    let b : length (to_b i) ≤ 117 + 5 + 20 =
    more (to_a i) (codes ",\"b\":") (decimal (i % 7)) 117 5 20 a (lit≤ tt) (number_long (i % 7) (omega arith)) in
    let c : length (to_c i) ≤ 142 + 5 + 20 =
    more (to_b i) (codes ",\"c\":") (decimal i) 142 5 20 b (lit≤ tt) (number_long i (omega arith)) in
    both_long (to_c i) (codes "}},\"op\":\"put\"}") 167 33 c (lit≤ tt)

short_kept : (text : List ℕ) → length text ≤ 200 → content_of text ≡ Kept text
short_kept text short = ap (λ b. cond b (Kept text) TooLong) (le-leb (length text) most_line_bytes (omega (arith, short)))

pub put_line : (i : ℕ) → i < 2 ^ 62 → IsLine (put_text i)
put_line i fits = record {
  unbroken = subst IsUnbroken (put_is i) (whole (put_data i));
  some = refl;
  kept =
      short_kept (put_text i) (put_long i fits);
}

pub settle_line : IsLine settle_text
settle_line = record { unbroken = subst IsUnbroken settle_is (whole settle_data); some = refl; kept = short_kept settle_text (lit≤ tt) }

pub query_line : IsLine query_text
query_line = record { unbroken = subst IsUnbroken query_is (whole query_data); some = refl; kept = short_kept query_text (lit≤ tt) }
