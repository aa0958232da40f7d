-- The lines that stand at spans of kept bytes.
use Rattle.std.proofs.Common.{◌≡◌, ℕ, suc, ◌+◌, ◌-◌, ◌≤◌, List, [], ◌∷◌, ◌++◌, length, take, drop, refl, ap, sym, ◌∙◌, arith}
use Rattle.std.specs.Prelude.{Bool, true, false, cond, nat_le, sum_by}
use Rattle.std.proofs.lemmas.Bool.{leb-true}
use Rattle.std.proofs.Common.{length-append, length-drop, subst}
use Rattle.std.proofs.lemmas.List.{append-nil, append_assoc, drop-drop, drop-take, map-append, take-append-le, take-take, take_rest}
use Rattle.std.proofs.lemmas.List.Elements.{All-push}
use Rattle.std.proofs.lemmas.List.Sums.{sum_by-append, sum_by-cons}
use Rattle.ds_base.specs.Limits.{most_line_bytes}
use Rattle.ds_rounds.specs.Drafts.{IsDraft}
use Rattle.ds_rounds.specs.Lines.{Content, Kept, TooLong, content_at, content_of, contents, kept_bytes, lines_of_chunks, spanned}
use Rattle.ds_rounds.specs.Spans.{AreWithin, IsWithin}
use Rattle.ds_rounds.specs.declared.lines.Span.{Span}
use Rattle.ds_rounds.proofs.LineLaws.{kept_bytes-content_of}

-- a part of a part
pub part_of_part : (bytes : List ℕ) (from to n : ℕ) → from + n ≤ to → take (to - (from + n)) (drop (from + n) bytes) ≡ drop n (take (to - from) (drop from bytes))
part_of_part bytes from to n within =
    let whole : to - from ≡ n + (to - (from + n)) = omega arith in
    ap (take (to - (from + n))) (sym (drop-drop n from bytes))
    ∙ sym (drop-take n (to - (from + n)) (drop from bytes))
    ∙ ap (λ k. drop n (take k (drop from bytes))) (sym whole)

-- a span reads only the bytes in front of its end
spanned-front : (n : ℕ) (bytes : List ℕ) (span : Span) → span.from ≤ span.to → span.to ≤ n →
    spanned (take n bytes) span ≡ spanned bytes span
spanned-front n bytes span ordered within =
    let whole : n ≡ span.from + (n - span.from) = omega (arith, ordered, within) in
    let less : span.to - span.from ≤ n - span.from = omega (arith, within) in
    ap (λ k. take (span.to - span.from) (drop span.from (take k bytes))) whole
    ∙ ap (take (span.to - span.from)) (drop-take span.from (n - span.from) bytes)
    ∙ take-take (span.to - span.from) (n - span.from) (drop span.from bytes) less

-- lines that are alike where they are kept
alike : (b : Bool) (x y : List ℕ) → (b ≡ true → x ≡ y) → cond b (Kept x) TooLong ≡ cond b (Kept y) TooLong
alike true x y same = ap Kept (same refl)
alike false x y same = refl

content_at-front : (n : ℕ) (bytes : List ℕ) (span : Span) → IsWithin n span → content_at (take n bytes) span ≡ content_at bytes span
content_at-front n bytes span ok =
    alike (nat_le (span.to - span.from) most_line_bytes) (spanned (take n bytes) span) (spanned bytes span)
    (λ short. spanned-front n bytes span ok.ordered (ok.within (leb-true (span.to - span.from) most_line_bytes short)))

pub contents-front : (n : ℕ) (bytes : List ℕ) (spans : List Span) → AreWithin n spans → contents (take n bytes) spans ≡ contents bytes spans
contents-front n bytes [] ok = refl
contents-front n bytes (span ∷ spans) ok =
    ap (λ line. line ∷ contents (take n bytes) spans) (content_at-front n bytes span (ok 0 span (omega arith)))
    ∙ ap (λ lines. content_at bytes span ∷ lines) (contents-front n bytes spans (λ k d below. ok (suc k) d (omega arith)))

-- one line more, which ends the bytes; of one that is too long none is kept
pub contents-push : (start : ℕ) (bytes after : List ℕ) (spans : List Span) (span : Span) → AreWithin start spans → span.from ≡ start →
    span.to ≡ length bytes → take start after ≡ take start bytes → (span.to - span.from ≤ most_line_bytes → after ≡ bytes) →
    contents after (spans ++ span ∷ []) ≡ contents (take start bytes) spans ++ content_of (drop start bytes) ∷ []
contents-push start bytes after spans span ok from to front kept =
    map-append (content_at after) spans (span ∷ [])
    ∙ ap (λ lines. lines ++ content_at after span ∷ []) (sym (contents-front start after spans ok) ∙ ap (λ bs. contents bs spans) front)
    ∙ ap (λ line. contents (take start bytes) spans ++ line ∷ []) last where
      size : span.to - span.from ≡ length (drop start bytes)
      size = omega (arith, from, to, length-drop start bytes)

      last : content_at after span ≡ content_of (drop start bytes)
      last =
          alike (nat_le (span.to - span.from) most_line_bytes) (spanned after span) (drop start bytes)
          (λ short.
          ap (λ bs. spanned bs span) (kept (leb-true (span.to - span.from) most_line_bytes short))
          ∙ ap (λ k. take (span.to - k) (drop k bytes)) from
          ∙ ap (λ k. take (k - start) (drop start bytes)) to
          ∙ take_rest bytes start)
          ∙ ap (λ k. cond (nat_le k most_line_bytes) (Kept (drop start bytes)) TooLong) size

-- ---- behind the lines of chunks

pub lines_of_chunks-push : (chunks : List (List Content)) (lines : List Content) →
    lines_of_chunks (chunks ++ lines ∷ []) ≡ lines_of_chunks chunks ++ lines
lines_of_chunks-push [] lines = append-nil lines
lines_of_chunks-push (first ∷ chunks) lines =
    ap (λ ls. first ++ ls) (lines_of_chunks-push chunks lines) ∙ sym (append_assoc first (lines_of_chunks chunks) lines)

-- one line more, which ends the bytes
pub lines-push : (before : List Content) (start : ℕ) (bytes after : List ℕ) (spans : List Span) (span : Span) → AreWithin start spans →
    span.from ≡ start → span.to ≡ length bytes → take start after ≡ take start bytes →
    (span.to - span.from ≤ most_line_bytes → after ≡ bytes) →
    before ++ contents after (spans ++ span ∷ []) ≡ (before ++ contents (take start bytes) spans) ++ content_of (drop start bytes) ∷ []
lines-push before start bytes after spans span ok from to front kept =
    ap (λ ls. before ++ ls) (contents-push start bytes after spans span ok from to front kept)
    ∙ sym (append_assoc before (contents (take start bytes) spans) (content_of (drop start bytes) ∷ []))

-- the lines of the bytes become a chunk
pub lines-chunk : (chunks : List (List Content)) (start : ℕ) (bytes : List ℕ) (spans : List Span) → AreWithin start spans →
    lines_of_chunks (chunks ++ contents bytes spans ∷ []) ++ [] ≡ lines_of_chunks chunks ++ contents (take start bytes) spans
lines-chunk chunks start bytes spans ok =
    append-nil (lines_of_chunks (chunks ++ contents bytes spans ∷ []))
    ∙ lines_of_chunks-push chunks (contents bytes spans)
    ∙ ap (λ ls. lines_of_chunks chunks ++ ls) (sym (contents-front start bytes spans ok))

-- ---- the counts of a draft

pub AreWithin-longer : (from to : ℕ) (spans : List Span) → from ≤ to → AreWithin from spans → AreWithin to spans
AreWithin-longer from to spans less ok = λ k d below.
    let its = ok k d below in
    record { ordered = its.ordered; within = λ short. omega (arith, less, its.within short); kept = its.kept }

pub IsDraft-push : {start count total : ℕ} {bytes after : List ℕ} {spans spans_after : List Span} {lines longer : List Content} (to : ℕ) →
    IsDraft start count total bytes spans lines → to ≡ length bytes → start ≤ length after →
    (to - start ≤ most_line_bytes → after ≡ bytes) → spans_after ≡ spans ++ (record { from = start; to = to }) ∷ [] →
    longer ≡ lines ++ content_of (drop start bytes) ∷ [] → IsDraft (length after) (count + 1) (total + (to - start)) after spans_after longer
IsDraft-push {start} {count} {total} {bytes} {after} {spans} {spans_after} {lines} {longer} to draft whole behind held pushed is = record {
  within = omega arith;
  kept = omega arith;
  ordered = subst (λ ss. AreWithin (length after) ss) (sym pushed) (All-push (λ s. IsWithin (length after) s) spans its
      (AreWithin-longer start (length after) spans behind draft.ordered) (record {
        ordered = omega (arith, draft.within, whole);
        within = λ short. omega (arith, whole, ap (λ (l : List ℕ). length l) (held short));
        kept = omega (arith, draft.kept, whole);
      }));
  counted = omega (arith, draft.counted, ap (λ (l : List Content). length l) is, length-append lines (content_of (drop start bytes) ∷ []));
  summed = omega (
    arith,
    draft.summed,
    size,
    whole,
    ap (sum_by kept_bytes) is,
    sum_by-append kept_bytes lines (content_of (drop start bytes) ∷ []),
    sum_by-cons kept_bytes (content_of (drop start bytes)) [],
    kept_bytes-content_of (drop start bytes) (omega (arith, size, draft.kept)),
  );
  bounded = omega (arith, draft.bounded, draft.kept, whole);
} where
  its : Span
  its = record { from = start; to = to }

  size : length (drop start bytes) ≡ length bytes - start
  size = length-drop start bytes

pub IsDraft-chunk : {start count total : ℕ} {bytes fresh : List ℕ} {spans none : List Span} {lines same : List Content} →
    IsDraft start count total bytes spans lines → fresh ≡ [] → none ≡ [] → same ≡ lines → IsDraft 0 count total fresh none same
IsDraft-chunk draft empty bare is = record {
  within = omega arith;
  kept = omega (arith, ap (λ (l : List ℕ). length l) empty);
  ordered = subst (λ ss. AreWithin 0 ss) (sym bare) (λ k d below. absurd (omega (arith, below)));
  counted = draft.counted ∙ ap (λ (l : List Content). length l) (sym is);
  summed = draft.summed ∙ ap (sum_by kept_bytes) (sym is);
  bounded = draft.bounded;
}

-- bytes more of the line that is being read
pub IsDraft-extend : {start count total : ℕ} {bytes longer : List ℕ} {spans : List Span} (before : List Content) (more : List ℕ) →
    IsDraft start count total bytes spans (before ++ contents (take start bytes) spans) → longer ≡ bytes ++ more →
    (length bytes - start) + length more ≤ most_line_bytes + 1 →
    IsDraft start count total longer spans (before ++ contents (take start longer) spans)
IsDraft-extend {start} {count} {total} {bytes} {longer} {spans} before more draft is short = record {
  within = omega (arith, draft.within, size);
  kept = omega (arith, short, size);
  ordered = draft.ordered;
  counted = draft.counted ∙ ap (λ (l : List Content). length l) same;
  summed = draft.summed ∙ ap (sum_by kept_bytes) same;
  bounded = draft.bounded;
} where
  size : length longer ≡ length bytes + length more
  size = ap (λ (l : List ℕ). length l) is ∙ length-append bytes more

  same : before ++ contents (take start bytes) spans ≡ before ++ contents (take start longer) spans
  same = ap (λ bs. before ++ contents bs spans) (sym (ap (take start) is ∙ take-append-le start bytes more draft.within))
