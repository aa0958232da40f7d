-- One more line of a round, and what it asks.
use Rattle.std.proofs.Common.{◌≡◌, ℕ, zero, suc, ◌+◌, ◌<◌, ◌≤◌, List, [], ◌∷◌, ◌++◌, length, refl, ap, sym, ◌∙◌, subst, arith, Bool, true}
use Rattle.std.proofs.Common.{false, cond, Option, Some, None, take, get_or, set, replicate}
use Rattle.std.specs.Prelude.{filter, ◌==◌, slice_get}
use Rattle.std.proofs.lemmas.Bool.{eq-eqb, ne_eqb}
use Rattle.std.proofs.lemmas.List.{append-nil, append_assoc, length-append, length-replicate}
use Rattle.std.proofs.lemmas.List.Elements.{filter-append}
use Rattle.ds_base.specs.Limits.{greatest_client}
use Rattle.ds_rounds.specs.Lines.{Content}
use Rattle.ds_rounds.specs.Rounds.{NumberedLine, numbered}
use Rattle.ds_model.specs.Asked.{asked, client_of}
use Rattle.ds_asked.specs.declared.lines.Asked.{Asked}
use Rattle.ds_asked.specs.AskedLines.{AreAsked, AreAskedBy, AreAskedFrom, Asks, lines_of_client, with_asked}

-- ---- the lines of a client, and one more

one-tested : (b : Bool) (line : NumberedLine) (test : NumberedLine → Bool) → test line ≡ b → filter test (line ∷ []) ≡ cond b (line ∷ []) []
one-tested b line test is = ap (λ t. cond t (line ∷ []) []) is

equal-itself : (n : ℕ) → (n == n) ≡ true
equal-itself n = eq-eqb n n refl

lines-own : (shards client : ℕ) (lines : List NumberedLine) (line : NumberedLine) → client_of (asked shards) line.content ≡ client → lines_of_client shards client (lines ++ line ∷ []) ≡ lines_of_client shards client lines ++ line ∷ []
lines-own shards client lines line own =
    let test = λ (l : NumberedLine). client_of (asked shards) l.content == client in
    filter-append test lines (line ∷ [])
    ∙ ap (λ ls. lines_of_client shards client lines ++ ls) (one-tested true line test (ap (λ n. n == client) own ∙ equal-itself client))

lines-other : (shards client : ℕ) (lines : List NumberedLine) (line : NumberedLine) → (client_of (asked shards) line.content ≡ client → ⊥) → lines_of_client shards client (lines ++ line ∷ []) ≡ lines_of_client shards client lines
lines-other shards client lines line other =
    let test = λ (l : NumberedLine). client_of (asked shards) l.content == client in
    filter-append test lines (line ∷ [])
    ∙ ap (λ ls. lines_of_client shards client lines ++ ls) (one-tested false line test (ne_eqb (client_of (asked shards) line.content) client other))
    ∙ append-nil (lines_of_client shards client lines)

-- ---- the lists

asked-push : (shards client : ℕ) (lines : List NumberedLine) (own : List Asked) (line : NumberedLine) (a : Asked) → AreAsked shards client lines own → Asks shards line a → a.client ≡ client → AreAsked shards client (lines ++ line ∷ []) (own ++ a ∷ [])
asked-push shards client [] [] line a so_far asks of_client = (asks, of_client, tt)
asked-push shards client [] (x ∷ own) line a so_far asks of_client = absurd so_far
asked-push shards client (l ∷ lines) [] line a so_far asks of_client = absurd so_far
asked-push shards client (l ∷ lines) (x ∷ own) line a (first, its, so_far) asks of_client = (first, its, asked-push shards client lines own line a so_far asks of_client)

-- a line of a client before these is none of theirs
earlier-client : (shards client : ℕ) (lines : List NumberedLine) (lists : List (List Asked)) (line : NumberedLine) → client_of (asked shards) line.content < client → AreAskedFrom shards client lines lists → AreAskedFrom shards client (lines ++ line ∷ []) lists
earlier-client shards client lines [] line earlier so_far = tt
earlier-client shards client lines (own ∷ lists) line earlier (first, so_far) = (
  subst (λ ls. AreAsked shards client ls own) (sym (lines-other shards client lines line (λ same. omega (arith, earlier, same)))) first,
  earlier-client shards (client + 1) lines lists line (omega (arith, earlier)) so_far,
)

with-from : (shards client place : ℕ) (lines : List NumberedLine) (lists : List (List Asked)) (line : NumberedLine) (a : Asked) → a.client ≡ client + place → Asks shards line a → AreAskedFrom shards client lines lists →
    AreAskedFrom shards client (lines ++ line ∷ []) (with_asked lists place a)
with-from shards client place lines [] line a of_client asks so_far = tt
with-from shards client zero lines (own ∷ lists) line a of_client asks (first, so_far) =
    let its : a.client ≡ client = omega (arith, of_client) in
    let line_its : client_of (asked shards) line.content ≡ client = asks.own ∙ its in (
      subst (λ ls. AreAsked shards client ls (own ++ a ∷ [])) (sym (lines-own shards client lines line line_its)) (asked-push shards client (lines_of_client shards client lines) own line a first asks its),
      earlier-client shards (client + 1) lines lists line (omega (arith, line_its)) so_far,
    )
with-from shards client (suc place) lines (own ∷ lists) line a of_client asks (first, so_far) = (
  subst (λ ls. AreAsked shards client ls own) (sym (lines-other shards client lines line (λ same. omega (arith, asks.own, same, of_client)))) first,
  with-from shards (client + 1) place lines lists line a (omega (arith, of_client)) asks so_far,
)

pub length-with : (lists : List (List Asked)) (place : ℕ) (a : Asked) → length (with_asked lists place a) ≡ length lists
length-with [] place a = refl
length-with (own ∷ lists) zero a = refl
length-with (own ∷ lists) (suc place) a = ap suc (length-with lists place a)

-- what a write at the client's place leaves
pub set-with : (lists : List (List Asked)) (place : ℕ) (a : Asked) (own : List Asked) → own ≡ get_or lists place own → set lists place (own ++ a ∷ []) ≡ with_asked lists place a
set-with [] place a own is = refl
set-with (x ∷ lists) zero a own is = ap (λ ys. (ys ++ a ∷ []) ∷ lists) is
set-with (x ∷ lists) (suc place) a own is = ap (λ ls. x ∷ ls) (set-with lists place a own is)

take-numbered : (first i : ℕ) (lines : List Content) (line : Content) → slice_get lines i ≡ Some line → take (suc i) (numbered first lines) ≡ take i (numbered first lines) ++ (record { number = first + i; content = line }) ∷ []
take-numbered first i [] line is = cc
take-numbered first zero (l ∷ lines) line is =
    let same : l ≡ line = some_same l line is in
    let number : first ≡ first + zero = omega arith in
    λ t. (record { number = number t; content = same t }) ∷ [] where
      some_same : (a b : Content) → Some a ≡ Some b → a ≡ b
      some_same a b e = cc
take-numbered first (suc i) (l ∷ lines) line is =
    ap (λ ls. (record { number = first; content = l }) ∷ ls) (take-numbered (first + 1) i lines line is ∙ ap (λ n. take i (numbered (first + 1) lines) ++ (record { number = n; content = line }) ∷ []) number) where
      number : first + 1 + i ≡ first + suc i
      number = omega arith

pub length-numbered : (first : ℕ) (lines : List Content) → length (numbered first lines) ≡ length lines
length-numbered first [] = refl
length-numbered first (l ∷ lines) = ap suc (length-numbered (first + 1) lines)

-- the line at a place of a chunk
pub asked-line : (shards first i : ℕ) (before : List NumberedLine) (lines : List Content) (line : Content) (lists after : List (List Asked)) (a : Asked) →
    slice_get lines i ≡ Some line → Asks shards (record { number = first + i; content = line }) a →
    after ≡ with_asked lists a.client a → AreAskedBy shards (before ++ take i (numbered first lines)) lists → AreAskedBy shards (before ++ take (i + 1) (numbered first lines)) after
asked-line shards first i before lines line lists after a is asks put so_far =
    let new : NumberedLine = record { number = first + i; content = line } in
    let more : before ++ take (i + 1) (numbered first lines) ≡ (before ++ take i (numbered first lines)) ++ new ∷ [] =
    ap (λ n. before ++ take n (numbered first lines)) one_more ∙ ap (λ ls. before ++ ls) (take-numbered first i lines line is)
    ∙ sym (append_assoc before (take i (numbered first lines)) (new ∷ [])) in
    subst (λ ls. AreAskedBy shards ls after) (sym more) (subst (λ ls. AreAskedBy shards ((before ++ take i (numbered first lines)) ++ new ∷ []) ls) (sym put) (record {
      clients = length-with lists a.client a ∙ so_far.clients;
      each = with-from shards 0 a.client (before ++ take i (numbered first lines)) lists new a at_zero asks so_far.each;
    })) where
      one_more : i + 1 ≡ suc i
      one_more = omega arith

      at_zero : a.client ≡ 0 + a.client
      at_zero = omega arith

-- ---- chunk by chunk

numbered-append : (first : ℕ) (a b : List Content) → numbered first (a ++ b) ≡ numbered first a ++ numbered (first + length a) b
numbered-append first [] b = let same : first ≡ first + 0 = omega arith in ap (λ n. numbered n b) same
numbered-append first (line ∷ a) b =
    let next : first + 1 + length a ≡ first + suc (length a) = omega arith in
    ap (λ ls. (record { number = first; content = line }) ∷ ls) (numbered-append (first + 1) a b ∙ ap (λ n. numbered (first + 1) a ++ numbered n b) next)

-- of the lines from a number on these are left, and the others are asked
pub record AsksOn (shards first : ℕ) (lines : List Content) (number : ℕ) (left : List Content) (lists : List (List Asked)) : Type 0 where
  pub done : List NumberedLine
  pub asked_by : AreAskedBy shards done lists
  pub whole : done ++ numbered number left ≡ numbered first lines
  pub counted : number + length left ≡ first + length lines

from-none : (shards client clients : ℕ) → AreAskedFrom shards client [] (replicate clients [])
from-none shards client zero = tt
from-none shards client (suc clients) = (tt, from-none shards (client + 1) clients)

pub asks-none : (shards first : ℕ) (lines left : List Content) (lists : List (List Asked)) → left ≡ lines →
    lists ≡ replicate (greatest_client + 1) [] → AsksOn shards first lines first left lists
asks-none shards first lines left lists all none = record {
  done = [];
  asked_by = subst (λ ls. AreAskedBy shards [] ls) (sym none) (record { clients = length-replicate (greatest_client + 1) nobody; each = from-none shards 0 (greatest_client + 1) });
  whole = ap (numbered first) all;
  counted = ap (λ (ls : List Content). first + length ls) all;
} where
  nobody : List Asked
  nobody = []

pub asks-more : (shards first : ℕ) (lines : List Content) (number : ℕ) (n : ℕ) (chunk left rest : List Content) (lists after : List (List Asked)) →
    n ≡ length chunk → left ≡ chunk ++ rest → AsksOn shards first lines number left lists →
    ((before : List NumberedLine) → AreAskedBy shards before lists → AreAskedBy shards (before ++ numbered number chunk) after) →
    AsksOn shards first lines (number + n) rest after
asks-more shards first lines number n chunk left rest lists after size is so_far more = record {
  done = so_far.done ++ numbered number chunk;
  asked_by = more so_far.done so_far.asked_by;
  whole =
      ap (λ k. (so_far.done ++ numbered number chunk) ++ numbered (number + k) rest) size
      ∙ append_assoc so_far.done (numbered number chunk) (numbered (number + length chunk) rest)
      ∙ ap (λ ls. so_far.done ++ ls) (sym (numbered-append number chunk rest) ∙ ap (numbered number) (sym is))
      ∙ so_far.whole;
  counted = omega (arith, size, so_far.counted, ap (λ (ls : List Content). length ls) is, length-append chunk rest);
}

-- the numbers of a chunk's lines are those of the round's
pub fits-more : (shards first most : ℕ) (lines : List Content) (number : ℕ) (chunk left rest : List Content) (lists : List (List Asked)) →
    left ≡ chunk ++ rest → AsksOn shards first lines number left lists → first + length lines ≤ most → number + length chunk ≤ most
fits-more shards first most lines number chunk left rest lists is so_far fits =
    omega (arith, fits, so_far.counted, ap (λ (ls : List Content). length ls) is, length-append chunk rest)

-- the lines in front of others have numbers of the round too
pub fits-front : (first most : ℕ) (front last lines : List Content) → front ++ last ≡ lines → first + length lines ≤ most →
    first + length front ≤ most
fits-front first most front last lines is fits = omega (arith, fits, ap (λ (ls : List Content). length ls) is, length-append front last)

pub fits-last : (shards first most : ℕ) (front last lines : List Content) (number : ℕ) (lists : List (List Asked)) →
    front ++ last ≡ lines → AsksOn shards first front number [] lists → first + length lines ≤ most → number + length last ≤ most
fits-last shards first most front last lines number lists is so_far fits =
    omega (arith, fits, so_far.counted, ap (λ (ls : List Content). length ls) is, length-append front last)

-- the last chunk, behind all others
pub asks-last : (shards first : ℕ) (front last lines : List Content) (number : ℕ) (lists after : List (List Asked)) →
    front ++ last ≡ lines → AsksOn shards first front number [] lists →
    ((before : List NumberedLine) → AreAskedBy shards before lists → AreAskedBy shards (before ++ numbered number last) after) →
    AreAskedBy shards (numbered first lines) after
asks-last shards first front last lines number lists after is so_far more =
    subst (λ ls. AreAskedBy shards ls after)
    (ap (λ n. numbered first front ++ numbered n last) behind ∙ sym (numbered-append first front last) ∙ ap (numbered first) is)
    (more (numbered first front) (subst (λ ls. AreAskedBy shards ls lists) (sym (append-nil so_far.done) ∙ so_far.whole) so_far.asked_by)) where
      behind : number ≡ first + length front
      behind = omega (arith, so_far.counted)
