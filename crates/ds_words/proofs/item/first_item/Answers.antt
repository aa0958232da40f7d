use Rattle.std.proofs.Common.{◌≡◌, ◌<◌, ◌∙◌, ℕ, List, ap, arith, length, subst, Some, None}
use Rattle.std.proofs.lemmas.Str.Pattern.{split_once_first}
use Rattle.std.specs.List.{before_first, position_or_len}
use Rattle.std.specs.String.{string_bytes}
use Rattle.ds_words.specs.Form.{is_equals_sign, item_of, joined}
use Rattle.ds_words.proofs.ItemLaws.{first_apart, first_found, first_joined, is_joined-at, is_joined-none}
use Rattle.ds_words.proofs.item.first_item.Goals as goal

pub returns-in-Some-clause-items : goal.returns-in-Some-clause-items
returns-in-Some-clause-items c =
    let text = c.as_str-first.result.now in
    let split = split_once_first 61 text (Some (c.in-Some.name, c.in-Some.value)) c.in-Some.ensures.cases (omega arith) in
    let same = c.as_str-first.ensures.value in
    first_found string_bytes c.args.words.now c.item_of.result (joined (string_bytes c.index-words-0.result)) 1
    (c.item_of.ensures.item ∙ ap (λ n. item_of n c.in-Some.value.now) split.1 ∙ ap (item_of (before_first is_equals_sign text)) split.2 ∙ ap joined same) c.item_of.ensures.words
    (first_joined string_bytes c.args.words.now c.index-words-0.result c.requires c.index-words-0.is
    (is_joined-at (string_bytes c.index-words-0.result) (subst (λ (t : List ℕ). position_or_len is_equals_sign t < length t) same split.0))) (omega arith) (omega (arith, c.requires))

pub returns-in-Some-get-clause-items : goal.returns-in-Some-get-clause-items
returns-in-Some-get-clause-items c =
    let text = c.as_str-first.result.now in
    let whole = split_once_first 61 text None c.in-None.ensures.cases (omega arith) in
    let same = c.as_str-first.ensures.value in
    let got = c.in-Some-get.ensures.lookup in
    first_found string_bytes c.args.words.now c.item_of-in-Some-get.result (item_of (string_bytes c.index-words-0.result) (string_bytes c.in-Some-get.value.now)) 2
    (c.item_of-in-Some-get.ensures.item ∙ ap (λ n. item_of n c.as_str.result.now) same ∙ ap (item_of (string_bytes c.index-words-0.result)) c.as_str.ensures.value)
    c.item_of-in-Some-get.ensures.words
    (first_apart string_bytes c.args.words.now c.index-words-0.result c.in-Some-get.value.now got.3.0 c.index-words-0.is got.1
    (is_joined-none (string_bytes c.index-words-0.result) (subst (λ (t : List ℕ). position_or_len is_equals_sign t ≡ length t) same whole)))
    (omega arith) (omega (arith, got.3.0))
