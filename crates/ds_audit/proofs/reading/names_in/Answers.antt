use Rattle.std.proofs.Common.{◌≡◌, ◌-◌, ◌∙◌, true, length, map, take, drop, ap, sym, subst, arith, rules}
use Rattle.std.specs.Prelude.{◌&&◌, IsSome, Err}
use Rattle.std.specs.String.{string_bytes}
use Rattle.std.proofs.lemmas.List.{length-map}
use Rattle.ds_words.specs.Form.{is_value, options_of}
use Rattle.ds_words.specs.declared.options.WordsRefused.TheVariants as refused
use Rattle.ds_audit.proofs.Bounds.{shards_within}
use Rattle.ds_audit.proofs.WordsLaws.{few_words, some_asked}
use Rattle.ds_io.proofs.WrittenLaws.{rest_from}
use Rattle.ds_audit.proofs.reading.names_in.Goals as goal

pub returns-then-words-lt3-clause-usage : goal.returns-then-words-lt3-clause-usage
returns-then-words-lt3-clause-usage c = λ is.
    few_words (map string_bytes c.args.words.now) (omega (arith, c.if-words-lt3.true, length-map c.args.words.now string_bytes))

pub returns-in-Ok-clause-shards : goal.returns-in-Ok-clause-shards
returns-in-Ok-clause-shards c =
    shards_within (map string_bytes (take (length c.args.words.now - 3) (drop 3 c.args.words.now))) c.in-Ok.options c.in-Ok.ensures.read

pub returns-in-Err-clause-no_memory : goal.returns-in-Err-clause-no_memory
returns-in-Err-clause-no_memory c = λ is.
    let same : c.in-Err.refused ≡ refused.NoMemory = cc in
    let some = c.in-Err.ensures.no_memory (ap Err same) in
    let are : c.are_values.result ≡ true = search rules in
    let first : c.as_str-input.result.now ≡ string_bytes c.index-words-0.result = search rules in
    let second : c.as_str-replies.result.now ≡ string_bytes c.index-words-1.result = search rules in
    let third : c.as_str-journal.result.now ≡ string_bytes c.index-words-2.result = search rules in
    let test = sym (c.are_values.ensures
    ∙ ap (λ x. is_value x && (is_value c.as_str-replies.result.now && is_value c.as_str-journal.result.now)) first
    ∙ ap (λ x. is_value (string_bytes c.index-words-0.result) && (is_value x && is_value c.as_str-journal.result.now)) second
    ∙ ap (λ x. is_value (string_bytes c.index-words-0.result) && (is_value (string_bytes c.index-words-1.result) && is_value x)) third)
    ∙ are in
    some_asked string_bytes c.args.words.now c.index-words-0.result c.index-words-1.result c.index-words-2.result c.if-words-lt3.false
    c.index-words-0.is c.index-words-1.is c.index-words-2.is test
    (subst (λ ws. IsSome (options_of (map string_bytes ws))) (rest_from 3 c.args.words.now) some)
