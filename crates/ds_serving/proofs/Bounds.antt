-- The words give a number of shards, a window and a number of appliers within their bounds.
use Rattle.std.proofs.Common.{◌≡◌, ℕ, ◌≤◌, List, Bool, true, false, Option, Some, None, refl, ap, subst, arith}
use Rattle.std.specs.Prelude.{◌&&◌, codes}
use Rattle.std.specs.Option.{option_and_then, option_map}
use Rattle.std.proofs.lemmas.Bool.{leb-true}
use Rattle.std.proofs.lemmas.Option.{cond_some}
use Rattle.std.specs.Str.Parse.{digits_value}
use Rattle.ds_base.specs.Limits.{greatest_window, most_appliers, most_shards}
use Rattle.ds_words.specs.Form.{appliers_in, number_or, options_of, shards_in, value_in, window_in}
use Rattle.ds_words.specs.declared.options.Options.{Options}

left : (a b : Bool) → (a && b) ≡ true → a ≡ true
left true b both = refl
left false b both = both

right : (a b : Bool) → (a && b) ≡ true → b ≡ true
right true b both = both
right false b both = cc

in_value : (digits least greatest absent n : ℕ) → least ≤ absent → absent ≤ greatest → (value : Option (Option (List ℕ)))
    → option_and_then (number_or digits least greatest absent) value ≡ Some n →
    (least ≤ n) × (n ≤ greatest)
in_value digits least greatest absent n low high None is = cc
in_value digits least greatest absent n low high (Some None) is = let same : absent ≡ n =
    cc in (omega (arith, low, same), omega (arith, high, same))
in_value digits least greatest absent n low high (Some (Some text)) is =
    let both = cond_some _ (digits_value 10 text) n is in (
      subst (λ m. least ≤ m) both.1 (leb-true least (digits_value 10 text) (right _ _ (left _ _ both.0))),
      subst (λ m. m ≤ greatest) both.1 (leb-true (digits_value 10 text) greatest (right _ _ both.0)),
    )

-- options that were put together of these four
abbrev together : Option ℕ → Option ℕ → Option ℕ → Option (Option (List ℕ)) → Option Options
together s a w i =
    option_and_then (λ shards.
    option_and_then (λ appliers.
    option_and_then (λ window.
    option_map (λ indexes. record { indexes = indexes; shards = shards; appliers = appliers; window = window }) i) w) a) s

parts : (s a w : Option ℕ) (i : Option (Option (List ℕ))) (o : Options) → together s a w i ≡ Some o
    → (s ≡ Some o.shards) × (a ≡ Some o.appliers) × (w ≡ Some o.window)
parts None a w i o is = cc
parts (Some s) None w i o is = cc
parts (Some s) (Some a) None i o is = cc
parts (Some s) (Some a) (Some w) None o is = cc
parts (Some s) (Some a) (Some w) (Some i) o is = (
  ap (option_map (λ (options : Options). options.shards)) is,
  ap (option_map (λ (options : Options). options.appliers)) is,
  ap (option_map (λ (options : Options). options.window)) is,
)

pub shards_within : (words : List (List ℕ)) (o : Options) → options_of words ≡ Some o → (1 ≤ o.shards) × (o.shards ≤ most_shards)
shards_within words o is =
    in_value 2 1 most_shards 4 o.shards (omega arith) (omega arith) (value_in words (codes "--shards"))
    (parts (shards_in words) (appliers_in words) (window_in words) (value_in words (codes "--indexes")) o is).0

pub appliers_within : (words : List (List ℕ)) (o : Options) → options_of words ≡ Some o → o.appliers ≤ most_appliers
appliers_within words o is =
    (in_value 2 0 most_appliers 2 o.appliers (omega arith) (omega arith) (value_in words (codes "--appliers"))
    (parts (shards_in words) (appliers_in words) (window_in words) (value_in words (codes "--indexes")) o is).1).1

pub window_within : (words : List (List ℕ)) (o : Options) → options_of words ≡ Some o → (1 ≤ o.window) × (o.window ≤ greatest_window)
window_within words o is =
    in_value 5 1 greatest_window greatest_window o.window (omega arith) (omega arith) (value_in words (codes "--window"))
    (parts (shards_in words) (appliers_in words) (window_in words) (value_in words (codes "--indexes")) o is).2
