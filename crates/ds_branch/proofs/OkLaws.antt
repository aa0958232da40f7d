-- What holds of answers that there are, and of all items.
use Rattle.std.proofs.Common.{List}
use Rattle.std.specs.Prelude.{All, Err, IfOk, Ok, OnErr, OnOk, Result, slice_index_or}

-- what holds of an answer that there is
pub ok_then : {A E : Type 0} {P Q : A → Type 0} (r : Result A E) → IfOk r P → ((a : A) → P a → Q a) → IfOk r Q
ok_then (Ok a) p f = f a p
ok_then (Err e) p f = tt

pub ok_both : {A E : Type 0} {P Q R : A → Type 0} (r : Result A E) → IfOk r P → IfOk r Q → ((a : A) → P a → Q a → R a) → IfOk r R
ok_both (Ok a) p q f = f a p q
ok_both (Err e) p q f = tt

pub from_ok : {A E : Type 0} (r : Result A E) (P : Type 0) → IfOk r (λ a. P) → OnOk r P
from_ok (Ok a) P p = p
from_ok (Err e) P p = tt

pub all_then : {A : Type 0} {P Q : A → Type 0} (xs : List A) → All P xs → ((a : A) → P a → Q a) → All Q xs
all_then xs all f = λ k d below. f (slice_index_or xs k d) (all k d below)

-- what holds anyway
pub on_err : {A E : Type 0} (r : Result A E) (P : Type 0) → P → OnErr r P
on_err (Ok a) P p = tt
on_err (Err e) P p = p

pub on_ok : {A E : Type 0} (r : Result A E) (P : Type 0) → P → OnOk r P
on_ok (Ok a) P p = p
on_ok (Err e) P p = tt
