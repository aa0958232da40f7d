use Rattle.std.proofs.Common.{◌∙◌, append_assoc}
use Rattle.std.specs.Prelude.{Result, Ok, Err, OnOk}
use Rattle.ds_load.proofs.writing.append_put.Goals as goal

on_ok : {A E p q : Type 0} (r : Result A E) → (p → q) → OnOk r p → OnOk r q
on_ok (Ok x) f h = f h
on_ok (Err e) f h = h

pub returns : goal.returns
returns c =
    on_ok c.append-6.result
    (λ e. e ∙ rw (
      c.in_ok-append_number-5.ensures,
      c.in_ok-append-5.ensures.ok,
      c.in_ok-append_number-4.ensures,
      c.in_ok-append-4.ensures.ok,
      c.in_ok-append_number-3.ensures,
      c.in_ok-append-3.ensures.ok,
      c.in_ok-append_number-2.ensures,
      c.in_ok-append-2.ensures.ok,
      c.in_ok-append_number.ensures,
      c.in_ok-append.ensures.ok,
    ) (simp append_assoc))
    c.append-6.ensures.ok
