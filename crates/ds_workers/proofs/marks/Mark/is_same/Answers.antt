use Rattle.std.proofs.Common.{◌≡◌, ◌∙◌, ap, ap₂, arith, List, subst, sym}
use Rattle.std.proofs.lemmas.Bool.Decides.{nat_tests}
use mathlib.Core.List.{IsPrefix}
use Rattle.ds_workers.specs.Marks.{HistoryId}
use Rattle.ds_workers.proofs.Beginnings.{same_beginning}
use Rattle.ds_workers.proofs.marks.Mark.is_same.Goals as goal

pub returns : goal.returns
returns g c = λ counted.
    let mine = c.self.inside.seen.log in
    let theirs = c.other.inside.seen.log in
    let both = c.learn.new.self.log in
    let this = subst (λ (s : _). IsPrefix s.log both) c.again-both.ensures c.learn.ensures.2 in
    let same : c.self.inside.count ≡ c.other.inside.count = grind (counted, arith, nat_tests) in
    let lists = same_beginning mine theirs both this c.learn.ensures.3 (sym c.self.invariant ∙ same ∙ c.other.invariant) in
    let history = ap (λ m. m.history) c.self.view_is ∙ sym c.requires ∙ sym (ap (λ m. m.history) c.other.view_is) in
    sym c.self.view_is ∙ ap₂ (λ (h : HistoryId) (es : List _). record { history = h; entries = es }) history lists ∙ c.other.view_is
