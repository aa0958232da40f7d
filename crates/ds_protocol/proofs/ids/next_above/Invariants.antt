use Rattle.ds_protocol.proofs.Words.{◌≡◌, drop, fold, max}
use Rattle.ds_base.specs.declared.key.Elem.{Elem}
use Rattle.ds_model.specs.Sessions.{next_above}
use Rattle.ds_protocol.specs.Writing.{id_above}
use Rattle.ds_protocol.proofs.ids.next_above.Given as goal

-- the elements that are left raise it to what all do
abbrev pub invariant-loop-elem : goal.invariant-loop-elem
invariant-loop-elem l = fold (λ next (e : Elem). max next (id_above e.ident)) l.next (drop l.elem-index l.path) ≡ next_above l.path
