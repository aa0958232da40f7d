use Rattle.std.proofs.Common.{codes, rules}
use Rattle.ds_request.proofs.FoundLemmas.{found_here, found_later}
use Rattle.ds_request.proofs.forms.entities.key_and_properties.Goals as goal
use Rattle.ds_request.proofs.forms.entities.key_and_properties.Goals.{in-key, in-properties, in_default+in-String-1, in_default+in-Array-1}
use Rattle.ds_request.proofs.forms.entities.key_and_properties.Goals.{in_default+in-Object-1, in_default+in-Null-1}

pub loop-name-preserved : goal.loop-name-preserved
loop-name-preserved c = elim c.match-as_str.branch [
  | in-key w ↦ (
    found_here _ (codes "key") c.loop-name.key c.match-as_str.key c.loop-name.name-iterator c.in-Some.name c.in-Some.value c.next.new.self
        c.loop-name.invariant.0 c.in-Some.ensures.steps (search rules) (search rules),
    found_later _ (codes "properties") c.loop-name.properties c.match-as_str.properties c.loop-name.name-iterator c.in-Some.name c.in-Some.value c.next.new.self
        c.loop-name.invariant.1 c.in-Some.ensures.steps (λ named. search rules) (search rules),
  )
  | in-properties w ↦ (
    found_later _ (codes "key") c.loop-name.key c.match-as_str.key c.loop-name.name-iterator c.in-Some.name c.in-Some.value c.next.new.self
        c.loop-name.invariant.0 c.in-Some.ensures.steps (λ named. search rules) (search rules),
    found_here _ (codes "properties") c.loop-name.properties c.match-as_str.properties c.loop-name.name-iterator c.in-Some.name c.in-Some.value c.next.new.self
        c.loop-name.invariant.1 c.in-Some.ensures.steps (search rules) (search rules),
  )
  | in_default+in-String-1 w ↦ (
    found_later _ (codes "key") c.loop-name.key c.match-as_str.key c.loop-name.name-iterator c.in-Some.name c.in-Some.value c.next.new.self
        c.loop-name.invariant.0 c.in-Some.ensures.steps (λ named. search rules) (search rules),
    found_later _ (codes "properties") c.loop-name.properties c.match-as_str.properties c.loop-name.name-iterator c.in-Some.name c.in-Some.value c.next.new.self
        c.loop-name.invariant.1 c.in-Some.ensures.steps (λ named. search rules) (search rules),
  )
  | in_default+in-Array-1 w ↦ (
    found_later _ (codes "key") c.loop-name.key c.match-as_str.key c.loop-name.name-iterator c.in-Some.name c.in-Some.value c.next.new.self
        c.loop-name.invariant.0 c.in-Some.ensures.steps (λ named. search rules) (search rules),
    found_later _ (codes "properties") c.loop-name.properties c.match-as_str.properties c.loop-name.name-iterator c.in-Some.name c.in-Some.value c.next.new.self
        c.loop-name.invariant.1 c.in-Some.ensures.steps (λ named. search rules) (search rules),
  )
  | in_default+in-Object-1 w ↦ (
    found_later _ (codes "key") c.loop-name.key c.match-as_str.key c.loop-name.name-iterator c.in-Some.name c.in-Some.value c.next.new.self
        c.loop-name.invariant.0 c.in-Some.ensures.steps (λ named. search rules) (search rules),
    found_later _ (codes "properties") c.loop-name.properties c.match-as_str.properties c.loop-name.name-iterator c.in-Some.name c.in-Some.value c.next.new.self
        c.loop-name.invariant.1 c.in-Some.ensures.steps (λ named. search rules) (search rules),
  )
  | in_default+in-Null-1 w ↦ (
    found_later _ (codes "key") c.loop-name.key c.match-as_str.key c.loop-name.name-iterator c.in-Some.name c.in-Some.value c.next.new.self
        c.loop-name.invariant.0 c.in-Some.ensures.steps (λ named. search rules) (search rules),
    found_later _ (codes "properties") c.loop-name.properties c.match-as_str.properties c.loop-name.name-iterator c.in-Some.name c.in-Some.value c.next.new.self
        c.loop-name.invariant.1 c.in-Some.ensures.steps (λ named. search rules) (search rules),
  )
]
