use Rattle.std.proofs.Common.{◌≡◌, codes}
use Rattle.serde_json.specs.Find.{get_member}
use Rattle.serde_json.specs.View.{members_view}
use Rattle.ds_request.proofs.FoundLemmas.{found_or_later}
use Rattle.ds_request.proofs.forms.entities.key_and_properties.Given as goal

abbrev pub invariant-loop-name : goal.invariant-loop-name
invariant-loop-name l =
    (get_member (codes "key") (members_view l.fn.members.entries) ≡ found_or_later (codes "key") l.key l.name-iterator)
    × (get_member (codes "properties") (members_view l.fn.members.entries) ≡ found_or_later (codes "properties") l.properties l.name-iterator)
