-- What a pass keeps while it sees more.
use Rattle.std.proofs.Common.{refl, ◌∙◌, arith}
use Rattle.ds_store_passes.specs.Passes.{PassParts, HasRead}
use Rattle.ds_store_passes.proofs.Growing.{begins_itself, begins_through, longer_itself, longer_through}

pub HasRead-itself : (p : PassParts) → HasRead p p
HasRead-itself p = record {
  journal = begins_itself p.journal;
  lists = longer_itself p.lists;
  place = omega arith;
  next = omega arith;
  commits = refl;
  draws = refl;
}

pub HasRead-through : (p q r : PassParts) → HasRead p q → HasRead q r → HasRead p r
HasRead-through p q r a b = record {
  journal = begins_through p.journal q.journal r.journal a.journal b.journal;
  lists = longer_through p.lists q.lists r.lists a.lists b.lists;
  place = omega arith;
  next = omega arith;
  commits = b.commits ∙ a.commits;
  draws = b.draws ∙ a.draws;
}
