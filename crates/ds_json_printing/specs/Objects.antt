-- The members of a JSON object, which stand by name in byte order.
use Rattle.std.specs.Prelude.{List, [], ◌∷◌, ℕ}
use Rattle.serde_json.specs.Data.{Data, object, Members, no_members, put}

-- a member: its name, and what stands there
pub record Named : Type 0 where
  pub name : List ℕ
  pub shown : Data

abbrev pub named : List ℕ → Data → Named
named name shown = record { name = name; shown = shown }

-- the members with more put among them, one after another
abbrev pub put_each : List Named → Members → Members
put_each [] ms = ms
put_each (n ∷ ns) ms = put_each ns (put n.name n.shown ms)

-- members by name in byte order, whatever the order in which they are given; of equal names the last counts
abbrev pub by_name : List Named → Members
by_name ns = put_each ns no_members

-- the object of these members
abbrev pub object_of : List Named → Data
object_of ns = object (by_name ns)
