-- Which commits there are: what the types of the code keep, in the words of the definitions.
use Rattle.std.specs.Prelude.{◌<◌, ◌≤◌, ◌^◌, All, length, FitsSigned}
use Rattle.std.specs.Int.{w64}
use Rattle.ds_base.specs.Bytes.{AreBytes}
use Rattle.ds_entity.specs.Entities.{EntityParts, IsEntity}
use Rattle.ds_base.specs.Limits.{most_writes}
use Rattle.ds_entity.specs.declared.entity.Property.{Property}
use Rattle.ds_base.specs.declared.value.Value.{Value}
use Rattle.ds_base.specs.declared.value.Value.TheVariants as value
use Rattle.ds_bytes.specs.Lawful.{IsText, IsLawfulKey}
use Rattle.ds_log.specs.declared.Commit.{Commit}
use Rattle.ds_log.specs.declared.Touch.{Touch}
use Rattle.ds_log.specs.declared.Write.{Write}
use Rattle.ds_log.specs.declared.Write.TheVariants.{Put, Delete}

-- numbers are of 64 bits, byte strings are bytes, and strings are texts
abbrev pub IsLawfulValue : Value → Type 0
IsLawfulValue value.Null = Unit {0}
IsLawfulValue (value.Int n) = FitsSigned w64 n
IsLawfulValue (value.Date n) = FitsSigned w64 n
IsLawfulValue (value.Rating n) = Unit {0}
IsLawfulValue (value.Bool b) = Unit {0}
IsLawfulValue (value.Bytes s) = AreBytes s
IsLawfulValue (value.Str s) = IsText s
IsLawfulValue (value.Text s) = IsText s
IsLawfulValue (value.Blob s) = AreBytes s
IsLawfulValue (value.Key k) = IsLawfulKey k

pub record IsLawfulProperty (p : Property) : Type 0 where
  pub name : IsText p.name
  pub values : All IsLawfulValue p.values

-- an entity keeps the rules and limits of entities
pub record IsLawfulEntity (e : EntityParts) : Type 0 where
  pub key : IsLawfulKey e.key
  pub rules : IsEntity e.key e.properties
  pub properties : All IsLawfulProperty e.properties

abbrev pub IsLawfulWrite : Write → Type 0
IsLawfulWrite (Put e) = IsLawfulEntity e
IsLawfulWrite (Delete k) = IsLawfulKey k

pub record IsLawfulTouch (t : Touch) : Type 0 where
  pub group : IsLawfulKey t.group
  pub place : t.place < 2 ^ 64

-- a commit has at most 500 writes
pub record IsLawfulCommit (c : Commit) : Type 0 where
  pub client : c.client < 2 ^ 32
  pub touched : All IsLawfulTouch c.touched
  pub writes : All IsLawfulWrite c.writes
  pub few : length c.writes ≤ most_writes
