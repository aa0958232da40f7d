-- Which results of queries there are: what the types of the code keep.
use Rattle.std.specs.Prelude.{All, IfSome, IsUtf8, ⊤}
use Rattle.ds_entity.specs.declared.results.Item.{Item}
use Rattle.ds_bytes.specs.Lawful.{IsLawfulKey, IsLawfulValue}
use Rattle.ds_journal_text.specs.Lawful.{IsLawfulEntity}
use Rattle.ds_query.specs.declared.query.Select.{Select}
use Rattle.ds_query.specs.declared.query.Select.TheVariants as select

pub record IsLawfulItem (it : Item) : Type 0 where
  pub key : IsLawfulKey it.key
  pub entity : IfSome it.entity IsLawfulEntity
  pub projected : All IsLawfulValue it.projected

-- the names of a projection are texts
abbrev pub HasTexts : Select → Type 0
HasTexts select.Entities = ⊤
HasTexts select.Keys = ⊤
HasTexts (select.Projection names) = All IsUtf8 names
