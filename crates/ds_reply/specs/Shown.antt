-- What the members of a reply mean, before they are written.
use Rattle.std.specs.Prelude.{map, List}
use Rattle.serde_json.specs.Data.{Data, null, boolean, string, array}
use Rattle.ds_reply.specs.declared.member.Shown.{Shown}
use Rattle.ds_reply.specs.declared.member.Shown.TheVariants as shown
use Rattle.ds_reply.specs.declared.member.Member.{Member}
use Rattle.ds_reply.specs.MemberNames.{name_text}
use Rattle.ds_json_printing.specs.Objects.{Named, named}
use Rattle.ds_json_printing.specs.Printing.{natural, key_data}
use Rattle.ds_reply.specs.EntityPrinting.{entity_data}
use Rattle.ds_reply.specs.Results.{result_items, count_items, constraint_data, index_def_data}

abbrev pub shown_data : Shown → Data
shown_data shown.Null = null
shown_data (shown.Flag b) = boolean b
shown_data (shown.Number n) = natural n
shown_data (shown.Text t) = string t.now
shown_data (shown.Key k) = key_data k.now
shown_data (shown.Entity e) = entity_data e.now
shown_data (shown.Counts counts) = array (count_items counts.now)
shown_data (shown.Results select results) = array (result_items select.now results.now)
shown_data (shown.Constraint c) = constraint_data c.now
shown_data (shown.Index d) = index_def_data d.now

abbrev pub member_named : Member → Named
member_named m = named (name_text m.name) (shown_data m.shown)
