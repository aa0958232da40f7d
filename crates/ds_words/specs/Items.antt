-- The code's item.
use Rattle.ds_words.specs.Form.{Item}
use Rattle.ds_words.specs.declared.item.Item.{Item as Taken}

abbrev pub seen : Taken → Item
seen item = record { name = item.name.now; value = item.value.now }
