-- Items of a list as accesses.
use Rattle.std.specs.Prelude.{List, map}
use Rattle.vx_vector.specs.Accesses.{Access}
use Rattle.vx_vaddr.specs.declared.item.Item.{Item}

abbrev pub access_of_item : Item → Access
access_of_item item = record {
  element = item.element;
  field = item.field;
  address = item.address;
  width = item.width;
  register = item.register;
  byte = item.byte;
}

abbrev pub accesses_of_items : List Item → List Access
accesses_of_items items = map access_of_item items
