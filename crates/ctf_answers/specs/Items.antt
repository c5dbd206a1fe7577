-- What lent items and lists show.
use Rattle.std.specs.Prelude.{List, map}
use Rattle.ctf_protocol.specs.answers.Answers as answers
use Rattle.ctf_protocol.specs.answers.Questions.{member_item, enumerator_item, number_item}
use Rattle.ctf_protocol.specs.answers.SlotAnswers.{label_item}
use Rattle.ctf_views.specs.ItemsView.{member, enumerator, label}
use Rattle.ctf_answers.specs.declared.items.Item.{Item}
use Rattle.ctf_answers.specs.declared.items.Item.TheVariants as lent
use Rattle.ctf_answers.specs.declared.items.Items.{Items}
use Rattle.ctf_answers.specs.declared.items.Items.TheVariants.{Members, Enumerators, Arguments, Labels}

abbrev pub item_of : Item → answers.Item
item_of (lent.Member m) = member_item (member m)
item_of (lent.Enumerator e) = enumerator_item (enumerator e)
item_of (lent.Argument n) = number_item n.0
item_of (lent.Label x) = label_item (label x)

-- all items of a list
abbrev pub items_of : Items → List answers.Item
items_of (Members ms) = map member_item ms
items_of (Enumerators es) = map enumerator_item es
items_of (Arguments args) = map number_item args
items_of (Labels labels) = map label_item labels
