-- What owned or lent dictionary lists show.
use Rattle.std.specs.Prelude.{Bool, true, false}
use Rattle.ctf_check.specs.ListsView.{lists_in}
use Rattle.ctf_check.specs.declared.holding.DictionaryLists.{DictionaryLists}
use Rattle.ctf_check.specs.declared.holding.DictionaryLists.TheVariants.{Owned, Lent}
use Rattle.ctf_model.specs.format.Lists.{Lists}
use Rattle.ctf_model.specs.format.OwnedLists.{lists_owned}

abbrev pub lists_held : DictionaryLists → Lists
lists_held (Owned parts) = lists_owned parts
lists_held (Lent lists) = lists_in lists

abbrev pub is_owned : DictionaryLists → Bool
is_owned (Owned parts) = true
is_owned (Lent lists) = false
