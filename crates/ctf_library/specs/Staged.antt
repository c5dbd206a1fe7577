-- The staged lists, if any. Source: ours.
use Rattle.std.specs.Prelude.{Box, None, Option, Some}
use Rattle.std.specs.declared.alloc.Global.{Global}
use Rattle.ctf_model.specs.format.Lists.{Lists, no_lists}

abbrev pub lists_in : Option (Box Lists Global) → Lists
lists_in None = no_lists
lists_in (Some staged) = staged.value
