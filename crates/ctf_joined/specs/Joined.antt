-- Concatenation of a list of texts.
use Rattle.std.specs.Prelude.{ℕ, List}
use Rattle.ctf_joined.specs.Texts.{texts_from}
use Rattle.ctf_joined.specs.declared.joined.Joined.{Joined}

abbrev pub texts : Joined → List (List ℕ)
texts joined = texts_from joined.bytes.items 0 joined.ends.items
