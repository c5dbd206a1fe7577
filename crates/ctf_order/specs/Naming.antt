-- How numbers refer to names. Source: ours.
use Rattle.std.specs.Prelude.{ℕ, List, [], Option, Some, unwrap_or}
use Rattle.ctf_model.specs.format.Name.{name, text_at}
use Rattle.ctf_sections.specs.StringsView.{tables}
use Rattle.ctf_order.specs.declared.texts.Texts.{Texts}
use Rattle.ctf_order.specs.declared.texts.Texts.TheVariants.{Dictionary, Program}

-- the name that each number refers to, if any
abbrev pub Naming : Type 0
Naming = ℕ → Option (List ℕ)

abbrev pub name_or_empty : Naming → ℕ → List ℕ
name_or_empty names reference = unwrap_or (names reference) []

-- for a dictionary, references into its tables; for a program, offsets into its strings
abbrev pub naming : Texts → Naming
naming (Dictionary strings) = name (tables strings)
naming (Program strs) = text_at (Some strs.now)
