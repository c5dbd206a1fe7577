use Rattle.std.proofs.Common.{refl}
use Rattle.std.specs.Fmt.{digits}
use Rattle.ctf_model.specs.dumps.Dump.{types_from}
use Rattle.ctf_model.specs.rules.FaultNames.{name_of_fault}
use Rattle.ctf_model.specs.figures.Figures.{comes_to, most_numbers}
use Rattle.ctf_model.specs.names.TypeNames.{declaration_within, declared}
use Rattle.ctf_model.proofs.rows.dumps_are.Goals as goal

pub returns : goal.returns
unfolding types_from name_of_fault declaration_within declared comes_to most_numbers digits
returns c = record { empty = refl; integer = refl; of_functions = refl; of_structs = refl; of_others = refl; of_a_child = refl; with_a_parent = refl; of_short_pointers = refl; of_symbols = refl; of_names = refl }
