use Rattle.std.proofs.Common.{refl}
use Rattle.ctf_model.specs.format.Bytes.{number}
use Rattle.ctf_model.specs.rules.Chains.{edges, within}
use Rattle.ctf_model.specs.format.Dictionary.{denoted, said_by, labels_in}
use Rattle.ctf_model.specs.rules.Faults.{first_fault, rules, types, first_nameless, label_sites, item_sites, record_sites, sites, bad_name, first_misnaming, bad_reference, first_deep, edges_by, bad_funcs, bad_symbol_type}
use Rattle.ctf_model.specs.figures.Figures.{comes_to, most_numbers}
use Rattle.ctf_model.specs.figures.Paths.{path_from}
use Rattle.ctf_model.specs.symbols.Entries.{entries, entries_of, function_sites, function_sites_of}
use Rattle.ctf_model.specs.rules.References.{is_misnaming}
use Rattle.ctf_model.specs.format.Spelling.{term_of}
use Rattle.ctf_model.specs.symbols.Symbols.{symbols, symbols_in}
use Rattle.ctf_model.specs.format.Section.{front_len, terms_in, walk}
use Rattle.ctf_protocol.specs.sessions.Steps.{change_step}
use Rattle.ctf_model.specs.names.TypeNames.{declaration_within, declared}
use Rattle.std.specs.Fmt.{digits}
use Rattle.ctf_model.specs.rules.FaultNames.{name_of_fault}
use Rattle.ctf_protocol.specs.lines.ReplyLines.{fitting_line}
use Rattle.ctf_protocol.proofs.rows.questions_are_answered.Goals as goal

pub returns : goal.returns
unfolding declaration_within declared comes_to most_numbers path_from number denoted said_by labels_in terms_in first_fault rules types first_nameless label_sites item_sites record_sites sites bad_name is_misnaming first_misnaming bad_reference first_deep edges_by edges within term_of front_len walk change_step digits name_of_fault fitting_line bad_funcs bad_symbol_type symbols symbols_in entries entries_of function_sites function_sites_of
returns c = record { kind = refl; one_argument = refl; more_may_follow = refl; no_function = refl; no_type = refl; no_slot = refl; all_members = refl; second_member = refl; no_members = refl; negative = refl; an_array = refl; a_float = refl; a_struct = refl; a_pointer = refl; a_return = refl; resolved = refl; size = refl; align = refl; incomplete = refl; no_size = refl; name = refl; no_name = refl; pointer = refl; pointer_behind = refl; no_pointer = refl; pointer_to_nothing = refl; found = refl; not_found = refl; hidden = refl; no_name_at_all = refl; found_nowhere = refl; path = refl; no_step = refl; no_member = refl; not_aggregate = refl; nothing_staged = refl }
