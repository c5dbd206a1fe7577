use Rattle.std.proofs.Common.{refl}
use Rattle.ctf_model.specs.format.Bytes.{number}
use Rattle.ctf_model.specs.rules.Chains.{edges, within}
use Rattle.ctf_model.specs.format.Dictionary.{denoted, said_by, labels_in}
use Rattle.ctf_model.specs.rules.Faults.{first_fault, rules, types, first_nameless, label_sites, item_sites, record_sites, sites, bad_name, first_misnaming, bad_reference, first_deep, edges_by, bad_funcs, bad_symbol_type}
use Rattle.ctf_model.specs.symbols.Entries.{entries, entries_of, function_sites, function_sites_of}
use Rattle.ctf_model.specs.rules.References.{is_misnaming}
use Rattle.ctf_model.specs.format.Spelling.{term_of}
use Rattle.ctf_model.specs.symbols.Symbols.{symbols, symbols_in}
use Rattle.ctf_model.specs.format.Section.{front_len, terms_in, walk}
use Rattle.ctf_protocol.specs.sessions.Charges.{charge}
use Rattle.ctf_protocol.specs.sessions.Steps.{change_step}
use Rattle.std.specs.Fmt.{digits}
use Rattle.ctf_model.specs.rules.FaultNames.{name_of_fault}
use Rattle.ctf_model.specs.drafts.Adders.{add_type}
use Rattle.ctf_model.specs.drafts.Drafts.{new_draft}
use Rattle.ctf_model.specs.opened.Steps.{created}
use Rattle.ctf_model.specs.figures.Figures.{comes_to, most_numbers}
use Rattle.ctf_model.specs.writing.Written.{bytes_of, labels_written, records_written, unwritten, written}
use Rattle.ctf_model.specs.writing.WrittenNames.{distinct, name_reference, strings_of, used_names}
use Rattle.ctf_model.specs.writing.WrittenRecords.{record_bytes}
use Rattle.ctf_protocol.specs.lines.ReplyLines.{fitting_line}
use Rattle.ctf_protocol.specs.sessions.DraftSteps.{created_slot, slot_step}
use Rattle.ctf_protocol.proofs.rows.drafts_are_among_slots.Goals as goal

pub returns : goal.returns
unfolding number denoted said_by labels_in terms_in first_fault rules types first_nameless label_sites item_sites record_sites sites bad_name is_misnaming first_misnaming bad_reference first_deep edges_by edges within term_of front_len walk change_step charge bad_funcs bad_symbol_type symbols symbols_in entries entries_of function_sites function_sites_of add_type new_draft created bytes_of labels_written records_written unwritten written comes_to most_numbers distinct name_reference strings_of used_names record_bytes fitting_line created_slot slot_step digits name_of_fault
returns c = record { no_import = refl; not_updated = refl; published = refl; no_parent_slot = refl; parent_is_child = refl }
