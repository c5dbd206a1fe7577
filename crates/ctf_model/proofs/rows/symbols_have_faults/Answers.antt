use Rattle.std.proofs.Common.{refl}
use Rattle.ctf_model.specs.format.Bytes.{number}
use Rattle.ctf_model.specs.rules.Chains.{edges, within}
use Rattle.ctf_model.specs.format.Dictionary.{denoted, said_by, labels_in}
use Rattle.ctf_model.specs.rules.Faults.{first_fault, rules, types, first_nameless, label_sites, item_sites, record_sites, sites, bad_name, first_misnaming, bad_reference, first_deep, edges_by, bad_funcs, bad_symbol_type}
use Rattle.ctf_model.specs.symbols.Entries.{entries, entries_of, function_sites, function_sites_of}
use Rattle.ctf_model.specs.rules.Needs.{greatest_in_parent}
use Rattle.ctf_model.specs.rules.References.{is_misnaming}
use Rattle.ctf_model.specs.format.Spelling.{term_of}
use Rattle.ctf_model.specs.symbols.Symbols.{symbols, symbols_in, is_considered}
use Rattle.ctf_model.specs.format.Section.{front_len, terms_in, walk}
use Rattle.ctf_model.proofs.rows.symbols_have_faults.Goals as goal

pub returns : goal.returns
unfolding number denoted said_by labels_in terms_in first_fault rules types first_nameless label_sites item_sites record_sites sites bad_name is_misnaming first_misnaming bad_reference first_deep edges_by edges within term_of front_len walk bad_funcs bad_symbol_type symbols symbols_in entries entries_of function_sites function_sites_of is_considered greatest_in_parent
returns c = record { cut_entry = refl; cut_function = refl; no_type = refl; least_rule = refl; byte_more = refl; child = refl; kind = refl; argument = refl; no_kind = refl; silent_root = refl }
