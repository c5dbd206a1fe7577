use Rattle.std.proofs.Common.{refl}
use Rattle.ctf_model.specs.drafts.Adders.{add_type, add_member}
use Rattle.ctf_model.specs.rules.Chains.{edges, within}
use Rattle.ctf_model.specs.drafts.DraftChanges.{after}
use Rattle.ctf_model.specs.rules.Faults.{first_deep}
use Rattle.ctf_model.specs.figures.Figures.{comes_to, most_numbers}
use Rattle.ctf_model.specs.writing.Written.{bytes_of, labels_written, records_written, unwritten, written}
use Rattle.ctf_model.specs.writing.WrittenNames.{distinct, name_reference, strings_of, used_names}
use Rattle.ctf_model.specs.writing.WrittenRecords.{record_bytes}
use Rattle.ctf_model.proofs.rows.dictionaries_are_written.Goals as goal

pub returns : goal.returns
unfolding add_type add_member edges within after first_deep comes_to most_numbers bytes_of labels_written records_written unwritten written distinct name_reference strings_of used_names record_bytes
returns c = record { empty = refl; one_int = refl; pending_too = refl; structs = refl; over_parent = refl; labelled = refl; in_itself = refl; values_first = refl; pointers_in_circles = refl }
