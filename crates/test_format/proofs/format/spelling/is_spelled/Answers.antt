use Rattle.std.proofs.Common.{sym, ◌∙◌}
use Rattle.ctf_sections.specs.StringsView.{tables}
use Rattle.ctf_records.specs.RecordView.{bytes_of}
use Rattle.test_format.proofs.Named.{none_listed, spells}
use Rattle.test_format.proofs.format.spelling.is_spelled.Goals as goal

pub returns-in_default : goal.returns-in_default
returns-in_default c = λ h.
    let t = tables c.args.strings in
    let b = bytes_of c.args.record.now in
    let named = rw c.name_ref.ensures at (sym c.names_nothing.ensures ∙ c.if-names_nothing.false) in
    spells t b c.args.record.now.is_whole named
    (none_listed t b c.kind.result c.kind.ensures c.in_default.not-KStruct c.in_default.not-KUnion c.in_default.not-KEnum)
