use Rattle.std.proofs.Common.{List, ℕ, Some, [], ap, ◌∙◌}
use Rattle.ctf_records.proofs.ListedNumbers.{array_listed, none_listed, nothing_listed}
use Rattle.ctf_records.specs.ListedTypes.{numbers_in}
use Rattle.ctf_records.specs.RecordView.{bytes_of}
use Rattle.ctf_records.proofs.record.Record.reference_list.Goals as goal

pub returns-in-KArray : goal.returns-in-KArray
returns-in-KArray c =
    let b = bytes_of c.args.self.now in
    c.new.ensures ∙ ap (λ (r : List ℕ). numbers_in 2 0 2 r) c.rest.ensures.bytes ∙ array_listed b (c.kind.ensures ∙ ap Some c.in-KArray.is)

pub returns-in_default : goal.returns-in_default
returns-in_default c =
    let d = c.in_default in
    c.new-in_default.ensures ∙ none_listed 2 0 [] ∙ nothing_listed (bytes_of c.args.self.now) c.kind.result c.kind.ensures d.not-KArray d.not-KFunction d.not-KStruct d.not-KUnion
