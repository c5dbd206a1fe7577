use Rattle.std.proofs.Common.{◌≡◌, ◌∙◌, Err, Some, ap, refl, sym}
use Rattle.serde_json.specs.Read.{read}
use Rattle.ctf_json.specs.Memory.{takes_memory}
use Rattle.ctf_json.specs.Values.{line_data}
use Rattle.ctf_model.specs.declared.faults.Fault.{Fault}
use Rattle.ctf_lines.specs.Numbered.{value_asked_or}
use Rattle.ctf_lines.proofs.AskedParts.{asked_or-same, word-same}
use Rattle.ctf_lines.proofs.Needing.{for_word}
use Rattle.ctf_lines.proofs.Numbered.{ask_or-not_json, ask_or-text}
use Rattle.ctf_lines.proofs.reading.read_within.Goals as goal

pub returns-in-Err-clause-refused : goal.returns-in-Err-clause-refused
returns-in-Err-clause-refused c = λ late.
    let why = c.in-Err.ensures.refused late in
    ask_or-not_json c.args.given c.args.line.now c.requires.short why.1 ∙ ap (λ (f : Fault). Err (0, f)) (sym why.0)

pub returns-clause-ok : goal.returns-clause-ok
returns-clause-ok c =
    let found = c.in_default.ensures.ok c.new-fields.ensures in
    let is = ask_or-text c.args.given c.args.line.now c.args.line.now (read c.args.line.now) c.requires.short refl c.in_default.ensures.text refl in
    let same : value_asked_or c.args.given (read c.args.line.now) ≡ value_asked_or c.args.given (Some (line_data c.read_json.new.fields)) = ap (value_asked_or c.args.given) found.is ∙ sym (asked_or-same (line_data c.read_json.new.fields) found.whole found.same c.args.given) in
    rw (is, same) c.read_fields.ensures.ok

pub returns-clause-refused : goal.returns-clause-refused
returns-clause-refused c =
    let found = c.in_default.ensures.ok c.new-fields.ensures in
    let is = ask_or-text c.args.given c.args.line.now c.args.line.now (read c.args.line.now) c.requires.short refl c.in_default.ensures.text refl in
    let same : value_asked_or c.args.given (read c.args.line.now) ≡ value_asked_or c.args.given (Some (line_data c.read_json.new.fields)) = ap (value_asked_or c.args.given) found.is ∙ sym (asked_or-same (line_data c.read_json.new.fields) found.whole found.same c.args.given) in
    rw (is, same) c.read_fields.ensures.refused

pub returns-clause-needed : goal.returns-clause-needed
returns-clause-needed c =
    let found = c.in_default.ensures.ok c.new-fields.ensures in
    for_word (takes_memory c.args.line.now) (line_data c.read_json.new.fields) found.whole (read c.args.line.now) found.is
    (word-same (line_data c.read_json.new.fields) found.whole found.same) c.read_fields.result c.read_fields.ensures.needed
