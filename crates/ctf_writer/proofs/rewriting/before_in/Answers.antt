use Rattle.std.proofs.Common.{◌≡◌, ℕ, List, ◌/◌, arith, length, ap, ◌∙◌}
use Rattle.ctf_check.specs.CheckedView.{lists_of}
use Rattle.ctf_model.specs.declared.sections.Section.TheVariants.{SLabels}
use Rattle.ctf_model.specs.drafts.Drafts.{content}
use Rattle.ctf_model.specs.format.Dictionary.{Dictionary, said_by}
use Rattle.ctf_model.specs.format.Header.{section}
use Rattle.ctf_model.specs.format.Lists.{Lists}
use Rattle.ctf_writer.proofs.Again.{all_before, nothing_before}
use Rattle.ctf_writer.proofs.rewriting.before_in.Goals as goal

pub returns-then-section-len : goal.returns-then-section-len
returns-then-section-len c =
    let d = c.args.draft.now.draft in
    let bytes = (lists_of c.args.dictionary).ctf in
    let test = c.if-section-len.true in
    let count = c.len.ensures.len in
    let part = ap (λ (b : List ℕ). length b) c.section.ensures.bytes in
    let same = ap (λ (e : Dictionary). length e.labels) c.of-held.ensures.dictionary in
    let full : length (section (lists_of c.args.dictionary).ctf SLabels) / 8 ≡ length (content c.args.draft.now.draft).labels = omega (arith, test, count, part, same) in
    all_before d bytes c.of-held.ensures.sound c.requires.written full c.all.result c.all.ensures.records c.all.ensures.strings
    (c.all.ensures.count ∙ ap (λ (l : Lists). length (said_by l).terms) c.requires.alone)

pub returns-else-section-len : goal.returns-else-section-len
returns-else-section-len c = nothing_before (content c.args.draft.now.draft) c.nothing.result c.nothing.ensures.records c.nothing.ensures.strings c.nothing.ensures.count
