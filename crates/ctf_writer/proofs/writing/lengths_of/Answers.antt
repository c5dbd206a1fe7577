use Rattle.std.proofs.Common.{ℕ, List, arith, ap, length}
use Rattle.std.proofs.lemmas.List.{length-map}
use Rattle.std.specs.List.{flat_map}
use Rattle.ctf_draft.specs.TypeView.{type_of}
use Rattle.ctf_draft.specs.declared.types.DraftType.{DraftType}
use Rattle.ctf_writer.specs.DraftContentView.{written_type}
use Rattle.ctf_writer.specs.Tables.{names}
use Rattle.ctf_writer.proofs.ContentParts.{fits_later, held_len, labels_are, parted_len, records_are}
use Rattle.ctf_writer.proofs.Lengths.{labels_len}
use Rattle.ctf_writer.proofs.writing.lengths_of.Goals as goal

pub others-requires : goal.others-requires
others-requires c = let few = c.requires.before.count in let same = length-map c.args.held.types.now type_of in omega (arith, few, same)

pub records_len-requires : goal.records_len-requires
records_len-requires c = rw c.others.ensures (fits_later c.args.held c.args.before.count c.requires.fits)

pub returns-then-len : goal.returns-then-len
returns-then-len c =
    let far = c.if-len.true in
    let count = c.len.ensures.len in
    let labels = labels_len (names c.args.strings.now) c.args.held.labels.now in
    let whole = held_len c.args.held (names c.args.strings.now) c.requires.strings in
    omega (arith, far, count, labels, whole)

pub returns-in_default : goal.returns-in_default
returns-in_default c =
    let ns = names c.args.strings.now in
    let far = c.in_default.ensures (names c.args.strings.now) in
    let same = ap (λ (ts : List DraftType). length (flat_map (written_type ns) ts)) c.others.ensures in
    let parts = parted_len c.args.held ns c.requires.strings c.args.before c.requires.before in
    let whole = held_len c.args.held (names c.args.strings.now) c.requires.strings in
    omega (arith, far, same, parts, whole)

pub overflow_add-records : goal.overflow_add-records
overflow_add-records c =
    let few = c.requires.before.few in
    let short = (c.in-Some.ensures (names c.args.strings.now)).1 in
    omega (arith, few, short)

pub overflow_add-whole-2 : goal.overflow_add-whole-2
overflow_add-whole-2 c =
    let little = c.if-len.false in
    let one = c.len.ensures.len in
    let two = c.len-labels.ensures.len in
    let few = c.requires.before.few in
    let short = (c.in-Some.ensures (names c.args.strings.now)).1 in
    omega (arith, little, one, two, few, short)

pub overflow_add-whole-3 : goal.overflow_add-whole-3
overflow_add-whole-3 c =
    let little = c.if-len.false in
    let one = c.len.ensures.len in
    let two = c.len-labels.ensures.len in
    let few = c.requires.before.few in
    let short = (c.in-Some.ensures (names c.args.strings.now)).1 in
    let strings = c.len-2.ensures.short in
    omega (arith, little, one, two, few, short, strings)

pub returns-then-whole-gt-LONGEST : goal.returns-then-whole-gt-LONGEST
returns-then-whole-gt-LONGEST c =
    let ns = names c.args.strings.now in
    let far = c.if-whole-gt-LONGEST.true in
    let count = c.len-labels.ensures.len in
    let labels = labels_len (names c.args.strings.now) c.args.held.labels.now in
    let records = (c.in-Some.ensures (names c.args.strings.now)).0 in
    let same = ap (λ (ts : List DraftType). length (flat_map (written_type ns) ts)) c.others.ensures in
    let parts = parted_len c.args.held ns c.requires.strings c.args.before c.requires.before in
    let strings = c.len-2.ensures.exact in
    let whole = held_len c.args.held (names c.args.strings.now) c.requires.strings in
    omega (arith, far, count, labels, records, same, parts, strings, whole)

pub returns : goal.returns
returns c =
    let ns = names c.args.strings.now in
    let few = c.if-whole-gt-LONGEST.false in
    let count = c.len-labels.ensures.len in
    let labels = labels_len (names c.args.strings.now) c.args.held.labels.now in
    let first = ap (λ (b : List ℕ). length b) (labels_are c.args.held (names c.args.strings.now) c.requires.strings) in
    let records = (c.in-Some.ensures (names c.args.strings.now)).0 in
    let same = ap (λ (ts : List DraftType). length (flat_map (written_type ns) ts)) c.others.ensures in
    let parts = parted_len c.args.held ns c.requires.strings c.args.before c.requires.before in
    let second = ap (λ (b : List ℕ). length b) (records_are c.args.held (names c.args.strings.now) c.requires.strings) in
    let strings = c.len-2.ensures.exact in
    let whole = held_len c.args.held (names c.args.strings.now) c.requires.strings in
    (omega (arith, count, labels, first), omega (arith, records, same, parts, second), omega (arith, count, labels, records, same, parts, strings, whole), omega (arith, few))
