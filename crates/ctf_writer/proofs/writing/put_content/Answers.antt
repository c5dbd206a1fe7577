use Rattle.std.proofs.Common.{◌++◌, ℕ, List, arith, ap, length, ◌∙◌}
use Rattle.std.proofs.lemmas.List.{length-map}
use Rattle.std.specs.List.{flat_map}
use Rattle.ctf_draft.specs.TypeView.{type_of}
use Rattle.ctf_draft.specs.declared.types.DraftType.{DraftType}
use Rattle.ctf_writer.specs.DraftContentView.{written_type}
use Rattle.ctf_writer.specs.Tables.{names, used}
use Rattle.ctf_writer.proofs.ContentParts.{fits_later, held_len, held_joined, kept_label, kept_labels, kept_later, kept_name, labels_are, parted_len, records_are, records_joined}
use Rattle.ctf_writer.proofs.writing.put_content.Goals as goal

pub reference-requires : goal.reference-requires
reference-requires c = kept_label c.args.held c.args.before.count (used c.args.strings.now) c.requires.used

pub reference-requires-2 : goal.reference-requires-2
reference-requires-2 c = kept_name c.args.held c.args.before.count (used c.args.strings.now) c.requires.used

pub overflow_cast-heading : goal.overflow_cast-heading
overflow_cast-heading c =
    let whole = held_len c.args.held (names c.args.strings.now) c.requires.strings in
    let are = ap (λ (b : List ℕ). length b) (labels_are c.args.held (names c.args.strings.now) c.requires.strings) in
    let labels = c.requires.labels in
    let short = c.requires.short in
    omega (arith, whole, are, labels, short)

pub overflow_cast-heading-2 : goal.overflow_cast-heading-2
overflow_cast-heading-2 c =
    let whole = held_len c.args.held (names c.args.strings.now) c.requires.strings in
    let are = ap (λ (b : List ℕ). length b) (records_are c.args.held (names c.args.strings.now) c.requires.strings) in
    let records = c.requires.records in
    let short = c.requires.short in
    omega (arith, whole, are, records, short)

pub put_header-requires-clause-fits : goal.put_header-requires-clause-fits
put_header-requires-clause-fits c =
    let whole = held_len c.args.held (names c.args.strings.now) c.requires.strings in
    let first = ap (λ (b : List ℕ). length b) (labels_are c.args.held (names c.args.strings.now) c.requires.strings) in
    let second = ap (λ (b : List ℕ). length b) (records_are c.args.held (names c.args.strings.now) c.requires.strings) in
    let labels = c.requires.labels in
    let records = c.requires.records in
    let short = c.requires.short in
    omega (arith, whole, first, second, labels, records, short)

pub put_header-requires-clause-room : goal.put_header-requires-clause-room
put_header-requires-clause-room c =
    let whole = held_len c.args.held (names c.args.strings.now) c.requires.strings in
    let room = c.requires.room in
    omega (arith, whole, room)

pub put_labels-requires-clause-room : goal.put_labels-requires-clause-room
put_labels-requires-clause-room c =
    let whole = held_len c.args.held (names c.args.strings.now) c.requires.strings in
    let room = c.requires.room in
    let len = c.put_header.ensures.len in
    let capacity = c.put_header.ensures.capacity in
    omega (arith, whole, room, len, capacity)

pub put_labels-requires-clause-kept : goal.put_labels-requires-clause-kept
put_labels-requires-clause-kept c = kept_labels c.args.held c.args.before.count (used c.args.strings.now) c.requires.used

pub copy-requires : goal.copy-requires
copy-requires c =
    let ns = names c.args.strings.now in
    let whole = held_len c.args.held ns c.requires.strings in
    let parts = parted_len c.args.held ns c.requires.strings c.args.before c.requires.before in
    let room = c.requires.room in
    let len = c.put_header.ensures.len in
    let capacity = c.put_header.ensures.capacity in
    let labels = c.put_labels.ensures.len in
    let stays = c.put_labels.ensures.capacity in
    omega (arith, whole, parts, room, len, capacity, labels, stays)

pub others-requires : goal.others-requires
others-requires c = let few = c.requires.before.count in let same = length-map c.args.held.types.now type_of in omega (arith, few, same)

pub put_records-requires-clause-room : goal.put_records-requires-clause-room
put_records-requires-clause-room c =
    let ns = names c.args.strings.now in
    let whole = held_len c.args.held ns c.requires.strings in
    let parts = parted_len c.args.held ns c.requires.strings c.args.before c.requires.before in
    let same = ap (λ (ts : List DraftType). length (flat_map (written_type ns) ts)) c.others.ensures in
    let room = c.requires.room in
    let len = c.put_header.ensures.len in
    let capacity = c.put_header.ensures.capacity in
    let labels = c.put_labels.ensures.len in
    let stays = c.put_labels.ensures.capacity in
    let copied = c.copy.ensures.len in
    let grows = c.copy.ensures.capacity in
    omega (arith, whole, parts, same, room, len, capacity, labels, stays, copied, grows)

pub put_records-requires-clause-fits : goal.put_records-requires-clause-fits
put_records-requires-clause-fits c = rw c.others.ensures (fits_later c.args.held c.args.before.count c.requires.fits)

pub put_records-requires-clause-kept : goal.put_records-requires-clause-kept
put_records-requires-clause-kept c = rw c.others.ensures (kept_later c.args.held c.args.before.count (used c.args.strings.now) c.requires.used)

pub put-requires : goal.put-requires
put-requires c =
    let ns = names c.args.strings.now in
    let whole = held_len c.args.held ns c.requires.strings in
    let parts = parted_len c.args.held ns c.requires.strings c.args.before c.requires.before in
    let same = ap (λ (ts : List DraftType). length (flat_map (written_type ns) ts)) c.others.ensures in
    let room = c.requires.room in
    let len = c.put_header.ensures.len in
    let capacity = c.put_header.ensures.capacity in
    let labels = c.put_labels.ensures.len in
    let stays = c.put_labels.ensures.capacity in
    let copied = c.copy.ensures.len in
    let grows = c.copy.ensures.capacity in
    let records = c.put_records.ensures.len in
    let still = c.put_records.ensures.capacity in
    omega (arith, whole, parts, same, room, len, capacity, labels, stays, copied, grows, records, still)

pub returns : goal.returns
returns c =
    let ns = names c.args.strings.now in
    let later = c.put_records.ensures.items ∙ ap (λ (ts : List DraftType). c.copy.new.out.items ++ flat_map (written_type ns) ts) c.others.ensures in
    record {
      items = held_joined c.args.held (names c.args.strings.now) c.requires.strings c.reference.result c.reference-2.result c.args.lengths.labels c.args.lengths.records c.len.result
          c.args.out.now.items c.put_header.new.out.items c.put_labels.new.out.items c.put_records.new.out.items c.put.new.out.items
          c.reference.ensures c.reference-2.ensures c.requires.labels c.requires.records c.len.ensures.exact
          c.put_header.ensures.items c.put_labels.ensures.items
          (records_joined c.args.held ns c.requires.strings c.args.before c.requires.before c.put_labels.new.out.items c.copy.new.out.items c.put_records.new.out.items c.copy.ensures.items later)
          c.put.ensures.items;
    }
