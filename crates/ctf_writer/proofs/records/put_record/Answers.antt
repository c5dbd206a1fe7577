use Rattle.std.proofs.Common.{◌≡◌, ℕ, ◌++◌, arith, ap, length, ◌∙◌}
use Rattle.ctf_model.specs.writing.WrittenNames.{name_reference}
use Rattle.ctf_model.specs.writing.WrittenRecords.{u16, u32, field_bytes}
use Rattle.ctf_writer.specs.Tables.{names}
use Rattle.ctf_draft.specs.TypeView.{type_of}
use Rattle.ctf_writer.proofs.Joining.{record_len, record_joined}
use Rattle.ctf_writer.proofs.records.put_record.Goals as goal

pub put_u32-requires : goal.put_u32-requires
put_u32-requires c = let len = record_len (names c.args.strings.now) (type_of c.args.source.now) in let room = c.requires.room in omega (arith, len, room)

pub put_u16-requires : goal.put_u16-requires
put_u16-requires c = let len = record_len (names c.args.strings.now) (type_of c.args.source.now) in let room = c.requires.room in let p = c.put_u32.ensures.len in let q = c.put_u32.ensures.capacity in omega (arith, len, room, p, q)

pub put_field-requires : goal.put_field-requires
put_field-requires c =
    let len = record_len (names c.args.strings.now) (type_of c.args.source.now) in
    let room = c.requires.room in
    let p = c.put_u32.ensures.len in
    let q = c.put_u32.ensures.capacity in
    let r = c.put_u16.ensures.len in
    let s = c.put_u16.ensures.capacity in
    let same = ap (λ (n : ℕ). length (field_bytes n)) c.field.ensures in
    omega (arith, len, room, p, q, r, s, same)

pub put_variant-requires-clause-room : goal.put_variant-requires-clause-room
put_variant-requires-clause-room c =
    let len = record_len (names c.args.strings.now) (type_of c.args.source.now) in
    let room = c.requires.room in
    let p = c.put_u32.ensures.len in
    let q = c.put_u32.ensures.capacity in
    let r = c.put_u16.ensures.len in
    let s = c.put_u16.ensures.capacity in
    let u = c.put_field.ensures.len in
    let v = c.put_field.ensures.capacity in
    let same = ap (λ (n : ℕ). length (field_bytes n)) c.field.ensures in
    omega (arith, len, room, p, q, r, s, u, v, same)

pub returns-clause-items : goal.returns-clause-items
returns-clause-items c =
    let name : c.reference.result ≡ name_reference (names c.args.strings.now) c.args.source.now.name = c.reference.ensures ∙ ap (name_reference (names c.args.strings.now)) c.as_slice.ensures in
    record_joined (names c.args.strings.now) (type_of c.args.source.now) c.args.out.now.items c.put_u32.new.out.items c.put_u16.new.out.items c.put_field.new.out.items c.put_variant.new.out.items
    (c.put_u32.ensures.items ∙ ap (λ (r : ℕ). c.args.out.now.items ++ u32 r) name)
    (c.put_u16.ensures.items ∙ ap (λ (i : ℕ). c.put_u32.new.out.items ++ u16 i) c.info.ensures)
    (c.put_field.ensures.items ∙ ap (λ (n : ℕ). c.put_u16.new.out.items ++ field_bytes n) c.field.ensures)
    c.put_variant.ensures.items

pub returns-clause-len : goal.returns-clause-len
returns-clause-len c =
    let len = record_len (names c.args.strings.now) (type_of c.args.source.now) in
    let p = c.put_u32.ensures.len in
    let r = c.put_u16.ensures.len in
    let u = c.put_field.ensures.len in
    let w = c.put_variant.ensures.len in
    let same = ap (λ (n : ℕ). length (field_bytes n)) c.field.ensures in
    omega (arith, len, p, r, u, w, same)
