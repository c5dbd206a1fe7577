use Rattle.std.proofs.Common.{◌≡◌, ap, sym, ◌∙◌, ℕ, ◌++◌, List}
use Rattle.ctf_model.specs.writing.WrittenNames.{name_reference}
use Rattle.ctf_model.specs.writing.WrittenRecords.{u16, u32, halves}
use Rattle.ctf_writer.specs.Tables.{names}
use Rattle.ctf_draft.specs.TypeView.{member_of}
use Rattle.ctf_writer.proofs.Joining.{joined_four, wide_member}
use Rattle.ctf_writer.proofs.items.put_wide_member.Goals as goal

pub returns-clause-items : goal.returns-clause-items
returns-clause-items c =
    let name = c.args.member.now.name in
    let at = c.reference.ensures in
    let text = c.as_slice.ensures in
    let same : c.reference.result ≡ name_reference (names c.args.strings.now) c.args.member.now.name = at ∙ ap (name_reference (names c.args.strings.now)) text in
    joined_four c.args.out.now.items (u32 (name_reference (names c.args.strings.now) c.args.member.now.name)) (u16 c.args.member.now.tnum.0) (u16 0) (halves c.args.member.now.offset) c.put_u32.new.out.items c.put_u16.new.out.items c.put_u16-2.new.out.items c.put_halves.new.out.items
    (c.put_u32.ensures.items ∙ ap (λ (r : ℕ). c.args.out.now.items ++ u32 r) same) c.put_u16.ensures.items c.put_u16-2.ensures.items c.put_halves.ensures.items
    ∙ ap (λ (b : List ℕ). c.args.out.now.items ++ b) (sym (wide_member (names c.args.strings.now) c.args.size (member_of c.args.member.now) c.requires.wide))
