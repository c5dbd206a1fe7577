use Rattle.std.proofs.Common.{◌*◌, ap, drop, subst, ◌∙◌, arith, ℕ}
use Rattle.std.specs.Prelude.{IfSome}
use Rattle.ctf_sections.specs.StringsView.{tables}
use Rattle.ctf_c.specs.names.MemberPlaces.{IsMember}
use Rattle.ctf_c.proofs.names.Placing.{least_row, row_holds, row_is, row_says, row_starts}
use Rattle.ctf_c.proofs.names.members.MemberRows.get.Goals as goal

pub row_at-bytes-requires : goal.row_at-bytes-requires
row_at-bytes-requires c = let r = c.args.self.now in rw c.member_len.ensures (row_starts r.size (tables r.strings) r.count c.args.index r.bytes.now r.good c.requires)

pub u32_at-requires : goal.u32_at-requires
u32_at-requires c =
    let r = c.args.self.now in
    let long = row_holds r.size (tables r.strings) r.count c.args.index r.bytes.now r.good c.requires c.row_at-bytes.result.now (c.row_at-bytes.ensures ∙ ap (λ (n : ℕ). drop (n * c.args.index) r.bytes.now) c.member_len.ensures) in
    let least = least_row r.size in
    omega (arith, long, least)

pub u16_at-requires : goal.u16_at-requires
u16_at-requires c =
    let r = c.args.self.now in
    let long = row_holds r.size (tables r.strings) r.count c.args.index r.bytes.now r.good c.requires c.row_at-bytes.result.now (c.row_at-bytes.ensures ∙ ap (λ (n : ℕ). drop (n * c.args.index) r.bytes.now) c.member_len.ensures) in
    let least = least_row r.size in
    omega (arith, long, least)

pub bits_at-requires : goal.bits_at-requires
bits_at-requires c =
    let r = c.args.self.now in
    row_holds r.size (tables r.strings) r.count c.args.index r.bytes.now r.good c.requires c.row_at-bytes.result.now (c.row_at-bytes.ensures ∙ ap (λ (n : ℕ). drop (n * c.args.index) r.bytes.now) c.member_len.ensures)

pub returns : goal.returns
returns c =
    let r = c.args.self.now in
    let t = tables r.strings in
    let here = row_is r.size t r.count c.args.index r.bytes.now r.good c.requires c.row_at-bytes.result.now (c.row_at-bytes.ensures ∙ ap (λ (n : ℕ). drop (n * c.args.index) r.bytes.now) c.member_len.ensures) in
    subst (λ o. IfSome o (λ m. IsMember t m (record { reference = c.u32_at.result; tnum = record { 0 = c.u16_at.result }; offset = c.bits_at.result }))) here (row_says r.size t c.row_at-bytes.result.now _ c.u32_at.ensures c.u16_at.ensures c.bits_at.ensures)
