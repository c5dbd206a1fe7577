use Rattle.std.proofs.Common.{◌<◌, ◌∙◌, arith}
use Rattle.ctf_records.proofs.ListedNumbers.{number_at, number_inside, numbers_in-length}
use Rattle.ctf_records.proofs.numbers.ReferenceList.get.Goals as goal

pub overflow_mul-self : goal.overflow_mul-self
overflow_mul-self c =
    let l = c.args.self.now in
    let few : c.args.item < l.count = omega (arith, c.requires, numbers_in-length l.len l.at l.count l.bytes.now) in
    omega (arith, number_inside l.len l.at l.count c.args.item l.inside few, l.room)

pub overflow_add-self : goal.overflow_add-self
overflow_add-self c =
    let l = c.args.self.now in
    let few : c.args.item < l.count = omega (arith, c.requires, numbers_in-length l.len l.at l.count l.bytes.now) in
    omega (arith, number_inside l.len l.at l.count c.args.item l.inside few, l.room)

pub u16_at-requires : goal.u16_at-requires
u16_at-requires c =
    let l = c.args.self.now in
    let few : c.args.item < l.count = omega (arith, c.requires, numbers_in-length l.len l.at l.count l.bytes.now) in
    omega (arith, number_inside l.len l.at l.count c.args.item l.inside few, l.room)

pub returns : goal.returns
returns c =
    let l = c.args.self.now in
    let few : c.args.item < l.count = omega (arith, c.requires, numbers_in-length l.len l.at l.count l.bytes.now) in
    c.u16_at.ensures ∙ number_at l.len l.at l.count c.args.item l.bytes.now few
