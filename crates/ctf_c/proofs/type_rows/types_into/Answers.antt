use Rattle.std.proofs.Common.{◌+◌, ◌-◌, ◌<◌, Some, ap, length, sym, ◌∙◌, arith}
use Rattle.ctf_c.proofs.TypeRows.{as_many, told_there}
use Rattle.ctf_c.proofs.names.Filled.{all_filled, filled, unfilled}
use Rattle.ctf_c.specs.TypeRows.{TellsType, own_numbers}
use Rattle.ctf_model.specs.opened.Open.{own_in}
use Rattle.ctf_model.specs.spaces.Space as spaces
use Rattle.ctf_c.proofs.type_rows.types_into.Goals as goal

pub loop-i-init : goal.loop-i-init
loop-i-init c = unfilled (TellsType (Some c.args.dictionary.now)) (own_numbers (own_in c.args.dictionary.now)) c.args.from c.args.rows.now

pub loop-i-preserved : goal.loop-i-preserved
loop-i-preserved c =
    let d = own_in c.args.dictionary.now in
    let Tells = TellsType (Some c.args.dictionary.now) in
    let all = c.count-all.ensures ∙ ap (λ (s : spaces.Space). length s.own.terms) c.space-space.ensures.space in
    let many = as_many d in
    let inside : c.args.from + c.loop-i.i < length d.terms = omega (arith, c.loop-i-test.true, c.min-count.ensures, c.saturating_sub-left.ensures, all) in
    filled Tells (own_numbers d) c.args.from c.args.rows.now c.loop-i.rows c.loop-i.i c.fill_row.new.row c.loop-i.invariant (omega (arith, c.loop-i-test.true, c.loop-i.auto.rows, c.min-count.ensures)) (omega (arith, inside, many)) (told_there Tells d (c.args.from + c.loop-i.i) c.fill_row.new.row inside (c.fill_row.ensures c.args.dictionary.now (record { space = c.space-space.ensures.space; lists = c.space-space.ensures.lists; fits = c.tables-tables.ensures.layout })))

pub returns-clause-count : goal.returns-clause-count
returns-clause-count c =
    c.count-all.ensures ∙ ap (λ (s : spaces.Space). length s.own.terms) c.space-space.ensures.space ∙ sym (as_many (own_in c.args.dictionary.now))

pub returns-clause-filled : goal.returns-clause-filled
returns-clause-filled c =
    let d = own_in c.args.dictionary.now in
    let all = c.count-all.ensures ∙ ap (λ (s : spaces.Space). length s.own.terms) c.space-space.ensures.space ∙ sym (as_many d) in
    all_filled (TellsType (Some c.args.dictionary.now)) (own_numbers d) c.args.from c.args.rows.now c.loop-i.rows c.loop-i.i c.saturating_sub-left.result c.min-count.result c.loop-i.invariant c.loop-i-test.false (c.saturating_sub-left.ensures ∙ ap (λ n. n - c.args.from) all) c.min-count.ensures
