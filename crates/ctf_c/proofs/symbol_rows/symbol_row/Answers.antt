use Rattle.std.proofs.Common.{ℕ, [], Result, ap, refl, subst, ◌∙◌, arith}
use Rattle.std.specs.Prelude.{unwrap_or}
use Rattle.ctf_c.proofs.names.SymbolRows.{symbol_inside, symbol_told, symbol_whole}
use Rattle.ctf_c.specs.Given.{Gives}
use Rattle.ctf_model.specs.declared.faults.Fault.{Fault}
use Rattle.ctf_model.specs.format.Lists.{Lists}
use Rattle.ctf_c.proofs.symbol_rows.symbol_row.Goals as goal

pub symbol_at-bytes-requires : goal.symbol_at-bytes-requires
symbol_at-bytes-requires c =
    let s = c.args.dictionary.now.own.lists in
    let table = c.symbol_parts-parts.ensures.sym ∙ ap (λ (l : Lists). unwrap_or l.sym []) c.dictionary-own.ensures.lists in
    let inside = symbol_inside s c.symbol_parts-parts.result.sym.now c.args.number table c.requires.there in
    omega (arith, inside)

pub u32_at-requires : goal.u32_at-requires
u32_at-requires c =
    let s = c.args.dictionary.now.own.lists in
    let table = c.symbol_parts-parts.ensures.sym ∙ ap (λ (l : Lists). unwrap_or l.sym []) c.dictionary-own.ensures.lists in
    let whole = symbol_whole s c.symbol_parts-parts.result.sym.now c.symbol_at-bytes.result.now c.args.number table c.requires.there c.symbol_at-bytes.ensures in
    omega (arith, whole)

pub symbol_class-class-requires : goal.symbol_class-class-requires
symbol_class-class-requires c =
    let s = c.args.dictionary.now.own.lists in
    let table = c.symbol_parts-parts.ensures.sym ∙ ap (λ (l : Lists). unwrap_or l.sym []) c.dictionary-own.ensures.lists in
    symbol_whole s c.symbol_parts-parts.result.sym.now c.symbol_at-bytes.result.now c.args.number table c.requires.there c.symbol_at-bytes.ensures

pub returns : goal.returns
returns c =
    let d = c.args.dictionary.now in
    let table = c.symbol_parts-parts.ensures.sym ∙ ap (λ (l : Lists). unwrap_or l.sym []) c.dictionary-own.ensures.lists in
    let place = c.symbol_position-place.result in
    let status = c.give_type-type_status.result in
    let tnum = c.give_type-type_status.new.out in
    symbol_told d c.args.number c.symbol_parts-parts.result.sym.now c.symbol_at-bytes.result.now (record { name_at = place.at; name_list = place.list; number = c.args.number; symbol_class = c.symbol_class-class.result; type_status = status; tnum = tnum }) table c.requires.there c.symbol_at-bytes.ensures refl c.symbol_class-class.ensures
    (λ is. subst (λ (r : Result ℕ Fault). Gives r status 0 tnum) (c.symbol_type.ensures.function is) c.give_type-type_status.ensures)
    (λ other. subst (λ (r : Result ℕ Fault). Gives r status 0 tnum) (c.symbol_type.ensures.object other) c.give_type-type_status.ensures)
    (rw c.u32_at.ensures at (c.symbol_position-place.ensures d.own.lists c.requires.ends))
