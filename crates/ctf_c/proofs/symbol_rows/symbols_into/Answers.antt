use Rattle.std.proofs.Common.{◌≡◌, ℕ, ◌+◌, ◌-◌, ◌^◌, ◌<◌, List, Option, Some, ap, length, min, subst, sym, ◌∙◌, arith}
use Rattle.std.proofs.lemmas.List.FromFn.{length-range_with_len}
use Rattle.ctf_c.proofs.ListedRows.{number_told}
use Rattle.ctf_c.proofs.names.Filled.{all_filled, filled, unfilled}
use Rattle.ctf_c.specs.ItemRows.{TellsSymbol, symbol_numbers}
use Rattle.ctf_model.specs.format.Dictionary.{Dictionary}
use Rattle.ctf_model.specs.format.Lists.{Lists}
use Rattle.ctf_model.specs.opened.Open.{own_in}
use Rattle.ctf_sections.specs.TableEnds.{EndsAt}
use Rattle.ctf_c.proofs.symbol_rows.symbols_into.Goals as goal

pub loop-i-init : goal.loop-i-init
loop-i-init c = unfilled (TellsSymbol (Some c.args.dictionary.now)) (symbol_numbers (own_in c.args.dictionary.now)) c.args.from c.args.rows.now

pub symbol_row-requires-clause-there : goal.symbol_row-requires-clause-there
symbol_row-requires-clause-there c =
    let all = c.symbol_count-all.ensures ∙ ap (λ (x : Dictionary). min (length x.symbols) (2 ^ 32)) c.dictionary-own.ensures.own in
    omega (arith, c.loop-i-test.true, c.min-count.ensures, c.saturating_sub-left.ensures, all)

pub symbol_row-requires-clause-ends : goal.symbol_row-requires-clause-ends
symbol_row-requires-clause-ends c = subst (λ (o : Option (List ℕ)). EndsAt o c.names_end-end.result) (c.symbol_parts-parts.ensures.strs ∙ ap (λ (l : Lists). l.strs) c.dictionary-own.ensures.lists) c.names_end-end.ensures

pub loop-i-preserved : goal.loop-i-preserved
loop-i-preserved c =
    let d = own_in c.args.dictionary.now in
    let Tells = TellsSymbol (Some c.args.dictionary.now) in
    let n = min (length d.symbols) (2 ^ 32) in
    let all : c.symbol_count-all.result ≡ n = c.symbol_count-all.ensures ∙ ap (λ (x : Dictionary). min (length x.symbols) (2 ^ 32)) c.dictionary-own.ensures.own in
    let many = length-range_with_len 0 n in
    let inside : c.args.from + c.loop-i.i < n = omega (arith, c.loop-i-test.true, c.min-count.ensures, c.saturating_sub-left.ensures, all) in
    filled Tells (symbol_numbers d) c.args.from c.args.rows.now c.loop-i.rows c.loop-i.i c.symbol_row.result c.loop-i.invariant (omega (arith, c.loop-i-test.true, c.loop-i.auto.rows, c.min-count.ensures)) (omega (arith, inside, many)) (number_told Tells n (c.args.from + c.loop-i.i) c.symbol_row.result inside c.symbol_row.ensures)

pub returns-clause-count : goal.returns-clause-count
returns-clause-count c = c.symbol_count-all.ensures ∙ ap (λ (x : Dictionary). min (length x.symbols) (2 ^ 32)) c.dictionary-own.ensures.own ∙ sym (length-range_with_len 0 (min (length (own_in c.args.dictionary.now).symbols) (2 ^ 32)))

pub returns-clause-filled : goal.returns-clause-filled
returns-clause-filled c =
    let d = own_in c.args.dictionary.now in
    let all = c.symbol_count-all.ensures ∙ ap (λ (x : Dictionary). min (length x.symbols) (2 ^ 32)) c.dictionary-own.ensures.own ∙ sym (length-range_with_len 0 (min (length d.symbols) (2 ^ 32))) in
    all_filled (TellsSymbol (Some c.args.dictionary.now)) (symbol_numbers d) c.args.from c.args.rows.now c.loop-i.rows c.loop-i.i c.saturating_sub-left.result c.min-count.result c.loop-i.invariant c.loop-i-test.false (c.saturating_sub-left.ensures ∙ ap (λ k. k - c.args.from) all) c.min-count.ensures
