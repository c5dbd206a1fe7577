use Rattle.std.proofs.Common.{◌∙◌, sym, ap, ℕ, List, length, arith}
use Rattle.std.proofs.lemmas.List.{length-drop}
use Rattle.ctf_entries.proofs.Considering.{considered_end, considered_more, considered_less}
use Rattle.ctf_entries.specs.NamesView.{strings_of}
use Rattle.ctf_entries.proofs.considered.first_considered.Goals as goal

pub returns-then-is_considered-clause-first : goal.returns-then-is_considered-clause-first
returns-then-is_considered-clause-first c = sym c.symbols.invariant.1 ∙ considered_more (strings_of c.args.names) c.symbols.number _ _ _ c.behind_first-behind.ensures c.symbols-test.true (c.read-symbol.ensures) (sym c.is_considered.ensures.test ∙ c.if-is_considered.true)

pub symbols-preserved : goal.symbols-preserved
symbols-preserved c = (
  omega (arith, ap (λ (l : List ℕ). length l) c.behind_first-behind.ensures, length-drop 24 c.symbols.rest.now, c.symbols.invariant.0, c.symbols-test.true),
  sym (considered_less (strings_of c.args.names) c.symbols.number _ _ _ c.behind_first-behind.ensures c.symbols-test.true (c.read-symbol.ensures) (sym c.is_considered.ensures.test ∙ c.if-is_considered.false)) ∙ c.symbols.invariant.1,
)

pub returns-clause-first : goal.returns-clause-first
returns-clause-first c = sym c.symbols.invariant.1 ∙ considered_end (strings_of c.args.names) c.symbols.number _ c.symbols-test.false

pub returns-then-is_considered-clause-near : goal.returns-then-is_considered-clause-near
returns-then-is_considered-clause-near c = omega (arith, ap (λ (l : List ℕ). length l) c.behind_first-behind.ensures, length-drop 24 c.symbols.rest.now, c.symbols.invariant.0, c.symbols-test.true)
