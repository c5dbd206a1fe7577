use Rattle.std.proofs.Common.{◌∙◌, ap, Option, List, ℕ}
use Rattle.ctf_model.specs.format.Dictionary.{said_by}
use Rattle.ctf_model.specs.symbols.Entries.{entries_of}
use Rattle.ctf_model.specs.symbols.Symbols.{with_types, symbols_of}
use Rattle.ctf_check.specs.CheckedView.{lists_of}
use Rattle.ctf_check.proofs.SymbolStages.{entries_are}
use Rattle.ctf_check.proofs.checked.Checked.entries.Goals as goal

pub returns : goal.returns
unfolding said_by
returns c =
    let s = lists_of c.args.self.now in
    let p = c.symbol_parts-parts in
    let strs = ap (λ (t : Option (List ℕ)). entries_of (with_types (symbols_of t p.result.sym.now)) p.result.objects.now p.result.functions.now) p.ensures.strs in
    c.new.ensures ∙ strs ∙ entries_are s _ _ _ p.ensures.sym p.ensures.objects p.ensures.functions
