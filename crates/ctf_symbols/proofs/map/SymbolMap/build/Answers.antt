use Rattle.std.proofs.Common.{◌∙◌}
use Rattle.ctf_check.specs.CheckedView.{lists_of}
use Rattle.ctf_symbols.proofs.Answering.{lefts_are}
use Rattle.ctf_symbols.proofs.InOrder.{symbols_ordered}
use Rattle.ctf_symbols.proofs.map.SymbolMap.build.Goals as goal

pub returns : goal.returns
returns c =
    let s = lists_of c.args.dictionary.now in
    let p = c.symbol_parts-parts.ensures in
    record {
      places = c.in_ok-lefts.ensures.lefts ∙ lefts_are s _ _ _ _ _ c.new-names.ensures p.strs p.sym p.objects p.functions;
      symbols = symbols_ordered s _ _ _ _ _ _ c.new-names.ensures p.strs p.sym c.program_texts.ensures c.in_ok-lefts.ensures.items c.in_ok-symbols.ensures;
      labels = ∣ record { items = _; each = c.in_ok-items.ensures; fits = rw c.strings.ensures at c.in_ok-labels.ensures } ∣₁;
    }
