use Rattle.std.proofs.Common.{◌∙◌, ap, arith, None}
use Rattle.ctf_check.specs.CheckedView.{lists_of}
use Rattle.ctf_symbols.proofs.Answering.{not_there, there, kept_of, function_kept, function_good, function_missing, function_other, function_said, is_sort, other_sort, sound_parts, left_is, ending_is}
use Rattle.ctf_symbols.proofs.map.SymbolMap.function.Goals as goal
use Rattle.ctf_model.specs.symbols.Entries.{signature_in, is_bad_entry}

pub returns-in_default : goal.returns-in_default
returns-in_default c =
    let s = lists_of c.args.dictionary.now in
    rw c.placeless.ensures (function_missing s c.args.number (not_there s _ c.args.number c.symbol_parts-parts.ensures.sym c.in_default.ensures))

pub returns-then-sort-ne2 : goal.returns-then-sort-ne2
returns-then-sort-ne2 c =
    let s = lists_of c.args.dictionary.now in
    let x = there s _ c.args.number c.in-Some.sort c.symbol_parts-parts.ensures.sym c.in-Some.ensures in
    rw c.placeless-then-sort-ne2.ensures (function_other s c.args.number x.0 x.1 (other_sort x.0 c.in-Some.sort 2 x.2 c.if-sort-ne2.true))

pub signature_of-requires : goal.signature_of-requires
signature_of-requires c =
    let s = lists_of c.args.dictionary.now in
    let p = c.symbol_parts-parts.ensures in
    let x = there s _ c.args.number c.in-Some.sort p.sym c.in-Some.ensures in
    let other = other_sort x.0 c.in-Some.sort 1 x.2 (λ e. omega (arith, c.if-sort-ne2.false)) in
    let kept = kept_of s c.args.number x.0 (sound_parts s _ _ _ p.strs p.sym p.functions p.sound) x.1 in
    let left = left_is s _ c.bytes_left.result c.args.number c.bytes_left.ensures c.requires.fits.places in
    let end = ending_is _ _ _ _ _ c.ending-entry.ensures left p.functions in
    record { good = ap is_bad_entry end ∙ function_good _ _ x.0 _ _ kept other }

pub returns-in-Some-signature_of : goal.returns-in-Some-signature_of
returns-in-Some-signature_of c =
    let s = lists_of c.args.dictionary.now in
    let p = c.symbol_parts-parts.ensures in
    let x = there s _ c.args.number c.in-Some.sort p.sym c.in-Some.ensures in
    let is = is_sort x.0 c.in-Some.sort 2 x.2 (omega (arith, c.if-sort-ne2.false)) in
    let other = other_sort x.0 c.in-Some.sort 1 x.2 (λ e. omega (arith, c.if-sort-ne2.false)) in
    let kept = kept_of s c.args.number x.0 (sound_parts s _ _ _ p.strs p.sym p.functions p.sound) x.1 in
    let left = left_is s _ c.bytes_left.result c.args.number c.bytes_left.ensures c.requires.fits.places in
    let end = ending_is _ _ _ _ _ c.ending-entry.ensures left p.functions in
    function_said s c.args.number x.0 _ x.1 is (c.in-Some-signature_of.ensures ∙ ap signature_in end ∙ function_kept _ _ x.0 _ _ kept other)

pub returns-in-None : goal.returns-in-None
returns-in-None c =
    let s = lists_of c.args.dictionary.now in
    let p = c.symbol_parts-parts.ensures in
    let x = there s _ c.args.number c.in-Some.sort p.sym c.in-Some.ensures in
    let is = is_sort x.0 c.in-Some.sort 2 x.2 (omega (arith, c.if-sort-ne2.false)) in
    let other = other_sort x.0 c.in-Some.sort 1 x.2 (λ e. omega (arith, c.if-sort-ne2.false)) in
    let kept = kept_of s c.args.number x.0 (sound_parts s _ _ _ p.strs p.sym p.functions p.sound) x.1 in
    let left = left_is s _ c.bytes_left.result c.args.number c.bytes_left.ensures c.requires.fits.places in
    let end = ending_is _ _ _ _ _ c.ending-entry.ensures left p.functions in
    rw c.placeless-in-None.ensures (function_said s c.args.number x.0 None x.1 is (c.in-None.ensures ∙ ap signature_in end ∙ function_kept _ _ x.0 _ _ kept other))
