use Rattle.std.proofs.Common.{◌∙◌, ap, arith, Some, None}
use Rattle.ctf_check.specs.CheckedView.{lists_of}
use Rattle.ctf_symbols.proofs.Answering.{not_there, there, kept_of, object_kept, object_missing, object_other, object_said, is_sort, other_sort, sound_parts, left_is, ending_is}
use Rattle.ctf_symbols.proofs.map.SymbolMap.object.Goals as goal
use Rattle.ctf_model.specs.symbols.Entries.{object_type}

pub returns-in_default : goal.returns-in_default
returns-in_default c =
    let s = lists_of c.args.dictionary.now in
    rw c.placeless.ensures (object_missing s c.args.number (not_there s _ c.args.number c.symbol_parts-parts.ensures.sym c.in_default.ensures))

pub returns-then-sort-ne1 : goal.returns-then-sort-ne1
returns-then-sort-ne1 c =
    let s = lists_of c.args.dictionary.now in
    let x = there s _ c.args.number c.in-Some.sort c.symbol_parts-parts.ensures.sym c.in-Some.ensures in
    rw c.placeless-then-sort-ne1.ensures (object_other s c.args.number x.0 x.1 (other_sort x.0 c.in-Some.sort 1 x.2 c.if-sort-ne1.true))

pub returns-in-Some-type_in : goal.returns-in-Some-type_in
returns-in-Some-type_in c =
    let s = lists_of c.args.dictionary.now in
    let p = c.symbol_parts-parts.ensures in
    let x = there s _ c.args.number c.in-Some.sort p.sym c.in-Some.ensures in
    let is = is_sort x.0 c.in-Some.sort 1 x.2 (omega (arith, c.if-sort-ne1.false)) in
    let kept = kept_of s c.args.number x.0 (sound_parts s _ _ _ p.strs p.sym p.functions p.sound) x.1 in
    let left = left_is s _ c.bytes_left.result c.args.number c.bytes_left.ensures c.requires.fits.places in
    let end = ending_is _ _ _ _ _ c.ending.ensures left p.objects in
    object_said s c.args.number x.0 (Some c.in-Some-type_in.found.0) x.1 is (c.in-Some-type_in.ensures ∙ ap object_type end ∙ object_kept _ _ x.0 _ _ kept is)

pub returns-in-None : goal.returns-in-None
returns-in-None c =
    let s = lists_of c.args.dictionary.now in
    let p = c.symbol_parts-parts.ensures in
    let x = there s _ c.args.number c.in-Some.sort p.sym c.in-Some.ensures in
    let is = is_sort x.0 c.in-Some.sort 1 x.2 (omega (arith, c.if-sort-ne1.false)) in
    let kept = kept_of s c.args.number x.0 (sound_parts s _ _ _ p.strs p.sym p.functions p.sound) x.1 in
    let left = left_is s _ c.bytes_left.result c.args.number c.bytes_left.ensures c.requires.fits.places in
    let end = ending_is _ _ _ _ _ c.ending.ensures left p.objects in
    rw c.placeless-in-None.ensures (object_said s c.args.number x.0 None x.1 is (c.in-None.ensures ∙ ap object_type end ∙ object_kept _ _ x.0 _ _ kept is))
