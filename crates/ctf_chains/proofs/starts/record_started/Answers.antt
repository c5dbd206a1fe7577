use Rattle.std.proofs.Common.{Result, Ok, Some, sym, ap, ◌∙◌, arith}
use Rattle.std.specs.Prelude.{slice_index_or}
use Rattle.std.proofs.lemmas.Option.{same_Some}
use Rattle.std.proofs.lemmas.Grind.{get_or_default_zero}
use Rattle.ctf_model.specs.format.Section.{Piece}
use Rattle.ctf_model.specs.declared.faults.Fault.{Fault}
use Rattle.ctf_model.proofs.Walk.{front_len_range}
use Rattle.ctf_chains.proofs.Begins.{len_found, record_found}
use Rattle.ctf_chains.proofs.starts.record_started.Goals as goal

pub overflow_sub-end : goal.overflow_sub-end
overflow_sub-end c =
    let at = slice_index_or c.args.places.now c.args.i 0 in
    let len = len_found c.args.types.now c.args.places.now c.args.i c.requires.whole c.requires.starts c.requires.inside in
    let range = front_len_range _ _ len in
    omega (arith, range.0, c.end_of-end.ensures)

pub record_of_len-requires : goal.record_of_len-requires
record_of_len-requires c =
    rw c.end_of-end.ensures (len_found c.args.types.now c.args.places.now c.args.i c.requires.whole c.requires.starts c.requires.inside)

pub returns : goal.returns
returns c =
    let found = record_found c.args.types.now c.args.places.now c.args.i (slice_index_or c.args.places.now c.args.i 0) c.requires.whole c.requires.starts c.requires.inside (sym (get_or_default_zero c.args.places.now c.args.i (slice_index_or c.args.places.now c.args.i 0) c.requires.inside)) in
    let same = same_Some _ _ (c.record_of_len.ensures ∙ found.begins) in
    found.got ∙ ap (λ (p : Piece). let r : Result Piece Fault = Ok p in Some r) (sym same)
