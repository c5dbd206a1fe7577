use Rattle.std.proofs.Common.{ℕ, List, ap, subst, ◌∙◌, arith}
use Rattle.std.specs.Prelude.{Vec, vec_capacity, vec_len}
use Rattle.std.specs.declared.alloc.Global.{Global}
use Rattle.ctf_model.specs.declared.faults.Fault.{Fault}
use Rattle.ctf_protocol.specs.lines.ReplyLines.{fault_line}
use Rattle.ctf_lines.specs.Appending.{Appended}
use Rattle.ctf_lines.proofs.FaultTexts.{row_short, row_text}
use Rattle.ctf_lines.proofs.Walks.{as_text}
use Rattle.ctf_lines.proofs.refusals.put_parts.Goals as goal

pub with_fault-requires : goal.with_fault-requires
with_fault-requires c =
    let fault : Fault = record { code = c.args.code; place = c.args.place } in
    let text = row_text c.from.result c.from-2.result c.as_bytes.result.now c.args.session fault c.from.ensures c.from-2.ensures (c.as_bytes.ensures.value ∙ c.fault_name-name.ensures) in
    let short = row_short _ c.args.session fault text c.ranges.session.fits c.ranges.code.fits c.ranges.place.fits in
    let room = c.requires in
    let len = ap (λ (v : Vec ℕ Global). vec_len v) c.replace.ensures.value in
    let capacity = ap (λ (v : Vec ℕ Global). vec_capacity v) c.replace.ensures.value in
    omega (arith, short, room, len, capacity)

pub returns : goal.returns
returns c =
    let fault : Fault = record { code = c.args.code; place = c.args.place } in
    let text = row_text c.from.result c.from-2.result c.as_bytes.result.now c.args.session fault c.from.ensures c.from-2.ensures (c.as_bytes.ensures.value ∙ c.fault_name-name.ensures) in
    subst (λ (v : Vec ℕ Global). Appended v c.with_fault.result (fault_line c.args.session fault)) c.replace.ensures.value
    (as_text (λ (old : Vec ℕ Global) (text : List ℕ) (new : Vec ℕ Global). Appended old new text) text c.with_fault.ensures)
