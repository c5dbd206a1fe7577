use Rattle.std.proofs.Common.{arith}
use Rattle.ctf_check.specs.CheckedView.{lists_of}
use Rattle.ctf_c.proofs.names.LabelRows.{label_inside, label_told, label_whole}
use Rattle.ctf_c.proofs.names.labels.label_row.Goals as goal

pub label_at-bytes-requires : goal.label_at-bytes-requires
label_at-bytes-requires c =
    let d = c.args.dictionary.now in
    label_inside (lists_of d) c.args.index c.label_bytes.result.now d.faultless c.requires c.label_bytes.ensures.bytes

pub u32_at-requires : goal.u32_at-requires
u32_at-requires c =
    let d = c.args.dictionary.now in
    let whole = label_whole (lists_of d) c.args.index c.label_bytes.result.now c.label_at-bytes.result.now d.faultless c.requires c.label_bytes.ensures.bytes c.label_at-bytes.ensures in
    omega (arith, whole)

pub u32_at-requires-2 : goal.u32_at-requires-2
u32_at-requires-2 c =
    let d = c.args.dictionary.now in
    label_whole (lists_of d) c.args.index c.label_bytes.result.now c.label_at-bytes.result.now d.faultless c.requires c.label_bytes.ensures.bytes c.label_at-bytes.ensures

pub returns : goal.returns
returns c =
    let d = c.args.dictionary.now in
    let place = c.name_position-place.result in
    label_told (lists_of d) c.args.index c.label_bytes.result.now c.label_at-bytes.result.now (record { name_at = place.at; name_list = place.list; last = c.u32_at-2.result }) d.faultless c.requires c.label_bytes.ensures.bytes c.label_at-bytes.ensures (rw c.u32_at.ensures at c.name_position-place.ensures) c.u32_at-2.ensures
