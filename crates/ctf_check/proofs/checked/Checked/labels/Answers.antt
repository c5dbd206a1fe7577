use Rattle.ctf_model.specs.format.Dictionary.{said_by}
use Rattle.ctf_model.proofs.Denoted.{denotes_said}
use Rattle.ctf_check.specs.CheckedView.{lists_of}
use Rattle.ctf_check.proofs.checked.Checked.labels.Goals as goal

pub read_labels-requires : goal.read_labels-requires
unfolding said_by
read_labels-requires c =
    let d = c.args.self.now in
    rw (c.label_bytes.ensures.bytes, c.strings.ensures) (denotes_said (lists_of d) d.faultless).labels

pub returns : goal.returns
unfolding said_by
returns c = rw (← c.label_bytes.ensures.bytes, ← c.strings.ensures) c.read_labels.ensures
