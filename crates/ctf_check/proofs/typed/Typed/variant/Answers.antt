use Rattle.std.proofs.Common.{refl}
use Rattle.ctf_check.proofs.Terms.{all_spelled, numbered_spelled}
use Rattle.ctf_check.specs.CheckedView.{lists_of, tables_of}
use Rattle.ctf_records.specs.RecordView.{piece}
use Rattle.ctf_check.proofs.typed.Typed.variant.Goals as goal

pub variant-requires : goal.variant-requires
variant-requires c =
    let d = c.args.self.now.dictionary in
    let x = numbered_spelled (tables_of d) _ _ (piece c.args.self.now.source) (all_spelled (lists_of d) d.faultless) c.args.self.now.own in
    rw (c.strings.ensures, x.says) refl
