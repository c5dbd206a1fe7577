use Rattle.std.proofs.Common.{refl}
use Rattle.ctf_check.proofs.Terms.{all_spelled, numbered_spelled}
use Rattle.ctf_check.specs.CheckedView.{lists_of, tables_of}
use Rattle.ctf_records.specs.RecordView.{piece}
use Rattle.ctf_check.proofs.typed.Typed.name.Goals as goal

pub returns : goal.returns
returns c =
    let d = c.args.self.now.dictionary in
    let x = numbered_spelled (tables_of d) _ _ (piece c.args.self.now.source) (all_spelled (lists_of d) d.faultless) c.args.self.now.own in
    rw (c.name_at.ensures, c.name_ref.ensures, x.says, x.named) refl
