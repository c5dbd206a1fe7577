use Rattle.std.proofs.Common.{length, sym, ap, ◌∙◌}
use Rattle.ctf_model.specs.rules.Faults.{types}
use Rattle.ctf_chains.proofs.Begins.{starts_count}
use Rattle.ctf_check.proofs.Order.{faultless}
use Rattle.ctf_check.proofs.Terms.{terms_count}
use Rattle.ctf_check.specs.CheckedView.{lists_of}
use Rattle.ctf_check.proofs.checked.Checked.count.Goals as goal

pub returns : goal.returns
returns c =
    let d = c.args.self.now in
    let s = lists_of d in
    ap length c.starts.ensures ∙ starts_count (types s.ctf) (faultless s d.faultless).read ∙ sym (terms_count s d.faultless)
