use Rattle.std.proofs.Common.{ℕ, List, length, sym, ap, ◌∙◌}
use Rattle.ctf_model.specs.format.OwnedLists.{lists_owned}
use Rattle.ctf_model.specs.rules.Faults.{header_fault, types}
use Rattle.ctf_check.proofs.Order.{faultless}
use Rattle.ctf_check.proofs.Terms.{terms_count}
use Rattle.ctf_check.proofs.judged.Judged.of_faultless.Goals as goal

pub findings-requires-clause-header : goal.findings-requires-clause-header
findings-requires-clause-header c = ap header_fault c.as_slice.ensures ∙ (faultless (lists_owned c.args.parts) c.requires.faultless).header

pub findings-requires-clause-count : goal.findings-requires-clause-count
findings-requires-clause-count c =
    let s = lists_owned c.args.parts in
    c.requires.count ∙ terms_count s c.requires.faultless ∙ ap (λ (b : List ℕ). length (types b)) (sym c.as_slice.ensures)
