use Rattle.std.proofs.Common.{◌≡◌, ℕ, List, Result, Ok, ap, sym, ◌∙◌}
use Rattle.std.specs.Prelude.{option_copied}
use Rattle.ctf_model.specs.declared.faults.Fault.{Fault}
use Rattle.ctf_model.specs.format.Lists.{Lists}
use Rattle.ctf_model.specs.spaces.Kept.{Kept}
use Rattle.ctf_model.specs.writing.Written.{lists_of}
use Rattle.ctf_open.proofs.drafting.bytes_of.Goals as goal

pub write_over-requires-clause-written : goal.write_over-requires-clause-written
write_over-requires-clause-written c =
    let w = c.requires c.in-Some.before.now (ap option_copied c.in-Some.is) in
    w.bytes ∙ ap (λ (l : Lists). let r : Result (List ℕ) Fault = Ok l.ctf in r) (sym c.view.ensures)

pub write_over-requires-clause-alone : goal.write_over-requires-clause-alone
write_over-requires-clause-alone c =
    let w = c.requires c.in-Some.before.now (ap option_copied c.in-Some.is) in
    c.view.ensures ∙ ap (λ (k : Kept). k.lists) w.alone ∙ ap (λ (l : Lists). lists_of l.ctf) (sym c.view.ensures)
