use Rattle.std.proofs.Common.{◌≡◌, ℕ, List, None, length, ap, subst, sym, ◌∙◌}
use Rattle.ctf_model.specs.format.Dictionary.{said_by}
use Rattle.ctf_model.specs.rules.Faults.{first_fault}
use Rattle.ctf_model.specs.writing.Written.{lists_of}
use Rattle.ctf_writer.proofs.Made.{written_count}
use Rattle.ctf_open.proofs.drafting.load.Goals as goal

pub of_faultless-requires-clause-faultless : goal.of_faultless-requires-clause-faultless
of_faultless-requires-clause-faultless c = subst (λ (b : List ℕ). first_fault (lists_of b) ≡ None) (sym c.from.ensures) c.in_ok-bytes.ensures.stands.denotes.faultless

pub of_faultless-requires-clause-count : goal.of_faultless-requires-clause-count
of_faultless-requires-clause-count c =
    written_count c.args.draft.now.draft c.in_ok-bytes.bytes.items c.types.result.now c.in_ok-bytes.ensures.stands c.types.ensures.types
    ∙ ap (λ (b : List ℕ). length (said_by (lists_of b)).terms) (sym c.from.ensures)
