use Rattle.std.proofs.Common.{ℕ, List, length, ap, sym, ◌∙◌}
use Rattle.ctf_model.specs.format.Dictionary.{said_by}
use Rattle.ctf_model.specs.writing.Written.{lists_of}
use Rattle.ctf_writer.proofs.updating.judge.Goals as goal

pub of_faultless-requires-clause-count : goal.of_faultless-requires-clause-count
of_faultless-requires-clause-count c = c.requires.count ∙ ap (λ (b : List ℕ). length (said_by (lists_of b)).terms) (sym c.from.ensures)
