use Rattle.std.proofs.Common.{ℕ, List, get_or, ap, refl, sym, ◌∙◌}
use Rattle.ctf_model.specs.writing.WrittenNames.{name_reference}
use Rattle.ctf_writer.specs.Tables.{names, used}
use Rattle.ctf_writer.proofs.Placing.{at_position, has_position}
use Rattle.ctf_writer.proofs.strings.Strings.reference.Goals as goal

pub returns-then-is_empty : goal.returns-then-is_empty
unfolding name_reference
returns-then-is_empty c = let none = sym c.is_empty.ensures ∙ c.if-is_empty.true in rw none refl

pub returns-in-Some : goal.returns-in-Some
returns-in-Some c =
    let r = c.index-in-Some.result.now in
    c.index-in-Some.ensures ∙ ap (λ (rs : List ℕ). get_or rs c.in-Some.i r) c.args.self.now.placed
    ∙ at_position (name_reference (names c.args.self.now)) (used c.args.self.now) c.args.name.now c.in-Some.i r (sym c.index.ensures ∙ c.in-Some.is)

pub returns-in-None : goal.returns-in-None
returns-in-None c = absurd (has_position c.args.name.now (used c.args.self.now) (c.requires (sym c.is_empty.ensures ∙ c.if-is_empty.false)) (sym c.index.ensures ∙ c.in-None.is))
