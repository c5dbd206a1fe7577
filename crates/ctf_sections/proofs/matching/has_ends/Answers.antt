use Rattle.std.proofs.Common.{◌≡◌, true, false, sym, ◌∙◌}
use Rattle.ctf_sections.proofs.SameTexts.{in_front, no_end}
use Rattle.ctf_sections.proofs.matching.has_ends.Goals as goal

not_true : false ≡ true → ⊥
not_true e = absurd cc

pub returns-then-not-is_end-clause-named : goal.returns-then-not-is_end-clause-named
returns-then-not-is_end-clause-named c named =
    sym (no_end c.args.bytes.now c.args.text.now (λ e. not_true (sym c.if-not-is_end.true ∙ c.is_end.ensures.zero.1 e))) ∙ named

pub returns-then-not-are_alike_at-clause-named : goal.returns-then-not-are_alike_at-clause-named
returns-then-not-are_alike_at-clause-named c named =
    sym c.if-not-are_alike_at.true ∙ c.are_alike_at.ensures (in_front c.args.bytes.now c.args.text.now named)

pub returns-clause-named : goal.returns-clause-named
returns-clause-named c named = c.are_alike_at-2.ensures (in_front c.args.bytes.now c.args.text.now named)
