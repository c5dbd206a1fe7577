use Rattle.std.proofs.Common.{◌≡◌, true, false, sym, ◌∙◌}
use Rattle.ctf_sections.proofs.SameTexts.{in_front, no_end, unless_named}
use Rattle.ctf_sections.proofs.matching.begins_with_after.Goals as goal

not_true : false ≡ true → ⊥
not_true e = absurd cc

pub returns-then-not-is_end : goal.returns-then-not-is_end
returns-then-not-is_end c = sym (no_end c.args.rest.now c.args.text.now (λ e. not_true (sym c.if-not-is_end.true ∙ c.is_end.ensures.zero.1 e)))

pub returns-then-not-have_one_end : goal.returns-then-not-have_one_end
returns-then-not-have_one_end c =
    unless_named c.args.rest.now c.args.text.now _ c.if-not-have_one_end.true (λ named. c.have_one_end.ensures (in_front c.args.rest.now c.args.text.now named))
