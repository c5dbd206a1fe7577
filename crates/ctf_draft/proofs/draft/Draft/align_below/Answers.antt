use Rattle.std.proofs.Common.{ℕ, Option, sym, subst, ◌∙◌}
use Rattle.std.specs.Prelude.{MatchOption}
use Rattle.ctf_draft.specs.Reaching.{IsBelow}
use Rattle.ctf_draft.proofs.Reaches.{elsewhere_is}
use Rattle.ctf_draft.proofs.draft.Draft.align_below.Goals as goal

pub returns-in_default : goal.returns-in_default
returns-in_default c =
    let d = c.args.self.now.draft in
    (elsewhere_is d c.args.n.0 c.align_elsewhere.result c.align_elsewhere.ensures, subst (λ (o : Option ℕ). MatchOption o (Unit {0}) (IsBelow c.args.marks.now c.args.depth)) (sym (sym c.own_index.ensures ∙ c.in_default.is)) tt)
