use Rattle.std.proofs.Common.{ℕ, ◌≤◌, unwrap_or, ap, sym, subst, ◌∙◌}
use Rattle.ctf_model.specs.format.Shown.{size_of}
use Rattle.ctf_model.specs.format.Term.{Body}
use Rattle.ctf_draft.proofs.Stated.{none_left}
use Rattle.ctf_draft.proofs.draft.Draft.leaves_behind.Goals as goal

pub returns-then-stated_size-size : goal.returns-then-stated_size-size
returns-then-stated_size-size c =
    let h = c.if-stated_size-size.true in
    sym (none_left c.args.self.now.draft c.args.n.0 c.args.i c.args.size c.pending_body-body.ensures.sound c.requires (subst (λ (k : ℕ). k ≤ c.args.size) (c.stated_size.ensures ∙ ap (λ (b : Body). unwrap_or (size_of b) 0) c.pending_body-body.ensures.body) h))
