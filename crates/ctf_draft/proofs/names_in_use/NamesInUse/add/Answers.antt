use Rattle.std.proofs.Common.{sym, ap, ◌∙◌}
use Rattle.ctf_draft.specs.NamesInUseView.{with_hash}
use Rattle.ctf_draft.proofs.NamesInUse.{entered}
use Rattle.ctf_draft.proofs.names_in_use.NamesInUse.add.Goals as goal

pub returns-clause-ok : goal.returns-clause-ok
returns-clause-ok c =
    entered c.self.inside.places.entries c.insert.new.self.entries c.args.name.now c.hash_of.result c.unwrap_or-place.result c.hash_of.ensures (sym c.is_empty.ensures ∙ c.if-is_empty.false) c.in-Ok.ensures.entries ∙ ap (λ hs. with_hash hs c.args.name.now) c.self.view_is
