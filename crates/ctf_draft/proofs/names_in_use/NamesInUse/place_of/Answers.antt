use Rattle.std.proofs.Common.{Some, None, sym, ap, ◌∙◌}
use Rattle.ctf_draft.specs.NamesInUseView.{may_be_in}
use Rattle.ctf_draft.proofs.NamesInUse.{may_be_placed}
use Rattle.ctf_draft.proofs.names_in_use.NamesInUse.place_of.Goals as goal

pub returns-in-Some : goal.returns-in-Some
returns-in-Some c =
    may_be_placed c.self.inside.places.entries c.args.name.now c.hash_of.result (Some c.in-Some.place.now) c.hash_of.ensures (sym c.is_empty.ensures ∙ c.if-is_empty.false) c.in-Some.ensures.value ∙ ap (λ hs. may_be_in hs c.args.name.now) c.self.view_is

pub returns-in-None : goal.returns-in-None
returns-in-None c =
    may_be_placed c.self.inside.places.entries c.args.name.now c.hash_of.result None c.hash_of.ensures (sym c.is_empty.ensures ∙ c.if-is_empty.false) c.in-None.ensures.value ∙ ap (λ hs. may_be_in hs c.args.name.now) c.self.view_is
