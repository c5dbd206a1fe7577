use Rattle.std.proofs.Common.{sym, ap, ◌∙◌}
use Rattle.std.specs.Prelude.{option_map}
use Rattle.ctf_library.proofs.Published.{found_in, sought}
use Rattle.ctf_library.specs.declared.publication.Publication as own
use Rattle.ctf_protocol.specs.sessions.Publications.{published_as}
use Rattle.ctf_library.proofs.publication_map.PublicationMap.find.Goals as goal

pub returns-in-Some : goal.returns-in-Some
returns-in-Some c =
    ap (option_map (λ (p : own.Publication). p.loaded)) (c.in-Some.ensures.value ∙ sought c.args.name.now c.new-query.result.name.now c.new-query.result.hash c.self.inside.by_name.entries c.new-query.ensures.hash c.new-query.ensures.name) ∙ sym (found_in c.args.name.now c.self.inside.by_name _ _ c.self.invariant) ∙ ap (published_as c.args.name.now) c.self.view_is

pub returns-in-None : goal.returns-in-None
returns-in-None c =
    ap (option_map (λ (p : own.Publication). p.loaded)) (c.in-None.ensures.value ∙ sought c.args.name.now c.new-query.result.name.now c.new-query.result.hash c.self.inside.by_name.entries c.new-query.ensures.hash c.new-query.ensures.name) ∙ sym (found_in c.args.name.now c.self.inside.by_name _ _ c.self.invariant) ∙ ap (published_as c.args.name.now) c.self.view_is
