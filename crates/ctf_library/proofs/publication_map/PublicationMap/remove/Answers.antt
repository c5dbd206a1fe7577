use Rattle.std.proofs.Common.{sym, ap, ◌∙◌}
use Rattle.std.specs.Prelude.{is_some, option_map}
use Rattle.ctf_library.proofs.Published.{found_in, removed_kept, removed_le, removed_seen, sought, sought_out}
use Rattle.ctf_library.specs.declared.publication.Publication as own
use Rattle.ctf_protocol.specs.sessions.Publications.{published_as, published_without}
use Rattle.ctf_library.proofs.publication_map.PublicationMap.remove.Goals as goal

pub returns-in_default-clause-there : goal.returns-in_default-clause-there
returns-in_default-clause-there c =
    ap (λ o. is_some (option_map (λ (p : own.Publication). p.loaded) o)) (c.in_default.ensures.value ∙ sought c.args.name.now c.new-query.result.name.now c.new-query.result.hash c.self.inside.by_name.entries c.new-query.ensures.hash c.new-query.ensures.name) ∙ ap is_some (sym (found_in c.args.name.now c.self.inside.by_name _ _ c.self.invariant) ∙ ap (published_as c.args.name.now) c.self.view_is)

pub returns-in_default-clause-left : goal.returns-in_default-clause-left
returns-in_default-clause-left c =
    removed_seen c.args.name.now c.self.inside.by_name c.remove.new.self _ _ c.self.invariant (c.remove.ensures.entries ∙ sought_out c.args.name.now c.new-query.result.name.now c.new-query.result.hash c.self.inside.by_name.entries c.new-query.ensures.hash c.new-query.ensures.name) ∙ ap (published_without c.args.name.now) c.self.view_is

pub overflow_sub-self : goal.overflow_sub-self
overflow_sub-self c =
    removed_le c.args.name.now c.in-Some.publication c.self.inside.by_name c.remove.new.self _ _ _ c.self.invariant (c.remove.ensures.entries ∙ sought_out c.args.name.now c.new-query.result.name.now c.new-query.result.hash c.self.inside.by_name.entries c.new-query.ensures.hash c.new-query.ensures.name) (c.in-Some.ensures.value ∙ sought c.args.name.now c.new-query.result.name.now c.new-query.result.hash c.self.inside.by_name.entries c.new-query.ensures.hash c.new-query.ensures.name) c.bytes.ensures.count

pub invariant_of-self-2 : goal.invariant_of-self-2
invariant_of-self-2 c =
    removed_kept c.args.name.now c.in-Some.publication c.self.inside.by_name c.remove.new.self _ _ _ c.self.invariant (c.remove.ensures.entries ∙ sought_out c.args.name.now c.new-query.result.name.now c.new-query.result.hash c.self.inside.by_name.entries c.new-query.ensures.hash c.new-query.ensures.name) (c.in-Some.ensures.value ∙ sought c.args.name.now c.new-query.result.name.now c.new-query.result.hash c.self.inside.by_name.entries c.new-query.ensures.hash c.new-query.ensures.name) c.bytes.ensures.count c.remove.ensures.ordered

pub returns-clause-there : goal.returns-clause-there
returns-clause-there c =
    ap (λ o. is_some (option_map (λ (p : own.Publication). p.loaded) o)) (c.in-Some.ensures.value ∙ sought c.args.name.now c.new-query.result.name.now c.new-query.result.hash c.self.inside.by_name.entries c.new-query.ensures.hash c.new-query.ensures.name) ∙ ap is_some (sym (found_in c.args.name.now c.self.inside.by_name _ _ c.self.invariant) ∙ ap (published_as c.args.name.now) c.self.view_is)

pub returns-clause-left : goal.returns-clause-left
returns-clause-left c =
    removed_seen c.args.name.now c.self.inside.by_name c.remove.new.self _ _ c.self.invariant (c.remove.ensures.entries ∙ sought_out c.args.name.now c.new-query.result.name.now c.new-query.result.hash c.self.inside.by_name.entries c.new-query.ensures.hash c.new-query.ensures.name) ∙ ap (published_without c.args.name.now) c.self.view_is
