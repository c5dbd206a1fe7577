use Rattle.std.proofs.Common.{Bool, List, is_some, map, sym, ap, ◌∙◌}
use Rattle.std.specs.Prelude.{◌&&◌}
use Rattle.std.specs.List.{list_any}
use Rattle.std.specs.Str.{bytes_eq}
use Rattle.ctf_draft.specs.declared.types.Member.{Member}
use Rattle.ctf_draft.proofs.NamesInUse.{members_kept}
use Rattle.ctf_draft.proofs.types.DraftType.has_member.Goals as goal

pub returns-in-Some : goal.returns-in-Some
returns-in-Some c =
    let any : List Member → Bool = λ xs. list_any (bytes_eq c.args.name.now) (map (λ x. x.name) xs) in
    let may = sym c.place_of.ensures ∙ ap is_some c.in-Some.is in
    c.any_member_has.ensures ∙ ap any c.as_slice.ensures.value ∙ sym (ap (λ b. b && any c.in-Aggregate.members.items) may) ∙ members_kept c.args.self.now c.in-Aggregate.field-0 c.in-Aggregate.field-1 c.in-Aggregate.members c.args.name.now c.in-Aggregate.is

pub returns-in-None : goal.returns-in-None
returns-in-None c =
    let any : List Member → Bool = λ xs. list_any (bytes_eq c.args.name.now) (map (λ x. x.name) xs) in
    let may = sym c.place_of.ensures ∙ ap is_some c.in-None.is in
    sym (ap (λ b. b && any c.in-Aggregate.members.items) may) ∙ members_kept c.args.self.now c.in-Aggregate.field-0 c.in-Aggregate.field-1 c.in-Aggregate.members c.args.name.now c.in-Aggregate.is
