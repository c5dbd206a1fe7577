use Rattle.std.proofs.Common.{Bool, List, is_some, map, sym, ap, ◌∙◌}
use Rattle.std.specs.Prelude.{◌&&◌}
use Rattle.std.specs.List.{list_any}
use Rattle.std.specs.Str.{bytes_eq}
use Rattle.ctf_draft.specs.declared.types.Enumerator.{Enumerator}
use Rattle.ctf_draft.proofs.NamesInUse.{enumerators_kept}
use Rattle.ctf_draft.proofs.types.DraftType.has_enumerator.Goals as goal

pub returns-in-Some : goal.returns-in-Some
returns-in-Some c =
    let any : List Enumerator → Bool = λ xs. list_any (bytes_eq c.args.name.now) (map (λ x. x.name) xs) in
    let may = sym c.place_of.ensures ∙ ap is_some c.in-Some.is in
    c.any_enumerator_has.ensures ∙ ap any c.as_slice.ensures.value ∙ sym (ap (λ b. b && any c.in-Enum.enumerators.items) may) ∙ enumerators_kept c.args.self.now c.in-Enum.field-0 c.in-Enum.enumerators c.args.name.now c.in-Enum.is

pub returns-in-None : goal.returns-in-None
returns-in-None c =
    let any : List Enumerator → Bool = λ xs. list_any (bytes_eq c.args.name.now) (map (λ x. x.name) xs) in
    let may = sym c.place_of.ensures ∙ ap is_some c.in-None.is in
    sym (ap (λ b. b && any c.in-Enum.enumerators.items) may) ∙ enumerators_kept c.args.self.now c.in-Enum.field-0 c.in-Enum.enumerators c.args.name.now c.in-Enum.is
