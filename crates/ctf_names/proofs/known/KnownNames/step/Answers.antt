use Rattle.std.proofs.Common.{Ok, Err, sym, ap, refl, subst, ◌∙◌}
use Rattle.std.specs.Prelude.{ℕ, List, option_map}
use Rattle.ctf_check.specs.FactsView.{shape_view}
use Rattle.ctf_check.specs.TypedView.{term_in}
use Rattle.ctf_model.specs.names.TypeNames.{bare_name, declaration_of, declaration_within, or_anon}
use Rattle.ctf_model.specs.spaces.Space.{Space}
use Rattle.ctf_records.specs.RecordView.{tag_of}
use Rattle.ctf_space.specs.SpaceView.{space_of}
use Rattle.ctf_names.specs.Bases.{behind_tag}
use Rattle.ctf_names.specs.NameLengths.{of_base}
use Rattle.ctf_names.specs.Measuring.{IsMeasured, IsStep}
use Rattle.ctf_names.specs.declared.measures.Step.TheVariants.{Round}
use Rattle.ctf_names.proofs.FoundInside.{layer_found, name_found}
use Rattle.ctf_names.proofs.Findings.{end_found, type_found, void_found}
use Rattle.ctf_names.proofs.known.KnownNames.step.Goals as goal

pub returns-then-number-eq0 : goal.returns-then-number-eq0
returns-then-number-eq0 c =
    end_found c.args.self.now c.args.number.0 _ _ (λ k. void_found c.args.self.now c.args.number.0 k c.if-number-eq0.true) (ap Ok (sym (c.of_base.ensures ∙ ap of_base c.void.ensures)))

pub returns-in-Err : goal.returns-in-Err
returns-in-Err c =
    let s = space_of c.self.inside.space in
    let n = c.args.number.0 in
    subst (λ (x : Space). IsMeasured x n (record { layers = 0; lengths = Err c.in-Err.fault })) c.self.view_is
    (end_found s n (Err c.in-Err.fault) (Err c.in-Err.fault) (λ k. type_found s n k c.if-number-eq0.false ∙ ap (declaration_of (declaration_within s k)) (sym (rw c.in-Err.is at c.term.ensures))) refl)

pub returns-in-Layer : goal.returns-in-Layer
returns-in-Layer c =
    let s = space_of c.self.inside.space in
    let n = c.args.number.0 in
    subst (λ (x : Space). IsStep x n (Round c.in-Layer.layer c.in-Layer.next)) c.self.view_is
    (λ k. type_found s n k c.if-number-eq0.false ∙ ap (declaration_of (declaration_within s k)) (sym (rw c.in-Ok.is at c.term.ensures))
    ∙ layer_found (declaration_within s k) (term_in c.in-Ok.found) (shape_view c.shape.result) c.in-Layer.layer c.in-Layer.next.0 c.shape.ensures (sym (rw c.in-Layer.is at c.found_inside.ensures)))

pub returns-in-Name : goal.returns-in-Name
returns-in-Name c =
    let s = space_of c.self.inside.space in
    let n = c.args.number.0 in
    let tag = option_map tag_of c.in-Name.tag in
    let name = c.name.result.now in
    subst (λ (x : Space). IsMeasured x n (record { layers = 0; lengths = Ok c.of_base-in-Name.result })) c.self.view_is
    (end_found s n (bare_name (behind_tag tag (or_anon name))) (Ok c.of_base-in-Name.result)
    (λ k. type_found s n k c.if-number-eq0.false ∙ ap (declaration_of (declaration_within s k)) (sym (rw c.in-Ok.is at c.term.ensures))
    ∙ name_found (declaration_within s k) (term_in c.in-Ok.found) (shape_view c.shape.result) tag name c.shape.ensures c.name.ensures (sym (rw c.in-Name.is at c.found_inside.ensures)))
    (ap Ok (sym (c.of_base-in-Name.ensures ∙ ap (λ (text : List ℕ). of_base (behind_tag tag text)) c.or_anon-name.ensures))))
