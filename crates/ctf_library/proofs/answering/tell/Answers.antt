use Rattle.std.proofs.Common.{ap, refl, ◌∙◌}
use Rattle.ctf_check.specs.TypedView.{term_in}
use Rattle.ctf_model.specs.figures.Paths.{path}
use Rattle.ctf_model.specs.format.Shown.{enumerators_in, kind_of, members_in, shown}
use Rattle.ctf_protocol.specs.answers.Questions.{as_fields, enumerator_fields, member_fields, position_fields}
use Rattle.ctf_model.specs.symbols.SymbolQuestions.{or_refused}
use Rattle.ctf_model.specs.declared.faults.TheConstants.Fault.{WRONG_KIND}
use Rattle.ctf_protocol.specs.declared.questions.TypeQuestion.TheVariants as about
use Rattle.ctf_space.specs.SpaceView.{space_of}
use Rattle.ctf_library.proofs.SaidOfFacts.{told}
use Rattle.ctf_library.proofs.answering.tell.Goals as goal

pub returns-in-Members : goal.returns-in-Members
returns-in-Members c = rw c.in-Members.is (told shown (λ z. as_fields (member_fields c.in-Members.window) (or_refused WRONG_KIND (members_in z))) (about.Members c.in-Members.window) (space_of c.args.asked.now.space) c.args.asked.now.t.0 (term_in c.args.asked.now.found) _ _ c.variant.ensures c.members.ensures (λ x. refl))

pub returns-in-Enumerators : goal.returns-in-Enumerators
returns-in-Enumerators c = rw c.in-Enumerators.is (told shown (λ z. as_fields (enumerator_fields c.in-Enumerators.window) (or_refused WRONG_KIND (enumerators_in z))) (about.Enumerators c.in-Enumerators.window) (space_of c.args.asked.now.space) c.args.asked.now.t.0 (term_in c.args.asked.now.found) _ _ c.variant-in-Enumerators.ensures c.enumerators.ensures (λ x. refl))

pub returns-in-Path : goal.returns-in-Path
returns-in-Path c =
    let s = space_of c.args.asked.now.space in
    let names = c.as_joined.ensures in
    rw c.in-Path.is (told kind_of (λ k. as_fields position_fields (path s c.args.asked.now.t.0 c.in-Path.names)) (about.Path c.in-Path.names) s c.args.asked.now.t.0 (term_in c.args.asked.now.found) c.args.asked.now.kind _ c.requires.kind (c.position_answer.ensures ∙ ap (as_fields position_fields) (c.path.ensures ∙ ap (path s c.args.asked.now.t.0) names)) (λ x. refl))
