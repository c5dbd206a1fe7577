use Rattle.std.proofs.Common.{Ok, [], ◌∷◌, ap, refl, ◌∙◌}
use Rattle.std.specs.Prelude.{codes}
use Rattle.ctf_check.specs.TypedView.{term_in}
use Rattle.ctf_model.specs.figures.Figures.{align, referred_type, resolved_type, size}
use Rattle.ctf_model.specs.format.Shown.{kind_of, shape}
use Rattle.ctf_model.specs.names.Lookups.{pointer_to}
use Rattle.ctf_model.specs.names.KindNames.{name_of_kind}
use Rattle.ctf_model.specs.opened.Questions.{array_answered, encoding_answered, signature_answered}
use Rattle.ctf_protocol.specs.answers.Answers.{says, word}
use Rattle.ctf_protocol.specs.answers.Questions.{align_fields, array_fields, as_fields, encoding_fields, signature_fields, size_fields, type_fields}
use Rattle.ctf_protocol.specs.declared.questions.PlainQuestion.TheVariants as plain
use Rattle.ctf_protocol.specs.declared.questions.TypeQuestion.TheVariants as about
use Rattle.ctf_space.specs.SpaceView.{space_of}
use Rattle.ctf_library.proofs.SaidOfFacts.{told, told_whole}
use Rattle.ctf_library.proofs.answering.plain_answer.Goals as goal

pub returns-in-Kind-clause-some : goal.returns-in-Kind-clause-some
returns-in-Kind-clause-some c = rw c.in-Kind.is (told kind_of (λ k. Ok (says (codes "kind") (word (name_of_kind k)) ∷ [])) (about.Plain plain.Kind) (space_of c.args.asked.now.space) c.args.asked.now.t.0 (term_in c.args.asked.now.found) c.args.asked.now.kind _ c.requires.kind (ap (λ z. Ok z) c.kind_answer.ensures) (λ x. refl))

pub returns-in-Record-clause-some : goal.returns-in-Record-clause-some
returns-in-Record-clause-some c = rw c.in-Record.is (told_whole (about.Plain plain.Record) (space_of c.args.asked.now.space) c.args.asked.now.t.0 (term_in c.args.asked.now.found) _ _ c.facts.ensures (ap (λ z. Ok z) c.record_of.ensures))

pub returns-in-Args-clause-some : goal.returns-in-Args-clause-some
returns-in-Args-clause-some c = rw c.in-Args.is (told (λ b. shape b) (λ z. as_fields signature_fields (signature_answered z)) (about.Plain plain.Args) (space_of c.args.asked.now.space) c.args.asked.now.t.0 (term_in c.args.asked.now.found) _ _ c.shape.ensures (c.signature_answer.ensures ∙ ap (as_fields signature_fields) c.signature_of.ensures) (λ x. refl))

pub returns-in-Array-clause-some : goal.returns-in-Array-clause-some
returns-in-Array-clause-some c = rw c.in-Array.is (told (λ b. shape b) (λ z. as_fields array_fields (array_answered z)) (about.Plain plain.Array) (space_of c.args.asked.now.space) c.args.asked.now.t.0 (term_in c.args.asked.now.found) _ _ c.shape-in-Array.ensures (c.array_answer.ensures ∙ ap (as_fields array_fields) c.array_of.ensures) (λ x. refl))

pub returns-in-Encoding-clause-some : goal.returns-in-Encoding-clause-some
returns-in-Encoding-clause-some c = rw c.in-Encoding.is (told (λ b. shape b) (λ z. as_fields encoding_fields (encoding_answered z)) (about.Plain plain.Encoding) (space_of c.args.asked.now.space) c.args.asked.now.t.0 (term_in c.args.asked.now.found) _ _ c.shape-in-Encoding.ensures (c.encoding_answer.ensures ∙ ap (as_fields encoding_fields) c.encoding_of.ensures) (λ x. refl))

pub returns-in-Reference-clause-some : goal.returns-in-Reference-clause-some
returns-in-Reference-clause-some c = rw c.in-Reference.is (told (λ b. shape b) (λ z. as_fields type_fields (referred_type z)) (about.Plain plain.Reference) (space_of c.args.asked.now.space) c.args.asked.now.t.0 (term_in c.args.asked.now.found) _ _ c.shape-in-Reference.ensures (c.type_answer.ensures ∙ ap (as_fields type_fields) c.referred.ensures) (λ x. refl))

pub returns-in-Resolve-clause-some : goal.returns-in-Resolve-clause-some
returns-in-Resolve-clause-some c =
    let s = space_of c.args.asked.now.space in
    rw c.in-Resolve.is (told kind_of (λ k. as_fields type_fields (resolved_type s c.args.asked.now.t.0)) (about.Plain plain.Resolve) s c.args.asked.now.t.0 (term_in c.args.asked.now.found) c.args.asked.now.kind _ c.requires.kind (c.type_answer-in-Resolve.ensures ∙ ap (as_fields type_fields) (c.resolve.ensures.resolved s c.requires.tables.0)) (λ x. refl))

pub returns-in-Size-clause-some : goal.returns-in-Size-clause-some
returns-in-Size-clause-some c =
    let s = space_of c.args.asked.now.space in
    rw c.in-Size.is (told kind_of (λ k. as_fields size_fields (size s c.args.asked.now.t.0)) (about.Plain plain.Size) s c.args.asked.now.t.0 (term_in c.args.asked.now.found) c.args.asked.now.kind _ c.requires.kind (c.number_answer.ensures ∙ ap (as_fields size_fields) (c.size.ensures.size s c.requires.tables.0)) (λ x. refl))

pub returns-in-Align-clause-some : goal.returns-in-Align-clause-some
returns-in-Align-clause-some c =
    let s = space_of c.args.asked.now.space in
    rw c.in-Align.is (told kind_of (λ k. as_fields align_fields (align s c.args.asked.now.t.0)) (about.Plain plain.Align) s c.args.asked.now.t.0 (term_in c.args.asked.now.found) c.args.asked.now.kind _ c.requires.kind (c.number_answer-in-Align.ensures ∙ ap (as_fields align_fields) (c.align.ensures.align s c.requires.tables.0)) (λ x. refl))

pub returns-in-Pointer-clause-some : goal.returns-in-Pointer-clause-some
returns-in-Pointer-clause-some c =
    let s = space_of c.args.asked.now.space in
    rw c.in-Pointer.is (told kind_of (λ k. as_fields type_fields (pointer_to s c.args.asked.now.t.0)) (about.Plain plain.Pointer) s c.args.asked.now.t.0 (term_in c.args.asked.now.found) c.args.asked.now.kind _ c.requires.kind (c.type_answer-in-Pointer.ensures ∙ ap (as_fields type_fields) c.pointer_to.ensures) (λ x. refl))
