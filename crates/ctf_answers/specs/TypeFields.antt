-- The fields of answers about a type and about a dictionary.
use Rattle.std.specs.Prelude.{[], ◌∷◌, ◌++◌, codes}
use Rattle.std.specs.Option.{option_map}
use Rattle.ctf_protocol.specs.answers.Answers as answers
use Rattle.ctf_protocol.specs.answers.Answers.{says, may_say, text, truth, word, number}
use Rattle.ctf_model.specs.names.KindNames.{name_of_kind, name_of_tag}
use Rattle.ctf_records.specs.RecordView.{tag_of}
use Rattle.ctf_answers.specs.declared.type_fields.RecordAnswer.{RecordAnswer}
use Rattle.ctf_answers.specs.declared.type_fields.InfoAnswer.{InfoAnswer}

abbrev pub type_on : RecordAnswer → answers.Answer
type_on r =
    may_say (codes "type") (option_map number (option_map (λ t. t.0) r.reference))
    ++ says (codes "vlen") (number r.vlen) ∷ []

abbrev pub tag_on : RecordAnswer → answers.Answer
tag_on r =
    may_say (codes "tag") (option_map (λ tag. word (name_of_tag tag)) (option_map tag_of r.tag))
    ++ type_on r

abbrev pub size_on : RecordAnswer → answers.Answer
size_on r = may_say (codes "size") (option_map number r.size) ++ tag_on r

abbrev pub record_view : RecordAnswer → answers.Answer
record_view r =
    says (codes "kind") (word (name_of_kind r.kind)) ∷ says (codes "name") (text r.name.now)
    ∷ says (codes "root") (truth r.root) ∷ size_on r

abbrev pub info_view : InfoAnswer → answers.Answer
info_view i =
    says (codes "child") (truth i.child)
    ∷ says (codes "draft") (truth i.draft)
    ∷ says (codes "imported") (truth i.imported)
    ∷ says (codes "labels") (number i.labels)
    ∷ says (codes "parlabel") (text i.parlabel.now)
    ∷ says (codes "parname") (text i.parname.now)
    ∷ says (codes "pending") (number i.pending)
    ∷ says (codes "types") (number i.types) ∷ []
