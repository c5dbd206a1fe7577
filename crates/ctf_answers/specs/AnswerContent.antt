-- What an answer shows, for each of its forms.
use Rattle.std.specs.Prelude.{[], ◌∷◌, codes}
use Rattle.ctf_protocol.specs.answers.Answers as answers
use Rattle.ctf_protocol.specs.answers.Answers.{says, lists, text, truth, number}
use Rattle.ctf_answers.specs.Singles.{single_of}
use Rattle.ctf_answers.specs.TypeFields.{record_view, info_view}
use Rattle.ctf_answers.specs.declared.values.AnswerContent.{AnswerContent}
use Rattle.ctf_answers.specs.declared.values.AnswerContent.TheVariants as said
use Rattle.ctf_answers.specs.declared.singles.KeyedValue.{KeyedValue}

abbrev pub entry_view : KeyedValue → answers.Field
entry_view e = says e.key.now (single_of e.value)

abbrev pub fields_view : AnswerContent → answers.Answer
fields_view said.Done = []
fields_view (said.One a) = entry_view a ∷ []
fields_view (said.Two a b) = entry_view a ∷ entry_view b ∷ []
fields_view (said.Three a b c) = entry_view a ∷ entry_view b ∷ entry_view c ∷ []
fields_view (said.Window key items total) =
    lists key.now items ∷ says (codes "total") (number total) ∷ []
fields_view (said.Signature args ret varargs) =
    lists (codes "args") args ∷ says (codes "return") (number ret)
    ∷ says (codes "varargs") (truth varargs) ∷ []
fields_view (said.Record r) = record_view r
fields_view (said.Info i) = info_view i
fields_view (said.Made key made) = says key.now (text made) ∷ []
