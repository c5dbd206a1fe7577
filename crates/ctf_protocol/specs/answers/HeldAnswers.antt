-- Answers to questions about a whole open dictionary. Source: ours.
use Rattle.std.specs.Prelude.{ℕ, Bool, List, [], ◌∷◌, length, take, drop, is_some, codes}
use Rattle.ctf_protocol.specs.answers.Answers.{Answer, says, number, truth, word, text, bytes}
use Rattle.ctf_model.specs.format.Dictionary.{Dictionary}
use Rattle.ctf_model.specs.opened.Open.{Open, own_in, pending_in}
use Rattle.ctf_protocol.specs.words.ModelNames.{name_of_model}
use Rattle.ctf_model.specs.declared.data_model.DataModel.{DataModel}
use Rattle.ctf_protocol.specs.declared.questions.HeldQuestion.{HeldQuestion}
use Rattle.ctf_protocol.specs.declared.questions.HeldQuestion.TheVariants as held

-- the fields of `info`: of a child, of a draft, with a parent, and the number of pending items
abbrev pub info_fields : Dictionary → Bool → Bool → ℕ → Answer
info_fields d draft imported pending =
    says (codes "child") (truth d.child)
    ∷ says (codes "draft") (truth draft)
    ∷ says (codes "imported") (truth imported)
    ∷ says (codes "labels") (number (length d.labels))
    ∷ says (codes "parlabel") (text d.parlabel)
    ∷ says (codes "parname") (text d.parname)
    ∷ says (codes "pending") (number pending)
    ∷ says (codes "types") (number (length d.terms)) ∷ []

-- a range of a dictionary's bytes, and their total number
abbrev pub bytes_fields : ℕ → ℕ → List ℕ → Answer
bytes_fields from count ctf =
    says (codes "bytes") (bytes (take count (drop from ctf)))
    ∷ says (codes "length") (number (length ctf)) ∷ []

abbrev pub model_fields : DataModel → Answer
model_fields model = says (codes "model") (word (name_of_model model)) ∷ []

abbrev pub held_answered : HeldQuestion → Open → Answer
held_answered held.Info o =
    info_fields (own_in o) (is_some o.draft) (is_some o.parent) (pending_in o.draft)
held_answered held.Model o = model_fields o.own.model
held_answered (held.Bytes from count) o = bytes_fields from count o.own.lists.ctf
