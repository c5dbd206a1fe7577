-- The answer to a question about a whole slot. Source: libctf(3LIB), ctf_lookup_by_name,
-- ctf_lookup_by_symbol, ctf_func_info, ctf_func_args, ctf_label_iter, ctf_label_info; the form of
-- answers is ours.
use Rattle.std.specs.Prelude.{ℕ, List, [], ◌∷◌, map, Result, Ok, codes}
use Rattle.ctf_protocol.specs.answers.Answers.{Answer, Item, says, entry, number, word, text, object}
use Rattle.ctf_model.specs.format.Dictionary.{Label}
use Rattle.ctf_model.specs.symbols.Entries.{Owner}
use Rattle.ctf_model.specs.names.Lookups.{lookup}
use Rattle.ctf_model.specs.names.KindNames.{name_of_class}
use Rattle.ctf_protocol.specs.answers.Questions.{as_fields, list_fields, signature_fields, type_fields}
use Rattle.ctf_model.specs.spaces.Space.{Space}
use Rattle.ctf_model.specs.symbols.SymbolQuestions.{function_of, label_of, object_of, symbol_found}
use Rattle.ctf_model.specs.declared.faults.Fault.{Fault}
use Rattle.ctf_protocol.specs.declared.questions.SlotQuestion.{SlotQuestion}
use Rattle.ctf_protocol.specs.declared.questions.SlotQuestion.TheVariants as whole
use Rattle.ctf_protocol.specs.declared.questions.Window.{Window}

-- ---- answers, field by field

-- a symbol's class and its number
abbrev pub symbol_fields : Owner → Answer
symbol_fields x =
    says (codes "class") (word (name_of_class x.class)) ∷ says (codes "sym") (number x.number) ∷ []

abbrev pub label_item : Label → Item
label_item x =
    object (entry (codes "last") (number x.last) ∷ entry (codes "name") (text x.name) ∷ [])

abbrev pub label_fields : Window → List Label → Answer
label_fields window labels = list_fields (codes "labels") window (map label_item labels)

-- the last type that a label covers
abbrev pub last_fields : ℕ → Answer
last_fields last = says (codes "last") (number last) ∷ []

-- ---- questions

-- the answer to a question about a slot, given its space
abbrev pub whole_answered : SlotQuestion → Space → Result Answer Fault
whole_answered (whole.Find written) s = as_fields type_fields (lookup s written)
whole_answered (whole.Symbol name) s = as_fields symbol_fields (symbol_found s.own name)
whole_answered (whole.Object n) s = as_fields type_fields (object_of s.own n)
whole_answered (whole.Function n) s = as_fields signature_fields (function_of s.own n)
whole_answered (whole.Labels window) s = Ok (label_fields window s.own.labels)
whole_answered (whole.Label name) s = as_fields last_fields (label_of s.own name)
