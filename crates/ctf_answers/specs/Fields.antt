-- What lent fields show.
use Rattle.ctf_protocol.specs.answers.Answers as answers
use Rattle.ctf_answers.specs.Singles.{single_of}
use Rattle.ctf_answers.specs.declared.fields.Value.{Value}
use Rattle.ctf_answers.specs.declared.fields.Value.TheVariants.{One, Many, Made}
use Rattle.ctf_answers.specs.declared.fields.Field.{Field}

abbrev pub value_of : Value → answers.Value
value_of (One value) = answers.one (single_of value)
value_of (Many items) = answers.many items.now
value_of (Made bytes) = answers.one (answers.text bytes.now)

abbrev pub field_of : Field → answers.Field
field_of f = record { key = f.key.now; value = value_of f.value }
