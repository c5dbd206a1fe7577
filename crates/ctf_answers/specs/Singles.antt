-- What lent values show.
use Rattle.ctf_protocol.specs.answers.Answers as answers
use Rattle.ctf_answers.specs.declared.singles.Single.{Single}
use Rattle.ctf_answers.specs.declared.singles.Single.TheVariants as lent
use Rattle.ctf_answers.specs.declared.singles.KeyedValue.{KeyedValue}

abbrev pub single_of : Single → answers.Single
single_of (lent.Number n) = answers.number n
single_of (lent.Signed i) = answers.signed i
single_of (lent.Truth b) = answers.truth b
single_of (lent.Word w) = answers.word w.now
single_of (lent.Text name) = answers.text name.now
single_of (lent.Bytes bs) = answers.bytes bs.now

abbrev pub entry_of : KeyedValue → answers.AnswerField
entry_of e = record { key = e.key.now; value = single_of e.value }
