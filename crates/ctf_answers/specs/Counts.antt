-- What the answer to a change shows.
use Rattle.std.specs.Prelude.{List, [], ◌∷◌, ◌++◌, Option, None, Some}
use Rattle.ctf_protocol.specs.answers.Answers.{Answer, Field, says}
use Rattle.ctf_protocol.specs.answers.Answers as answers
use Rattle.ctf_answers.specs.declared.count.Count.{Count}
use Rattle.ctf_answers.specs.declared.counts.Counts.{Counts}

abbrev pub count_view : Option Count → List Field
count_view None = []
count_view (Some a) = says a.key.now (answers.number a.number) ∷ []

abbrev pub counts_view : Counts → Answer
counts_view c = count_view c.first ++ count_view c.second
