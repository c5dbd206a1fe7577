-- A question about a type, answered from the type's own fields.
use Rattle.std.proofs.Common.{◌≡◌, ℕ, List, map, take, Option, Some, None, Result, sym, ap, ◌∙◌}
use Rattle.std.specs.Option.{option_map}
use Rattle.std.proofs.lemmas.Option.{same_Some}
use Rattle.std.proofs.lemmas.List.{take-map}
use Rattle.ctf_protocol.specs.answers.Questions.{number_item, answer_of, facts_answer}
use Rattle.ctf_model.specs.format.Shown.{Facts, facts}
use Rattle.ctf_model.specs.spaces.Space.{Space}
use Rattle.ctf_model.specs.format.Term.{Body, Term}
use Rattle.ctf_model.specs.spaces.TypeNumbers.{or_no_type}
use Rattle.ctf_model.specs.declared.faults.Fault.{Fault}
use Rattle.ctf_protocol.specs.answers.Answers.{Answer}
use Rattle.ctf_protocol.specs.declared.questions.TypeQuestion.{TypeQuestion}

-- a question that needs one part of the type
pub told : {B : Type 0} (part : Body → B) (says : B → Result Answer Fault) (q : TypeQuestion) (s : Space) (t : ℕ) (o : Option Term) (b : B) (answer : Result Answer Fault) → option_map (λ x. part x.body) o ≡ Some b → answer ≡ says b
    → ((x : Term) → says (part x.body) ≡ facts_answer q s t (facts x)) → answer ≡ answer_of q s t (or_no_type o)
told part says q s t None b answer e is same = absurd cc
told part says q s t (Some x) b answer e is same = is ∙ (ap says (sym (same_Some (part x.body) b e)) ∙ same x)

-- a question that needs the whole type
pub told_whole : (q : TypeQuestion) (s : Space) (t : ℕ) (o : Option Term) (f : Facts) (answer : Result Answer Fault) → option_map facts o ≡ Some f → answer ≡ facts_answer q s t f → answer ≡ answer_of q s t (or_no_type o)
told_whole q s t None f answer e is = absurd cc
told_whole q s t (Some x) f answer e is = is ∙ ap (facts_answer q s t) (sym (same_Some (facts x) f e))

pub take_numbers : (n : ℕ) (xs : List ℕ) → take n (map number_item xs) ≡ map number_item (take n xs)
take_numbers n xs = take-map number_item n xs
