-- What memory was needed for.
use Rattle.std.proofs.Common.{◌≡◌, ℕ, Bool, true, false, ◌||◌, Option, Some, Result, Ok, Err, IfErr, refl, sym, ap, ◌∙◌}
use Rattle.serde_json.specs.Data.{Data}
use Rattle.ctf_model.specs.declared.faults.Fault.{Fault}
use Rattle.ctf_model.specs.declared.faults.TheConstants.Fault.{MEMORY}
use Rattle.ctf_protocol.specs.declared.requests.Request.{Request}
use Rattle.ctf_protocol.specs.lines.Ask.{word_asked}
use Rattle.ctf_lines.specs.Memory.{value_keeps_text, word_keeps_text}

pub for_text : (b c : Bool) → b ≡ true → (b || c) ≡ true
for_text true c e = refl
for_text false c e = ap (λ t. t || c) e

or_right : (b c : Bool) → c ≡ true → (b || c) ≡ true
or_right true c e = refl
or_right false c e = e

-- the word of a line's stored parts is that of the whole line
pub for_word : (b : Bool) (kept whole : Data) (found : Option Data) → found ≡ Some whole → word_asked kept ≡ word_asked whole
    → (result : Result (ℕ × Request) (ℕ × Fault)) → IfErr result (λ refusal. refusal.1.code ≡ MEMORY → word_keeps_text (word_asked kept) ≡ true)
    → IfErr result (λ refusal. refusal.1.code ≡ MEMORY → (b || value_keeps_text found) ≡ true)
for_word b kept whole found is same (Ok said) h = tt
for_word b kept whole found is same (Err refusal) h = λ late. or_right b (value_keeps_text found) (ap value_keeps_text is ∙ ap word_keeps_text (sym same) ∙ h late)
