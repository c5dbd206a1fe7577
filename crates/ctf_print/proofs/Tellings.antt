-- The formatting of a type follows the rule of its record.
use Rattle.std.proofs.Common.{◌≡◌, ℕ, zero, suc, ◌-◌, List, Option, Some, None, Result, Err, Bool, cond, refl, sym, ap, ◌∙◌, arith}
use Rattle.std.specs.Option.{option_map}
use Rattle.std.proofs.lemmas.Bool.{ne_eqb}
use Rattle.ctf_model.specs.figures.Figures.{incomplete}
use Rattle.ctf_model.specs.values.Pieces.{ends}
use Rattle.ctf_model.specs.format.Shown.{Shape, shape}
use Rattle.ctf_model.specs.spaces.Space.{Space, space_type}
use Rattle.ctf_model.specs.format.Term.{Body, Term}
use Rattle.ctf_model.specs.format.Term as term
use Rattle.ctf_model.specs.spaces.TypeNumbers.{or_no_type}
use Rattle.ctf_model.specs.values.Values.{Shows, body_shown, by_rule, found_shown, shown_within}
use Rattle.ctf_model.specs.declared.faults.Fault.{Fault}
use Rattle.ctf_print.specs.ShowRules.{rule_in, text_by_rule}

body_told : (s : Space) (memory : List ℕ) (show : Shows) (p : ℕ) (body : Body) → body_shown s memory show p body ≡ text_by_rule s memory show p (rule_in (shape body))
body_told s memory show p (term.integer x) = refl
body_told s memory show p (term.float x) = refl
body_told s memory show p (term.pointer t) = refl
body_told s memory show p (term.enum said es) = refl
body_told s memory show p (term.struct said ms) = refl
body_told s memory show p (term.union said ms) = refl
body_told s memory show p (term.array a) = refl
body_told s memory show p (term.typedef t) = refl
body_told s memory show p (term.volatile t) = refl
body_told s memory show p (term.const t) = refl
body_told s memory show p (term.restrict t) = refl
body_told s memory show p (term.function returned ts) = refl
body_told s memory show p (term.forward t) = refl
body_told s memory show p term.unknown = refl

-- ---- numbers

pub none_shown : (s : Space) (memory : List ℕ) (k n p : ℕ) → n ≡ 0 → shown_within s memory k n p ≡ ends incomplete
unfolding shown_within
none_shown s memory zero n p e = refl
none_shown s memory (suc k) n p e = rw e refl

pub too_deep : (s : Space) (memory : List ℕ) (k n p : ℕ) → k ≡ 0 → shown_within s memory k n p ≡ ends incomplete
unfolding shown_within
too_deep s memory k n p e = rw e refl

found : (s : Space) (memory : List ℕ) (show : Shows) (n p : ℕ) (r : Result Term Fault) → (n ≡ 0 → ⊥) → r ≡ space_type s n → by_rule s memory show n p ≡ found_shown s memory show p r
found s memory show n p r some e =
    ap (λ (b : Bool). cond b (ends incomplete) (found_shown s memory show p (space_type s n))) (ne_eqb n 0 some)
    ∙ sym (ap (found_shown s memory show p) e)

pub no_type_shown : (s : Space) (memory : List ℕ) (k n p : ℕ) (fault : Fault) → (k ≡ 0 → ⊥) → (n ≡ 0 → ⊥) → Err fault ≡ space_type s n → shown_within s memory k n p ≡ ends fault
unfolding shown_within
no_type_shown s memory zero n p fault deep some e = absurd (deep refl)
no_type_shown s memory (suc k) n p fault deep some e = found s memory (shown_within s memory k) n p (Err fault) some e

rule : (s : Space) (memory : List ℕ) (show : Shows) (p : ℕ) (o : Option Term) (x : Shape) → option_map (λ z. shape z.body) o ≡ Some x → found_shown s memory show p (or_no_type o) ≡ text_by_rule s memory show p (rule_in x)
rule s memory show p None x is = absurd cc
rule s memory show p (Some z) x is =
    let same : shape z.body ≡ x = cc in
    body_told s memory show p z.body ∙ ap (λ y. text_by_rule s memory show p (rule_in y)) same

pub type_shown : (s : Space) (memory : List ℕ) (k n p : ℕ) (o : Option Term) (x : Shape) → (k ≡ 0 → ⊥) → (n ≡ 0 → ⊥) → or_no_type o ≡ space_type s n → option_map (λ z. shape z.body) o ≡ Some x → shown_within s memory k n p ≡ text_by_rule s memory (shown_within s memory (k - 1)) p (rule_in x)
unfolding shown_within
type_shown s memory zero n p o x deep some e is = absurd (deep refl)
type_shown s memory (suc k) n p o x deep some e is =
    let less : suc k - 1 ≡ k = omega arith in
    rw less (found s memory (shown_within s memory k) n p (or_no_type o) some e ∙ rule s memory (shown_within s memory k) p o x is)
