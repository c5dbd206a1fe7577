-- The texts of the code are those of the definition.
use Rattle.std.proofs.Common.{◌≡◌, ℕ, List, [], ◌∷◌, ◌++◌, Bool, true, false, Option, Some, None, Result, Ok, Err, refl, sym, ap, subst, ◌∙◌, append_assoc, append-nil}
use Rattle.std.specs.Prelude.{codes, decimal}
use Rattle.std.specs.Io.KnownBytes.{Appends}
use Rattle.std.specs.Option.{option_map}
use Rattle.std.proofs.KnownBytes.{Appends-trans}
use Rattle.std.proofs.lemmas.Option.{same_Some}
use Rattle.std.proofs.lemmas.Grind.{flat_map-append}
use Rattle.ctf_model.specs.dumps.Dump.{after_blanks, detail, in_quotes, list_lines, or_fault, type_line, visible, with_value}
use Rattle.ctf_model.specs.figures.Figures.{align, size}
use Rattle.ctf_model.specs.names.KindNames.{name_of_kind}
use Rattle.ctf_model.specs.format.Shown.{Facts, Shown, facts, kind_of, shape, shown}
use Rattle.ctf_model.specs.spaces.Space.{Space}
use Rattle.ctf_model.specs.format.Term.{Body, Term}
use Rattle.ctf_model.specs.format.Term as term
use Rattle.ctf_model.specs.names.TypeNames.{spelled_name}
use Rattle.ctf_dump.specs.Progress.{HasBegun}
use Rattle.ctf_dump.proofs.Progress.{begun_behind}
use Rattle.ctf_dump.specs.Words.{figures_text, lines_behind, lines_of_type, root_text, shape_text, typed_text}
use Rattle.ctf_model.specs.spaces.TypeNumbers.{or_no_type}
use Rattle.ctf_model.specs.declared.faults.Fault.{Fault}

detail_is : (b : Body) → shape_text (shape b) ≡ after_blanks (detail b)
detail_is (term.integer x) = simp (append_assoc, append-nil)
detail_is (term.float x) = simp (append_assoc, append-nil)
detail_is (term.pointer t) = simp (append_assoc, append-nil)
detail_is (term.typedef t) = simp (append_assoc, append-nil)
detail_is (term.volatile t) = simp (append_assoc, append-nil)
detail_is (term.const t) = simp (append_assoc, append-nil)
detail_is (term.restrict t) = simp (append_assoc, append-nil)
detail_is (term.array a) = simp (append_assoc, append-nil)
detail_is (term.function ret args) = simp (append_assoc, append-nil)
detail_is (term.struct said ms) = simp (append_assoc, append-nil)
detail_is (term.union said ms) = simp (append_assoc, append-nil)
detail_is (term.enum said es) = simp (append_assoc, append-nil)
detail_is (term.forward tag) = simp (append_assoc, append-nil)
detail_is term.unknown = refl

root_is : (b : Bool) → root_text b ≡ 32 ∷ visible b
root_is true = refl
root_is false = refl

-- the words after the details
abbrev behind : Space → ℕ → List (List ℕ)
behind s n = codes ":" ∷ or_fault in_quotes (spelled_name s n) ∷ with_value (codes "bytes") (or_fault decimal (size s n)) ∷ with_value (codes "align") (or_fault decimal (align s n)) ∷ []

figures_are : (s : Space) (n : ℕ) → figures_text s n ≡ after_blanks (behind s n)
figures_are s n = simp (append_assoc, append-nil)

-- one text, however its parts are grouped
joined : (d k q v w f nl : List ℕ) → (codes "type " ++ (d ++ (codes " " ++ (k ++ (codes " " ++ (q ++ ((32 ∷ v) ++ w))))))) ++ (f ++ nl) ≡ codes "type" ++ (((32 ∷ d) ++ ((32 ∷ k) ++ ((32 ∷ q) ++ ((32 ∷ v) ++ (w ++ f))))) ++ nl)
joined d k q v w f nl = simp append_assoc

pub type_line_is : (s : Space) (n : ℕ) (x : Term) → typed_text s n (facts x) ≡ type_line s n x
type_line_is s n x =
    let d = decimal n in
    let k = name_of_kind (kind_of x.body) in
    let q = in_quotes x.name in
    let v = visible x.root in
    let words = after_blanks (detail x.body) in
    let figures = after_blanks (behind s n) in
    let nl = codes "\n" in
    let whole : List ℕ → List ℕ → List ℕ → List ℕ = λ r w f. (codes "type " ++ (d ++ (codes " " ++ (k ++ (codes " " ++ (q ++ (r ++ w))))))) ++ (f ++ nl) in
    ap (λ (r : List ℕ). whole r (shape_text (shape x.body)) (figures_text s n)) (root_is x.root)
    ∙ ap (λ (w : List ℕ). whole (32 ∷ v) w (figures_text s n)) (detail_is x.body)
    ∙ ap (λ (f : List ℕ). whole (32 ∷ v) words f) (figures_are s n)
    ∙ joined d k q v words figures nl
    ∙ ap (λ (ws : List ℕ). codes "type" ++ (((32 ∷ d) ++ ((32 ∷ k) ++ ((32 ∷ q) ++ ((32 ∷ v) ++ ws)))) ++ nl)) (sym (flat_map-append (λ (word : List ℕ). 32 ∷ word) (detail x.body) (behind s n)))

lists_are : (b : Body) → list_lines b ≡ lines_behind (shown b)
lists_are (term.integer x) = refl
lists_are (term.float x) = refl
lists_are (term.pointer t) = refl
lists_are (term.typedef t) = refl
lists_are (term.volatile t) = refl
lists_are (term.const t) = refl
lists_are (term.restrict t) = refl
lists_are (term.array a) = refl
lists_are (term.function ret args) = refl
lists_are (term.struct said ms) = refl
lists_are (term.union said ms) = refl
lists_are (term.enum said es) = refl
lists_are (term.forward tag) = refl
lists_are term.unknown = refl

-- the result, if successful
abbrev found_in : Result Term Fault → Option Term
found_in (Ok x) = Some x
found_in (Err fault) = None

found_back : (found : Option Term) → found ≡ found_in (or_no_type found)
found_back None = refl
found_back (Some x) = refl

-- the line of a looked-up type, and those of its list
pub type_lines_are : (a b c : Option (List ℕ)) (s : Space) (n : ℕ) (found : Option Term) (f : Facts) (v : Shown) (x : Term) → or_no_type found ≡ Ok x → option_map facts found ≡ Some f → option_map (λ y. shown y.body) found ≡ Some v
    → Appends a b (typed_text s n f) → Appends b c (lines_behind v) → Appends a c (lines_of_type s n x)
type_lines_are a b c s n found f v x e info behind_it first second =
    let is = found_back found ∙ ap found_in e in
    let same : facts x ≡ f = same_Some (facts x) f (sym (ap (option_map facts) is) ∙ info) in
    let seen : shown x.body ≡ v = same_Some (shown x.body) v (sym (ap (option_map (λ (y : Term). shown y.body)) is) ∙ behind_it) in
    Appends-trans a b c (type_line s n x) (list_lines x.body)
    (subst (Appends a b) (ap (typed_text s n) (sym same) ∙ type_line_is s n x) first)
    (subst (Appends b c) (ap lines_behind (sym seen) ∙ sym (lists_are x.body)) second)

-- its line is written, then a prefix of its list
pub type_begun : (a b c : Option (List ℕ)) (s : Space) (n : ℕ) (found : Option Term) (f : Facts) (v : Shown) (x : Term) → or_no_type found ≡ Ok x → option_map facts found ≡ Some f → option_map (λ y. shown y.body) found ≡ Some v
    → Appends a b (typed_text s n f) → HasBegun b c (lines_behind v) → HasBegun a c (lines_of_type s n x)
type_begun a b c s n found f v x e info behind_it first second =
    let is = found_back found ∙ ap found_in e in
    let same : facts x ≡ f = same_Some (facts x) f (sym (ap (option_map facts) is) ∙ info) in
    let seen : shown x.body ≡ v = same_Some (shown x.body) v (sym (ap (option_map (λ (y : Term). shown y.body)) is) ∙ behind_it) in
    begun_behind a b c (type_line s n x) (list_lines x.body)
    (subst (Appends a b) (ap (typed_text s n) (sym same) ∙ type_line_is s n x) first)
    (subst (HasBegun b c) (ap lines_behind (sym seen) ∙ sym (lists_are x.body)) second)
