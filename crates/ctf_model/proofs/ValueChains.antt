-- The text of a value does not depend on the bound, once that is large enough.
use Rattle.std.proofs.Common.{◌≡◌, ℕ, zero, suc, ◌+◌, ◌*◌, ◌≤◌, cond, eqb, List, [], ◌∷◌, map, Result, Ok, Err, refl, ap, ◌∙◌, arith}
use Rattle.std.specs.List.{AllByRecursion, range_with_len}
use Rattle.ctf_model.specs.rules.Chains.{by_value}
use Rattle.ctf_model.specs.figures.Figures.{incomplete, size}
use Rattle.ctf_model.specs.values.Pieces.{Pieces, ends}
use Rattle.ctf_model.specs.spaces.Space.{Space, space_type}
use Rattle.ctf_model.specs.format.Term.{Term, Body, Member}
use Rattle.ctf_model.specs.format.Term as term
use Rattle.ctf_model.specs.values.ValueLaws.{ValuesAreTheirRules}
use Rattle.ctf_model.specs.values.Values.{Shows, body_shown, by_rule, each_element, found_shown, member_shown, most_values, shown_within}
use Rattle.ctf_model.specs.declared.faults.Fault.{Fault}
use Rattle.ctf_model.proofs.Settled.{all_map}
use Rattle.ctf_model.proofs.ShortChains.{PassesOn, descend}

-- ---- the text depends only on nested values

-- two functions agree on all values of a type
abbrev pub Agree : Shows → Shows → ℕ → Type 0
Agree f g t = (q : ℕ) → f t q ≡ g t q

members_same : (f g : Shows) (p : ℕ) (ms : List Member) → AllByRecursion (Agree f g) (map (λ m. m.tnum) ms) → map (member_shown f p) ms ≡ map (member_shown g p) ms
members_same f g p [] a = refl
members_same f g p (m ∷ ms) a = rw (a.0 (p + m.offset), members_same f g p ms a.1) refl

items_same : (f g : ℕ → Pieces) (is : List ℕ) → ((i : ℕ) → f i ≡ g i) → map f is ≡ map g is
items_same f g [] h = refl
items_same f g (i ∷ is) h = rw (h i, items_same f g is h) refl

elements_same : (f g : Shows) (p contents count : ℕ) (size : Result ℕ Fault) → Agree f g contents → each_element f p contents count size ≡ each_element g p contents count size
elements_same f g p contents count (Ok size) h = items_same (λ i. f contents (p + 8 * size * i)) (λ i. g contents (p + 8 * size * i)) (range_with_len 0 count) (λ i. h (p + 8 * size * i))
elements_same f g p contents count (Err fault) h = refl

pub body_same : (s : Space) (memory : List ℕ) (f g : Shows) (p : ℕ) (body : Body) → AllByRecursion (Agree f g) (by_value body) → body_shown s memory f p body ≡ body_shown s memory g p body
body_same s memory f g p (term.struct said ms) a = rw (members_same f g p ms a) refl
body_same s memory f g p (term.union said ms) a = rw (members_same f g p ms a) refl
body_same s memory f g p (term.array e) a = rw (elements_same f g p e.contents e.count (size s e.contents) a.0) refl
body_same s memory f g p (term.typedef t) a = a.0 p
body_same s memory f g p (term.volatile t) a = a.0 p
body_same s memory f g p (term.const t) a = a.0 p
body_same s memory f g p (term.restrict t) a = a.0 p
body_same s memory f g p (term.integer x) a = refl
body_same s memory f g p (term.float x) a = refl
body_same s memory f g p (term.pointer t) a = refl
body_same s memory f g p (term.enum said es) a = refl
body_same s memory f g p (term.function returned ts) a = refl
body_same s memory f g p (term.forward t) a = refl
body_same s memory f g p term.unknown a = refl

-- the same for a number, if it names a type
rule_same : (s : Space) (memory : List ℕ) (f g : Shows) (n p : ℕ) → ((z : Term) → space_type s n ≡ Ok z → AllByRecursion (Agree f g) (by_value z.body)) → by_rule s memory f n p ≡ by_rule s memory g n p
rule_same s memory f g n p h = ap (λ (x : Pieces). cond (eqb n 0) (ends incomplete) x) (at (space_type s n) refl)
  where
    at : (r : Result Term Fault) → space_type s n ≡ r → found_shown s memory f p r ≡ found_shown s memory g p r
    at (Err fault) e = refl
    at (Ok z) e = body_same s memory f g p z.body (h z e)

-- ---- a large enough bound

-- with a bound above `x` the texts of a type's values stay the same
abbrev SameFrom : Space → List ℕ → ℕ → ℕ → Type 0
SameFrom s memory x n = (y : ℕ) → x ≤ y → Agree (shown_within s memory x) (shown_within s memory y) n

passes_on : (s : Space) (memory : List ℕ) → PassesOn by_value s (SameFrom s memory)
unfolding shown_within
passes_on s memory x n h zero le = absurd (omega arith)
passes_on s memory x n h (suc y) le =
    λ p. rule_same s memory (shown_within s memory x) (shown_within s memory y) n p
    (λ z e. all_map (SameFrom s memory x) (Agree (shown_within s memory x) (shown_within s memory y)) (λ t same. same y (omega arith)) (by_value z.body) (h z e))

-- ---- the law

one_more : (s : Space) (memory : List ℕ) (x n p : ℕ) → shown_within s memory (suc x) n p ≡ by_rule s memory (shown_within s memory x) n p
unfolding shown_within
one_more s memory x n p = refl

most_is : most_values ≡ 1027
unfolding most_values
most_is = refl

pub values_rule : ValuesAreTheirRules
values_rule s short memory n p =
    descend by_value s short (SameFrom s memory) (passes_on s memory) most_values n (omega (arith, most_is)) (suc most_values) (omega arith) p
    ∙ one_more s memory most_values n p
