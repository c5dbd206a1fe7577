-- What the extent of a type is computed from.
use Rattle.std.proofs.Common.{◌≡◌, ℕ, suc, ◌+◌, ◌≤◌, ◌<◌, List, [], ◌∷◌, ◌++◌, length, map, take, Option, Result, Ok, Err, get_or, refl, sym, ap, subst, ◌∙◌, arith}
use Rattle.std.specs.Prelude.{min, slice_index}
use Rattle.std.proofs.lemmas.List.{length-map, take_all, take_more}
use Rattle.ctf_model.specs.rules.Chains.{IsWithin, by_value, longest_chain}
use Rattle.ctf_model.specs.format.Term.{Term, Body, Member}
use Rattle.ctf_model.specs.format.Term as term
use Rattle.ctf_model.specs.declared.faults.Fault.{Fault}
use Rattle.ctf_layout.specs.Bases.{IsByOne, basis, greatest_of, members_read, row_size, row_target}
use Rattle.ctf_layout.specs.Extents.{IsExtent, amount, target}
use Rattle.ctf_model.specs.figures.Figures.{size, align, resolved_type, sizing, aligning, resolving, size_body, align_body, resolved_body, greater, greatest, first_of}
use Rattle.ctf_model.specs.figures.FigureLaws.{own_body, value_edges}
use Rattle.ctf_model.specs.format.Shown.{shape}
use Rattle.ctf_model.specs.spaces.TypePlaces.{own_number}
use Rattle.ctf_model.specs.spaces.Space.{Space}
use Rattle.ctf_layout.specs.declared.extents.Amount.{Amount}
use Rattle.ctf_layout.specs.declared.extents.Amount.TheVariants.{Known}
use Rattle.ctf_layout.specs.declared.bases.Basis.{Basis}
use Rattle.ctf_layout.specs.declared.bases.Basis.TheVariants.{Itself, One, Members}
use Rattle.ctf_layout.specs.declared.extents.Extent.{Extent}
use Rattle.ctf_layout.specs.declared.bases.Row.{Row}
use Rattle.ctf_layout.specs.declared.extents.Target.{Target}
use Rattle.ctf_model.specs.declared.data_model.DataModel.{DataModel}
use Rattle.ctf_model.proofs.FigureAsks.{figures_ask}
use Rattle.ctf_model.specs.declared.numbers.TypeNum.{TypeNum}
use Rattle.ctf_model.proofs.Settled.{own_figure}

-- ---- the greatest of a list

greater_unit : (r : Result ℕ Fault) → greater r (Ok 0) ≡ r
greater_unit (Err f) = refl
greater_unit (Ok n) = ap Ok (omega arith)

unit_greater : (r : Result ℕ Fault) → greater (Ok 0) r ≡ r
unit_greater (Err f) = refl
unit_greater (Ok n) = ap Ok (omega arith)

greater_assoc : (a b c : Result ℕ Fault) → greater a (greater b c) ≡ greater (greater a b) c
greater_assoc (Err f) b c = refl
greater_assoc (Ok n) (Err f) c = refl
greater_assoc (Ok n) (Ok m) (Err f) = refl
greater_assoc (Ok n) (Ok m) (Ok k) = ap Ok (omega arith)

greatest_more : (f : ℕ → Result ℕ Fault) (ts : List ℕ) (t : ℕ) → greatest_of f (ts ++ (t ∷ [])) ≡ greater (greatest_of f ts) (f t)
greatest_more f [] t = greater_unit (f t) ∙ sym (unit_greater (f t))
greatest_more f (u ∷ ts) t = rw (greatest_more f ts t) (greater_assoc (f u) (greatest_of f ts) (f t))

-- one more number
pub greatest_step : (f : ℕ → Result ℕ Fault) (ts : List ℕ) (k : ℕ) → k < length ts → greatest_of f (take (k + 1) ts) ≡ greater (greatest_of f (take k ts)) (f (slice_index ts k))
greatest_step f ts k lt =
    let more : take (k + 1) ts ≡ take k ts ++ (get_or ts k 0 ∷ []) = take_more ts k 0 lt in
    rw more (greatest_more f (take k ts) (get_or ts k 0))

greatest_is : (f : ℕ → Result ℕ Fault) (ms : List Member) → greatest f ms ≡ greatest_of f (map (λ m. m.tnum) ms)
greatest_is f [] = refl
greatest_is f (m ∷ ms) = rw (greatest_is f ms) refl

union_is : (f : ℕ → Result ℕ Fault) (ms : List Member) → greatest f ms ≡ greatest_of f (take (length ms) (map (λ m. m.tnum) ms))
union_is f ms = greatest_is f ms ∙ ap (greatest_of f) (sym (take_all (length ms) (map (λ m. m.tnum) ms) (omega (arith, length-map ms (λ (m : Member). m.tnum)))))

struct_is : (f : ℕ → Result ℕ Fault) (ms : List Member) → first_of f ms ≡ greatest_of f (take (min 1 (length ms)) (map (λ m. m.tnum) ms))
struct_is f [] = refl
struct_is f (m ∷ ms) =
    let one : min 1 (suc (length ms)) ≡ 1 = omega arith in
    rw one (sym (greater_unit (f m.tnum)))

-- ---- bases

abbrev pub BasisSays : DataModel → Body → Basis → Type 0
BasisSays model body (Itself size align) = (members_read body ≡ 0) × ((f : ℕ → Result ℕ Fault) → size_body model f body ≡ amount size) × ((f : ℕ → Result ℕ Fault) → align_body model f body ≡ amount align) × ((f : ℕ → Result ℕ Fault) (n : ℕ) → resolved_body f n body ≡ Ok n)
BasisSays model body (One t row) = (members_read body ≡ 0) × (by_value body ≡ t.0 ∷ []) × ((f : ℕ → Result ℕ Fault) → size_body model f body ≡ row_size row (f t.0)) × ((f : ℕ → Result ℕ Fault) → align_body model f body ≡ f t.0) × ((f : ℕ → Result ℕ Fault) (n : ℕ) → resolved_body f n body ≡ row_target row (f t.0) n)
BasisSays model body (Members n read) = (members_read body ≡ read) × (read ≤ length (by_value body)) × ((f : ℕ → Result ℕ Fault) → size_body model f body ≡ Ok n) × ((f : ℕ → Result ℕ Fault) → align_body model f body ≡ greatest_of f (take read (by_value body))) × ((f : ℕ → Result ℕ Fault) (n : ℕ) → resolved_body f n body ≡ Ok n)

pub basis_says : (model : DataModel) (body : Body) → BasisSays model body (basis model (shape body))
basis_says model (term.integer x) = (refl, (λ f. refl), (λ f. refl), (λ f n. refl))
basis_says model (term.float x) = (refl, (λ f. refl), (λ f. refl), (λ f n. refl))
basis_says model (term.pointer t) = (refl, (λ f. refl), (λ f. refl), (λ f n. refl))
basis_says model (term.function r ts) = (refl, (λ f. refl), (λ f. refl), (λ f n. refl))
basis_says model (term.enum said xs) = (refl, (λ f. refl), (λ f. refl), (λ f n. refl))
basis_says model (term.forward t) = (refl, (λ f. refl), (λ f. refl), (λ f n. refl))
basis_says model term.unknown = (refl, (λ f. refl), (λ f. refl), (λ f n. refl))
basis_says model (term.array e) = (refl, refl, (λ f. refl), (λ f. refl), (λ f n. refl))
basis_says model (term.typedef t) = (refl, refl, (λ f. refl), (λ f. refl), (λ f n. refl))
basis_says model (term.volatile t) = (refl, refl, (λ f. refl), (λ f. refl), (λ f n. refl))
basis_says model (term.const t) = (refl, refl, (λ f. refl), (λ f. refl), (λ f n. refl))
basis_says model (term.restrict t) = (refl, refl, (λ f. refl), (λ f. refl), (λ f n. refl))
basis_says model (term.struct said ms) = (refl, omega (arith, length-map ms (λ (m : Member). m.tnum)), (λ f. refl), (λ f. struct_is f ms), (λ f n. refl))
basis_says model (term.union said ms) = (refl, omega (arith, length-map ms (λ (m : Member). m.tnum)), (λ f. refl), (λ f. union_is f ms), (λ f n. refl))

-- the facts of a basis, once it is read
pub basis_read : (s : Space) (i : ℕ) (b c : Basis) → b ≡ basis s.model (shape (own_body s.own i)) → b ≡ c → BasisSays s.model (own_body s.own i) c
basis_read s i b c e f = subst (BasisSays s.model (own_body s.own i)) (sym e ∙ f) (basis_says s.model (own_body s.own i))

-- ---- extents computed from their bases

-- an own type whose chains by value have at most `k` steps
pub record IsOwnAt (s : Space) (k i : ℕ) : Type 0 where
  pub short : k ≤ longest_chain
  pub inside : i < length s.own.terms
  pub within : IsWithin (value_edges s.own) k i

size_rule : (s : Space) (k i : ℕ) → IsOwnAt s k i → size s (own_number s.own.child i) ≡ size_body s.model (size s) (own_body s.own i)
size_rule s k i at = own_figure (sizing s.model) (figures_ask.sizing_asks s.model) s k i at.short at.inside at.within

align_rule : (s : Space) (k i : ℕ) → IsOwnAt s k i → align s (own_number s.own.child i) ≡ align_body s.model (align s) (own_body s.own i)
align_rule s k i at = own_figure (aligning s.model) (figures_ask.aligning_asks s.model) s k i at.short at.inside at.within

resolve_rule : (s : Space) (k i : ℕ) → IsOwnAt s k i → resolved_type s (own_number s.own.child i) ≡ resolved_body (resolved_type s) (own_number s.own.child i) (own_body s.own i)
resolve_rule s k i at = own_figure resolving figures_ask.resolving_asks s k i at.short at.inside at.within

-- a type that resolves to itself
itself_resolves : (s : Space) (k i : ℕ) (itself : Target) → IsOwnAt s k i → ((f : ℕ → Result ℕ Fault) (n : ℕ) → resolved_body f n (own_body s.own i) ≡ Ok n) → target itself ≡ Ok (own_number s.own.child i) → target itself ≡ resolved_type s (own_number s.own.child i)
itself_resolves s k i itself at stays is = is ∙ sym (resolve_rule s k i at ∙ stays (resolved_type s) (own_number s.own.child i))

pub itself_extent : (s : Space) (k i : ℕ) (e : Extent) → IsOwnAt s k i → BasisSays s.model (own_body s.own i) (Itself e.size e.align) → target e.target ≡ Ok (own_number s.own.child i) → IsExtent s (own_number s.own.child i) e
itself_extent s k i e at b itself = record {
  sized = sym (size_rule s k i at ∙ b.1 (size s));
  aligned = sym (align_rule s k i at ∙ b.2 (align s));
  resolves = itself_resolves s k i e.target at b.3 itself;
}

pub one_extent : (s : Space) (k i : ℕ) (t : TypeNum) (row : Option Row) (one e : Extent) → IsOwnAt s k i → BasisSays s.model (own_body s.own i) (One t row) → IsExtent s t.0 one → IsByOne (own_number s.own.child i) row one e → IsExtent s (own_number s.own.child i) e
one_extent s k i t row one e at b h is = record {
  sized = is.size ∙ ap (row_size row) h.sized ∙ sym (size_rule s k i at ∙ b.2 (size s));
  aligned = ap amount is.align ∙ h.aligned ∙ sym (align_rule s k i at ∙ b.3 (align s));
  resolves = is.target ∙ ap (λ r. row_target row r (own_number s.own.child i)) h.resolves ∙ sym (resolve_rule s k i at ∙ b.4 (resolved_type s) (own_number s.own.child i));
}

pub members_extent : (s : Space) (k i n read : ℕ) (a : Amount) (itself : Target) → IsOwnAt s k i → BasisSays s.model (own_body s.own i) (Members n read) → amount a ≡ greatest_of (align s) (take read (by_value (own_body s.own i))) → target itself ≡ Ok (own_number s.own.child i) → IsExtent s (own_number s.own.child i) (record { size = Known n; align = a; target = itself })
members_extent s k i n read a itself at b is itself_is = record {
  sized = sym (size_rule s k i at ∙ b.2 (size s));
  aligned = is ∙ sym (align_rule s k i at ∙ b.3 (align s));
  resolves = itself_resolves s k i itself at b.4 itself_is;
}
