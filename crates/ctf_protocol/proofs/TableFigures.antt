-- The faults of types, figures and paths are in the table.
use Rattle.std.proofs.Common.{◌≡◌, ℕ, suc, zero, ◌+◌, ◌*◌, List, [], ◌∷◌, true, Option, Some, None, Result, Ok, Err, refl}
use Rattle.std.specs.Prelude.{◌==◌, ◌^◌, is_none, nat_lt, slice_get}
use Rattle.ctf_model.specs.figures.Figures.{Figure, align, align_body, aligning, array_size, at_place, comes_to, figure_in, first_of, greater, greatest, most_numbers, of_found, or_not_reference, parents_figure, referred_type, resolved_type, resolved_body, resolving, size, size_body, sizing, times, too_big}
use Rattle.ctf_model.specs.figures.Paths.{Position, and_on, member_named, member_position, members_found, path, path_from, position_among, position_within, step_to}
use Rattle.ctf_model.specs.format.Dictionary.{Dictionary}
use Rattle.ctf_model.specs.format.Shown.{Shape, arguments_in}
use Rattle.ctf_model.specs.format.Term.{Body, Elements, Member, Term}
use Rattle.ctf_model.specs.format.Term as term
use Rattle.ctf_model.specs.rules.Refusals.{placeless}
use Rattle.ctf_model.specs.spaces.Space.{Space, space_type}
use Rattle.ctf_model.specs.spaces.TypeNumbers.{no_parent, or_no_type, type_in}
use Rattle.ctf_model.specs.spaces.TypePlaces.{place}
use Rattle.ctf_model.specs.declared.data_model.DataModel.{DataModel}
use Rattle.ctf_model.specs.declared.faults.Fault.{Fault}
use Rattle.ctf_model.specs.declared.faults.TheConstants.Fault.{NOT_REFERENCE}
use Rattle.ctf_model.specs.declared.numbers.Place.{Place}
use Rattle.ctf_model.specs.declared.numbers.Place.TheVariants.{Nowhere, Own, Parents}
use Rattle.ctf_protocol.proofs.TableCodes.{either, good}

-- ---- types

pub found_or_none : (x : Option Term) → good (or_no_type x) ≡ true
found_or_none None = refl
found_or_none (Some x) = refl

in_space : (d : Dictionary) (parent : Option Dictionary) (p : Place) → good (type_in d parent p) ≡ true
in_space d parent Nowhere = refl
in_space d parent (Own i) = found_or_none (slice_get d.terms i)
in_space d None (Parents i) = refl
in_space d (Some parent) (Parents i) = found_or_none (slice_get parent.terms i)

pub type_good : (s : Space) (n : ℕ) → good (space_type s n) ≡ true
type_good s n = in_space s.own s.parent (place s.own.child n)

-- ---- figures

-- the results for other types are good
abbrev pub AreGood : (ℕ → Result ℕ Fault) → Type 0
AreGood others = (n : ℕ) → good (others n) ≡ true

-- a figure's own rule adds no other faults
pub record Keeps (figure : Figure) : Type 0 where
  pub none : good figure.of_none ≡ true
  pub type : (others : ℕ → Result ℕ Fault) → AreGood others → (n : ℕ) (b : Body) → good (figure.of_type others n b) ≡ true

found_good : (figure : Figure) → Keeps figure → (others : ℕ → Result ℕ Fault) → AreGood others → (n : ℕ) (r : Result Term Fault) → good r ≡ true → good (of_found figure others n r) ≡ true
found_good figure keeps others h n (Err f) g = g
found_good figure keeps others h n (Ok x) g = keeps.type others h n x.body

place_good : (figure : Figure) → Keeps figure → (parents others : ℕ → Result ℕ Fault) → AreGood parents → AreGood others → (d : Dictionary) (n : ℕ) (p : Place) → good (at_place figure parents others d n p) ≡ true
place_good figure keeps parents others hp ho d n Nowhere = refl
place_good figure keeps parents others hp ho d n (Own i) = found_good figure keeps others ho n (or_no_type (slice_get d.terms i)) (found_or_none (slice_get d.terms i))
place_good figure keeps parents others hp ho d n (Parents i) = hp n

comes_good : (figure : Figure) → Keeps figure → (parents : ℕ → Result ℕ Fault) → AreGood parents → (d : Dictionary) (k n : ℕ) → good (comes_to figure parents d k n) ≡ true
unfolding comes_to
comes_good figure keeps parents h d zero n = refl
comes_good figure keeps parents h d (suc k) n = either (n == 0) figure.of_none (at_place figure parents (comes_to figure parents d k) d n (place d.child n)) keeps.none (place_good figure keeps parents (comes_to figure parents d k) h (comes_good figure keeps parents h d k) d n (place d.child n))

parents_good : (figure : Figure) → Keeps figure → (parent : Option Dictionary) → AreGood (parents_figure figure parent)
parents_good figure keeps None n = refl
parents_good figure keeps (Some parent) n = comes_good figure keeps (λ t. Err no_parent) (λ t. refl) parent most_numbers n

figure_good : (figure : Figure) → Keeps figure → (s : Space) → AreGood (figure_in figure s)
figure_good figure keeps s n = comes_good figure keeps (parents_figure figure s.parent) (parents_good figure keeps s.parent) s.own most_numbers n

resolving_body : (others : ℕ → Result ℕ Fault) → AreGood others → (n : ℕ) (b : Body) → good (resolved_body others n b) ≡ true
resolving_body others h n term.unknown = refl
resolving_body others h n (term.integer x) = refl
resolving_body others h n (term.float x) = refl
resolving_body others h n (term.pointer t) = refl
resolving_body others h n (term.array a) = refl
resolving_body others h n (term.function r args) = refl
resolving_body others h n (term.struct size ms) = refl
resolving_body others h n (term.union size ms) = refl
resolving_body others h n (term.enum size es) = refl
resolving_body others h n (term.forward tag) = refl
resolving_body others h n (term.typedef t) = h t
resolving_body others h n (term.volatile t) = h t
resolving_body others h n (term.const t) = h t
resolving_body others h n (term.restrict t) = h t

pub resolved_good : (s : Space) → AreGood (resolved_type s)
resolved_good s = figure_good resolving (record { none = refl; type = resolving_body }) s

times_good : (count : ℕ) (r : Result ℕ Fault) → good r ≡ true → good (times count r) ≡ true
times_good count (Err f) g = g
times_good count (Ok size) g = either (nat_lt (size * count) (2 ^ 64)) (Ok (size * count)) (Err too_big) refl refl

array_good : (others : ℕ → Result ℕ Fault) → AreGood others → (a : Elements) → good (array_size others a) ≡ true
array_good others h a = either (nat_lt 0 a.size) (Ok a.size) (times a.count (others a.contents)) refl (times_good a.count (others a.contents) (h a.contents))

sizing_body : (model : DataModel) (others : ℕ → Result ℕ Fault) → AreGood others → (b : Body) → good (size_body model others b) ≡ true
sizing_body model others h term.unknown = refl
sizing_body model others h (term.integer x) = refl
sizing_body model others h (term.float x) = refl
sizing_body model others h (term.pointer t) = refl
sizing_body model others h (term.array a) = array_good others h a
sizing_body model others h (term.function r args) = refl
sizing_body model others h (term.struct size ms) = refl
sizing_body model others h (term.union size ms) = refl
sizing_body model others h (term.enum size es) = refl
sizing_body model others h (term.forward tag) = refl
sizing_body model others h (term.typedef t) = h t
sizing_body model others h (term.volatile t) = h t
sizing_body model others h (term.const t) = h t
sizing_body model others h (term.restrict t) = h t

pub size_good : (s : Space) → AreGood (size s)
size_good s = figure_good (sizing s.model) (record { none = refl; type = λ others h n b. sizing_body s.model others h b }) s

first_good : (others : ℕ → Result ℕ Fault) → AreGood others → (ms : List Member) → good (first_of others ms) ≡ true
first_good others h [] = refl
first_good others h (m ∷ ms) = h m.tnum

greater_good : (a b : Result ℕ Fault) → good a ≡ true → good b ≡ true → good (greater a b) ≡ true
greater_good (Err f) b ga gb = ga
greater_good (Ok a) (Err f) ga gb = gb
greater_good (Ok a) (Ok b) ga gb = refl

greatest_good : (others : ℕ → Result ℕ Fault) → AreGood others → (ms : List Member) → good (greatest others ms) ≡ true
greatest_good others h [] = refl
greatest_good others h (m ∷ ms) = greater_good (others m.tnum) (greatest others ms) (h m.tnum) (greatest_good others h ms)

aligning_body : (model : DataModel) (others : ℕ → Result ℕ Fault) → AreGood others → (b : Body) → good (align_body model others b) ≡ true
aligning_body model others h term.unknown = refl
aligning_body model others h (term.integer x) = refl
aligning_body model others h (term.float x) = refl
aligning_body model others h (term.pointer t) = refl
aligning_body model others h (term.array a) = h a.contents
aligning_body model others h (term.function r args) = refl
aligning_body model others h (term.struct size ms) = first_good others h ms
aligning_body model others h (term.union size ms) = greatest_good others h ms
aligning_body model others h (term.enum size es) = refl
aligning_body model others h (term.forward tag) = refl
aligning_body model others h (term.typedef t) = h t
aligning_body model others h (term.volatile t) = h t
aligning_body model others h (term.const t) = h t
aligning_body model others h (term.restrict t) = h t

pub align_good : (s : Space) → AreGood (align s)
align_good s = figure_good (aligning s.model) (record { none = refl; type = λ others h n b. aligning_body s.model others h b }) s

reference_or_none : (t : Option ℕ) → good (or_not_reference t) ≡ true
reference_or_none None = refl
reference_or_none (Some t) = refl

pub referred_good : (x : Shape) → good (referred_type x) ≡ true
referred_good x = either (is_none (arguments_in x.behind)) (or_not_reference x.reference) (Err (placeless NOT_REFERENCE)) (reference_or_none x.reference) refl

-- ---- paths

member_good : (step offset : ℕ) (m : Option Member) → good (member_position step offset m) ≡ true
member_good step offset None = refl
member_good step offset (Some m) = either (nat_lt (offset + m.offset) (2 ^ 64)) (Ok (record { offset = offset + m.offset; tnum = m.tnum })) (Err too_big) refl refl

among_good : (step : ℕ) (name : List ℕ) (offset : ℕ) (ms : Option (List Member)) → good (position_among step name offset ms) ≡ true
among_good step name offset None = refl
among_good step name offset (Some ms) = member_good step offset (member_named name ms)

within_good : (s : Space) (step : ℕ) (name : List ℕ) (offset : ℕ) (r : Result ℕ Fault) → good r ≡ true → good (position_within s step name offset r) ≡ true
within_good s step name offset (Err f) g = g
within_good s step name offset (Ok n) g = among_good step name offset (members_found (space_type s n))

on_good : (r : Result Position Fault) (next : Position → Result Position Fault) → good r ≡ true → ((at : Position) → good (next at) ≡ true) → good (and_on r next) ≡ true
on_good (Err f) next g h = g
on_good (Ok at) next g h = h at

from_good : (s : Space) (names : List (List ℕ)) (step : ℕ) (at : Position) → good (path_from s step names at) ≡ true
unfolding path_from
from_good s [] step at = refl
from_good s (name ∷ names) step at = on_good (step_to s step name at) (path_from s (step + 1) names) (within_good s step name at.offset (resolved_type s at.tnum) (resolved_good s at.tnum)) (from_good s names (step + 1))

pub path_good : (s : Space) (n : ℕ) (names : List (List ℕ)) → good (path s n names) ≡ true
path_good s n names = from_good s names 0 (record { offset = 0; tnum = n })
