-- Sizes and alignments of numbers that are not own types.
use Rattle.std.proofs.Common.{◌≡◌, ℕ, ◌<◌, length, None, Err, refl, sym, ◌∙◌}
use Rattle.ctf_model.specs.rules.Chains.{own_index}
use Rattle.ctf_model.specs.figures.Figures.{size, align, resolved_type, sizing, aligning, resolving}
use Rattle.ctf_model.specs.rules.Refusals.{placeless}
use Rattle.ctf_model.specs.spaces.Space.{Space}
use Rattle.ctf_model.specs.spaces.TypePlaces.{place}
use Rattle.ctf_model.specs.declared.numbers.Place.TheVariants.{Nowhere, Parents}
use Rattle.ctf_model.proofs.Settled.{figure_of_missing, figure_of_none, figure_of_parents}
use Rattle.ctf_layout.specs.Extents.{IsExtent, IsParentsExtent, code_of, of_no_type, refusal_extent}
use Rattle.ctf_layout.specs.declared.extents.Extent.{Extent}
use Rattle.ctf_layout.specs.declared.extents.Refusal.{Refusal}
use Rattle.ctf_layout.specs.declared.extents.Refusal.TheVariants.{NoType}

-- size, alignment and resolved type are all refused
refused_extent : (s : Space) (n : ℕ) (refusal : Refusal) (e : Extent) → e ≡ refusal_extent refusal → size s n ≡ Err (placeless (code_of refusal)) → align s n ≡ Err (placeless (code_of refusal)) → resolved_type s n ≡ Err (placeless (code_of refusal)) → IsExtent s n e
refused_extent s n refusal e is a b c = rw is (record { sized = sym a; aligned = sym b; resolves = sym c })

-- number 0
pub extent_of_none : (s : Space) (n : ℕ) (e : Extent) → n ≡ 0 → e ≡ of_no_type → IsExtent s n e
extent_of_none s n e zero is = rw (zero, is) (record {
  sized = sym (figure_of_none (sizing s.model) s);
  aligned = sym (figure_of_none (aligning s.model) s);
  resolves = sym (figure_of_none resolving s);
})

-- a number without a type
pub extent_of_missing : (s : Space) (n : ℕ) (e : Extent) → 0 < n → ((i : ℕ) → place s.own.child n ≡ Parents i → ⊥) → own_index s.own.child (length s.own.terms) n ≡ None → e ≡ refusal_extent NoType → IsExtent s n e
extent_of_missing s n e some not_parents not_own is =
    refused_extent s n NoType e is
    (figure_of_missing (sizing s.model) s n some not_parents not_own)
    (figure_of_missing (aligning s.model) s n some not_parents not_own)
    (figure_of_missing resolving s n some not_parents not_own)

pub extent_of_nowhere : (s : Space) (n : ℕ) (e : Extent) → 0 < n → place s.own.child n ≡ Nowhere → e ≡ refusal_extent NoType → IsExtent s n e
extent_of_nowhere s n e some at is = extent_of_missing s n e some (λ i other. let clash : Nowhere ≡ Parents i = sym at ∙ other in absurd cc) (rw at refl) is

-- a parent's type
pub extent_of_parents : (s : Space) (n i : ℕ) (e : Extent) → place s.own.child n ≡ Parents i → IsParentsExtent s n e → IsExtent s n e
extent_of_parents s n i e at h = record {
  sized = h.sized ∙ sym (figure_of_parents (sizing s.model) s n i at);
  aligned = h.aligned ∙ sym (figure_of_parents (aligning s.model) s n i at);
  resolves = h.resolves ∙ sym (figure_of_parents resolving s n i at);
}
