-- The width of an own integer or float.
use Rattle.std.proofs.Common.{◌≡◌, ℕ, Option, Some, None, Result, Ok, is_some, refl, sym, ap, ◌∙◌, arith}
use Rattle.std.specs.Prelude.{MatchOption, slice_get, option_map}
use Rattle.ctf_model.specs.drafts.Drafts.{Draft, count_of, content, space_of}
use Rattle.ctf_model.specs.drafts.Placement.{bits_by, bits_filled, bits_found}
use Rattle.ctf_model.specs.figures.Figures.{Figure, comes_to, figure_in, parents_figure, resolved_body, resolved_type, resolving, size, size_body, sizing}
use Rattle.ctf_model.specs.format.Term.{Body, Term}
use Rattle.ctf_model.specs.format.Term as term
use Rattle.ctf_model.specs.rules.Chains.{own_index}
use Rattle.ctf_model.specs.rules.Judgements.{◌then◌}
use Rattle.ctf_model.specs.spaces.Space.{space_type}
use Rattle.ctf_model.specs.spaces.TypeNumbers.{or_no_type}
use Rattle.ctf_model.specs.declared.faults.Fault.{Fault}
use Rattle.ctf_model.proofs.Settled.{most_is}
use Rattle.ctf_draft.specs.Sizing.{width}
use Rattle.ctf_draft.proofs.Figuring.{own_at}
use Rattle.ctf_draft.proofs.Pending.{own_type}

module _ (d : Draft) (n i : ℕ) (own : own_index (is_some d.parent) (count_of d) n ≡ Some i) (body : Body) (got : option_map (λ x. x.body) (slice_get (content d).terms i) ≡ Some body) where
  -- a figure of the type
  figured : (figure : Figure) → figure_in figure (space_of d) n ≡ figure.of_type (comes_to figure (parents_figure figure d.parent) (content d) 513) n body
  figured figure =
      let f = parents_figure figure d.parent in
      ap (λ (k : ℕ). comes_to figure f (content d) k n) most_is ∙ own_at figure f (content d) 514 n (omega arith) i body own got

  found : (bytes : ℕ) (o : Option Term) → option_map (λ x. x.body) o ≡ Some body → bits_found bytes (or_no_type o) ≡ Ok (bits_by bytes body)
  found bytes None e = absurd cc
  found bytes (Some x) e = let same : x.body ≡ body = cc in ap (λ (b : Body). let r : Result ℕ Fault = Ok (bits_by bytes b) in r) same

  -- of a type whose size and resolved type depend on no other
  filled : (bytes bits : ℕ) → ((f : ℕ → Result ℕ Fault) → size_body d.model f body ≡ Ok bytes) → ((f : ℕ → Result ℕ Fault) → resolved_body f n body ≡ Ok n) → bits_by bytes body ≡ bits → bits_filled (space_of d) n ≡ Ok bits
  filled bytes bits sized resolved is =
      let s = space_of d in
      let size_is : size s n ≡ Ok bytes = figured (sizing d.model) ∙ sized (comes_to (sizing d.model) (parents_figure (sizing d.model) d.parent) (content d) 513) in
      let itself : resolved_type s n ≡ Ok n = figured resolving ∙ resolved (comes_to resolving (parents_figure resolving d.parent) (content d) 513) in
      ap (λ (r : Result ℕ Fault). r then λ bytes. resolved_type s n then λ t. bits_found bytes (space_type s t)) size_is
      ∙ ap (λ (r : Result ℕ Fault). r then λ t. bits_found bytes (space_type s t)) itself
      ∙ ap (bits_found bytes) (own_type d n i own)
      ∙ found bytes (slice_get (content d).terms i) got
      ∙ ap (λ (b : ℕ). let r : Result ℕ Fault = Ok b in r) is

pub scalar_filled : (d : Draft) (n i : ℕ) → own_index (is_some d.parent) (count_of d) n ≡ Some i → (body : Body) → option_map (λ x. x.body) (slice_get (content d).terms i) ≡ Some body → (bits : ℕ) → Some bits ≡ width body → bits_filled (space_of d) n ≡ Ok bits
scalar_filled d n i own (term.integer x) got bits e = filled d n i own (term.integer x) got x.size bits (λ f. refl) (λ f. refl) (let same : bits ≡ x.bits = cc in sym same)
scalar_filled d n i own (term.float x) got bits e = filled d n i own (term.float x) got x.size bits (λ f. refl) (λ f. refl) (let same : bits ≡ x.bits = cc in sym same)
scalar_filled d n i own (term.pointer t) got bits e = absurd cc
scalar_filled d n i own (term.array x) got bits e = absurd cc
scalar_filled d n i own (term.function r ts) got bits e = absurd cc
scalar_filled d n i own (term.struct said ms) got bits e = absurd cc
scalar_filled d n i own (term.union said ms) got bits e = absurd cc
scalar_filled d n i own (term.enum said xs) got bits e = absurd cc
scalar_filled d n i own (term.typedef t) got bits e = absurd cc
scalar_filled d n i own (term.volatile t) got bits e = absurd cc
scalar_filled d n i own (term.const t) got bits e = absurd cc
scalar_filled d n i own (term.restrict t) got bits e = absurd cc
scalar_filled d n i own (term.forward t) got bits e = absurd cc
scalar_filled d n i own term.unknown got bits e = absurd cc

pub width_found_alone : (d : Draft) (n i : ℕ) → own_index (is_some d.parent) (count_of d) n ≡ Some i → (body : Body) → option_map (λ x. x.body) (slice_get (content d).terms i) ≡ Some body → (found : Option ℕ) → found ≡ width body → MatchOption found (Unit {0}) (λ bits. bits_filled (space_of d) n ≡ Ok bits)
width_found_alone d n i own body got None e = tt
width_found_alone d n i own body got (Some bits) e = scalar_filled d n i own body got bits e
