-- The measured names of types, one type at a time.
use Rattle.std.proofs.Common.{◌≡◌, ℕ, suc, ◌+◌, ◌-◌, ◌≤◌, [], ◌∷◌, Option, Some, None, Result, Err, sym, ap, ◌∙◌, arith}
use Rattle.std.specs.Option.{IfSome}
use Rattle.std.proofs.lemmas.Option.{IfSome_then}
use Rattle.std.specs.BTreeMap.{BTreeMap, IsEmpty}
use Rattle.ctf_model.specs.names.TypeNames.{Declaration, around, bare_name, declaration_of, declaration_within, longest_text, spelled_name, text_of_declaration}
use Rattle.ctf_model.specs.spaces.Space.{Space, space_type}
use Rattle.ctf_model.specs.declared.faults.Fault.{Fault}
use Rattle.ctf_model.specs.declared.layers.Layer.{Layer}
use Rattle.ctf_names.specs.NameLengths.{measure}
use Rattle.ctf_names.specs.KnownView.{AreRight}
use Rattle.ctf_names.specs.Measuring.{IsMeasured}
use Rattle.ctf_names.specs.declared.name_lengths.NameLengths.{NameLengths}
use Rattle.ctf_names.specs.declared.measures.Measured.{Measured}
use Rattle.ctf_names.proofs.Unrolls.{at_type, at_void}

-- a name without layers
pub end_found : (s : Space) (n : ℕ) (x : Result Declaration Fault) (lengths : Result NameLengths Fault) → ((k : ℕ) → declaration_within s (suc k) n ≡ x) → measure x ≡ lengths → IsMeasured s n (record { layers = 0; lengths = lengths })
end_found s n x lengths all e = record {
  same = λ k. all (k + 0) ∙ sym (all 0);
  right = ap measure (all 0) ∙ e;
}

pub void_found : (s : Space) (n k : ℕ) → n ≡ 0 → declaration_within s (suc k) n ≡ bare_name (118 ∷ 111 ∷ 105 ∷ 100 ∷ [])
void_found s n k e = at_void s (suc k) n (omega arith) e

pub type_found : (s : Space) (n k : ℕ) → (n ≡ 0 → ⊥) → declaration_within s (suc k) n ≡ declaration_of (declaration_within s k) (space_type s n)
type_found s n k ne = at_type s (suc k) k n (omega arith) ne

-- one more layer
pub round_found : (s : Space) (n t : ℕ) (layer : Layer) (m : Measured) (lengths : Result NameLengths Fault) → ((k : ℕ) → declaration_within s (suc k) n ≡ around layer (declaration_within s k t)) → IsMeasured s t m
    → ((x : Result Declaration Fault) → measure x ≡ m.lengths → lengths ≡ measure (around layer x)) → IsMeasured s n (record { layers = m.layers + 1; lengths = lengths })
round_found s n t layer m lengths step inside more =
    let one : m.layers + 1 ≡ suc m.layers = omega arith in
    let here = step (suc m.layers) in
    record {
      same = λ k.
          let up : k + (m.layers + 1) ≡ suc (k + m.layers) = omega arith in
          let all : declaration_within s (suc (suc (k + m.layers))) n ≡ declaration_within s (suc (suc m.layers)) n =
          step (suc (k + m.layers)) ∙ ap (around layer) (inside.same k) ∙ sym here in
          rw (up, one) all;
      right = rw one (ap measure here ∙ sym (more (declaration_within s (suc m.layers) t) inside.right));
    }

-- the whole declaration
within : (s : Space) (n t j : ℕ) (layer : Layer) (m : Measured) (most : ℕ) → ((k : ℕ) → declaration_within s (suc k) n ≡ around layer (declaration_within s k t)) → IsMeasured s t m → most ≡ suc (suc (j + m.layers))
    → declaration_within s most n ≡ around layer (declaration_within s (suc m.layers) t)
within s n t j layer m most step inside e = rw e (step (suc (j + m.layers)) ∙ ap (around layer) (inside.same j))

-- the reason that there is no name
pub no_name : (s : Space) (n t : ℕ) (layer : Layer) (m : Measured) (refused : Option Fault) → ((k : ℕ) → declaration_within s (suc k) n ≡ around layer (declaration_within s k t)) → IsMeasured s t m → m.layers ≤ 1026
    → ((x : Result Declaration Fault) → measure x ≡ m.lengths → IfSome refused (λ f. text_of_declaration (around layer x) ≡ Err f)) → IfSome refused (λ f. spelled_name s n ≡ Err f)
no_name s n t layer m refused step inside few because =
    let most : longest_text ≡ suc (suc ((65534 - m.layers) + m.layers)) = omega (arith, few) in
    let all = ap text_of_declaration (within s n t (65534 - m.layers) layer m longest_text step inside most) in
    IfSome_then refused (because (declaration_within s (suc m.layers) t) inside.right) (λ f is. all ∙ is)

pub none_known : (s : Space) (known : BTreeMap ℕ Measured) → IsEmpty known → AreRight s known
none_known s known e n m is = absurd (nothing m (rw e at is))
  where
    nothing : (x : Measured) → None ≡ Some x → ⊥
    nothing x h = absurd cc
