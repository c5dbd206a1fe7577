-- The measured length of a type's name. Source: ours.
use Rattle.std.specs.Prelude.{◌≡◌, ◌+◌, ℕ, suc}
use Rattle.ctf_model.specs.names.TypeNames.{around, declaration_within}
use Rattle.ctf_model.specs.spaces.Space.{Space}
use Rattle.ctf_names.specs.NameLengths.{measure}
use Rattle.ctf_names.specs.declared.measures.Measured.{Measured}
use Rattle.ctf_names.specs.declared.measures.Step.{Step}
use Rattle.ctf_names.specs.declared.measures.Step.TheVariants.{End, Round}

-- the lengths are those of the declaration, which has at most that many layers
pub record IsMeasured (s : Space) (n : ℕ) (m : Measured) : Type 0 where
  pub same : (k : ℕ)
      → declaration_within s (suc (k + m.layers)) n ≡ declaration_within s (suc m.layers) n
  pub right : measure (declaration_within s (suc m.layers) n) ≡ m.lengths

abbrev pub IsStep : Space → ℕ → Step → Type 0
IsStep s n (End lengths) = IsMeasured s n (record { layers = 0; lengths = lengths })
IsStep s n (Round layer t) =
    (k : ℕ) → declaration_within s (suc k) n ≡ around layer (declaration_within s k t.0)
