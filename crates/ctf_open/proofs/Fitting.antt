-- Consequences of an import without a fault.
use Rattle.std.proofs.Common.{◌≡◌, Bool, true, false, None, refl, subst}
use Rattle.ctf_model.specs.format.Dictionary.{Dictionary}
use Rattle.ctf_model.specs.figures.FigureLaws.{parent_alone}
use Rattle.ctf_model.specs.spaces.Imports.{Import, import_fault, of_one_model, same_model}
use Rattle.ctf_model.specs.spaces.Kept.{Kept, fault_over, kept_dictionary, kept_space, modelled_by}
use Rattle.ctf_model.specs.declared.data_model.DataModel.{DataModel}
use Rattle.ctf_model.specs.declared.data_model.DataModel.TheVariants.{Lp64, Ilp32}
use Rattle.ctf_model.specs.spaces.Space.{Space}
use Rattle.ctf_layout.specs.Fitting.{Fits}
use Rattle.ctf_layout.specs.declared.layout.Layout.{Layout}

-- the parent is no child
plain_parent : (i : Import) → import_fault i ≡ None → i.parent.dictionary.child ≡ false
plain_parent i e = at i.child.dictionary.child i.parent.dictionary.child refl refl e
  where
    at : (child parent : Bool) → i.child.dictionary.child ≡ child → i.parent.dictionary.child ≡ parent → import_fault i ≡ None → i.parent.dictionary.child ≡ false
    at true false c p e = p
    at false false c p e = p
    at true true c p e = let fault = rw (c, p) at e in absurd cc
    at false true c p e = let fault = rw c at e in absurd cc

-- the importing dictionary is a child
is_child : (i : Import) → import_fault i ≡ None → i.child.dictionary.child ≡ true
is_child i e = at i.child.dictionary.child refl e
  where
    at : (child : Bool) → i.child.dictionary.child ≡ child → import_fault i ≡ None → i.child.dictionary.child ≡ true
    at true c e = c
    at false c e = let fault = rw c at e in absurd cc

-- a layout of the parent serves the child's space
pub parents_fit : (s : Space) (own : Kept) (p : Dictionary) (l : Layout) → s.model ≡ own.model → kept_dictionary own ≡ p → Fits (kept_space own None) l → Fits (parent_alone s p) l
parents_fit s own p l model same fits = rw (model, ← same) fits

-- ---- data models

-- equal data models
same_model_is : (a b : DataModel) → same_model a b ≡ true → b ≡ a
same_model_is Lp64 Lp64 e = refl
same_model_is Ilp32 Ilp32 e = refl
same_model_is Lp64 Ilp32 e = absurd cc
same_model_is Ilp32 Lp64 e = absurd cc

-- both have the same data model
one_model : (i : Import) → import_fault i ≡ None → same_model i.child.model i.parent.model ≡ true
one_model i e = at (same_model i.child.model i.parent.model) refl
  where
    at : (same : Bool) → same_model i.child.model i.parent.model ≡ same → same_model i.child.model i.parent.model ≡ true
    at true s = s
    at false s = let fault = rw (is_child i e, plain_parent i e, s) at e in absurd cc

pub same_models : (child parent : Kept) → fault_over child parent ≡ None → parent.model ≡ child.model
same_models child parent e = same_model_is child.model parent.model (one_model (record { child = modelled_by child; parent = modelled_by parent }) e)

-- so both may be checked with the child's model
pub judged_alike : (child parent : Kept) → fault_over child parent ≡ None → import_fault (of_one_model child.model (kept_dictionary child) (kept_dictionary parent)) ≡ None
judged_alike child parent e = subst (λ (m : DataModel). import_fault (record { child = modelled_by child; parent = record { dictionary = kept_dictionary parent; model = m } }) ≡ None) (same_models child parent e) e
