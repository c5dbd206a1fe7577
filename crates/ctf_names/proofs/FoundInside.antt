-- The declaration of a type, from the structure of its name.
use Rattle.std.proofs.Common.{◌≡◌, ℕ, List, Option, Some, None, Result, refl, ap, ◌∙◌}
use Rattle.std.specs.Prelude.{option_map}
use Rattle.std.proofs.lemmas.Option.{same_Some}
use Rattle.ctf_model.specs.format.Shown.{Shape, shape}
use Rattle.ctf_model.specs.format.Term.{Body, Tag, Term}
use Rattle.ctf_model.specs.format.Term as term
use Rattle.ctf_model.specs.names.TypeNames.{Declaration, around, bare_name, declaration_by, declaration_of, or_anon}
use Rattle.ctf_model.specs.spaces.TypeNumbers.{or_no_type}
use Rattle.ctf_model.specs.declared.faults.Fault.{Fault}
use Rattle.ctf_model.specs.declared.layers.Layer.{Layer}
use Rattle.ctf_names.specs.Bases.{behind_tag}
use Rattle.ctf_names.specs.Inside.{a_layer, a_name, declaration_from, inside, name_by}

by_inside : (f : ℕ → Result Declaration Fault) (name : List ℕ) (body : Body) → declaration_by f name body ≡ declaration_from f name (inside (shape body))
by_inside f name term.unknown = refl
by_inside f name (term.integer x) = refl
by_inside f name (term.float x) = refl
by_inside f name (term.pointer t) = refl
by_inside f name (term.array e) = refl
by_inside f name (term.function r ts) = refl
by_inside f name (term.struct said ms) = refl
by_inside f name (term.union said ms) = refl
by_inside f name (term.enum said xs) = refl
by_inside f name (term.forward tag) = refl
by_inside f name (term.typedef t) = refl
by_inside f name (term.volatile t) = refl
by_inside f name (term.const t) = refl
by_inside f name (term.restrict t) = refl

bare_behind : (tag : Option Tag) (name : List ℕ) → name_by tag name ≡ bare_name (behind_tag tag (or_anon name))
bare_behind None name = refl
bare_behind (Some tag) name = refl

-- a looked-up type whose name is a bare name
pub name_found : (f : ℕ → Result Declaration Fault) (o : Option Term) (x : Shape) (tag : Option Tag) (name : List ℕ)
    → option_map (λ y. shape y.body) o ≡ Some x → option_map (λ y. y.name) o ≡ Some name → inside x ≡ a_name tag
    → declaration_of f (or_no_type o) ≡ bare_name (behind_tag tag (or_anon name))
name_found f None x tag name is called has = absurd cc
name_found f (Some y) x tag name is called has =
    by_inside f y.name y.body ∙ ap (λ (z : Shape). declaration_from f y.name (inside z)) (same_Some _ _ is) ∙ ap (declaration_from f y.name) has ∙ ap (name_by tag) (same_Some _ _ called) ∙ bare_behind tag name

-- one whose name has a layer
pub layer_found : (f : ℕ → Result Declaration Fault) (o : Option Term) (x : Shape) (layer : Layer) (t : ℕ)
    → option_map (λ y. shape y.body) o ≡ Some x → inside x ≡ a_layer layer t
    → declaration_of f (or_no_type o) ≡ around layer (f t)
layer_found f None x layer t is has = absurd cc
layer_found f (Some y) x layer t is has =
    by_inside f y.name y.body ∙ ap (λ (z : Shape). declaration_from f y.name (inside z)) (same_Some _ _ is) ∙ ap (declaration_from f y.name) has
