-- The members of a looked-up type.
use Rattle.std.proofs.Common.{◌≡◌, List, Option, Some, None, refl, ap}
use Rattle.std.specs.Prelude.{option_map}
use Rattle.std.proofs.lemmas.Option.{same_Some}
use Rattle.ctf_model.specs.figures.Paths.{members_found}
use Rattle.ctf_model.specs.format.Shown.{Shown, members_in, shown}
use Rattle.ctf_model.specs.format.Term.{Member, Term}
use Rattle.ctf_model.specs.spaces.TypeNumbers.{or_no_type}
use Rattle.ctf_views.specs.VariantView.{shown_of}
use Rattle.ctf_views.specs.declared.variants.Variant.{Variant}
use Rattle.ctf_views.specs.declared.variants.Variant.TheVariants as lent

pub found_members : (o : Option Term) (v : Shown) → option_map (λ x. shown x.body) o ≡ Some v → members_found (or_no_type o) ≡ members_in v
found_members None v e = absurd cc
found_members (Some x) v e = ap members_in (same_Some _ _ e)

pub not_members : (v : Variant) → ((ms : List Member) → v ≡ lent.Members ms → ⊥) → members_in (shown_of v) ≡ None
not_members (lent.Members ms) other = absurd (other ms refl)
not_members (lent.Enumerators items) other = refl
not_members (lent.Args items) other = refl
not_members (lent.Array info) other = refl
not_members (lent.Encoding info) other = refl
not_members (lent.Tag t) other = refl
not_members lent.Nothing other = refl
