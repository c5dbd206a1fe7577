-- If the rule of names is kept, all names are valid.
use Rattle.std.proofs.Common.{◌≡◌, ℕ, ◌<◌, List, [], ◌∷◌, Option, Some, None, refl}
use Rattle.std.specs.Prelude.{unwrap_or}
use Rattle.ctf_model.specs.rules.Faults.{Site, sites}
use Rattle.ctf_model.specs.format.Header.{fields}
use Rattle.ctf_model.specs.format.Lists.{Lists, tables}
use Rattle.ctf_model.specs.format.Name.{Tables}
use Rattle.ctf_model.specs.rules.Rules.{Keeps}
use Rattle.ctf_model.proofs.Anywhere.{any_here, any_there}
use Rattle.ctf_model.proofs.NameRules.{IsNameless}
use Rattle.ctf_model.proofs.NameSites.{in_labels, in_types, name_stands}
use Rattle.ctf_model.proofs.Spelled.{IsNamed, AreNamed, split_front, split_back}

-- if no site is nameless, all have names
all_named : (t : Tables) (xs : List Site) → ((p : ℕ) → IsNameless t xs p → ⊥) → AreNamed t xs
all_named t [] h = tt
all_named t (site ∷ more) h = (λ e. h site.place (any_here _ site more (refl, e)), all_named t more (λ p a. h p (any_there _ site more a)))

-- a present value equals its unwrapped form
pub the_value : (o : Option (List ℕ)) → (o ≡ None → ⊥) → o ≡ Some (unwrap_or o [])
the_value None h = absurd (h refl)
the_value (Some x) h = refl

-- all names of a dictionary are valid
pub record Good (s : Lists) : Type 0 where
  pub parlabel : IsNamed (tables s) (fields s.ctf).parlabel
  pub parname : IsNamed (tables s) (fields s.ctf).parname
  pub labels : AreNamed (tables s) (in_labels s.ctf)
  pub records : AreNamed (tables s) (in_types s.ctf)

-- they are valid if the rule is kept
pub good : (s : Lists) (n : ℕ) → 13 < n → Keeps s n → Good s
unfolding sites
good s n lt keeps =
    let all = all_named (tables s) (sites s.ctf) (λ p a. keeps 13 lt p (name_stands s p a)) in
    record { parlabel = all.0; parname = all.1.0; labels = split_front (tables s) (in_labels s.ctf) (in_types s.ctf) all.1.1; records = split_back (tables s) (in_labels s.ctf) (in_types s.ctf) all.1.1 }
