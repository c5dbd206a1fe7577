-- Rows filled for a type are those of its number.
use Rattle.std.proofs.Common.{◌≡◌, ℕ, List, Option, Some, Result, Ok, Err, refl, sym, ap, subst, ◌∙◌}
use Rattle.std.specs.Option.{option_map}
use Rattle.ctf_c.specs.Given.{status_of}
use Rattle.ctf_c.specs.Rowed.{GivesRows, lists_with}
use Rattle.ctf_c.specs.names.Filling.{FillsFrom}
use Rattle.ctf_c.specs.names.Holders.{lists_at}
use Rattle.ctf_model.specs.declared.faults.Fault.{Fault}
use Rattle.ctf_model.specs.format.Lists.{Lists}
use Rattle.ctf_model.specs.format.Shown.{Shape}
use Rattle.ctf_model.specs.format.Term.{Term}
use Rattle.ctf_model.specs.opened.Open.{Open, space_in}
use Rattle.ctf_model.specs.opened.Questions.{on_shape, shape_of}
use Rattle.ctf_model.specs.spaces.Space as spaces
use Rattle.ctf_model.specs.spaces.Space.{space_type}
use Rattle.ctf_model.specs.spaces.TypePlaces.{place}

module _ {A R : Type 0} (Tells : Option Lists → A → R → Type 0) (says : Shape → Result (List A) Fault) (s : Open) (t from : ℕ) (old new : List R) (answer : Result ℕ Fault) where
  pub of_number : (found : Result Term Fault) (space : spaces.Space) (own : Lists) (parent : Option Lists) (lists : Lists)
      → space ≡ space_in s → own ≡ s.own.lists → parent ≡ option_map (λ p. p.lists) s.parent → found ≡ space_type space t → lists_at (place space.own.child t) own parent ≡ Some lists
      → FillsFrom (Tells (Some lists)) (on_shape says (shape_of found)) from answer old new
      → FillsFrom (Tells (lists_with (Some s) t)) (on_shape says (shape_of (space_type (space_in s) t))) from answer old new
  of_number found space own parent lists a b c d e h =
      let type_is : found ≡ space_type (space_in s) t = d ∙ ap (λ x. space_type x t) a in
      let above = option_map (λ p. p.lists) s.parent in
      let lists_are : lists_with (Some s) t ≡ Some lists = ap (λ (x : spaces.Space). lists_at (place x.own.child t) s.own.lists above) (sym a) ∙ ap (λ (l : Lists). lists_at (place space.own.child t) l above) (sym b) ∙ ap (λ (l : Option Lists). lists_at (place space.own.child t) own l) (sym c) ∙ e in
      subst (λ l. FillsFrom (Tells l) (on_shape says (shape_of (space_type (space_in s) t))) from answer old new) (sym lists_are) (subst (λ r. FillsFrom (Tells (Some lists)) (on_shape says (shape_of r)) from answer old new) type_is h)

  pub of_none : (f : Fault) → answer ≡ Err f → space_type (space_in s) t ≡ Err f → new ≡ old → FillsFrom (Tells (lists_with (Some s) t)) (on_shape says (shape_of (space_type (space_in s) t))) from answer old new
  of_none f e h same = rw h (e, same)

module _ {A R : Type 0} (Tells : A → R → Type 0) (from : ℕ) (old new : List R) (was : ℕ) where
  pub rows_given : (items : Result (List A) Fault) (n : ℕ) → FillsFrom Tells items from (Ok n) old new → GivesRows Tells items from 0 old new was n
  rows_given (Ok items) n h = (refl, cc, h.1)
  rows_given (Err f) n h = absurd cc

  pub rows_refused : (items : Result (List A) Fault) (f : Fault) → FillsFrom Tells items from (Err f) old new → GivesRows Tells items from (status_of f) old new was was
  rows_refused (Ok items) f h = absurd cc
  rows_refused (Err g) f h = let same : f ≡ g = cc in rw same (refl, h.1, refl)
