-- A question about a type is answered from its shown part.
use Rattle.std.proofs.Common.{◌≡◌, ℕ, Bool, List, map, Option, Some, None, Result, Err, refl, sym, ap, ◌∙◌}
use Rattle.std.specs.Option.{option_map}
use Rattle.std.proofs.lemmas.Option.{same_Some}
use Rattle.ctf_model.specs.declared.faults.Fault.{Fault}
use Rattle.ctf_model.specs.declared.faults.TheConstants.Fault.{WRONG_KIND}
use Rattle.ctf_model.specs.format.Shown.{Shown, enumerators_in, shown}
use Rattle.ctf_model.specs.format.Shown as show
use Rattle.ctf_model.specs.format.Term.{Enumerator, Term}
use Rattle.ctf_model.specs.opened.Questions.{on_shape, shape_of}
use Rattle.ctf_model.specs.rules.Refusals.{placeless}
use Rattle.ctf_model.specs.spaces.TypeNumbers.{or_no_type}
use Rattle.ctf_model.specs.symbols.SymbolQuestions.{or_refused}
use Rattle.ctf_c.specs.names.Firsts.{first_among}
use Rattle.ctf_c.specs.names.Names.{shown_names}

module _ (test : Enumerator → Bool) where
  -- the first enumerator that passes, in a shown part
  abbrev pub passing : Shown → Result Enumerator Fault
  passing s = first_among test (or_refused WRONG_KIND (enumerators_in s))

  pub asked_by : (o : Option Term) (s : Shown) (r : Result Enumerator Fault) → option_map (λ (x : Term). shown x.body) o ≡ Some s → r ≡ passing s → option_map (λ (x : Term). passing (shown x.body)) o ≡ Some r
  asked_by None s r h e = absurd cc
  asked_by (Some x) s r h e = ap (option_map passing) h ∙ ap Some (sym e)

  unnamed_case : (s : Shown) → shown_names s ≡ None → passing s ≡ Err (placeless WRONG_KIND)
  unnamed_case (show.members ms) h = refl
  unnamed_case (show.enumerators es) h = absurd cc
  unnamed_case (show.arguments args) h = refl
  unnamed_case (show.array parts) h = refl
  unnamed_case (show.encoding parts) h = refl
  unnamed_case (show.tag tag) h = refl
  unnamed_case show.nothing h = refl

  -- a type without names is no enum
  pub unnamed : (o : Option Term) → option_map (λ (x : Term). shown_names (shown x.body)) o ≡ Some None → option_map (λ (x : Term). passing (shown x.body)) o ≡ Some (Err (placeless WRONG_KIND))
  unnamed None h = absurd cc
  unnamed (Some x) h = ap Some (unnamed_case (shown x.body) (same_Some _ _ h))

  -- the answer of a looked-up type
  pub said_by : (o : Option Term) (r : Result Enumerator Fault) → option_map (λ (x : Term). passing (shown x.body)) o ≡ Some r → r ≡ on_shape (λ s. passing s.behind) (shape_of (or_no_type o))
  said_by None r h = absurd cc
  said_by (Some x) r h = sym (same_Some _ _ h)

-- the names are those of the enumerators
pub names_of_enum : (o : Option Term) (es : List Enumerator) (names : List (List ℕ)) → option_map (λ (x : Term). shown x.body) o ≡ Some (show.enumerators es) → option_map (λ (x : Term). shown_names (shown x.body)) o ≡ Some (Some names)
    → names ≡ map (λ (e : Enumerator). e.name) es
names_of_enum None es names h k = absurd cc
names_of_enum (Some x) es names h k = same_Some _ _ (same_Some _ _ (sym k ∙ ap (option_map shown_names) h))
