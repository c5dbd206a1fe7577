-- Rows are filled from the list of a type.
use Rattle.std.proofs.Common.{◌≡◌, ℕ, List, length, Option, Some, None, Result, Ok, Err, refl, ap, ◌∙◌}
use Rattle.std.specs.Option.{option_map}
use Rattle.std.proofs.lemmas.Option.{same_Some}
use Rattle.ctf_model.specs.declared.faults.Fault.{Fault}
use Rattle.ctf_model.specs.declared.faults.TheConstants.Fault.{WRONG_KIND}
use Rattle.ctf_model.specs.format.Shown.{Shown, enumerators_in, members_in, shown}
use Rattle.ctf_model.specs.format.Shown as show
use Rattle.ctf_model.specs.format.Term.{Term}
use Rattle.ctf_model.specs.opened.Questions.{on_shape, shape_of}
use Rattle.ctf_model.specs.rules.Refusals.{placeless}
use Rattle.ctf_model.specs.spaces.TypeNumbers.{or_no_type}
use Rattle.ctf_model.specs.symbols.SymbolQuestions.{or_refused}
use Rattle.ctf_c.specs.names.Filling.{Fills, FillsFrom}
use Rattle.ctf_c.specs.names.Names.{shown_names}

module _ {A R : Type 0} (listed : Shown → Option (List A)) (Tells : A → R → Type 0) (from : ℕ) (old new : List R) (answer : Result ℕ Fault) where
  abbrev pub Into : Option Term → Type 0
  Into o = FillsFrom Tells (on_shape (λ x. or_refused WRONG_KIND (listed x.behind)) (shape_of (or_no_type o))) from answer old new

  of_list : (o : Option (List A)) (items : List A) → o ≡ Some items → answer ≡ Ok (length items) → Fills Tells items from old new → FillsFrom Tells (or_refused WRONG_KIND o) from answer old new
  of_list o items e a f = rw e (a, f)

  of_none : (o : Option (List A)) → o ≡ None → answer ≡ Err (placeless WRONG_KIND) → new ≡ old → FillsFrom Tells (or_refused WRONG_KIND o) from answer old new
  of_none o e a f = rw e (a, f)

  pub into_list : (o : Option Term) (s : Shown) (items : List A) → option_map (λ (x : Term). shown x.body) o ≡ Some s → listed s ≡ Some items → answer ≡ Ok (length items) → Fills Tells items from old new → Into o
  into_list None s items h k a f = absurd cc
  into_list (Some x) s items h k a f = of_list (listed (shown x.body)) items (ap listed (same_Some _ _ h) ∙ k) a f

  pub into_none : (o : Option Term) (s : Shown) → option_map (λ (x : Term). shown x.body) o ≡ Some s → listed s ≡ None → answer ≡ Err (placeless WRONG_KIND) → new ≡ old → Into o
  into_none None s h k a f = absurd cc
  into_none (Some x) s h k a f = of_none (listed (shown x.body)) (ap listed (same_Some _ _ h) ∙ k) a f

  pub into_unnamed : ((s : Shown) → shown_names s ≡ None → listed s ≡ None) → (o : Option Term) → option_map (λ (x : Term). shown_names (shown x.body)) o ≡ Some None → answer ≡ Err (placeless WRONG_KIND) → new ≡ old → Into o
  into_unnamed none None h a f = absurd cc
  into_unnamed none (Some x) h a f = of_none (listed (shown x.body)) (none (shown x.body) (same_Some _ _ h)) a f

  -- a type whose list is known, or is known to have none
  pub into_listed : (o : Option Term) (items : List A) → option_map (λ (x : Term). listed (shown x.body)) o ≡ Some (Some items) → answer ≡ Ok (length items) → Fills Tells items from old new → Into o
  into_listed None items h a f = absurd cc
  into_listed (Some x) items h a f = of_list (listed (shown x.body)) items (same_Some _ _ h) a f

  pub into_unlisted : (o : Option Term) → option_map (λ (x : Term). listed (shown x.body)) o ≡ Some None → answer ≡ Err (placeless WRONG_KIND) → new ≡ old → Into o
  into_unlisted None h a f = absurd cc
  into_unlisted (Some x) h a f = of_none (listed (shown x.body)) (same_Some _ _ h) a f

pub no_enumerators : (s : Shown) → shown_names s ≡ None → enumerators_in s ≡ None
no_enumerators (show.members ms) h = refl
no_enumerators (show.enumerators es) h = absurd cc
no_enumerators (show.arguments args) h = refl
no_enumerators (show.array parts) h = refl
no_enumerators (show.encoding parts) h = refl
no_enumerators (show.tag tag) h = refl
no_enumerators show.nothing h = refl
