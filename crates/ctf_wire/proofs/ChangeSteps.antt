-- A change among the libraries of all sessions.
use Rattle.std.proofs.Common.{◌≡◌, ◌≢◌, ℕ, List, [], ◌∷◌, Bool, true, false, Option, None, Some, refl, ap, ◌⊎◌, inl, inr}
use Rattle.std.specs.Prelude.{zero, suc}
use Rattle.ctf_protocol.specs.answers.Answers.{Reply}
use Rattle.ctf_protocol.specs.sessions.Runs.{IsGranted}
use Rattle.ctf_protocol.specs.sessions.State.{Publication, Slot, State, empty_state}
use Rattle.ctf_protocol.specs.sessions.Quiet.{is_quiet_change}
use Rattle.ctf_protocol.specs.declared.requests.Change.{Change}
use Rattle.ctf_protocol.specs.declared.requests.Request.TheVariants.{Changes}
use Rattle.ctf_wire.specs.Memory.{IsGrantedUnless}

abbrev library_of : List Slot → ℕ → List ℕ → Option (List ℕ) → Option (List ℕ) → List Publication → State
library_of slots next ctf symbols strings published = record { slots = slots; next = next; stage = record { ctf = ctf; sym = symbols; strs = strings }; published = published }

-- a library is empty or not
abbrev IsEmptyOrNot : State → Type 0
IsEmptyOrNot library = (library ≡ empty_state) ⊎ (library ≢ empty_state)

is_empty : (slots : List Slot) (next : ℕ) (ctf : List ℕ) (symbols strings : Option (List ℕ)) (published : List Publication) → IsEmptyOrNot (library_of slots next ctf symbols strings published)
is_empty (slot ∷ slots) next ctf symbols strings published = inr (λ e. let clash : slot ∷ slots ≡ [] = ap (λ (l : State). l.slots) e in cc)
is_empty [] zero ctf symbols strings published = inr (λ e. let clash : zero ≡ suc zero = ap (λ (l : State). l.next) e in cc)
is_empty [] (suc (suc n)) ctf symbols strings published = inr (λ e. let clash : suc (suc n) ≡ suc zero = ap (λ (l : State). l.next) e in cc)
is_empty [] (suc zero) (byte ∷ ctf) symbols strings published = inr (λ e. let clash : byte ∷ ctf ≡ [] = ap (λ (l : State). l.stage.ctf) e in cc)
is_empty [] (suc zero) [] (Some symbols) strings published = inr (λ e. let clash : Some symbols ≡ None = ap (λ (l : State). l.stage.sym) e in cc)
is_empty [] (suc zero) [] None (Some strings) published = inr (λ e. let clash : Some strings ≡ None = ap (λ (l : State). l.stage.strs) e in cc)
is_empty [] (suc zero) [] None None (p ∷ published) = inr (λ e. let clash : p ∷ published ≡ [] = ap (λ (l : State). l.published) e in cc)
is_empty [] (suc zero) [] None None [] = inl refl

-- a change is granted, or may need memory
pub change_granted : (old : ℕ → State) (s : ℕ) (change : Change) (reply : Reply) (new : ℕ → State)
    → (is_quiet_change change ≡ true → old s ≢ empty_state → IsGranted old s (Changes change) reply new) → IsGrantedUnless old s (Changes change) reply new
change_granted old s change reply new quiet = by_word (is_quiet_change change) refl
  where
    by_library : is_quiet_change change ≡ true → IsEmptyOrNot (old s) → IsGrantedUnless old s (Changes change) reply new
    by_library e (inl nothing) = inr (inr nothing)
    by_library e (inr some) = inl (quiet e some)

    by_word : (t : Bool) → is_quiet_change change ≡ t → IsGrantedUnless old s (Changes change) reply new
    by_word false e = inr (inl e)
    by_word true e = let l = old s in by_library e (is_empty l.slots l.next l.stage.ctf l.stage.sym l.stage.strs l.published)
