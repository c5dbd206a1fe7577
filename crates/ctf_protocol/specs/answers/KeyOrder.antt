-- The keys of an answer, and of each object in it, are in byte order. Source: ours.
use Rattle.std.specs.Prelude.{◌≡◌, ℕ, ◌==◌, ◌&&◌, ◌||◌, nat_lt, Bool, true, false, List, [], ◌∷◌, map, Option, Result, Ok, Err}
use Rattle.std.specs.List.{list_all}
use Rattle.ctf_protocol.specs.answers.Answers.{Answer, Item, Value, bare, object, one, many}
use Rattle.ctf_model.specs.spaces.Kept.{Kept}
use Rattle.ctf_protocol.specs.sessions.State.{State}
use Rattle.ctf_protocol.specs.sessions.Steps.{step}
use Rattle.ctf_model.specs.declared.faults.Fault.{Fault}
use Rattle.ctf_protocol.specs.declared.requests.Request.{Request}

-- `xs` comes before `ys` in byte order
abbrev pub precedes : List ℕ → List ℕ → Bool
precedes xs [] = false
precedes [] (y ∷ ys) = true
precedes (x ∷ xs) (y ∷ ys) = nat_lt x y || (x == y && precedes xs ys)

-- the keys are strictly ascending
abbrev pub rise : List (List ℕ) → Bool
rise [] = true
rise (key ∷ []) = true
rise (key ∷ next ∷ keys) = precedes key next && rise (next ∷ keys)

abbrev pub item_in_order : Item → Bool
item_in_order (bare value) = true
item_in_order (object entries) = rise (map (λ e. e.key) entries)

abbrev pub value_in_order : Value → Bool
value_in_order (one value) = true
value_in_order (many items) = list_all item_in_order items

abbrev pub in_order : Answer → Bool
in_order fields = rise (map (λ f. f.key) fields) && list_all (λ f. value_in_order f.value) fields

-- the keys of an answer are ascending; a refusal has none
abbrev pub IsInOrder : Result Answer Fault → Type 0
IsInOrder (Ok answer) = in_order answer ≡ true
IsInOrder (Err fault) = Unit {0}

-- this holds for the answer to every request
abbrev pub KeysRise : Type 0
KeysRise =
    (state : State) (request : Request) (found : Option Kept)
    → IsInOrder (step state request found).reply.outcome
