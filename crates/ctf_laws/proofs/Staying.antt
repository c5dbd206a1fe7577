-- Publications and parents stay, from the possible effects of each change.
use Rattle.std.proofs.Common.{◌≡◌, ◌≢◌, ℕ, List, [], ◌∷◌, ◌++◌, Bool, true, false, Option, Some, eqb, refl, ap, sym, subst, ◌∙◌, option_and_then}
use Rattle.std.specs.Prelude.{nat_eq}
use Rattle.std.specs.Cmp.Lexicographic.{pointwise, same_text}
use Rattle.std.specs.List.{AllByRecursion}
use Rattle.std.proofs.lemmas.Bool.{eqb-true}
use Rattle.ctf_model.specs.spaces.Kept.{Kept}
use Rattle.ctf_protocol.specs.sessions.Slots.{slots_with}
use Rattle.ctf_protocol.specs.sessions.Publications.{published_as, published_without}
use Rattle.ctf_protocol.specs.sessions.Runs.{found_in}
use Rattle.ctf_protocol.specs.sessions.SessionLaws.{Event, IsReplied, Run}
use Rattle.ctf_protocol.specs.sessions.State.{Publication, Slot, State}
use Rattle.ctf_protocol.specs.sessions.Slots.{slot_at, slots_with_parent, slots_without}
use Rattle.ctf_protocol.specs.sessions.Steps.{change_step, step}
use Rattle.ctf_protocol.specs.declared.requests.Change.{Change}
use Rattle.ctf_protocol.specs.declared.requests.Change.TheVariants as change
use Rattle.ctf_protocol.specs.declared.requests.Request.{Request}
use Rattle.ctf_protocol.specs.declared.requests.Request.TheVariants.{Asks, Changes}
use Rattle.ctf_laws.proofs.Effects.{OfPublished, OfSlots, a_parent, a_step, all_stay, another, effect, none, one_less, one_more, stay, withdrawn}
use Rattle.ctf_laws.proofs.Runs.{other_stays, own_session}
use Rattle.ctf_laws.specs.PlainLaws.{ParentsStay, PublicationsStay, Spares, parent_of}

-- ---- publications

another_case : (name : List ℕ) (kept : Kept) (x p : Publication) (rest : List Publication) → (published_as name rest ≡ Some kept → published_as name (rest ++ p ∷ []) ≡ Some kept) → (t : Bool) → pointwise nat_eq x.name name ≡ t → published_as name (x ∷ rest) ≡ Some kept → published_as name ((x ∷ rest) ++ p ∷ []) ≡ Some kept
another_case name kept x p rest later true t e =
    let here : Some x.kept ≡ Some kept = rw t at e in
    rw t here
another_case name kept x p rest later false t e =
    let there : published_as name rest ≡ Some kept = rw t at e in
    rw t (later there)

behind : (name : List ℕ) (kept : Kept) (p : Publication) (all : List Publication) → published_as name all ≡ Some kept → published_as name (all ++ p ∷ []) ≡ Some kept
behind name kept p [] e = absurd cc
behind name kept p (x ∷ rest) e = another_case name kept x p rest (behind name kept p rest) (pointwise nat_eq x.name name) refl e

-- removing a publication with another name
without_case : (name other : List ℕ) (kept : Kept) (x : Publication) (rest : List Publication) → (other ≡ name → ⊥) → (published_as name rest ≡ Some kept → published_as name (published_without other rest) ≡ Some kept) → (t : Bool) → pointwise nat_eq x.name other ≡ t → (u : Bool) → pointwise nat_eq x.name name ≡ u → published_as name (x ∷ rest) ≡ Some kept → published_as name (published_without other (x ∷ rest)) ≡ Some kept
without_case name other kept x rest differ later true t true u e =
    absurd (differ (sym (same_text x.name other (sym t)) ∙ same_text x.name name (sym u)))
without_case name other kept x rest differ later true t false u e =
    let there : published_as name rest ≡ Some kept = rw u at e in
    rw t (later there)
without_case name other kept x rest differ later false t true u e =
    let here : Some x.kept ≡ Some kept = rw u at e in
    rw (t, u) here
without_case name other kept x rest differ later false t false u e =
    let there : published_as name rest ≡ Some kept = rw u at e in
    rw (t, u) (later there)

without : (name other : List ℕ) (kept : Kept) → (other ≡ name → ⊥) → (all : List Publication) → published_as name all ≡ Some kept → published_as name (published_without other all) ≡ Some kept
without name other kept differ [] e = absurd cc
without name other kept differ (x ∷ rest) e = without_case name other kept x rest differ (without name other kept differ rest) (pointwise nat_eq x.name other) refl (pointwise nat_eq x.name name) refl e

of_published : (c : Change) (old new : State) (name : List ℕ) (kept : Kept) → OfPublished c old new → c ≢ change.Withdraw name → published_as name old.published ≡ Some kept → published_as name new.published ≡ Some kept
of_published c old new name kept (all_stay same) other e = ap (published_as name) same ∙ e
of_published c old new name kept (another p is) other e = ap (published_as name) is ∙ behind name kept p old.published e
of_published c old new name kept (withdrawn n by is) other e = ap (published_as name) is ∙ without name n kept (λ i. other (by ∙ ap (λ (m : List ℕ). change.Withdraw m) i)) old.published e

name_stays : (state : State) (request : Request) (found : Option Kept) (name : List ℕ) (kept : Kept) → request ≢ Changes (change.Withdraw name) → published_as name state.published ≡ Some kept → published_as name (step state request found).state.published ≡ Some kept
name_stays state (Changes c) found name kept other e = of_published c state (change_step state c found).state name kept (effect c state found).published (λ i. other (ap (λ (x : Change). Changes x) i)) e
name_stays state (Asks d question) found name kept other e = e

-- ---- parents

slot_case : (d : ℕ) (x y : Slot) (rest : List Slot) (p : Kept) → (option_and_then (λ (s : Slot). s.parent) (slot_at d rest) ≡ Some p → option_and_then (λ (s : Slot). s.parent) (slot_at d (rest ++ y ∷ [])) ≡ Some p) → (t : Bool) → eqb x.number d ≡ t → option_and_then (λ (s : Slot). s.parent) (slot_at d (x ∷ rest)) ≡ Some p → option_and_then (λ (s : Slot). s.parent) (slot_at d ((x ∷ rest) ++ y ∷ [])) ≡ Some p
slot_case d x y rest p later true t e = let here : x.parent ≡ Some p = rw t at e in rw t here
slot_case d x y rest p later false t e = let there : option_and_then (λ (s : Slot). s.parent) (slot_at d rest) ≡ Some p = rw t at e in rw t (later there)

-- the parent of slot `d` in a list of slots
abbrev parent_at : ℕ → List Slot → Option Kept
parent_at d slots = option_and_then (λ slot. slot.parent) (slot_at d slots)

pushed : (d : ℕ) (y : Slot) (p : Kept) (slots : List Slot) → parent_at d slots ≡ Some p → parent_at d (slots ++ y ∷ []) ≡ Some p
pushed d y p [] e = absurd cc
pushed d y p (x ∷ rest) e = slot_case d x y rest p (pushed d y p rest) (eqb x.number d) refl e

numbers : (d n : ℕ) (x : Slot) → eqb x.number d ≡ true → eqb x.number n ≡ true → n ≡ d
numbers d n x a b = sym (eqb-true x.number n b) ∙ eqb-true x.number d a

closed_case : (d n : ℕ) (x : Slot) (rest : List Slot) (p : Kept) → (n ≡ d → ⊥) → (parent_at d rest ≡ Some p → parent_at d (slots_without n rest) ≡ Some p) → (t : Bool) → eqb x.number n ≡ t → (u : Bool) → eqb x.number d ≡ u → parent_at d (x ∷ rest) ≡ Some p → parent_at d (slots_without n (x ∷ rest)) ≡ Some p
closed_case d n x rest p differ later true t true u e = absurd (differ (numbers d n x u t))
closed_case d n x rest p differ later true t false u e = let there : parent_at d rest ≡ Some p = rw u at e in rw t there
closed_case d n x rest p differ later false t true u e = let here : x.parent ≡ Some p = rw u at e in rw (t, u) here
closed_case d n x rest p differ later false t false u e = let there : parent_at d rest ≡ Some p = rw u at e in rw (t, u) (later there)

closed : (d n : ℕ) (p : Kept) → (n ≡ d → ⊥) → (slots : List Slot) → parent_at d slots ≡ Some p → parent_at d (slots_without n slots) ≡ Some p
closed d n p differ [] e = absurd cc
closed d n p differ (x ∷ rest) e = closed_case d n x rest p differ (closed d n p differ rest) (eqb x.number n) refl (eqb x.number d) refl e

parent_case : (d n : ℕ) (q : Kept) (x : Slot) (rest : List Slot) (p : Kept) → (n ≡ d → ⊥) → (parent_at d rest ≡ Some p → parent_at d (slots_with_parent n q rest) ≡ Some p) → (t : Bool) → eqb x.number n ≡ t → (u : Bool) → eqb x.number d ≡ u → parent_at d (x ∷ rest) ≡ Some p → parent_at d (slots_with_parent n q (x ∷ rest)) ≡ Some p
parent_case d n q x rest p differ later true t true u e = absurd (differ (numbers d n x u t))
parent_case d n q x rest p differ later true t false u e = let there : parent_at d rest ≡ Some p = rw u at e in rw (t, u) there
parent_case d n q x rest p differ later false t true u e = let here : x.parent ≡ Some p = rw u at e in rw (t, u) here
parent_case d n q x rest p differ later false t false u e = let there : parent_at d rest ≡ Some p = rw u at e in rw (t, u) (later there)

imported : (d n : ℕ) (q p : Kept) → (n ≡ d → ⊥) → (slots : List Slot) → parent_at d slots ≡ Some p → parent_at d (slots_with_parent n q slots) ≡ Some p
imported d n q p differ [] e = absurd cc
imported d n q p differ (x ∷ rest) e = parent_case d n q x rest p differ (imported d n q p differ rest) (eqb x.number n) refl (eqb x.number d) refl e

step_case : (d n : ℕ) (was now x : Slot) (rest : List Slot) (p : Kept) → now.number ≡ was.number → now.parent ≡ was.parent → (slot_at n rest ≡ Some was → parent_at d rest ≡ Some p → parent_at d (slots_with n now rest) ≡ Some p) → (t : Bool) → eqb x.number n ≡ t → slot_at n (x ∷ rest) ≡ Some was → (u : Bool) → eqb x.number d ≡ u → parent_at d (x ∷ rest) ≡ Some p → parent_at d (slots_with n now (x ∷ rest)) ≡ Some p
step_case d n was now x rest p number parent later true t at u v e =
    let here : Some x ≡ Some was = rw t at at in
    let same : x ≡ was = cc in
    let alike : now.number ≡ x.number = number ∙ ap (λ (s : Slot). s.number) (sym same) in
    let under : now.parent ≡ x.parent = parent ∙ ap (λ (s : Slot). s.parent) (sym same) in
    by u v e alike under
  where
    by : (u : Bool) → eqb x.number d ≡ u → parent_at d (x ∷ rest) ≡ Some p → now.number ≡ x.number → now.parent ≡ x.parent → parent_at d (slots_with n now (x ∷ rest)) ≡ Some p
    by true v e alike under =
        let it : x.parent ≡ Some p = rw v at e in
        let found : eqb now.number d ≡ true = ap (λ (m : ℕ). eqb m d) alike ∙ v in
        rw (t, found) (under ∙ it)
    by false v e alike under =
        let there : parent_at d rest ≡ Some p = rw v at e in
        let other : eqb now.number d ≡ false = ap (λ (m : ℕ). eqb m d) alike ∙ v in
        rw (t, other) there
step_case d n was now x rest p number parent later false t at true v e = let it : x.parent ≡ Some p = rw v at e in rw (t, v) it
step_case d n was now x rest p number parent later false t at false v e =
    let found : slot_at n rest ≡ Some was = rw t at at in
    let there : parent_at d rest ≡ Some p = rw v at e in
    rw (t, v) (later found there)

stepped : (d n : ℕ) (was now : Slot) (p : Kept) → now.number ≡ was.number → now.parent ≡ was.parent → (slots : List Slot) → slot_at n slots ≡ Some was → parent_at d slots ≡ Some p → parent_at d (slots_with n now slots) ≡ Some p
stepped d n was now p number parent [] at e = absurd cc
stepped d n was now p number parent (x ∷ rest) at e = step_case d n was now x rest p number parent (stepped d n was now p number parent rest) (eqb x.number n) refl at (eqb x.number d) refl e

of_parents : (c : Change) (old new : State) (d : ℕ) (p : Kept) → OfSlots c old new → Spares d (Changes c) → parent_at d old.slots ≡ Some p → parent_at d new.slots ≡ Some p
of_parents c old new d p (stay same) spares e = ap (parent_at d) same.slots ∙ e
of_parents c old new d p (one_more slot n is next) spares e = ap (parent_at d) is ∙ pushed d slot p old.slots e
of_parents c old new d p (one_less n by is next) spares e = ap (parent_at d) is ∙ closed d n p (λ i. spares.closes_not (ap (λ (x : Change). Changes x) (by ∙ ap (λ (m : ℕ). change.Close m) i))) old.slots e
of_parents c old new d p (a_parent n q kept by is next) spares e = ap (parent_at d) is ∙ imported d n kept p (λ i. spares.imports_not q (ap (λ (x : Change). Changes x) (by ∙ ap (λ (m : ℕ). change.Import m q) i))) old.slots e
of_parents c old new d p (a_step n was now at number parent is next) spares e = ap (parent_at d) is ∙ stepped d n was now p number parent old.slots at e
of_parents c old new d p (none by is) spares e = absurd (spares.resets_not (ap (λ (x : Change). Changes x) by))

parent_stays : (state : State) (request : Request) (found : Option Kept) (d : ℕ) (p : Kept) → Spares d request → parent_of d state ≡ Some p → parent_of d (step state request found).state ≡ Some p
parent_stays state (Changes c) found d p spares e = of_parents c state (change_step state c found).state d p (effect c state found).slots spares e
parent_stays state (Asks n question) found d p spares e = e

-- ---- runs

-- a fact of a library that every allowed request keeps holds after every run
run_stays : (P : State → Type 0) (Q : Request → Type 0) → ((state : State) (request : Request) (found : Option Kept) → Q request → P state → P (step state request found).state) → (start new : ℕ → State) (events : List Event) (owner : ℕ) → Run start events new → AllByRecursion (λ event. event.session ≡ owner → Q event.request) events → P (start owner) → P (new owner)
run_stays P Q kept start new [] owner run spared h = subst P (sym (run owner)) h
run_stays P Q kept start new (event ∷ earlier) owner run spared h =
    at (eqb event.session owner) refl (run_stays P Q kept start run.0 earlier owner run.1 spared.1 h)
  where
    own : (refused : Bool) → IsReplied run.0 event new refused → Q event.request → P (run.0 event.session) → P (new event.session)
    own true is q before = subst P (sym is.1) before
    own false is q before = subst P (sym is.1) (kept (run.0 event.session) event.request (found_in run.0 event.request) q before)

    at : (t : Bool) → eqb event.session owner ≡ t → P (run.0 owner) → P (new owner)
    at true e before =
        let same = own_session event owner e in
        subst (λ (s : ℕ). P (new s)) same (own event.refused run.2.own (spared.0 same) (subst (λ (s : ℕ). P (run.0 s)) (sym same) before))
    at false e before = subst P (sym (other_stays run.0 new event run.2 owner e)) before

pub publications_stay : PublicationsStay
publications_stay start new events owner name kept run spared e =
    run_stays (λ state. published_as name state.published ≡ Some kept) (λ request. request ≢ Changes (change.Withdraw name)) (λ state request found q h. name_stays state request found name kept q h) start new events owner run spared e

pub parents_stay : ParentsStay
parents_stay start new events owner d parent run spared e =
    run_stays (λ state. parent_of d state ≡ Some parent) (Spares d) (λ state request found q h. parent_stays state request found d parent q h) start new events owner run spared e
