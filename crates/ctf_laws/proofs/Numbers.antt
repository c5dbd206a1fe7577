-- No slot number is given twice, from the possible effects of each change.
use Rattle.std.proofs.Common.{◌≡◌, ◌≢◌, ◌⊎◌, inl, inr, ◌+◌, ◌<◌, ◌≤◌, ℕ, List, [], ◌∷◌, ◌++◌, Bool, true, false, Some, eqb, refl, ap, sym, subst, ◌∙◌, is_some, arith}
use Rattle.std.specs.List.{AllByRecursion}
use Rattle.std.proofs.lemmas.Bool.{eqb-true}
use Rattle.ctf_model.proofs.Alls.{all_joined}
use Rattle.ctf_model.proofs.Anywhere.{all_map}
use Rattle.ctf_model.specs.spaces.Kept.{Kept}
use Rattle.ctf_protocol.specs.sessions.Slots.{slots_with}
use Rattle.ctf_protocol.specs.sessions.Runs.{Given, private_state}
use Rattle.ctf_protocol.specs.sessions.State.{Slot, State, empty_state}
use Rattle.ctf_protocol.specs.sessions.Slots.{slot_at, slots_with_parent, slots_without}
use Rattle.ctf_protocol.specs.sessions.Steps.{change_step, step}
use Rattle.ctf_protocol.specs.declared.requests.Change.{Change}
use Rattle.ctf_protocol.specs.declared.requests.Change.TheVariants as change
use Rattle.ctf_protocol.specs.declared.requests.Request.{Request}
use Rattle.ctf_protocol.specs.declared.requests.Request.TheVariants.{Asks, Changes}
use Rattle.ctf_laws.proofs.Effects.{OfSlots, a_parent, a_step, effect, none, one_less, one_more, stay}
use Rattle.ctf_laws.specs.PlainLaws.{IsNoReset, NumbersAreGivenOnce}

-- the number of every slot is below `next`
abbrev Below : ℕ → List Slot → Type 0
Below next slots = AllByRecursion (λ slot. slot.number < next) slots

abbrev IsNumbered : State → Type 0
IsNumbered state = Below state.next state.slots

abbrev Has : ℕ → List Slot → Type 0
Has n slots = is_some (slot_at n slots) ≡ true

-- ---- the number of an existing slot is below

has_case : (n next : ℕ) (x : Slot) (rest : List Slot) → x.number < next → (Has n rest → n < next) → (t : Bool) → eqb x.number n ≡ t → Has n (x ∷ rest) → n < next
has_case n next x rest low later true t h = let is = eqb-true x.number n t in omega (arith, low, is)
has_case n next x rest low later false t h = let there : Has n rest = rw t at h in later there

has_below : (n next : ℕ) (slots : List Slot) → Below next slots → Has n slots → n < next
has_below n next [] b h = absurd cc
has_below n next (x ∷ rest) b h = has_case n next x rest b.0 (has_below n next rest b.1) (eqb x.number n) refl h

-- ---- a slot after a change was there before, or is new

pushed_case : (n : ℕ) (x y : Slot) (rest : List Slot) → (Has n (rest ++ y ∷ []) → Has n rest ⊎ (y.number ≡ n)) → (t : Bool) → eqb x.number n ≡ t → Has n ((x ∷ rest) ++ y ∷ []) → Has n (x ∷ rest) ⊎ (y.number ≡ n)
pushed_case n x y rest later true t h = inl (rw t refl)
pushed_case n x y rest later false t h =
    let there : Has n (rest ++ y ∷ []) = rw t at h in
    by (later there)
  where
    by : Has n rest ⊎ (y.number ≡ n) → Has n (x ∷ rest) ⊎ (y.number ≡ n)
    by (inl old) = inl (rw t old)
    by (inr own) = inr own

alone_case : (n : ℕ) (y : Slot) (t : Bool) → eqb y.number n ≡ t → Has n (y ∷ []) → y.number ≡ n
alone_case n y true t h = eqb-true y.number n t
alone_case n y false t h = let none : false ≡ true = rw t at h in absurd cc

pushed : (n : ℕ) (y : Slot) (slots : List Slot) → Has n (slots ++ y ∷ []) → Has n slots ⊎ (y.number ≡ n)
pushed n y [] h = inr (alone_case n y (eqb y.number n) refl h)
pushed n y (x ∷ rest) h = pushed_case n x y rest (pushed n y rest) (eqb x.number n) refl h

without_case : (n d : ℕ) (x : Slot) (rest : List Slot) → (Has n (slots_without d rest) → Has n rest) → (t : Bool) → eqb x.number n ≡ t → (u : Bool) → eqb x.number d ≡ u → Has n (slots_without d (x ∷ rest)) → Has n (x ∷ rest)
without_case n d x rest later true t u v h = rw t refl
without_case n d x rest later false t true v h = let there : Has n rest = rw v at h in rw t there
without_case n d x rest later false t false v h = let there : Has n (slots_without d rest) = rw (v, t) at h in rw t (later there)

without : (n d : ℕ) (slots : List Slot) → Has n (slots_without d slots) → Has n slots
without n d [] h = h
without n d (x ∷ rest) h = without_case n d x rest (without n d rest) (eqb x.number n) refl (eqb x.number d) refl h

parent_case : (n d : ℕ) (p : Kept) (x : Slot) (rest : List Slot) → (Has n (slots_with_parent d p rest) → Has n rest) → (t : Bool) → eqb x.number n ≡ t → (u : Bool) → eqb x.number d ≡ u → Has n (slots_with_parent d p (x ∷ rest)) → Has n (x ∷ rest)
parent_case n d p x rest later true t u v h = rw t refl
parent_case n d p x rest later false t true v h = let there : Has n rest = rw (v, t) at h in rw t there
parent_case n d p x rest later false t false v h = let there : Has n (slots_with_parent d p rest) = rw (v, t) at h in rw t (later there)

parents : (n d : ℕ) (p : Kept) (slots : List Slot) → Has n (slots_with_parent d p slots) → Has n slots
parents n d p [] h = h
parents n d p (x ∷ rest) h = parent_case n d p x rest (parents n d p rest) (eqb x.number n) refl (eqb x.number d) refl h

-- the slot that is found first
number_there : (d : ℕ) (x was : Slot) (rest : List Slot) → eqb x.number d ≡ true → slot_at d (x ∷ rest) ≡ Some was → was.number ≡ x.number
number_there d x was rest u at =
    let here : Some x ≡ Some was = rw u at at in
    let same : was ≡ x = cc in
    ap (λ (s : Slot). s.number) same

with_case : (n d : ℕ) (was now x : Slot) (rest : List Slot) → now.number ≡ was.number → (slot_at d rest ≡ Some was → Has n (slots_with d now rest) → Has n rest) → (t : Bool) → eqb x.number n ≡ t → (u : Bool) → eqb x.number d ≡ u → slot_at d (x ∷ rest) ≡ Some was → Has n (slots_with d now (x ∷ rest)) → Has n (x ∷ rest)
with_case n d was now x rest same later true t u v at h = rw t refl
with_case n d was now x rest same later false t true v at h =
    let other : eqb now.number n ≡ false = ap (λ (m : ℕ). eqb m n) (same ∙ number_there d x was rest v at) ∙ t in
    let there : Has n rest = rw (v, other) at h in
    rw t there
with_case n d was now x rest same later false t false v at h =
    let found : slot_at d rest ≡ Some was = rw v at at in
    let there : Has n (slots_with d now rest) = rw (v, t) at h in
    rw t (later found there)

stepped : (n d : ℕ) (was now : Slot) → now.number ≡ was.number → (slots : List Slot) → slot_at d slots ≡ Some was → Has n (slots_with d now slots) → Has n slots
stepped n d was now same [] at h = absurd cc
stepped n d was now same (x ∷ rest) at h = with_case n d was now x rest same (stepped n d was now same rest) (eqb x.number n) refl (eqb x.number d) refl at h

was_or_new : (n : ℕ) (c : Change) (old new : State) → OfSlots c old new → Has n new.slots → Has n old.slots ⊎ (n ≡ old.next)
was_or_new n c old new (stay same) h = inl (subst (Has n) same.slots h)
was_or_new n c old new (one_more slot number is next) h = by (pushed n slot old.slots (subst (Has n) is h))
  where
    by : Has n old.slots ⊎ (slot.number ≡ n) → Has n old.slots ⊎ (n ≡ old.next)
    by (inl there) = inl there
    by (inr own) = inr (sym own ∙ number)
was_or_new n c old new (one_less d by is next) h = inl (without n d old.slots (subst (Has n) is h))
was_or_new n c old new (a_parent d q p by is next) h = inl (parents n d p old.slots (subst (Has n) is h))
was_or_new n c old new (a_step d was now at number parent is next) h = inl (stepped n d was now number old.slots at (subst (Has n) is h))
was_or_new n c old new (none by is) h = let gone : false ≡ true = subst (Has n) is h in absurd cc

-- ---- numbers stay below the next one

fewer_case : (next d : ℕ) (x : Slot) (rest : List Slot) → x.number < next → Below next rest → Below next (slots_without d rest) → (t : Bool) → eqb x.number d ≡ t → Below next (slots_without d (x ∷ rest))
fewer_case next d x rest low all later true t = rw t all
fewer_case next d x rest low all later false t = rw t (low, later)

fewer : (next d : ℕ) (slots : List Slot) → Below next slots → Below next (slots_without d slots)
fewer next d [] b = b
fewer next d (x ∷ rest) b = fewer_case next d x rest b.0 b.1 (fewer next d rest b.1) (eqb x.number d) refl

under_case : (next d : ℕ) (p : Kept) (x : Slot) (rest : List Slot) → x.number < next → Below next rest → Below next (slots_with_parent d p rest) → (t : Bool) → eqb x.number d ≡ t → Below next (slots_with_parent d p (x ∷ rest))
under_case next d p x rest low all later true t = rw t (low, all)
under_case next d p x rest low all later false t = rw t (low, later)

under : (next d : ℕ) (p : Kept) (slots : List Slot) → Below next slots → Below next (slots_with_parent d p slots)
under next d p [] b = b
under next d p (x ∷ rest) b = under_case next d p x rest b.0 b.1 (under next d p rest b.1) (eqb x.number d) refl

now_case : (next d : ℕ) (was now x : Slot) (rest : List Slot) → now.number ≡ was.number → x.number < next → Below next rest → (slot_at d rest ≡ Some was → Below next (slots_with d now rest)) → (t : Bool) → eqb x.number d ≡ t → slot_at d (x ∷ rest) ≡ Some was → Below next (slots_with d now (x ∷ rest))
now_case next d was now x rest same low all later true t at =
    let alike = same ∙ number_there d x was rest t at in
    let small : now.number < next = omega (arith, low, alike) in
    rw t (small, all)
now_case next d was now x rest same low all later false t at =
    let found : slot_at d rest ≡ Some was = rw t at at in
    rw t (low, later found)

with_now : (next d : ℕ) (was now : Slot) → now.number ≡ was.number → (slots : List Slot) → Below next slots → slot_at d slots ≡ Some was → Below next (slots_with d now slots)
with_now next d was now same [] b at = b
with_now next d was now same (x ∷ rest) b at = now_case next d was now x rest same b.0 b.1 (with_now next d was now same rest b.1) (eqb x.number d) refl at

stays_numbered : (c : Change) (old new : State) → OfSlots c old new → IsNumbered old → IsNumbered new
stays_numbered c old new (stay same) b = subst (λ (k : ℕ). Below k new.slots) (sym same.next) (subst (Below old.next) (sym same.slots) b)
stays_numbered c old new (one_more slot number is next) b =
    let wider = all_map (λ (s : Slot). s.number < old.next) (λ (s : Slot). s.number < old.next + 1) (λ s low. omega (arith, low)) old.slots b in
    let own : slot.number < old.next + 1 = omega (arith, number) in
    subst (λ (k : ℕ). Below k new.slots) (sym next) (subst (Below (old.next + 1)) (sym is) (all_joined (λ (s : Slot). s.number < old.next + 1) old.slots (slot ∷ []) wider (own, tt)))
stays_numbered c old new (one_less d by is next) b = subst (λ (k : ℕ). Below k new.slots) (sym next) (subst (Below old.next) (sym is) (fewer old.next d old.slots b))
stays_numbered c old new (a_parent d q p by is next) b = subst (λ (k : ℕ). Below k new.slots) (sym next) (subst (Below old.next) (sym is) (under old.next d p old.slots b))
stays_numbered c old new (a_step d was now at number parent is next) b = subst (λ (k : ℕ). Below k new.slots) (sym next) (subst (Below old.next) (sym is) (with_now old.next d was now number old.slots b at))
stays_numbered c old new (none by is) b = subst (Below new.next) (sym is) tt

rises : (c : Change) (old new : State) → OfSlots c old new → c ≢ change.Reset → old.next ≤ new.next
rises c old new (stay same) other = let is = same.next in omega (arith, is)
rises c old new (one_more slot number is next) other = omega (arith, next)
rises c old new (one_less d by is next) other = omega (arith, next)
rises c old new (a_parent d q p by is next) other = omega (arith, next)
rises c old new (a_step d was now at number parent is next) other = omega (arith, next)
rises c old new (none by is) other = absurd (other by)

-- ---- every request

step_numbered : (state : State) (now : Given) (request : Request) → IsNumbered state → IsNumbered (step state request now.found).state
step_numbered state now (Changes c) b = stays_numbered c state (change_step state c now.found).state (effect c state now.found).slots b
step_numbered state now (Asks d question) b = b

step_rises : (state : State) (now : Given) (request : Request) → request ≢ Changes change.Reset → state.next ≤ (step state request now.found).state.next
step_rises state now (Changes c) other = rises c state (change_step state c now.found).state (effect c state now.found).slots (λ i. other (ap (λ (x : Change). Changes x) i))
step_rises state now (Asks d question) other = omega arith

step_new : (n : ℕ) (state : State) (now : Given) (request : Request) → Has n (step state request now.found).state.slots → Has n state.slots ⊎ (n ≡ state.next)
step_new n state now (Changes c) h = was_or_new n c state (change_step state c now.found).state (effect c state now.found).slots h
step_new n state now (Asks d question) h = inl h

-- ---- runs

history_numbered : (history : List Given) → IsNumbered (private_state empty_state history)
history_numbered [] = tt
history_numbered (now ∷ earlier) = step_numbered (private_state empty_state earlier) now now.request (history_numbered earlier)

between_rises : (between : List Given) (history : List Given) → AllByRecursion IsNoReset between → (private_state empty_state history).next ≤ (private_state empty_state (between ++ history)).next
between_rises [] history h = omega arith
between_rises (now ∷ earlier) history h =
    let before = between_rises earlier history h.1 in
    let after = step_rises (private_state empty_state (earlier ++ history)) now now.request h.0 in
    omega (arith, before, after)

pub numbers_are_given_once : NumbersAreGivenOnce
numbers_are_given_once earlier between first second n calm one two =
    by (step_new n (private_state empty_state (between ++ first ∷ earlier)) second second.request two.after)
  where
    low : n < (private_state empty_state (first ∷ earlier)).next
    low = has_below n (private_state empty_state (first ∷ earlier)).next (private_state empty_state (first ∷ earlier)).slots (history_numbered (first ∷ earlier)) one.after

    by : Has n (private_state empty_state (between ++ first ∷ earlier)).slots ⊎ (n ≡ (private_state empty_state (between ++ first ∷ earlier)).next) → ⊥
    by (inl there) = let clash : true ≡ false = sym there ∙ two.before in absurd cc
    by (inr is) = let more = between_rises between (first ∷ earlier) calm in let small = low in absurd (omega (arith, is, more, small))
