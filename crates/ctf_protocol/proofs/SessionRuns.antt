-- Laws of the runs of many sessions, by induction on the history.
use Rattle.std.proofs.Common.{◌≡◌, ◌≢◌, ℕ, List, [], ◌∷◌, map, Bool, true, false, Option, Some, None, option_and_then, eqb, refl, ◌∙◌, ap, sym, subst, arith, ◌⊎◌, inl, inr}
use Rattle.std.specs.Option.{ForSome}
use Rattle.std.proofs.lemmas.Bool.Decides.{nat_tests}
use Rattle.ctf_protocol.specs.answers.Answers.{Reply}
use Rattle.ctf_model.specs.spaces.Kept.{Kept}
use Rattle.ctf_protocol.specs.sessions.Publications.{published_as}
use Rattle.ctf_protocol.specs.sessions.Runs.{Call, Given, Steps, IsGranted, IsRefused, own_inputs, found_in, own_state, own_replies, address_to, private_state, private_replies, taken_by}
use Rattle.ctf_protocol.specs.sessions.SessionLaws.{SameGiven, UnreachedDoNotMatter, is_among, TakesFrom, IsClosed, calls_among, Event, Happens, IsReplied, EachStepHappens, granted_events, calls_of, replies_to, EachRunsAlone}
use Rattle.ctf_protocol.specs.sessions.State.{State}
use Rattle.ctf_protocol.specs.sessions.Outcomes.{Outcome}
use Rattle.ctf_protocol.specs.sessions.Steps.{step}
use Rattle.ctf_protocol.specs.declared.requests.Request.{Request}

-- ---- two worlds

pub same_given : SameGiven
same_given start other calls others s h e =
    (ap (λ x. private_replies x (own_inputs start calls s)) h ∙ ap (private_replies (other s)) e, ap (λ x. private_state x (own_inputs start calls s)) h ∙ ap (private_state (other s)) e)

-- ---- sessions that no take involves

-- a take depends only on the libraries of the sessions in the list
found_among : (a b : ℕ → State) (sessions : List ℕ) (request : Request) → TakesFrom sessions request → ((q : ℕ) → is_among sessions q ≡ true → a q ≡ b q) → found_in a request ≡ found_in b request
found_among a b sessions request here h = at (taken_by request) here
  where
    at : (taken : Option (ℕ × List ℕ)) → ForSome taken (λ t. is_among sessions t.0 ≡ true) → option_and_then (λ t. published_as t.1 (a t.0).published) taken ≡ option_and_then (λ t. published_as t.1 (b t.0).published) taken
    at None e = refl
    at (Some t) e = ap (λ (l : State). published_as t.1 l.published) (h t.0 (e t refl))

one_unreached : (start : ℕ → State) (call : Call) (calls : List Call) (r : List ℕ) → IsClosed r (call ∷ calls) → ((s : ℕ) → is_among r s ≡ true → own_inputs start (calls_among r calls) s ≡ own_inputs start calls s)
    → (s : ℕ) → is_among r s ≡ true → (k : Bool) → is_among r call.session ≡ k → (t : Bool) → eqb call.session s ≡ t → own_inputs start (calls_among r (call ∷ calls)) s ≡ own_inputs start (call ∷ calls) s
one_unreached start call calls r closed h s i true k true e =
    let found = found_among (λ q. private_state (start q) (own_inputs start (calls_among r calls) q)) (λ q. private_state (start q) (own_inputs start calls q)) r call.request (closed.0 k) (λ q j. ap (private_state (start q)) (h q j)) in
    rw (k, e) (ap (λ (f : Option Kept). record { request = call.request; found = f } ∷ own_inputs start (calls_among r calls) s) found ∙ ap (λ (asks : List Given). record { request = call.request; found = found_in (λ q. private_state (start q) (own_inputs start calls q)) call.request } ∷ asks) (h s i))
one_unreached start call calls r closed h s i true k false e = rw (k, e) (h s i)
one_unreached start call calls r closed h s i false k true e =
    let same : call.session ≡ s = grind (arith, nat_tests, e) in
    let clash : false ≡ true = sym k ∙ ap (is_among r) same ∙ i in cc
one_unreached start call calls r closed h s i false k false e = rw (k, e) (h s i)

pub unreached : UnreachedDoNotMatter
unreached start [] r closed s i = refl
unreached start (call ∷ calls) r closed s i =
    one_unreached start call calls r closed (λ q j. unreached start calls r closed.1 q j) s i (is_among r call.session) refl (eqb call.session s) refl

-- ---- each session by itself

-- a take depends only on the library of each session
pub found_same : (a b : ℕ → State) (request : Request) → ((q : ℕ) → a q ≡ b q) → found_in a request ≡ found_in b request
found_same a b request h = at (taken_by request)
  where
    at : (taken : Option (ℕ × List ℕ)) → option_and_then (λ t. published_as t.1 (a t.0).published) taken ≡ option_and_then (λ t. published_as t.1 (b t.0).published) taken
    at None = refl
    at (Some t) = ap (λ (l : State). published_as t.1 l.published) (h t.0)

happens_by : (old new : ℕ → State) (s : ℕ) (request : Request) (reply : Reply) → Steps old s request reply new → IsGranted old s request reply new ⊎ IsRefused old s reply new
    → (refused : Bool) × Happens old (record { session = s; request = request; reply = reply; refused = refused }) new
happens_by old new s request reply steps (inl own) = (false, record { own = own; others = steps.others })
happens_by old new s request reply steps (inr own) = (true, record { own = own; others = steps.others })

pub each_step_happens : EachStepHappens
each_step_happens old new s request reply steps = happens_by old new s request reply steps steps.own

-- the claim for one session after some events
abbrev Holds : (ℕ → State) → (ℕ → State) → List Event → ℕ → Type 0
Holds start new events s = (replies_to s (granted_events events) ≡ map (address_to s) (own_replies start (calls_of (granted_events events)) s)) × (new s ≡ own_state start (calls_of (granted_events events)) s)

other_stays : (between new : ℕ → State) (event : Event) → Happens between event new → (s : ℕ) → eqb event.session s ≡ false → new s ≡ between s
other_stays between new event happens s h =
    let other : s ≢ event.session = λ e. let hit : eqb event.session event.session ≡ false = subst (λ (x : ℕ). eqb event.session x ≡ false) e h in grind (arith, nat_tests, hit) in
    happens.others s other

-- out of memory: all libraries are unchanged
refused_stays : (between new : ℕ → State) (event : Event) → Happens between event new → IsReplied between event new true → (s : ℕ) (t : Bool) → eqb event.session s ≡ t → new s ≡ between s
refused_stays between new event happens own s true h =
    let same : event.session ≡ s = grind (arith, nat_tests, h) in
    let P : ℕ → Type 0 = λ x. new x ≡ between x in
    subst P same own.1
refused_stays between new event happens own s false h = other_stays between new event happens s h

one_more : (start between new : ℕ → State) (event : Event) (earlier : List Event) → ((q : ℕ) → Holds start between earlier q) → Happens between event new → (s : ℕ)
    → (m : Bool) → event.refused ≡ m → IsReplied between event new m → (t : Bool) → eqb event.session s ≡ t → Holds start new (event ∷ earlier) s
one_more start between new event earlier h happens s true m own t e =
    rw m ((h s).0, refused_stays between new event happens own s t e ∙ (h s).1)
one_more start between new event earlier h happens s false m own false e =
    rw (m, e) ((h s).0, other_stays between new event happens s e ∙ (h s).1)
one_more start between new event earlier h happens s false m own true e =
    let same : event.session ≡ s = grind (arith, nat_tests, e) in
    let later : ℕ → State = own_state start (calls_of (granted_events earlier)) in
    let found = found_same between later event.request (λ q. (h q).1) in
    let here : between event.session ≡ later s = (h event.session).1 ∙ ap later same in
    let out : step (between event.session) event.request (found_in between event.request) ≡ step (later s) event.request (found_in later event.request) =
    ap (λ (l : State). step l event.request (found_in between event.request)) here ∙ ap (step (later s) event.request) found in
    let reply : event.reply ≡ address_to s (step (later s) event.request (found_in later event.request)).reply =
    own.0 ∙ ap (λ (x : ℕ). address_to x (step (between event.session) event.request (found_in between event.request)).reply) same ∙ ap (λ (o : Outcome). address_to s o.reply) out in
    rw (m, e) (
      ap (λ (p : Reply). p ∷ replies_to s (granted_events earlier)) reply ∙ ap (λ (ps : List Reply). address_to s (step (later s) event.request (found_in later event.request)).reply ∷ ps) (h s).0,
      ap new (sym same) ∙ own.1 ∙ ap (λ (o : Outcome). o.state) out,
    )

pub each_alone : EachRunsAlone
each_alone start new [] run s = (refl, run s)
each_alone start new (event ∷ earlier) run s =
    one_more start run.0 new event earlier (λ q. each_alone start run.0 earlier run.1 q) run.2 s event.refused refl run.2.own (eqb event.session s) refl
