-- Libraries stay good in every run, by induction on the events.
use Rattle.std.proofs.Common.{◌≡◌, ◌≢◌, ◌⊎◌, inl, inr, ℕ, zero, suc, List, [], ◌∷◌, Bool, true, false, Option, Some, None, eqb, option_and_then, refl, sym, subst, arith}
use Rattle.std.specs.Option.{ForSome}
use Rattle.std.proofs.lemmas.Bool.Decides.{nat_tests}
use Rattle.ctf_protocol.specs.sessions.Publications.{published_as}
use Rattle.ctf_protocol.specs.answers.Answers.{Reply}
use Rattle.ctf_protocol.specs.sessions.Runs.{Answered, IsGranted, IsRefused, Steps, found_in, taken_by}
use Rattle.ctf_protocol.specs.declared.requests.Request.{Request}
use Rattle.ctf_protocol.specs.sessions.SessionLaws.{Event, Happens, IsReplied}
use Rattle.ctf_protocol.specs.sessions.State.{State}
use Rattle.ctf_protocol.specs.sessions.Steps.{publishes_kept}
use Rattle.ctf_model.specs.spaces.Kept.{Kept}
use Rattle.ctf_laws.proofs.Slots.{published_good}
use Rattle.ctf_laws.proofs.Steps.{loads_keep_good, steps_keep_good}
use Rattle.ctf_laws.specs.Good.{AreGood, FitsRequest, IsFaultless, IsGood}
use Rattle.ctf_laws.specs.GoodLaws.{FoundIsFaultless, RunsKeepGood}

found_at : (libraries : ℕ → State) → AreGood libraries → (taken : Option (ℕ × List ℕ)) → ForSome (option_and_then (λ t. published_as t.1 (libraries t.0).published) taken) IsFaultless
found_at libraries g None = λ k e. absurd cc
found_at libraries g (Some t) = λ k e. published_good t.1 k (libraries t.0).published (g t.0).published e

pub found_is_faultless : FoundIsFaultless
found_is_faultless libraries request g = found_at libraries g (taken_by request)

own_good : (old new : ℕ → State) (event : Event) → AreGood old → FitsRequest event.request → (refused : Bool) → IsReplied old event new refused → IsGood (new event.session)
own_good old new event g fits true own = subst IsGood (sym own.1) (g event.session)
own_good old new event g fits false own = subst IsGood (sym own.1) (steps_keep_good (old event.session) event.request (found_in old event.request) (g event.session) fits (found_is_faultless old event.request g))

own_step : (old new : ℕ → State) (s : ℕ) (request : Request) (reply : Reply) → AreGood old → FitsRequest request → IsGranted old s request reply new ⊎ IsRefused old s reply new → IsGood (new s)
own_step old new s request reply g fits (inl granted) = subst IsGood (sym granted.1) (steps_keep_good (old s) request (found_in old request) (g s) fits (found_is_faultless old request g))
own_step old new s request reply g fits (inr refused) = subst IsGood (sym refused.1) (g s)

among : (old new : ℕ → State) (s : ℕ) (request : Request) (reply : Reply) → AreGood old → FitsRequest request → Steps old s request reply new → (q : ℕ) (t : Bool) → eqb s q ≡ t → IsGood (new q)
among old new s request reply g fits steps q true t =
    let same : s ≡ q = grind (arith, nat_tests, t) in
    subst (λ (x : ℕ). IsGood (new x)) same (own_step old new s request reply g fits steps.own)
among old new s request reply g fits steps q false t =
    let other : q ≢ s = λ e. let hit : eqb s s ≡ false = subst (λ (x : ℕ). eqb s x ≡ false) e t in grind (arith, nat_tests, hit) in
    subst IsGood (sym (steps.others q other)) (g q)

-- one call among good libraries keeps them good
pub steps_among : (old new : ℕ → State) (s : ℕ) (request : Request) (reply : Reply) → Steps old s request reply new → AreGood old → FitsRequest request → AreGood new
steps_among old new s request reply steps g fits = λ q. among old new s request reply g fits steps q (eqb s q) refl

answered_good : (old new : State) (name : List ℕ) (kept : Kept) (reply : Reply) → Answered old (publishes_kept name kept old) reply new → IsFaultless kept → IsGood old → IsGood new
answered_good old new name kept reply (inl granted) h g = subst IsGood (sym granted.1) (loads_keep_good old name kept g h)
answered_good old new name kept reply (inr refused) h g = subst IsGood (sym refused.1) g

load_at : (old new : ℕ → State) → IsGood (new 0) → ((other : ℕ) → other ≢ 0 → new other ≡ old other) → AreGood old → AreGood new
load_at old new here others g zero = here
load_at old new here others g (suc s) = subst IsGood (sym (others (suc s) (λ e. absurd cc))) (g (suc s))

-- a faultless publication of the operator keeps them good
pub loads_among : (old new : ℕ → State) (name : List ℕ) (kept : Kept) (reply : Reply) → Answered (old 0) (publishes_kept name kept (old 0)) reply (new 0) → ((other : ℕ) → other ≢ 0 → new other ≡ old other) → IsFaultless kept → AreGood old → AreGood new
loads_among old new name kept reply own others h g = load_at old new (answered_good (old 0) (new 0) name kept reply own h (g 0)) others g

-- all libraries but one are unchanged
pub other_stays : (old new : ℕ → State) (event : Event) → Happens old event new → (s : ℕ) → eqb event.session s ≡ false → new s ≡ old s
other_stays old new event happens s h =
    let other : s ≢ event.session = λ e. let hit : eqb event.session event.session ≡ false = subst (λ (x : ℕ). eqb event.session x ≡ false) e h in grind (arith, nat_tests, hit) in
    happens.others s other

pub own_session : (event : Event) (s : ℕ) → eqb event.session s ≡ true → event.session ≡ s
own_session event s h = grind (arith, nat_tests, h)

one_good : (old new : ℕ → State) (event : Event) → Happens old event new → AreGood old → FitsRequest event.request → (s : ℕ) (t : Bool) → eqb event.session s ≡ t → IsGood (new s)
one_good old new event happens g fits s true h = subst (λ (x : ℕ). IsGood (new x)) (own_session event s h) (own_good old new event g fits event.refused happens.own)
one_good old new event happens g fits s false h = subst IsGood (sym (other_stays old new event happens s h)) (g s)

pub runs_keep_good : RunsKeepGood
runs_keep_good start new [] g fits run = λ s. subst IsGood (sym (run s)) (g s)
runs_keep_good start new (event ∷ earlier) g fits run = λ s.
    one_good run.0 new event run.2 (runs_keep_good start run.0 earlier g fits.1 run.1) fits.0 s (eqb event.session s) refl
