-- Own runs keep good libraries good, by induction on the calls in lines.
use Rattle.std.proofs.Common.{◌≡◌, ℕ, List, [], ◌∷◌, Bool, true, false, Result, Ok, Err, eqb, refl}
use Rattle.std.specs.List.{AllByRecursion}
use Rattle.ctf_model.specs.declared.faults.Fault.{Fault}
use Rattle.ctf_protocol.specs.lines.Ask.{ask}
use Rattle.ctf_protocol.specs.lines.Output.{Mark, answered, calls_after, calls_made, refused, unread}
use Rattle.ctf_protocol.specs.sessions.Runs.{Call, found_in, own_state}
use Rattle.ctf_protocol.specs.sessions.State.{State}
use Rattle.ctf_protocol.specs.declared.requests.Request.{Request}
use Rattle.ctf_laws.proofs.Asked.{lines_fit}
use Rattle.ctf_laws.proofs.Runs.{found_is_faultless}
use Rattle.ctf_laws.proofs.Steps.{steps_keep_good}
use Rattle.ctf_laws.specs.Good.{AreGood, FitsRequest, IsGood}
use Rattle.ctf_laws.specs.GoodLaws.{OwnRunsStayGood}

-- calls whose numbers fit
abbrev pub AllFit : List Call → Type 0
AllFit calls = AllByRecursion (λ call. FitsRequest call.request) calls

one_call : (start : ℕ → State) (call : Call) (earlier : List Call) → AreGood (own_state start earlier) → FitsRequest call.request → (s : ℕ) (t : Bool) → eqb call.session s ≡ t → IsGood (own_state start (call ∷ earlier) s)
one_call start call earlier g fits s true t = rw t (steps_keep_good (own_state start earlier s) call.request (found_in (own_state start earlier) call.request) (g s) fits (found_is_faultless (own_state start earlier) call.request g))
one_call start call earlier g fits s false t = rw t (g s)

pub calls_good : (start : ℕ → State) (calls : List Call) → AreGood start → AllFit calls → AreGood (own_state start calls)
calls_good start [] g fits = g
calls_good start (call ∷ earlier) g fits = λ s. one_call start call earlier (calls_good start earlier g fits.1) fits.0 s (eqb call.session s) refl

pub after_fits : (calls : List Call) (mark : Mark) (line : List ℕ) (said : Result (ℕ × Request) (ℕ × Fault)) → ask line ≡ said → AllFit calls → AllFit (calls_after calls mark said)
after_fits calls unread line said e h = h
after_fits calls refused line said e h = h
after_fits calls answered line (Err refusal) e h = h
after_fits calls answered line (Ok said) e h = (lines_fit line said e, h)

pub made_fit : (calls : List Call) (lines : List (List ℕ)) (marks : List Mark) → AllFit calls → AllFit (calls_made calls lines marks)
made_fit calls [] marks h = h
made_fit calls (line ∷ lines) [] h = made_fit (calls_after calls answered (ask line)) lines [] (after_fits calls answered line (ask line) refl h)
made_fit calls (line ∷ lines) (mark ∷ marks) h = made_fit (calls_after calls mark (ask line)) lines marks (after_fits calls mark line (ask line) refl h)

pub own_runs_stay_good : OwnRunsStayGood
own_runs_stay_good start lines marks g = calls_good start (calls_made [] lines marks) g (made_fit [] lines marks tt)
