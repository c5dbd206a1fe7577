-- A broker answers lines as each session's own run does, by induction on the lines.
use Rattle.std.proofs.Common.{◌≡◌, ◌≢◌, ◌≤◌, ℕ, List, [], ◌∷◌, length, Bool, true, false, None, Some, Ok, Err, Result, eqb, leb, refl, ◌∙◌, ap, sym, subst, arith, ◌⊎◌, inl, inr}
use Rattle.std.proofs.lemmas.Bool.{leb-false}
use Rattle.std.proofs.lemmas.Bool.Decides.{nat_tests}
use Rattle.ctf_protocol.specs.lines.Ask.{ask}
use Rattle.ctf_protocol.specs.lines.Lines.{stored_line}
use Rattle.ctf_protocol.specs.lines.Output.{Mark, answered, refused, unread, line_out, calls_after, out, calls_made}
use Rattle.ctf_protocol.specs.lines.ReplyLines.{reply_line}
use Rattle.ctf_protocol.specs.sessions.Runs.{Call, Steps, IsGranted, IsRefused, found_in, own_state, address_to, no_memory}
use Rattle.ctf_protocol.specs.sessions.State.{State}
use Rattle.ctf_protocol.specs.sessions.Outcomes.{Outcome}
use Rattle.ctf_protocol.specs.sessions.Steps.{step}
use Rattle.ctf_model.specs.declared.faults.Fault.{Fault}
use Rattle.ctf_protocol.specs.answers.Answers.{Reply}
use Rattle.ctf_protocol.specs.declared.requests.Request.{Request}
use Rattle.ctf_protocol.proofs.Asking.{ask-long}
use Rattle.ctf_protocol.proofs.SessionRuns.{found_same}
use Rattle.ctf_wire.specs.Memory.{IsGrantedUnless, MayNeedMemory}
use Rattle.ctf_wire.specs.Served.{Answers}
use Rattle.ctf_laws.proofs.Promises.{own_runs_stay_good}
use Rattle.ctf_laws.proofs.Replied.{runs_reply_rightly}
use Rattle.ctf_laws.specs.Good.{IsGood}
use Rattle.ctf_laws.specs.Replied.{AreReplies}
use Rattle.ctf_wire.specs.Serving.{AllStay, AreMarked, BrokerStep, IsMarked, LineSteps, MayWant, Reacts, ServesAlone}
use Rattle.ctf_broker.specs.Table.{Libraries, library_at}

-- the effect of a line: reading it ran out of memory, or it was answered
abbrev Did : (ℕ → State) → List ℕ → List ℕ → (ℕ → State) → Type 0
Did old line written new = (MayWant (Some line) × (written ≡ reply_line (no_memory 0)) × AllStay old new) ⊎ Reacts old (ask line) written new

-- a line that is too long to be stored is refused like its placeholder
did_stored : (old new : ℕ → State) (line written : List ℕ) → LineSteps old (stored_line line) written new → Did old line written new
did_stored old new line written = by_length (leb (length line) 1048576) refl
  where
    none : leb (length line) 1048576 ≡ false → LineSteps old None written new → Did old line written new
    none e (inl never) = absurd never.0
    none e (inr said) =
        let long = leb-false (length line) 1048576 e in
        inr (subst (λ (r : Result (ℕ × Request) (ℕ × Fault)). Reacts old r written new) (sym (ask-long line (omega (arith, long)))) said)

    by_length : (t : Bool) → leb (length line) 1048576 ≡ t → LineSteps old (stored_line line) written new → Did old line written new
    by_length true e h = let here : LineSteps old (Some line) written new = rw e at h in here
    by_length false e h = let gone : LineSteps old None written new = rw e at h in none e gone

-- each library is that of its own run after the history
abbrev Holds : (ℕ → State) → List Call → (ℕ → State) → Type 0
Holds start calls now = (s : ℕ) → now s ≡ own_state start calls s

-- the step in a library of an own run
own_step : (start now : ℕ → State) (calls : List Call) (s : ℕ) (request : Request) → Holds start calls now → step (now s) request (found_in now request) ≡ step (own_state start calls s) request (found_in (own_state start calls) request)
own_step start now calls s request held =
    ap (λ (l : State). step l request (found_in now request)) (held s) ∙ ap (step (own_state start calls s) request) (found_same now (own_state start calls) request held)

-- a granted call joins the history
granted_holds : (start old new : ℕ → State) (calls : List Call) (s : ℕ) (request : Request) (reply : Reply) → Holds start calls old → Steps old s request reply new → IsGranted old s request reply new
    → (q : ℕ) (t : Bool) → eqb s q ≡ t → new q ≡ own_state start (record { session = s; request = request } ∷ calls) q
granted_holds start old new calls s request reply held st m q false t =
    let other : q ≢ s = λ e. let hit : eqb s s ≡ false = subst (λ (x : ℕ). eqb s x ≡ false) e t in grind (arith, nat_tests, hit) in
    rw t (st.others q other ∙ held q)
granted_holds start old new calls s request reply held st m q true t =
    let same : s ≡ q = grind (arith, nat_tests, t) in
    let here : new q ≡ (step (own_state start calls s) request (found_in (own_state start calls) request)).state =
    ap new (sym same) ∙ m.1 ∙ ap (λ (o : Outcome). o.state) (own_step start old calls s request held) in
    rw t (here ∙ ap (λ (x : ℕ). (step (own_state start calls x) request (found_in (own_state start calls) request)).state) same)

-- a call ran out of memory: all libraries are unchanged
refused_stays : (old new : ℕ → State) (s : ℕ) (request : Request) (reply : Reply) → Steps old s request reply new → IsRefused old s reply new → (q : ℕ) (t : Bool) → eqb s q ≡ t → new q ≡ old q
refused_stays old new s request reply st m q true t =
    let same : s ≡ q = grind (arith, nat_tests, t) in
    let P : ℕ → Type 0 = λ x. new x ≡ old x in
    subst P same m.1
refused_stays old new s request reply st m q false t =
    let other : q ≢ s = λ e. let hit : eqb s s ≡ false = subst (λ (x : ℕ). eqb s x ≡ false) e t in grind (arith, nat_tests, hit) in
    st.others q other

-- the mark of a line, its output, and that the libraries are those of own runs after it
record Done (start : ℕ → State) (calls : List Call) (line : List ℕ) (said : Result (ℕ × Request) (ℕ × Fault)) (written : List ℕ) (new : ℕ → State) : Type 0 where
  pub mark : Mark
  pub marked : IsMarked (own_state start calls) line said mark
  pub wrote : written ≡ line_out start calls mark said
  pub holds : Holds start (calls_after calls mark said) new

refused_done : (start old new : ℕ → State) (calls : List Call) (line : List ℕ) (s : ℕ) (request : Request) (reply : Reply) (written : List ℕ) → Holds start calls old → written ≡ reply_line reply → Steps old s request reply new
    → MayNeedMemory s (old s) request → IsRefused old s reply new → Done start calls line (Ok (s, request)) written new
refused_done start old new calls line s request reply written held w st may m = record {
  mark = refused;
  marked = subst (λ (l : State). MayNeedMemory s l request) (held s) may;
  wrote = w ∙ ap reply_line m.0;
  holds = λ q. refused_stays old new s request reply st m q (eqb s q) refl ∙ held q;
}

granted_done : (start old new : ℕ → State) (calls : List Call) (line : List ℕ) (s : ℕ) (request : Request) (reply : Reply) (written : List ℕ) → Holds start calls old → written ≡ reply_line reply → Steps old s request reply new
    → IsGranted old s request reply new → Done start calls line (Ok (s, request)) written new
granted_done start old new calls line s request reply written held w st m = record {
  mark = answered;
  marked = tt;
  wrote = w ∙ ap reply_line (m.0 ∙ ap (λ (o : Outcome). address_to s o.reply) (own_step start old calls s request held));
  holds = λ q. granted_holds start old new calls s request reply held st m q (eqb s q) refl;
}

request_done : (start old new : ℕ → State) (calls : List Call) (line : List ℕ) (s : ℕ) (request : Request) (reply : Reply) (written : List ℕ) → Holds start calls old → written ≡ reply_line reply → Steps old s request reply new
    → IsGrantedUnless old s request reply new → IsGranted old s request reply new ⊎ IsRefused old s reply new → Done start calls line (Ok (s, request)) written new
request_done start old new calls line s request reply written held w st (inl granted) own = granted_done start old new calls line s request reply written held w st granted
request_done start old new calls line s request reply written held w st (inr may) (inl granted) = granted_done start old new calls line s request reply written held w st granted
request_done start old new calls line s request reply written held w st (inr may) (inr m) = refused_done start old new calls line s request reply written held w st may m

said_done : (start old new : ℕ → State) (calls : List Call) (line : List ℕ) (said : Result (ℕ × Request) (ℕ × Fault)) (written : List ℕ) → Holds start calls old → Reacts old said written new → Done start calls line said written new
said_done start old new calls line (Err refusal) written held told = record { mark = answered; marked = tt; wrote = told.0; holds = λ q. told.1 q ∙ held q }
said_done start old new calls line (Ok said) written held told = request_done start old new calls line said.0 said.1 told.0 written held told.1 told.2 told.3 told.2.own

line_done : (start old new : ℕ → State) (calls : List Call) (line : List ℕ) (written : List ℕ) → Holds start calls old → Did old line written new → Done start calls line (ask line) written new
line_done start old new calls line written held (inl none) = record { mark = unread; marked = none.0; wrote = none.1; holds = λ q. none.2 q ∙ held q }
line_done start old new calls line written held (inr told) = said_done start old new calls line (ask line) written held told

-- the same for all lines that follow a history
record RunsOn (start : ℕ → State) (calls : List Call) (lines replies : List (List ℕ)) (new : ℕ → State) : Type 0 where
  pub marks : List Mark
  pub marked : AreMarked start calls lines marks
  pub replies_are : replies ≡ out start calls lines marks
  pub libraries_are : Holds start (calls_made calls lines marks) new

runs_on : (start : ℕ → State) (calls : List Call) (old new : Libraries) (lines replies : List (List ℕ)) → Holds start calls (library_at old) → Answers BrokerStep old lines replies new → RunsOn start calls lines replies (library_at new)
runs_on start calls old new [] [] held a = record {
  marks = [];
  marked = tt;
  replies_are = refl;
  libraries_are = λ s. ap (λ (es : Libraries). library_at es s) a ∙ held s;
}
runs_on start calls old new [] (reply ∷ replies) held a = absurd a
runs_on start calls old new (line ∷ lines) [] held a = absurd a
runs_on start calls old new (line ∷ lines) (reply ∷ replies) held a =
    let d = line_done start (library_at old) (library_at a.0) calls line reply held (did_stored (library_at old) (library_at a.0) line reply a.1) in
    let rest = runs_on start (calls_after calls d.mark (ask line)) a.0 new lines replies d.holds a.2 in
    record {
      marks = d.mark ∷ rest.marks;
      marked = (d.marked, rest.marked);
      replies_are = ap (λ (r : List ℕ). r ∷ replies) d.wrote ∙ ap (λ (rs : List (List ℕ)). line_out start calls d.mark (ask line) ∷ rs) rest.replies_are;
      libraries_are = rest.libraries_are;
    }

pub serves_alone : ServesAlone
serves_alone old new lines replies a =
    let runs = runs_on (library_at old) [] old new lines replies (λ s. refl) a in
    record {
      marks = runs.marks;
      marked = runs.marked;
      replies_are = runs.replies_are;
      libraries_are = runs.libraries_are;
      right = λ g. subst (AreReplies (library_at old) lines runs.marks) (sym runs.replies_are) (runs_reply_rightly (library_at old) lines runs.marks g);
      good = λ g s. subst IsGood (sym (runs.libraries_are s)) (own_runs_stay_good (library_at old) lines runs.marks g s);
    }
