-- The replies of own runs are correct, by induction on the lines.
use Rattle.std.proofs.Common.{◌≡◌, ℕ, zero, suc, List, [], ◌∷◌, length, take, Bool, true, false, Some, Result, Ok, Err, eqb, refl, ap, sym, subst, ◌∙◌, arith}
use Rattle.std.proofs.lemmas.Bool.Decides.{nat_tests}
use Rattle.std.specs.Prelude.{slice_get}
use Rattle.ctf_model.specs.declared.faults.Fault.{Fault}
use Rattle.ctf_protocol.specs.lines.Ask.{ask}
use Rattle.ctf_protocol.specs.lines.Output.{Mark, answered, calls_after, calls_made, line_out, out, refused, unread}
use Rattle.ctf_protocol.specs.sessions.Runs.{Call, found_in, own_state}
use Rattle.ctf_protocol.specs.sessions.State.{State}
use Rattle.ctf_protocol.specs.sessions.Steps.{step}
use Rattle.ctf_protocol.specs.declared.requests.Request.{Request}
use Rattle.ctf_laws.proofs.Asked.{lines_fit}
use Rattle.ctf_laws.proofs.Promises.{calls_good, made_fit}
use Rattle.ctf_laws.proofs.Right.{steps_right}
use Rattle.ctf_laws.proofs.Runs.{found_is_faultless}
use Rattle.ctf_laws.specs.Good.{AreGood}
use Rattle.ctf_laws.specs.Replied.{IsWritten, RunsReplyRightly, mark_at}
use Rattle.ctf_laws.specs.Right.{IsRight}

-- ---- every line

-- the library after a call is that of the call's step
own_after : (start : ℕ → State) (calls : List Call) (s : ℕ) (request : Request) (t : Bool) → eqb s s ≡ t → own_state start (record { session = s; request = request } ∷ calls) s ≡ (step (own_state start calls s) request (found_in (own_state start calls) request)).state
own_after start calls s request true t = rw t refl
own_after start calls s request false t = grind (arith, nat_tests, t)

writes : (start : ℕ → State) (calls : List Call) (mark : Mark) (line : List ℕ) (said : Result (ℕ × Request) (ℕ × Fault)) → ask line ≡ said → AreGood (own_state start calls) → IsWritten start calls mark said (line_out start calls mark said)
writes start calls unread line said e g = refl
writes start calls refused line said e g = refl
writes start calls answered line (Err refusal) e g = refl
writes start calls answered line (Ok said) e g =
    let old = own_state start calls said.0 in
    let o = step old said.1 (found_in (own_state start calls) said.1) in
    record {
      said = o.reply.outcome;
      written = refl;
      right = subst (IsRight old said.1 (found_in (own_state start calls) said.1) o.reply.outcome) (sym (own_after start calls said.0 said.1 (eqb said.0 said.0) refl)) (steps_right old said.1 (found_in (own_state start calls) said.1) (g said.0) (lines_fit line said e) (found_is_faultless (own_state start calls) said.1 g));
    }

-- ---- every run

each_line : (start : ℕ → State) (calls : List Call) (lines : List (List ℕ)) (marks : List Mark) → length (out start calls lines marks) ≡ length lines
each_line start calls [] marks = refl
each_line start calls (line ∷ lines) [] = ap suc (each_line start (calls_after calls answered (ask line)) lines [])
each_line start calls (line ∷ lines) (mark ∷ marks) = ap suc (each_line start (calls_after calls mark (ask line)) lines marks)

-- reply number `k` after a history
written_at : (start : ℕ → State) (calls : List Call) (lines : List (List ℕ)) (marks : List Mark) (k : ℕ) (line reply : List ℕ) → slice_get lines k ≡ Some line → slice_get (out start calls lines marks) k ≡ Some reply → reply ≡ line_out start (calls_made calls (take k lines) marks) (mark_at k marks) (ask line)
written_at start calls [] marks k line reply at there = absurd cc
written_at start calls (x ∷ lines) [] zero line reply at there =
    let same : x ≡ line = cc in
    let wrote : line_out start calls answered (ask x) ≡ reply = cc in
    sym wrote ∙ ap (λ (l : List ℕ). line_out start calls answered (ask l)) same
written_at start calls (x ∷ lines) (mark ∷ marks) zero line reply at there =
    let same : x ≡ line = cc in
    let wrote : line_out start calls mark (ask x) ≡ reply = cc in
    sym wrote ∙ ap (λ (l : List ℕ). line_out start calls mark (ask l)) same
written_at start calls (x ∷ lines) [] (suc k) line reply at there = written_at start (calls_after calls answered (ask x)) lines [] k line reply at there
written_at start calls (x ∷ lines) (mark ∷ marks) (suc k) line reply at there = written_at start (calls_after calls mark (ask x)) lines marks k line reply at there

pub runs_reply_rightly : RunsReplyRightly
runs_reply_rightly start lines marks g = record {
  each = each_line start [] lines marks;
  right = λ k line reply at there.
      let calls = calls_made [] (take k lines) marks in
      let good : AreGood (own_state start calls) = calls_good start calls g (made_fit [] (take k lines) marks tt) in
      subst (IsWritten start calls (mark_at k marks) (ask line)) (sym (written_at start [] lines marks k line reply at there)) (writes start calls (mark_at k marks) line (ask line) refl good);
}
