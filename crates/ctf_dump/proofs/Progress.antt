-- A text written piece by piece.
use Rattle.std.proofs.Common.{ℕ, List, [], ◌++◌, Some, None, refl, sym, ap, subst, ◌∙◌, append_assoc, append-nil}
use Rattle.std.specs.Prelude.{Option}
use Rattle.std.specs.Io.KnownBytes.{Appends, Keeps}
use Rattle.std.proofs.KnownBytes.{Appends-nil, Appends-trans}
use Rattle.ctf_dump.specs.Progress.{HasBegun, HasWritten}

-- nothing is written yet
pub nothing_yet : (a : Option (List ℕ)) (all : List ℕ) → HasWritten a a all all
nothing_yet a all = record { done = []; written = Appends-nil a; joined = refl }

-- one more piece
pub one_more : (a b c : Option (List ℕ)) (all piece rest : List ℕ) → HasWritten a b all (piece ++ rest) → Appends b c piece → HasWritten a c all rest
one_more a b c all piece rest w p =
    record {
      done = w.done ++ piece;
      written = Appends-trans a b c w.done piece w.written p;
      joined = append_assoc w.done piece rest ∙ w.joined;
    }

-- nothing is left
pub all_done : (a b : Option (List ℕ)) (all : List ℕ) → HasWritten a b all [] → Appends a b all
all_done a b all w = subst (Appends a b) (sym (append-nil w.done) ∙ w.joined) w.written

-- nothing of it was written
pub not_begun : (a b : Option (List ℕ)) (all : List ℕ) → Keeps a b → HasBegun a b all
not_begun None b all keeps = record { rest = all; front = record { done = []; written = keeps; joined = refl } }
not_begun (Some xs) None all keeps = absurd keeps
not_begun (Some xs) (Some ys) all keeps = record { rest = all; front = record { done = []; written = keeps ∙ sym (append-nil xs); joined = refl } }

-- nothing was written, and nothing changed
pub begun_nothing : (a : Option (List ℕ)) (all : List ℕ) → HasBegun a a all
begun_nothing a all = record { rest = all; front = nothing_yet a all }

-- pieces were written, then a prefix of the next one
pub begun_next : (a b c : Option (List ℕ)) (all piece rest : List ℕ) → HasWritten a b all (piece ++ rest) → HasBegun b c piece → HasBegun a c all
begun_next a b c all piece rest w begun =
    let front = begun.front in
    record {
      rest = begun.rest ++ rest;
      front = one_more a b c all front.done (begun.rest ++ rest) (subst (HasWritten a b all) (ap (λ (xs : List ℕ). xs ++ rest) (sym front.joined) ∙ append_assoc front.done begun.rest rest) w) front.written;
    }

-- a prefix of the first part is a prefix of the whole
pub begun_front : (a b : Option (List ℕ)) (first second : List ℕ) → HasBegun a b first → HasBegun a b (first ++ second)
begun_front a b first second begun =
    let front = begun.front in
    record {
      rest = begun.rest ++ second;
      front = record { done = front.done; written = front.written; joined = sym (append_assoc front.done begun.rest second) ∙ ap (λ (xs : List ℕ). xs ++ second) front.joined };
    }

-- so is the first part with a prefix of the second
pub begun_behind : (a b c : Option (List ℕ)) (first second : List ℕ) → Appends a b first → HasBegun b c second → HasBegun a c (first ++ second)
begun_behind a b c first second written begun =
    let front = begun.front in
    record {
      rest = begun.rest;
      front = record {
        done = first ++ front.done;
        written = Appends-trans a b c first front.done written front.written;
        joined = append_assoc first front.done begun.rest ∙ ap (λ (xs : List ℕ). first ++ xs) front.joined;
      };
    }
