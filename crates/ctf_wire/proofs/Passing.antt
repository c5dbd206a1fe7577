-- Sequences of pushes and flushes.
use Rattle.std.proofs.Common.{◌≡◌, ℕ, List, [], ◌∷◌, ◌++◌, Option, Some, None, refl, ◌∙◌, ap, append_assoc, append-nil}
use Rattle.ctf_wire.specs.Flushes.{Flushes, and_waits, ended_piece, deliver, after_pieces}

pub and_waits-nil : (known : Option Flushes) → and_waits known [] ≡ known
and_waits-nil None = refl
and_waits-nil (Some f) = ap (λ w. Some (record { pieces = f.pieces; waiting = w })) (append-nil f.waiting)

pub and_waits-more : (known : Option Flushes) (bs more : List ℕ) → and_waits (and_waits known bs) more ≡ and_waits known (bs ++ more)
and_waits-more None bs more = refl
and_waits-more (Some f) bs more = ap (λ w. Some (record { pieces = f.pieces; waiting = w })) (append_assoc f.waiting bs more)

-- a piece was pushed and then flushed
pub piece_ended : (known : Option Flushes) (piece : List ℕ) → ended_piece (and_waits known piece) ≡ after_pieces known (piece ∷ []) []
piece_ended None piece = refl
piece_ended (Some f) piece = refl

-- a prefix was pushed
pub front_waits : (known : Option Flushes) (front : List ℕ) → and_waits known front ≡ after_pieces known [] front
front_waits None front = refl
front_waits (Some f) front = refl

-- pieces were delivered, and then more
delivered-more : (f : Flushes) (pieces more : List (List ℕ)) (front : List ℕ) → deliver (deliver f pieces []) more front ≡ deliver f (pieces ++ more) front
delivered-more f [] more front = ap (λ w. deliver (record { pieces = f.pieces; waiting = w }) more front) (append-nil f.waiting)
delivered-more f (piece ∷ pieces) more front = delivered-more (record { pieces = f.pieces ++ (f.waiting ++ piece) ∷ []; waiting = [] }) pieces more front

pub after_pieces-more : (known : Option Flushes) (pieces more : List (List ℕ)) (front : List ℕ) → after_pieces (after_pieces known pieces []) more front ≡ after_pieces known (pieces ++ more) front
after_pieces-more None pieces more front = refl
after_pieces-more (Some f) pieces more front = ap Some (delivered-more f pieces more front)
