-- The record with a number, by its offset.
use Rattle.std.proofs.Common.{◌≡◌, ℕ, zero, suc, ◌+◌, ◌<◌, ◌≤◌, ◌⊎◌, inl, inr, Bool, true, false, eqb, take, drop, List, [], ◌∷◌, length, Option, Some, None, Result, Ok, Err, refl, sym, ap, ◌∙◌, arith}
use Rattle.std.specs.Prelude.{slice_get}
use Rattle.std.specs.Option.{option_map}
use Rattle.std.proofs.lemmas.Bool.{eqb-true, eq-eqb}
use Rattle.ctf_model.specs.rules.Faults.{walk_fault}
use Rattle.ctf_model.specs.format.Section.{Piece, front_len, records}
use Rattle.ctf_model.specs.declared.faults.Fault.{Fault}
use Rattle.ctf_records.specs.Pieces.{piece_numbered}
use Rattle.ctf_records.specs.RecordView.{piece_at}
use Rattle.ctf_chains.proofs.Begins.{AreAt, records_at}

piece_index : (all : List ℕ) (at index : ℕ) (p : Piece) → piece_at all at index ≡ Some p → p.index ≡ index
piece_index all at index p e = by_len (front_len (drop at all)) e
  where
    by_len : (r : Option ℕ) → option_map (λ n. let q : Piece = record { index = index; at = at; bytes = take n (drop at all) } in q) r ≡ Some p → p.index ≡ index
    by_len None e = absurd cc
    by_len (Some n) e = let same : record { index = index; at = at; bytes = take n (drop at all) } ≡ p = cc in sym (ap (λ (q : Piece). q.index) same)

same_number : (n m : ℕ) → n ≡ m → eqb n m ≡ true
same_number n m e = eq-eqb n m e

other_number : (n m : ℕ) → n < m → eqb n m ≡ false
other_number n m lt = at (eqb n m) refl
  where
    at : (b : Bool) → eqb n m ≡ b → b ≡ false
    at true e = let same : n ≡ m = eqb-true n m e in absurd (omega arith)
    at false e = refl

numbered_from : (all : List ℕ) (rs : List (Result Piece Fault)) (first i : ℕ) (p : Piece) → walk_fault rs ≡ None → AreAt all first rs → slice_get rs i ≡ Some (Ok p) → (n : ℕ) → n ≡ i + first → piece_numbered rs n ≡ Some p
numbered_from all [] first i p whole are e n is = absurd cc
numbered_from all (Ok q ∷ rs) first zero p whole are e n is =
    let same : q ≡ p = cc in
    let index : q.index ≡ n = piece_index all q.at first q are.0 ∙ omega arith in
    rw (same_number q.index n index) (ap Some same)
numbered_from all (Ok q ∷ rs) first (suc i) p whole are e n is =
    let index : q.index ≡ first = piece_index all q.at first q are.0 in
    rw (other_number q.index n (omega arith)) (numbered_from all rs (first + 1) i p whole are.1 e n (omega arith))
numbered_from all (Err f ∷ rs) first i p whole are e n is = absurd cc

-- the record at an offset is the one with the number
pub found_numbered : (all : List ℕ) (index i : ℕ) (p : Piece) → walk_fault (records all) ≡ None → slice_get (records all) i ≡ Some (Ok p) → index ≡ i + 1 → piece_numbered (records all) index ≡ Some p
found_numbered all index i p whole e is = numbered_from all (records all) 1 i p whole (records_at all) e index is

none_from : (all : List ℕ) (rs : List (Result Piece Fault)) (first n : ℕ) → walk_fault rs ≡ None → AreAt all first rs → (n < first) ⊎ (first + length rs ≤ n) → piece_numbered rs n ≡ None
none_from all [] first n whole are out = refl
none_from all (Ok q ∷ rs) first n whole are out =
    let index : q.index ≡ first = piece_index all q.at first q are.0 in
    rw (off q.index n index out) (none_from all rs (first + 1) n whole are.1 (later out))
  where
    off : (m n : ℕ) → m ≡ first → (n < first) ⊎ (first + suc (length rs) ≤ n) → eqb m n ≡ false
    off m n is h = at (eqb m n) refl
      where
        at : (b : Bool) → eqb m n ≡ b → b ≡ false
        at true e = let same : m ≡ n = eqb-true m n e in absurd (omega arith)
        at false e = refl

    later : (n < first) ⊎ (first + suc (length rs) ≤ n) → (n < first + 1) ⊎ (first + 1 + length rs ≤ n)
    later (inl h) = inl (omega arith)
    later (inr h) = inr (omega arith)
none_from all (Err f ∷ rs) first n whole are out = absurd cc

-- a number without a record
pub none_numbered : (all : List ℕ) (index : ℕ) → walk_fault (records all) ≡ None → (index < 1) ⊎ (1 + length (records all) ≤ index) → piece_numbered (records all) index ≡ None
none_numbered all index whole out = none_from all (records all) 1 index whole (records_at all) out
