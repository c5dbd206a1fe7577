-- The offsets of a section's records, and the record at each offset.
use Rattle.std.proofs.Common.{◌≡◌, ℕ, zero, suc, ◌+◌, ◌-◌, ◌<◌, ◌≤◌, Bool, true, false, cond, eqb, List, [], ◌∷◌, length, take, drop, Option, Some, None, Result, Ok, Err, get_or, refl, sym, ap, subst, ◌∙◌, arith}
use Rattle.std.specs.Prelude.{slice_get, slice_index}
use Rattle.std.specs.Option.{option_map}
use Rattle.std.proofs.lemmas.Bool.{eqb-true}
use Rattle.std.proofs.lemmas.Grind.{get_or_default_zero}
use Rattle.std.proofs.lemmas.List.{drop-drop, length-drop}
use Rattle.ctf_model.specs.rules.Faults.{walk_fault}
use Rattle.ctf_model.specs.format.Section.{Piece, front_len, record_or_stop, walk, records}
use Rattle.ctf_model.specs.declared.faults.Fault.{Fault}
use Rattle.ctf_model.proofs.Walk.{front_len_range}
use Rattle.ctf_records.specs.RecordView.{piece_at}
use Rattle.ctf_chains.specs.Starts.{starts_in}

-- each record is the one at its offset, with ascending numbers
abbrev pub AreAt : List ℕ → ℕ → List (Result Piece Fault) → Type 0
AreAt all index [] = Unit {0}
AreAt all index (Ok p ∷ rest) = (piece_at all p.at index ≡ Some p) × AreAt all (index + 1) rest
AreAt all index (Err f ∷ rest) = AreAt all index rest

at_ended : (all : List ℕ) (index : ℕ) (ended : Bool) (rs : List (Result Piece Fault)) → AreAt all index rs → AreAt all index (cond ended [] rs)
at_ended all index true rs h = tt
at_ended all index false rs h = h

at_step : (all b : List ℕ) (index at : ℕ) (later : ℕ → List (Result Piece Fault)) (r : Option ℕ) → b ≡ drop at all → front_len b ≡ r → ((n : ℕ) → AreAt all (index + 1) (later n)) → AreAt all index (record_or_stop b index at later r)
at_step all b index at later None same e h = tt
at_step all b index at later (Some n) same e h =
    let front : front_len (drop at all) ≡ Some n = ap front_len (sym same) ∙ e in
    (rw (front, same) refl, h n)

walk_at : (all : List ℕ) (bound index at : ℕ) (b : List ℕ) → b ≡ drop at all → AreAt all index (walk bound index at b)
unfolding walk
walk_at all zero index at b same = tt
walk_at all (suc bound) index at b same =
    at_ended all index (eqb (length b) 0) _
    (at_step all b index at _ (front_len b) same refl (λ n. walk_at all bound (index + 1) (at + n) (drop n b) (ap (drop n) same ∙ drop-drop n at all)))

-- this holds of the records of a section
pub records_at : (all : List ℕ) → AreAt all 1 (records all)
records_at all = walk_at all (length all) 1 0 all refl

-- a record at an offset leaves room after it
pub at_inside : (all : List ℕ) (at index : ℕ) (p : Piece) → piece_at all at index ≡ Some p → at + 8 ≤ length all
at_inside all at index p e = by_len (front_len (drop at all)) refl e
  where
    by_len : (r : Option ℕ) → front_len (drop at all) ≡ r → option_map (λ n. let q : Piece = record { index = index; at = at; bytes = take n (drop at all) } in q) r ≡ Some p → at + 8 ≤ length all
    by_len None h e = absurd cc
    by_len (Some n) h e = let range = front_len_range (drop at all) n h in omega (arith, range.0, range.1, length-drop at all)

-- there are as many offsets as records
pub starts_count : (rs : List (Result Piece Fault)) → walk_fault rs ≡ None → length (starts_in rs) ≡ length rs
starts_count [] whole = refl
starts_count (Ok p ∷ rs) whole = ap suc (starts_count rs whole)
starts_count (Err f ∷ rs) whole = absurd cc

-- the record with index `i` is at offset `at`
pub record FoundAt (all : List ℕ) (first at : ℕ) (rs : List (Result Piece Fault)) (i : ℕ) : Type 0 where
  pub piece : Piece
  pub got : slice_get rs i ≡ Some (Ok piece)
  pub begins : piece_at all at (i + first) ≡ Some piece

found_at : (all : List ℕ) (first : ℕ) (rs : List (Result Piece Fault)) (i : ℕ) → walk_fault rs ≡ None → AreAt all first rs → i < length (starts_in rs) → FoundAt all first (slice_index (starts_in rs) i) rs i
found_at all first [] i whole are lt = absurd (omega arith)
found_at all first (Ok p ∷ rs) zero whole are lt =
    let same : 0 + first ≡ first = omega arith in
    record { piece = p; got = refl; begins = rw same are.0 }
found_at all first (Ok p ∷ rs) (suc i) whole are lt =
    let later = found_at all (first + 1) rs i whole are.1 (omega arith) in
    let same : suc i + first ≡ i + (first + 1) = omega arith in
    record { piece = later.piece; got = later.got; begins = rw same later.begins }
found_at all first (Err f ∷ rs) i whole are lt = absurd cc

-- the same for an offset from the list of all offsets
pub record_found : (all starts : List ℕ) (i at : ℕ) → walk_fault (records all) ≡ None → starts ≡ starts_in (records all) → i < length starts → at ≡ get_or starts i at → FoundAt all 1 at (records all) i
record_found all starts i at whole begin lt read =
    let inside : i < length (starts_in (records all)) = omega (arith, ap length begin) in
    let here : slice_index (starts_in (records all)) i ≡ at = sym (read ∙ get_or_default_zero starts i at lt ∙ ap (λ (xs : List ℕ). get_or xs i 0) begin) in
    subst (λ (place : ℕ). FoundAt all 1 place (records all) i) here (found_at all 1 (records all) i whole (records_at all) inside)

-- ---- ends of records

-- each record begins where the previous one ends, and the last one ends with the section
abbrev pub FollowOn : List ℕ → ℕ → List (Result Piece Fault) → Type 0
FollowOn all at [] = at ≡ length all
FollowOn all at (Ok p ∷ rest) = (p.at ≡ at) × ((n : ℕ) × (front_len (drop at all) ≡ Some n) × FollowOn all (at + n) rest)
FollowOn all at (Err f ∷ rest) = Unit {0}

follows_step : (all b : List ℕ) (index at : ℕ) (later : ℕ → List (Result Piece Fault)) (r : Option ℕ) → b ≡ drop at all → front_len b ≡ r → ((n : ℕ) → front_len b ≡ Some n → FollowOn all (at + n) (later n)) → FollowOn all at (record_or_stop b index at later r)
follows_step all b index at later None same e h = tt
follows_step all b index at later (Some n) same e h = (refl, (n, ap front_len (sym same) ∙ e, h n e))

follows_end : (all : List ℕ) (at left : ℕ) (ended : Bool) (rs : List (Result Piece Fault)) → eqb left 0 ≡ ended → at + left ≡ length all → FollowOn all at rs → FollowOn all at (cond ended [] rs)
follows_end all at left true rs e ends h = omega (arith, ends, eqb-true left 0 e)
follows_end all at left false rs e ends h = h

walk_follows : (all : List ℕ) (bound index at : ℕ) (b : List ℕ) → b ≡ drop at all → at + length b ≡ length all → length b ≤ bound → FollowOn all at (walk bound index at b)
unfolding walk
walk_follows all zero index at b same ends few = omega (arith, ends, few)
walk_follows all (suc bound) index at b same ends few =
    follows_end all at (length b) (eqb (length b) 0) _ refl ends
    (follows_step all b index at _ (front_len b) same refl (λ n e.
    let range = front_len_range b n e in
    walk_follows all bound (index + 1) (at + n) (drop n b) (ap (drop n) same ∙ drop-drop n at all) (omega (arith, range.0, range.1, ends, length-drop n b)) (omega (arith, range.0, range.1, few, length-drop n b))))

first_begins : (all : List ℕ) (at : ℕ) (rs : List (Result Piece Fault)) → walk_fault rs ≡ None → FollowOn all at rs → get_or (starts_in rs) 0 (length all) ≡ at
first_begins all at [] whole on = sym on
first_begins all at (Ok p ∷ rs) whole on = on.0
first_begins all at (Err f ∷ rs) whole on = absurd cc

ends_at : (all : List ℕ) (at : ℕ) (rs : List (Result Piece Fault)) (i : ℕ) → walk_fault rs ≡ None → FollowOn all at rs → i < length (starts_in rs) → front_len (drop (get_or (starts_in rs) i 0) all) ≡ Some (get_or (starts_in rs) (suc i) (length all) - get_or (starts_in rs) i 0)
ends_at all at [] i whole on lt = absurd (omega arith)
ends_at all at (Ok p ∷ rs) zero whole on lt =
    let next : get_or (starts_in rs) 0 (length all) ≡ at + on.1.0 = first_begins all (at + on.1.0) rs whole on.1.2 in
    let len : (at + on.1.0) - at ≡ on.1.0 = omega arith in
    rw (on.0, next, len) on.1.1
ends_at all at (Ok p ∷ rs) (suc i) whole on lt = ends_at all (at + on.1.0) rs i whole on.1.2 (omega arith)
ends_at all at (Err f ∷ rs) i whole on lt = absurd cc

-- the length of a record is the distance to the next one, or to the end of the section
pub len_found : (all starts : List ℕ) (i : ℕ) → walk_fault (records all) ≡ None → starts ≡ starts_in (records all) → i < length starts → front_len (drop (get_or starts i 0) all) ≡ Some (get_or starts (i + 1) (length all) - get_or starts i 0)
len_found all starts i whole begin lt =
    let inside : i < length (starts_in (records all)) = omega (arith, ap length begin) in
    let next : i + 1 ≡ suc i = omega arith in
    rw (begin, next) (ends_at all 0 (records all) i whole (walk_follows all (length all) 1 0 all refl (omega arith) (omega arith)) inside)
