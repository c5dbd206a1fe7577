-- The walk over a section, one record at a time.
use Rattle.std.proofs.Common.{◌≡◌, ℕ, zero, suc, ◌+◌, ◌<◌, ◌≤◌, Bool, true, false, cond, eqb, ltb, leb, List, [], ◌∷◌, length, take, drop, Option, Some, None, Result, Ok, Err, refl, sym, ap, ◌∙◌, arith, lit≤}
use Rattle.std.specs.Option.{option_and_then}
use Rattle.std.proofs.lemmas.List.{length-drop}
use Rattle.std.proofs.lemmas.Option.{cond_some}
use Rattle.std.proofs.lemmas.Bool.{leb-true, eqb-false, ne_eqb}
use Rattle.ctf_model.specs.declared.faults.Fault.{Fault}
use Rattle.ctf_model.specs.declared.kinds.Kind.{Kind}
use Rattle.ctf_model.specs.format.Record.{head_len, is_long, variant_len, size, vlen, kind}
use Rattle.ctf_model.specs.format.Section.{Piece, front_len, fitting, record_or_stop, stop_code, walk}

-- a length that fits is in range
pub fitting_range : (room m n : ℕ) → fitting room m ≡ Some n → (m ≡ n) × (n ≤ room)
fitting_range room m n e = let both = cond_some (leb m room) m n e in let le : m ≤ room = leb-true m room both.0 in (both.1, omega (arith, both.1))

-- a head has 8 bytes or more
head_low : (x : Bool) → 8 ≤ cond x 16 8
head_low true = lit≤ tt
head_low false = lit≤ tt

-- a whole record has 8 bytes or more, and is inside
pub front_len_range : (b : List ℕ) (n : ℕ) → front_len b ≡ Some n → (8 ≤ n) × (n ≤ length b)
unfolding front_len
front_len_range b n e = by_len (ltb (length b) 8) refl e
  where
    by_kind : (k : Option Kind) → option_and_then (λ k. fitting (length b) (head_len b + variant_len k (size b) (vlen b))) k ≡ Some n → (8 ≤ n) × (n ≤ length b)
    by_kind None e = absurd cc
    by_kind (Some k) e = let f = fitting_range (length b) (head_len b + variant_len k (size b) (vlen b)) n e in let low = head_low (is_long b) in (omega (arith, f.0, low), f.1)

    by_len : (short : Bool) → ltb (length b) 8 ≡ short → cond short None (option_and_then (λ k. fitting (length b) (head_len b + variant_len k (size b) (vlen b))) (kind b)) ≡ Some n → (8 ≤ n) × (n ≤ length b)
    by_len true test e = absurd cc
    by_len false test e = by_kind (kind b) e

-- non-empty bytes fail the test for emptiness
not_empty : (b : List ℕ) → 0 < length b → eqb (length b) 0 ≡ false
not_empty b h = ne_eqb (length b) 0 (λ e. absurd (omega arith))

-- bytes that fail it are not empty
pub nonempty : (b : List ℕ) → eqb (length b) 0 ≡ false → 0 < length b
nonempty b e = let ne = eqb-false (length b) 0 e in omega (arith, ne)

-- ---- the result of the walk

-- nothing is read from empty bytes
pub walk_ended : (fuel index at : ℕ) (b : List ℕ) → length b ≡ 0 → walk fuel index at b ≡ []
unfolding walk
walk_ended zero index at b e = refl
walk_ended (suc fuel) index at b e = rw e refl

-- a step depends on the rest only if a record is at the start
step_same : (b : List ℕ) (index at : ℕ) (p q : ℕ → List (Result Piece Fault)) (r : Option ℕ) → ((n : ℕ) → r ≡ Some n → p n ≡ q n) → record_or_stop b index at p r ≡ record_or_stop b index at q r
step_same b index at p q None h = refl
step_same b index at p q (Some n) h = ap (λ (later : List (Result Piece Fault)). Ok (record { index = index; at = at; bytes = take n b }) ∷ later) (h n refl)

-- a bound above the number of bytes changes nothing
pub walk_fuel : (f g index at : ℕ) (b : List ℕ) → length b ≤ f → length b ≤ g → walk f index at b ≡ walk g index at b
unfolding walk
walk_fuel zero g index at b x y = sym (walk_ended g index at b (omega arith))
walk_fuel (suc f) zero index at b x y = walk_ended (suc f) index at b (omega arith)
walk_fuel (suc f) (suc g) index at b x y =
    ap (λ (later : List (Result Piece Fault)). cond (eqb (length b) 0) [] later)
    (step_same b index at _ _ (front_len b) (λ n e. let r = front_len_range b n e in walk_fuel f g (index + 1) (at + n) (drop n b) (omega (arith, r.0, r.1, length-drop n b)) (omega (arith, r.0, r.1, length-drop n b))))

-- without a whole record at the start, the fault of the bytes is read
pub walk_none : (index at : ℕ) (b : List ℕ) → 0 < length b → front_len b ≡ None → walk (length b) index at b ≡ Err (record { code = stop_code b; place = index }) ∷ []
unfolding walk
walk_none index at b h e = go (length b) refl
  where
    go : (n : ℕ) → length b ≡ n → walk n index at b ≡ Err (record { code = stop_code b; place = index }) ∷ []
    go zero k = absurd (omega arith)
    go (suc n) k = let more = not_empty b (omega arith) in rw (more, e) refl

-- a whole record at the start is read, then what follows it
pub walk_some : (index at : ℕ) (b : List ℕ) (n : ℕ) → front_len b ≡ Some n → walk (length b) index at b ≡ Ok (record { index = index; at = at; bytes = take n b }) ∷ walk (length (drop n b)) (index + 1) (at + n) (drop n b)
unfolding walk
walk_some index at b n e = go (length b) refl
  where
    go : (m : ℕ) → length b ≡ m → walk m index at b ≡ Ok (record { index = index; at = at; bytes = take n b }) ∷ walk (length (drop n b)) (index + 1) (at + n) (drop n b)
    go zero k = let r = front_len_range b n e in absurd (omega (arith, r.0, r.1))
    go (suc m) k = let more = not_empty b (omega arith) in let r = front_len_range b n e in rw (more, e) (ap (λ (later : List (Result Piece Fault)). Ok (record { index = index; at = at; bytes = take n b }) ∷ later) (walk_fuel m (length (drop n b)) (index + 1) (at + n) (drop n b) (omega (arith, r.0, r.1, length-drop n b)) (omega arith)))

-- a fault is determined by code and place
fault_is : (f : Fault) (code place : ℕ) → f.code ≡ code → f.place ≡ place → record { code = code; place = place } ≡ f
fault_is f code place p q = rw (← p, ← q) refl

-- the same for a given fault
pub ended_by : (b : List ℕ) (index at : ℕ) (f : Fault) → 0 < length b → front_len b ≡ None → f.code ≡ stop_code b → f.place ≡ index → walk (length b) index at b ≡ Err f ∷ walk 0 index at []
ended_by b index at f h e p q = walk_none index at b h e ∙ ap (λ (g : Fault). Err g ∷ []) (fault_is f (stop_code b) index p q) ∙ ap (λ (later : List (Result Piece Fault)). Err f ∷ later) (sym (walk_ended 0 index at [] refl))

-- the same for a given record and rest
pub took : (b front rest : List ℕ) (index at n : ℕ) → front_len b ≡ Some n → front ≡ take n b → rest ≡ drop n b
    → walk (length b) index at b ≡ Ok (record { index = index; at = at; bytes = front }) ∷ walk (length rest) (index + 1) (at + n) rest
took b front rest index at n e p q = rw (p, q) (walk_some index at b n e)
