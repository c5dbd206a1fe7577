-- Reading record by record gives the one cut of the bytes.
use Rattle.std.proofs.Common.{◌≡◌, ℕ, zero, suc, ◌+◌, ◌≤◌, Bool, true, false, cond, eqb, ltb, leb, List, [], ◌∷◌, ◌++◌, length, take, drop, Option, Some, None, Result, Ok, refl, sym, ap, subst, ◌∙◌, arith}
use Rattle.std.specs.Prelude.{MatchOption, is_none, ◌&&◌}
use Rattle.std.specs.List.{concat, AllByRecursion}
use Rattle.std.specs.Option.{option_and_then}
use Rattle.std.specs.Bool.{Decides}
use Rattle.std.proofs.lemmas.Bool.{le-leb, le-ltb, leb-true, eqb-true, and_parts}
use Rattle.std.proofs.lemmas.List.{take-append-drop, take_at, drop_at, append_assoc, length-append, length-take, length-drop}
use Rattle.std.proofs.lemmas.Option.{same_Some}
use Rattle.ctf_model.specs.declared.faults.Fault.{Fault}
use Rattle.ctf_model.specs.declared.faults.TheConstants.Fault.{TRUNCATED, BAD_KIND}
use Rattle.ctf_model.specs.declared.kinds.Kind.{Kind}
use Rattle.ctf_model.specs.format.Laws.{rest_fault, pieces, Reads}
use Rattle.ctf_model.specs.format.Record.{head_len, variant_len, size, vlen, kind, IsWhole, IsWholeAt}
use Rattle.ctf_model.specs.rules.Rules.{HasUnknownKind}
use Rattle.ctf_model.specs.format.Section.{Piece, IsCut, Stops, front_len, fitting, stop_code, walk, records}
use Rattle.ctf_model.proofs.Prefix.{record_len-append, head_len-append, kind-append, has_head}
use Rattle.ctf_model.proofs.Unique.{one_front, one_rest}
use Rattle.ctf_model.proofs.Walk.{fitting_range, front_len_range, walk_ended, walk_none, took, nonempty}

-- ---- the record at the start of the bytes

-- a length that fits is given
fits : (room n : ℕ) → n ≤ room → fitting room n ≡ Some n
fits room n h = let test : leb n room ≡ true = le-leb n room h in rw test refl

-- the length of a whole record at the start is computed
pub front_len-whole : (a x : List ℕ) → IsWhole a → front_len (a ++ x) ≡ Some (length a)
unfolding IsWhole front_len
front_len-whole a x p =
    let low = has_head (kind a) a p in
    let long : ltb (length (a ++ x)) 8 ≡ false = le-ltb _ _ (omega (arith, length-append a x)) in
    rw long (at (kind a) (kind (a ++ x)) (kind-append a x low) p)
  where
    at : (o o' : Option Kind) → o' ≡ o → MatchOption o ⊥ (IsWholeAt a) → option_and_then (λ k. fitting (length (a ++ x)) (head_len (a ++ x) + variant_len k (size (a ++ x)) (vlen (a ++ x)))) o' ≡ Some (length a)
    at None o' e p = absurd p
    at (Some k) None e p = absurd cc
    at (Some k) (Some k') e p =
        let same : k' ≡ k = same_Some k' k e in
        let enough : head_len a ≤ length a = omega (arith, p.ends) in
        let len : head_len (a ++ x) + variant_len k (size (a ++ x)) (vlen (a ++ x)) ≡ length a = record_len-append a x k p.has_head enough ∙ sym p.ends in
        rw (same, len) (fits (length (a ++ x)) (length a) (omega (arith, length-append a x)))

-- if that length is computed, the bytes are a whole record
whole-front_len : (a x : List ℕ) → front_len (a ++ x) ≡ Some (length a) → IsWhole a
unfolding IsWhole front_len
whole-front_len a x e =
    let low = (front_len_range (a ++ x) (length a) e).0 in
    let long : ltb (length (a ++ x)) 8 ≡ false = le-ltb _ _ (omega (arith, length-append a x, low)) in
    at low (kind a) (kind (a ++ x)) (kind-append a x low) (rw long at e)
  where
    at : 8 ≤ length a → (o o' : Option Kind) → o' ≡ o → option_and_then (λ k. fitting (length (a ++ x)) (head_len (a ++ x) + variant_len k (size (a ++ x)) (vlen (a ++ x)))) o' ≡ Some (length a) → MatchOption o ⊥ (IsWholeAt a)
    at low o None same e = absurd cc
    at low None (Some k) same e = absurd cc
    at low (Some k') (Some k) same e =
        let len = (fitting_range (length (a ++ x)) (head_len (a ++ x) + variant_len k (size (a ++ x)) (vlen (a ++ x))) (length a) e).0 in
        let head = head_len-append a x low in
        let enough : head_len a ≤ length a = omega (arith, len, head) in
        let kinds : k ≡ k' = same_Some k k' same in
        let ends : length a ≡ head_len a + variant_len k (size a) (vlen a) = sym len ∙ record_len-append a x k low enough in
        subst (IsWholeAt a) kinds (record { has_head = low; ends = ends })

-- as many bytes as computed are a whole record
pub front_whole : (b : List ℕ) (n : ℕ) → front_len b ≡ Some n → IsWhole (take n b)
front_whole b n e =
    let range = front_len_range b n e in
    let len : length (take n b) ≡ n = omega (arith, length-take n b, range.1) in
    let parts = take-append-drop n b in
    whole-front_len (take n b) (drop n b) (rw (parts, len) e)

-- if no length is computed, no whole record is at the start
pub stops_none : (b : List ℕ) → front_len b ≡ None → Stops b
stops_none b e front rest p same =
    let some = front_len-whole front rest p in
    let none : front_len (front ++ rest) ≡ None = ap front_len (sym same) ∙ e in absurd cc

-- and conversely
pub none_from_stops : (b : List ℕ) → Stops b → front_len b ≡ None
none_from_stops b stops = at (front_len b) refl
  where
    at : (r : Option ℕ) → front_len b ≡ r → r ≡ None
    at None e = refl
    at (Some n) e = absurd (stops (take n b) (drop n b) (front_whole b n e) (sym (take-append-drop n b)))

-- ---- every list of bytes has a cut

-- byte lists up to a bound have a cut
cut_below : (bound : ℕ) (b : List ℕ) → length b ≤ bound → (parts : List (List ℕ)) × (rest : List ℕ) × IsCut b parts rest
cut_below zero b le = ([], b, record { joined = refl; whole = tt; stops = stops_none b (at (front_len b) refl) })
  where
    at : (r : Option ℕ) → front_len b ≡ r → front_len b ≡ None
    at None e = e
    at (Some n) e = let range = front_len_range b n e in absurd (omega (arith, range.0, range.1))
cut_below (suc bound) b le = at (front_len b) refl (λ n e. let range = front_len_range b n e in cut_below bound (drop n b) (omega (arith, range.0, range.1, length-drop n b)))
  where
    at : (r : Option ℕ) → front_len b ≡ r → ((n : ℕ) → front_len b ≡ Some n → (parts : List (List ℕ)) × (rest : List ℕ) × IsCut (drop n b) parts rest) → (parts : List (List ℕ)) × (rest : List ℕ) × IsCut b parts rest
    at None e more = ([], b, record { joined = refl; whole = tt; stops = stops_none b e })
    at (Some n) e more =
        let later = more n e in (
          take n b ∷ later.0,
          later.1,
          record {
            joined = sym (take-append-drop n b) ∙ ap (λ (r : List ℕ). take n b ++ r) later.2.joined ∙ sym (append_assoc (take n b) (concat later.0) later.1);
            whole = (front_whole b n e, later.2.whole);
            stops = later.2.stops;
          },
        )

-- ---- reading gives the records of the cut

-- reading bytes without a whole record at the start gives their fault
walk_rest : (b : List ℕ) (index at : ℕ) → Stops b → walk (length b) index at b ≡ rest_fault index b
walk_rest b index at stops = go (eqb (length b) 0) refl
  where
    go : (t : Bool) → eqb (length b) 0 ≡ t → walk (length b) index at b ≡ rest_fault index b
    go true e = rw e (walk_ended (length b) index at b (eqb-true (length b) 0 e))
    go false e = rw e (walk_none index at b (nonempty b e) (none_from_stops b stops))

-- reading a cut gives its records, then the fault of its rest
walk_cut : (parts : List (List ℕ)) (b rest : List ℕ) (index at : ℕ) → b ≡ concat parts ++ rest → AllByRecursion IsWhole parts → Stops rest → walk (length b) index at b ≡ pieces index at parts rest
walk_cut [] b rest index at joined whole stops = ap (λ (r : List ℕ). walk (length r) index at r) joined ∙ walk_rest rest index at stops
walk_cut (part ∷ parts) b rest index at joined whole stops =
    let behind = concat parts ++ rest in
    let same : b ≡ part ++ behind = joined ∙ append_assoc part (concat parts) rest in
    let front : front_len b ≡ Some (length part) = ap front_len same ∙ front_len-whole part behind whole.0 in
    let taken : part ≡ take (length part) b = sym (ap (take (length part)) same ∙ take_at part behind (length part) refl) in
    let left : behind ≡ drop (length part) b = sym (ap (drop (length part)) same ∙ drop_at part behind (length part) refl) in
    took b part behind index at (length part) front taken left
    ∙ ap (λ (later : List (Result Piece Fault)). Ok (record { index = index; at = at; bytes = part }) ∷ later) (walk_cut parts behind rest (index + 1) (at + length part) refl whole.1 stops)

-- the same for a section from its start
pub records_cut : (b : List ℕ) (parts : List (List ℕ)) (rest : List ℕ) → IsCut b parts rest → records b ≡ pieces 1 0 parts rest
records_cut b parts rest cut = walk_cut parts b rest 1 0 cut.joined cut.whole cut.stops

-- ---- the code of the rest's fault

-- if the test for an unknown kind passes, the kind is unknown
unknown_true : (b : List ℕ) → (leb 8 (length b) && is_none (kind b)) ≡ true → HasUnknownKind b
unknown_true b e = let both = and_parts (leb 8 (length b)) (is_none (kind b)) e in (leb-true 8 (length b) both.0, at (kind b) both.1)
  where
    at : (o : Option Kind) → is_none o ≡ true → o ≡ None
    at None e = refl
    at (Some k) e = absurd cc

-- an unknown kind has its own code
pub code_unknown : (b : List ℕ) → HasUnknownKind b → stop_code b ≡ BAD_KIND
code_unknown b h = let long : leb 8 (length b) ≡ true = le-leb 8 (length b) h.0 in rw (long, h.1) refl

-- the test that selects the code decides the fact
pub unknown_decided : (b : List ℕ) → Decides (leb 8 (length b) && is_none (kind b)) (HasUnknownKind b)
unknown_decided b = (unknown_true b, λ h. let long : leb 8 (length b) ≡ true = le-leb 8 (length b) h.0 in rw (long, h.1) refl)

-- everything else is truncated
pub code_cut_off : (b : List ℕ) → ¬ HasUnknownKind b → stop_code b ≡ TRUNCATED
code_cut_off b no_kind = at (leb 8 (length b) && is_none (kind b)) refl
  where
    at : (t : Bool) → (leb 8 (length b) && is_none (kind b)) ≡ t → cond t BAD_KIND TRUNCATED ≡ TRUNCATED
    at true e = absurd (no_kind (unknown_true b e))
    at false e = refl

-- reading any bytes gives a cut
pub read : (b : List ℕ) → (parts : List (List ℕ)) × (rest : List ℕ) × Reads b parts rest
read b =
    let found = cut_below (length b) b (omega arith) in
    (found.0, found.1, record { cut = found.2; all = records_cut b found.0 found.1 found.2; unknown = code_unknown found.1; cut_off = code_cut_off found.1 })

-- ---- uniqueness of the cut

-- two cuts of the same bytes are the same
pub one_cut : (xs ys : List (List ℕ)) (b c x y : List ℕ) → b ≡ c → IsCut b xs x → IsCut c ys y → (xs ≡ ys) × (x ≡ y)
one_cut [] [] b c x y same p q = (refl, sym p.joined ∙ same ∙ q.joined)
one_cut [] (f ∷ ys) b c x y same p q = absurd (p.stops f (concat ys ++ y) q.whole.0 (sym p.joined ∙ same ∙ q.joined ∙ append_assoc f (concat ys) y))
one_cut (f ∷ xs) [] b c x y same p q = absurd (q.stops f (concat xs ++ x) p.whole.0 (sym q.joined ∙ sym same ∙ p.joined ∙ append_assoc f (concat xs) x))
one_cut (f ∷ xs) (g ∷ ys) b c x y same p q =
    let e : f ++ (concat xs ++ x) ≡ g ++ (concat ys ++ y) = sym (append_assoc f (concat xs) x) ∙ sym p.joined ∙ same ∙ q.joined ∙ append_assoc g (concat ys) y in
    let front = one_front f g (concat xs ++ x) (concat ys ++ y) p.whole.0 q.whole.0 e in
    let rest = one_rest f g (concat xs ++ x) (concat ys ++ y) front e in
    let later = one_cut xs ys (concat xs ++ x) (concat ys ++ y) x y rest (record { joined = refl; whole = p.whole.1; stops = p.stops }) (record { joined = refl; whole = q.whole.1; stops = q.stops }) in
    (ap (λ (z : List ℕ). z ∷ xs) front ∙ ap (λ (zs : List (List ℕ)). g ∷ zs) later.0, later.1)
