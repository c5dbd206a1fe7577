-- Appending pieces in sequence.
use Rattle.std.proofs.Common.{◌⊎◌, ◌≡◌, ℕ, zero, suc, ◌+◌, ◌*◌, ◌<◌, ◌≤◌, ◌++◌, eqb, ltb, true, false, Bool, cond, List, [], ◌∷◌, length, drop, get_or, Option, Some, None, Result, Ok, Err, codes, refl, sym, ap, ◌∙◌, append_assoc, length-append, arith, IfErr, inl, inr, map}
use Rattle.std.proofs.lemmas.Bool.{ltb-true, lt-ltb, le-ltb, ne_eqb}
use Rattle.std.proofs.lemmas.List.{append-nil, drop_more, drop_all, length-map}
use Rattle.std.specs.Prelude.{slice_get}
use Rattle.std.specs.List.{range_with_len}
use Rattle.std.proofs.lemmas.List.FromFn.{length-map-range_with_len, get_or-map-range_with_len}
use Rattle.ctf_model.specs.values.Pieces.{Pieces, piece, no_pieces, ends, goes_on, then_pieces, each_behind_comma, separate, text_or_fault, ended_by}
use Rattle.ctf_model.specs.rules.Refusals.{out_of_memory}
use Rattle.ctf_model.specs.spaces.Space.{Space}
use Rattle.ctf_model.specs.names.TypeNames.{longest_text, too_long}
use Rattle.ctf_model.specs.values.Values.{Shows, each_element, label, most_values, shown_within, value_text}
use Rattle.ctf_model.specs.declared.faults.Fault.{Fault}
use Rattle.ctf_print.specs.Written.{written, comma_before, separated_from, Refused}

-- ---- two pieces

record Went (t : Bool) (fault : Option Fault) (text now : List ℕ) : Type 0 where
  short : t ≡ false
  done : fault ≡ None
  all : text ≡ now

went : (t : Bool) (fault : Option Fault) (text now : List ℕ) → cond t (Err too_long) (ended_by fault text) ≡ Ok now → Went t fault text now
went true fault text now h = absurd cc
went false None text now h = record { short = refl; done = refl; all = cc }
went false (Some f) text now h = absurd cc

pub next_ok : (old now : List ℕ) (a b : Pieces) → written old a ≡ Ok now → written old (then_pieces a b) ≡ written now b
unfolding written then_pieces
next_ok old now a b h =
    let w = went (ltb longest_text (length (old ++ a.text))) a.fault (old ++ a.text) now h in
    rw w.done (rw (← w.all) (rw append_assoc refl))

next_err_case : (old text : List ℕ) (fault : Option Fault) (b : Pieces) (f : Fault) → written old (record { text = text; fault = fault }) ≡ Err f → written old (goes_on text fault b) ≡ Err f
unfolding written
next_err_case old text (Some g) b f h = h
next_err_case old text None b f h = none_case (ltb longest_text (length (old ++ text))) refl h
  where
    none_case : (t : Bool) → ltb longest_text (length (old ++ text)) ≡ t → cond t (Err too_long) (Ok (old ++ text)) ≡ Err f → cond (ltb longest_text (length (old ++ (text ++ b.text)))) (Err too_long) (ended_by b.fault (old ++ (text ++ b.text))) ≡ Err f
    none_case true test e =
        let less : longest_text < length (old ++ (text ++ b.text)) = omega (arith, ltb-true longest_text (length (old ++ text)) test, length-append old text, length-append text b.text, length-append old (text ++ b.text)) in
        let longer : ltb longest_text (length (old ++ (text ++ b.text))) ≡ true = lt-ltb longest_text (length (old ++ (text ++ b.text))) less in
        rw longer e
    none_case false test e = absurd cc

pub next_err : (old : List ℕ) (a b : Pieces) (f : Fault) → written old a ≡ Err f → written old (then_pieces a b) ≡ Err f
unfolding then_pieces
next_err old a b f h = next_err_case old a.text a.fault b f h

-- ---- the empty piece

pub next_nothing : (old now : List ℕ) (b : Pieces) → written old b ≡ written old (then_pieces no_pieces b)
unfolding then_pieces
next_nothing old now b = refl

-- ---- commas

pub behind_is : (i : ℕ) (xs : List Pieces) → 0 < i → each_behind_comma xs ≡ separated_from i xs
behind_is i [] h = refl
behind_is i (x ∷ xs) h =
    let some : eqb i 0 ≡ false = ne_eqb i 0 (λ e. omega arith) in
    rw some (rw (behind_is (i + 1) xs (omega arith)) refl)

pub separated_is : (xs : List Pieces) → separate xs ≡ separated_from 0 xs
unfolding then_pieces
separated_is [] = refl
separated_is (x ∷ xs) = rw (behind_is 1 xs (omega arith)) refl

-- ---- refusals

pub refused_first : (old : List ℕ) (a b : Pieces) (f : Fault) → Refused old a f → Refused old (then_pieces a b) f
refused_first old a b f (inl memory) = inl memory
refused_first old a b f (inr is) = inr (next_err old a b f is)

pub refused_as : (old now : List ℕ) (a b : Pieces) (f : Fault) → written old a ≡ written now b → Refused now b f → Refused old a f
refused_as old now a b f same (inl memory) = inl memory
refused_as old now a b f same (inr is) = inr (same ∙ is)

pub nothing_written : (old : List ℕ) → length old ≤ longest_text → written old no_pieces ≡ Ok old
unfolding written
nothing_written old h =
    let same : old ++ [] ≡ old = append-nil old in
    let test : ltb longest_text (length old) ≡ false = le-ltb longest_text (length old) h in
    rw same (rw test refl)

pub fault_written : (old : List ℕ) (f : Fault) → length old ≤ longest_text → written old (ends f) ≡ Err f
unfolding written
fault_written old f h =
    let same : old ++ [] ≡ old = append-nil old in
    let test : ltb longest_text (length old) ≡ false = le-ltb longest_text (length old) h in
    rw same (rw test refl)

-- ---- elements

element_at : (f : ℕ → Pieces) (count i : ℕ) → i < count → drop i (map f (range_with_len 0 count)) ≡ f i ∷ drop (i + 1) (map f (range_with_len 0 count))
element_at f count i h =
    let inside : i < length (map f (range_with_len 0 count)) = omega (arith, length-map-range_with_len f 0 count) in
    let here : get_or (map f (range_with_len 0 count)) i no_pieces ≡ f i = get_or-map-range_with_len f 0 count i i no_pieces h (omega arith) in
    drop_more (map f (range_with_len 0 count)) i no_pieces inside ∙ ap (λ x. x ∷ drop (i + 1) (map f (range_with_len 0 count))) here

pub at_element : (show : Shows) (p contents count size i : ℕ) (sized : Result ℕ Fault) → sized ≡ Ok size → i < count → separated_from i (drop i (each_element show p contents count sized)) ≡ then_pieces (comma_before i) (then_pieces (show contents (p + 8 * size * i)) (separated_from (i + 1) (drop (i + 1) (each_element show p contents count sized))))
at_element show p contents count size i sized e h =
    rw e (rw (element_at (λ j. show contents (p + 8 * size * j)) count i h) refl)

pub no_more : (show : Shows) (p contents count size i : ℕ) (sized : Result ℕ Fault) → sized ≡ Ok size → count ≤ i → separated_from i (drop i (each_element show p contents count sized)) ≡ no_pieces
no_more show p contents count size i sized e h =
    let none : drop i (map (λ j. show contents (p + 8 * size * j)) (range_with_len 0 count)) ≡ [] = drop_all i (map (λ j. show contents (p + 8 * size * j)) (range_with_len 0 count)) (omega (arith, length-map-range_with_len (λ j. show contents (p + 8 * size * j)) 0 count)) in
    rw e (rw none refl)

pub no_size : (show : Shows) (p contents count : ℕ) (sized : Result ℕ Fault) (fault : Fault) → sized ≡ Err fault → separate (each_element show p contents count sized) ≡ ends fault
unfolding then_pieces
no_size show p contents count sized fault e = rw e refl

-- if the first element is refused, so are all, at any offset
pub first_element_refused : (old : List ℕ) (show : Shows) (p contents count size : ℕ) (sized : Result ℕ Fault) (fault : Fault) → sized ≡ Ok size → 0 < count → ((q : ℕ) → Refused old (show contents q) fault) → Refused old (separate (each_element show p contents count sized)) fault
first_element_refused old show p contents count size sized fault e some refused =
    let first = show contents (p + 8 * size * 0) in
    let rest = separated_from 1 (drop 1 (each_element show p contents count sized)) in
    let is = separated_is (each_element show p contents count sized) ∙ at_element show p contents count size 0 sized e some in
    refused_as old old (separate (each_element show p contents count sized)) (then_pieces first rest) fault (ap (written old) is ∙ sym (next_nothing old old (then_pieces first rest))) (refused_first old first rest fault (refused (p + 8 * size * 0)))

-- ---- members

member_at : {A : Type 0} (f : A → Pieces) (xs : List A) (i : ℕ) (x : A) → slice_get xs i ≡ Some x → drop i (map f xs) ≡ f x ∷ drop (i + 1) (map f xs)
member_at f (y ∷ xs) zero x h = let same : y ≡ x = cc in rw same refl
member_at f (y ∷ xs) (suc i) x h = let e : suc i + 1 ≡ suc (i + 1) = omega arith in rw e (member_at f xs i x h)
member_at f [] i x h = absurd cc

pub at_member : {A : Type 0} (f : A → Pieces) (xs : List A) (i : ℕ) (x : A) → slice_get xs i ≡ Some x → separated_from i (drop i (map f xs)) ≡ then_pieces (comma_before i) (then_pieces (f x) (separated_from (i + 1) (drop (i + 1) (map f xs))))
at_member f xs i x h = rw (member_at f xs i x h) refl

pub some_member : {A : Type 0} (f : A → Pieces) (xs : List A) (i : ℕ) → i < length xs → (x : A) × (separated_from i (drop i (map f xs)) ≡ then_pieces (comma_before i) (then_pieces (f x) (separated_from (i + 1) (drop (i + 1) (map f xs)))))
some_member {A = A} f [] i h = absurd (omega arith)
some_member {A = A} f (x ∷ xs) i h = at (slice_get (x ∷ xs) i) refl
  where
    there : (ys : List A) (j : ℕ) → j < length ys → slice_get ys j ≡ None → ⊥
    there [] j h e = omega arith
    there (y ∷ ys) zero h e = cc
    there (y ∷ ys) (suc j) h e = there ys j (omega arith) e

    at : (o : Option A) → slice_get (x ∷ xs) i ≡ o → (y : A) × (separated_from i (drop i (map f (x ∷ xs))) ≡ then_pieces (comma_before i) (then_pieces (f y) (separated_from (i + 1) (drop (i + 1) (map f (x ∷ xs))))))
    at (Some y) e = (y, at_member f (x ∷ xs) i y e)
    at None e = absurd (there (x ∷ xs) i h e)

pub some_at : {A : Type 0} (xs : List A) (i : ℕ) → i < length xs → (x : A) × (slice_get xs i ≡ Some x)
some_at [] i h = absurd (omega arith)
some_at (x ∷ xs) zero h = (x, refl)
some_at (x ∷ xs) (suc i) h = some_at xs i (omega arith)

pub no_more_members : {A : Type 0} (f : A → Pieces) (xs : List A) (i : ℕ) → length xs ≤ i → separated_from i (drop i (map f xs)) ≡ no_pieces
no_more_members f xs i h = rw (drop_all i (map f xs) (omega (arith, length-map xs f))) refl

-- ---- in sequence

pub two_ok : (old now : List ℕ) (whole a b rest : Pieces) → written old whole ≡ written now (then_pieces a (then_pieces b rest)) → (middle : List ℕ) → written now a ≡ Ok middle → (last : List ℕ) → written middle b ≡ Ok last → written old whole ≡ written last rest
two_ok old now whole a b rest is middle ha last hb = is ∙ (next_ok now middle a (then_pieces b rest) ha ∙ next_ok middle last b rest hb)

pub second_refused : (old now : List ℕ) (whole a b rest : Pieces) (f : Fault) → written old whole ≡ written now (then_pieces a (then_pieces b rest)) → (middle : List ℕ) → written now a ≡ Ok middle → Refused middle b f → Refused old whole f
second_refused old now whole a b rest f is middle ha hb = refused_as old middle whole (then_pieces b rest) f (is ∙ next_ok now middle a (then_pieces b rest) ha) (refused_first middle b rest f hb)

pub first_refused : (old now : List ℕ) (whole a rest : Pieces) (f : Fault) → written old whole ≡ written now (then_pieces a rest) → Refused now a f → Refused old whole f
first_refused old now whole a rest f is ha = refused_as old now whole (then_pieces a rest) f is (refused_first now a rest f ha)

pub later_refused : (r : Result (Unit {0}) Fault) (old now : List ℕ) (a b : Pieces) → written old a ≡ written now b → IfErr r (Refused now b) → IfErr r (Refused old a)
later_refused (Ok x) old now a b same h = h
later_refused (Err f) old now a b same h = refused_as old now a b f same h

-- the refusal of a later piece
pub later_ended : {E : Type 0} (r : Result (Unit {0}) E) (old now : List ℕ) (a b : Pieces) (f : Fault) → written old a ≡ written now b → IfErr r (λ _. Refused now b f) → IfErr r (λ _. Refused old a f)
later_ended (Ok x) old now a b f same h = h
later_ended (Err e) old now a b f same h = refused_as old now a b f same h

-- ---- a name

pub label_some : (name : List ℕ) → (length name ≡ 0 → ⊥) → label name ≡ then_pieces (piece name) (piece (codes " = "))
label_some [] h = absurd (h refl)
label_some (x ∷ name) h = refl

pub label_none : (name : List ℕ) → length name ≡ 0 → label name ≡ no_pieces
label_none [] h = refl
label_none (x ∷ name) h = absurd (omega arith)

-- ---- one turn of the loop over members

pub member_turn : {A : Type 0} (f : A → Pieces) (xs : List A) (i : ℕ) (x : A) (old now middle last : List ℕ) (whole : Pieces) → slice_get xs i ≡ Some x → written old whole ≡ written now (separated_from i (drop i (map f xs))) → written now (comma_before i) ≡ Ok middle → written middle (f x) ≡ Ok last → written old whole ≡ written last (separated_from (i + 1) (drop (i + 1) (map f xs)))
member_turn f xs i x old now middle last whole h is ha hb =
    two_ok old now whole (comma_before i) (f x) (separated_from (i + 1) (drop (i + 1) (map f xs))) (is ∙ ap (written now) (at_member f xs i x h)) middle ha last hb

pub member_refused : {A : Type 0} (f : A → Pieces) (xs : List A) (i : ℕ) (x : A) (old now middle : List ℕ) (whole : Pieces) (e : Fault) → slice_get xs i ≡ Some x → written old whole ≡ written now (separated_from i (drop i (map f xs))) → written now (comma_before i) ≡ Ok middle → Refused middle (f x) e → Refused old whole e
member_refused f xs i x old now middle whole e h is ha hb =
    second_refused old now whole (comma_before i) (f x) (separated_from (i + 1) (drop (i + 1) (map f xs))) e (is ∙ ap (written now) (at_member f xs i x h)) middle ha hb

-- ---- a text by itself

most_are : most_values ≡ 1027
unfolding most_values
most_are = refl

written_alone : (pieces : Pieces) → written [] pieces ≡ text_or_fault pieces
unfolding written
written_alone pieces = refl

-- a value formatted into an empty buffer is the answer
pub alone_is : (s : Space) (memory : List ℕ) (n p : ℕ) → written [] (shown_within s memory 1027 n p) ≡ value_text s memory n p
alone_is s memory n p = written_alone (shown_within s memory 1027 n p) ∙ sym (ap (λ (k : ℕ). text_or_fault (shown_within s memory k n p)) most_are)

pub alone_refused : (s : Space) (memory : List ℕ) (n p : ℕ) (f : Fault) → Refused [] (shown_within s memory 1027 n p) f → (f ≡ out_of_memory) ⊎ (value_text s memory n p ≡ Err f)
alone_refused s memory n p f (inl e) = inl e
alone_refused s memory n p f (inr e) = inr (sym (alone_is s memory n p) ∙ e)
