-- The types that the records of a faultless dictionary spell.
use Rattle.std.proofs.Common.{◌≡◌, ℕ, zero, suc, ◌+◌, ◌-◌, ◌/◌, ◌<◌, ◌≤◌, Bool, true, false, cond, eqb, take, drop, List, [], ◌∷◌, ◌++◌, length, Option, Some, None, Result, Ok, Err, refl, sym, ap, subst, ◌∙◌, arith}
use Rattle.std.specs.Prelude.{is_none, IsSome, slice_get}
use Rattle.std.specs.List.{AllByRecursion}
use Rattle.std.specs.Option.{option_or, option_map, option_and_then}
use Rattle.std.proofs.lemmas.Bool.{eqb-true, eqb-false, false≢true}
use Rattle.ctf_model.proofs.Cut.{front_whole}
use Rattle.ctf_model.proofs.Spelled.{AreNamed, split_front, spelled}
use Rattle.ctf_model.specs.format.Bytes.{u32_at}
use Rattle.ctf_model.specs.format.Dictionary.{said_by}
use Rattle.ctf_model.specs.rules.Faults.{Site, first_nameless, first_fault, label_sites, list_sites, record_sites, sites, types, walk_fault}
use Rattle.ctf_model.specs.format.Header.{fields}
use Rattle.ctf_model.specs.format.Lists.{Lists, tables}
use Rattle.ctf_model.specs.format.Name.{Tables, name}
use Rattle.ctf_model.specs.format.Record.{IsWhole, is_root, kind}
use Rattle.ctf_model.specs.format.Spelling.{◌>>=◌, body_of, term_of}
use Rattle.ctf_model.specs.format.Section.{Piece, front_len, record_or_stop, terms_in, walk}
use Rattle.ctf_model.specs.format.Term.{Body, Term}
use Rattle.ctf_model.specs.declared.faults.Fault.{Fault}
use Rattle.ctf_model.specs.declared.kinds.Kind.{Kind}
use Rattle.ctf_chains.specs.Steps.{AreSpelled}
use Rattle.ctf_records.specs.Pieces.{piece_numbered}
use Rattle.ctf_check.specs.Stages.{header_sites}
use Rattle.ctf_check.proofs.Order.{faultless}
use Rattle.ctf_check.proofs.Sites.{nameless_append}

-- ---- one record

-- a test that fails passes on to the later ones
none_here : (bad : Bool) (place : ℕ) (later : Option ℕ) → cond bad (Some place) later ≡ None → (bad ≡ false) × (later ≡ None)
none_here true place later e = absurd cc
none_here false place later e = (refl, e)

-- a present value is not none
not_none : {A : Type 0} (o : Option A) → is_none o ≡ false → o ≡ None → ⊥
not_none None e n = absurd cc
not_none (Some x) e n = absurd cc

-- the name of a type that a record spells
name_of : (t : Tables) (b : List ℕ) (x : Term) → term_of t b ≡ Some x → name t (u32_at b 0) ≡ Some x.name
unfolding term_of
name_of t b x e = by_kind (kind b) (name t (u32_at b 0)) e
  where
    by_body : (text : List ℕ) (said : Option Body) → said >>= (λ body. Some (record { name = text; root = is_root b; body = body })) ≡ Some x → Some text ≡ Some x.name
    by_body text None e = absurd cc
    by_body text (Some body) e = ap (λ (o : Option Term). option_map (λ y. y.name) o) e

    by_kind : (k : Option Kind) (text : Option (List ℕ)) → k >>= (λ k. text >>= (λ text. body_of t b k >>= (λ body. Some (record { name = text; root = is_root b; body = body })))) ≡ Some x → text ≡ Some x.name
    by_kind None text e = absurd cc
    by_kind (Some k) None e = absurd cc
    by_kind (Some k) (Some text) e = by_body text (body_of t b k) e

-- a record spells a type with a valid name
pub record Spelled (t : Tables) (b : List ℕ) : Type 0 where
  pub type : Term
  pub says : term_of t b ≡ Some type
  pub named : name t (u32_at b 0) ≡ Some type.name

-- if no site is nameless, all have names
named_all : (t : Tables) (xs : List Site) → first_nameless t xs ≡ None → AreNamed t xs
unfolding first_nameless
named_all t [] e = tt
named_all t (x ∷ xs) e =
    let here = none_here (is_none (name t x.reference)) x.place (first_nameless t xs) e in
    (not_none (name t x.reference) here.0, named_all t xs here.1)

-- a whole record with valid names spells a type
spelled_whole : (t : Tables) (b : List ℕ) (place : ℕ) (more : List Site) → IsWhole b → AreNamed t (record { place = place; reference = u32_at b 0 } ∷ (list_sites place b (kind b) ++ more)) → Spelled t b
spelled_whole t b place more whole named =
    let x = spelled t b place whole named.0 (split_front t (list_sites place b (kind b)) more named.1) in
    record { type = x.0; says = x.1.says; named = name_of t b x.0 x.1.says }

-- ---- all records

abbrev pub IsSpelled : Tables → Result Piece Fault → Type 0
IsSpelled t (Ok p) = Spelled t p.bytes
IsSpelled t (Err f) = ⊥

abbrev SpelledFrom : Tables → ℕ → List (Result Piece Fault) → Type 0
SpelledFrom t start xs = walk_fault xs ≡ None → first_nameless t (record_sites start xs) ≡ None → AllByRecursion (IsSpelled t) xs

spelled_cond : (t : Tables) (start : ℕ) (ended : Bool) (xs : List (Result Piece Fault)) → SpelledFrom t start xs → SpelledFrom t start (cond ended [] xs)
spelled_cond t start true xs h = λ w n. tt
spelled_cond t start false xs h = h

none_last : (a b : Option ℕ) → option_or a b ≡ None → b ≡ None
none_last None b e = e
none_last (Some p) b e = absurd cc

last_nameless : (t : Tables) (xs ys : List Site) → first_nameless t (xs ++ ys) ≡ None → first_nameless t ys ≡ None
last_nameless t xs ys e = none_last (first_nameless t xs) (first_nameless t ys) (sym (nameless_append t xs ys) ∙ e)

-- nor is one after the sites of a record
later_nameless : (t : Tables) (b : List ℕ) (place : ℕ) (more : List Site) → first_nameless t (record { place = place; reference = u32_at b 0 } ∷ (list_sites place b (kind b) ++ more)) ≡ None → first_nameless t more ≡ None
unfolding first_nameless
later_nameless t b place more e = last_nameless t (list_sites place b (kind b)) more (none_here (is_none (name t (u32_at b 0))) place (first_nameless t (list_sites place b (kind b) ++ more)) e).1

spelled_step : (t : Tables) (start : ℕ) (b : List ℕ) (index at : ℕ) (later : ℕ → List (Result Piece Fault)) (r : Option ℕ) → front_len b ≡ r → ((n : ℕ) → SpelledFrom t start (later n)) → SpelledFrom t start (record_or_stop b index at later r)
unfolding record_sites
spelled_step t start b index at later None e h = λ w n. absurd cc
spelled_step t start b index at later (Some n) e h = λ w names.
    let named = named_all t (record_sites start (Ok (record { index = index; at = at; bytes = take n b }) ∷ later n)) names in
    (spelled_whole t (take n b) (start + at) (record_sites start (later n)) (front_whole b n e) named, h n w (later_nameless t (take n b) (start + at) (record_sites start (later n)) names))

walk_spelled : (t : Tables) (start bound index at : ℕ) (b : List ℕ) → SpelledFrom t start (walk bound index at b)
unfolding walk
walk_spelled t start zero index at b = λ w n. tt
walk_spelled t start (suc bound) index at b = spelled_cond t start (eqb (length b) 0) _ (spelled_step t start b index at _ (front_len b) refl (λ n. walk_spelled t start bound (index + 1) (at + n) (drop n b)))

records_named : (t : Tables) (ctf : List ℕ) → first_nameless t (sites ctf) ≡ None → first_nameless t (record_sites (36 + (fields ctf).typeoff) (types ctf)) ≡ None
unfolding sites
records_named t ctf e =
    let labels = label_sites ctf (36 + (fields ctf).lbloff) (((fields ctf).objtoff - (fields ctf).lbloff) / 8) in
    let of_records = record_sites (36 + (fields ctf).typeoff) (types ctf) in
    let front = header_sites (fields ctf) in
    last_nameless t labels of_records (last_nameless t front (labels ++ of_records) e)

-- if records and names are valid, each record spells a type
pub spelled_from : (s : Lists) → walk_fault (types s.ctf) ≡ None → first_nameless (tables s) (sites s.ctf) ≡ None → AllByRecursion (IsSpelled (tables s)) (types s.ctf)
unfolding types
spelled_from s read named = walk_spelled (tables s) (36 + (fields s.ctf).typeoff) _ 1 0 _ read (records_named (tables s) s.ctf named)

pub all_spelled : (s : Lists) → first_fault s ≡ None → AllByRecursion (IsSpelled (tables s)) (types s.ctf)
all_spelled s e = let f = faultless s e in spelled_from s f.read f.named

-- ---- the same in the terms of ctf_chains

type_there : (t : Tables) (b : List ℕ) → IsSome (term_of t b) → Spelled t b
type_there t b h = at (term_of t b) refl h
  where
    at : (x : Option Term) → term_of t b ≡ x → IsSome x → Spelled t b
    at None e h = absurd (false≢true h)
    at (Some x) e h = record { type = x; says = e; named = name_of t b x e }

pub each_spelled : (t : Tables) (xs : List (Result Piece Fault)) → walk_fault xs ≡ None → AreSpelled t xs → AllByRecursion (IsSpelled t) xs
each_spelled t [] w a = tt
each_spelled t (Ok p ∷ xs) w a = (type_there t p.bytes a.0, each_spelled t xs w a.1)
each_spelled t (Err f ∷ xs) w a = absurd cc

pub all_are_spelled : (t : Tables) (xs : List (Result Piece Fault)) → AllByRecursion (IsSpelled t) xs → AreSpelled t xs
all_are_spelled t [] a = tt
all_are_spelled t (Ok p ∷ xs) a = let says = a.0.says in ((rw says refl), all_are_spelled t xs a.1)
all_are_spelled t (Err f ∷ xs) a = absurd a.0

-- ---- their number

pub terms_length : (t : Tables) (xs : List (Result Piece Fault)) → AllByRecursion (IsSpelled t) xs → length (terms_in t xs) ≡ length xs
unfolding terms_in
terms_length t [] all = refl
terms_length t (Ok p ∷ xs) all = rw all.0.says (ap suc (terms_length t xs all.1))
terms_length t (Err f ∷ xs) all = absurd all.0

pub terms_count : (s : Lists) → first_fault s ≡ None → length (said_by s).terms ≡ length (types s.ctf)
unfolding said_by
terms_count s e = terms_length (tables s) (types s.ctf) (all_spelled s e)

-- ---- the record with a number

pub numbered_spelled : (t : Tables) (xs : List (Result Piece Fault)) (n : ℕ) (p : Piece) → AllByRecursion (IsSpelled t) xs → piece_numbered xs n ≡ Some p → Spelled t p.bytes
numbered_spelled t [] n p all e = absurd cc
numbered_spelled t (Err f ∷ xs) n p all e = absurd cc
numbered_spelled t (Ok q ∷ xs) n p all e = at (eqb q.index n) (numbered_spelled t xs n p all.1) e
  where
    at : (here : Bool) → (piece_numbered xs n ≡ Some p → Spelled t p.bytes) → cond here (Some q) (piece_numbered xs n) ≡ Some p → Spelled t p.bytes
    at true later e = let same : q ≡ p = cc in subst (λ (x : Piece). Spelled t x.bytes) same all.0
    at false later e = later e

pub numbered_index : (xs : List (Result Piece Fault)) (n : ℕ) (p : Piece) → piece_numbered xs n ≡ Some p → p.index ≡ n
numbered_index [] n p e = absurd cc
numbered_index (Err f ∷ xs) n p e = absurd cc
numbered_index (Ok q ∷ xs) n p e = at (eqb q.index n) refl (numbered_index xs n p) e
  where
    at : (here : Bool) → eqb q.index n ≡ here → (piece_numbered xs n ≡ Some p → p.index ≡ n) → cond here (Some q) (piece_numbered xs n) ≡ Some p → p.index ≡ n
    at true test later e = let same : q ≡ p = cc in ap (λ (x : Piece). x.index) (sym same) ∙ eqb-true q.index n test
    at false test later e = later e

-- the records are numbered in sequence
abbrev AreNumbered : ℕ → List (Result Piece Fault) → Type 0
AreNumbered i [] = Unit {0}
AreNumbered i (Ok p ∷ xs) = (p.index ≡ i) × AreNumbered (i + 1) xs
AreNumbered i (Err f ∷ xs) = Unit {0}

counted_cond : (ended : Bool) (i : ℕ) (xs : List (Result Piece Fault)) → AreNumbered i xs → AreNumbered i (cond ended [] xs)
counted_cond true i xs h = tt
counted_cond false i xs h = h

counted_step : (b : List ℕ) (i at : ℕ) (later : ℕ → List (Result Piece Fault)) (r : Option ℕ) → ((n : ℕ) → AreNumbered (i + 1) (later n)) → AreNumbered i (record_or_stop b i at later r)
counted_step b i at later None h = tt
counted_step b i at later (Some n) h = (refl, h n)

walk_numbered : (bound i at : ℕ) (b : List ℕ) → AreNumbered i (walk bound i at b)
unfolding walk
walk_numbered zero i at b = tt
walk_numbered (suc bound) i at b = counted_cond (eqb (length b) 0) i _ (counted_step b i at _ (front_len b) (λ n. walk_numbered bound (i + 1) (at + n) (drop n b)))

-- the type that a record spells
abbrev pub spelled_at : Tables → Option Piece → Option Term
spelled_at t o = option_and_then (λ p. term_of t p.bytes) o

numbered_term : (t : Tables) (i : ℕ) (xs : List (Result Piece Fault)) (n : ℕ) → AllByRecursion (IsSpelled t) xs → AreNumbered i xs → i ≤ n → spelled_at t (piece_numbered xs n) ≡ slice_get (terms_in t xs) (n - i)
unfolding terms_in
numbered_term t i [] n all count le = refl
numbered_term t i (Err f ∷ xs) n all count le = absurd all.0
numbered_term t i (Ok p ∷ xs) n all count le = at (eqb p.index n) refl (numbered_term t (i + 1) xs n all.1 count.1)
  where
    at : (here : Bool) → eqb p.index n ≡ here → (i + 1 ≤ n → spelled_at t (piece_numbered xs n) ≡ slice_get (terms_in t xs) (n - (i + 1))) → spelled_at t (cond here (Some p) (piece_numbered xs n)) ≡ slice_get (terms_in t (Ok p ∷ xs)) (n - i)
    at true test later =
        let same = eqb-true p.index n test in
        let k : n - i ≡ 0 = omega (arith, count.0) in
        rw (k, all.0.says) refl
    at false test later =
        let other = eqb-false p.index n test in
        let more : i + 1 ≤ n = omega (arith, count.0) in
        let k : n - i ≡ suc (n - (i + 1)) = omega arith in
        rw (k, all.0.says) (later more)

numbered_low : (i : ℕ) (xs : List (Result Piece Fault)) (n : ℕ) → AreNumbered i xs → n < i → piece_numbered xs n ≡ None
numbered_low i [] n count lt = refl
numbered_low i (Err f ∷ xs) n count lt = refl
numbered_low i (Ok p ∷ xs) n count lt = at (eqb p.index n) refl (numbered_low (i + 1) xs n count.1 (omega arith))
  where
    at : (here : Bool) → eqb p.index n ≡ here → piece_numbered xs n ≡ None → cond here (Some p) (piece_numbered xs n) ≡ None
    at true test later = let same = eqb-true p.index n test in absurd (omega (arith, count.0))
    at false test later = later

types_numbered : (ctf : List ℕ) → AreNumbered 1 (types ctf)
unfolding types
types_numbered ctf = walk_numbered _ 1 0 _

-- type number `n`, counted from 1, is what record number `n` spells
pub type_is : (s : Lists) (n : ℕ) → first_fault s ≡ None → spelled_at (tables s) (piece_numbered (types s.ctf) n) ≡ cond (eqb n 0) None (slice_get (said_by s).terms (n - 1))
unfolding said_by
type_is s n e = at (eqb n 0) refl
  where
    at : (none : Bool) → eqb n 0 ≡ none → spelled_at (tables s) (piece_numbered (types s.ctf) n) ≡ cond none None (slice_get (terms_in (tables s) (types s.ctf)) (n - 1))
    at true test = let zero_is = eqb-true n 0 test in rw (numbered_low 1 (types s.ctf) n (types_numbered s.ctf) (omega arith)) refl
    at false test = let other = eqb-false n 0 test in numbered_term (tables s) 1 (types s.ctf) n (all_spelled s e) (types_numbered s.ctf) (omega arith)
