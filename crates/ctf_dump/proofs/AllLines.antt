-- The lines of types, one more type at a time.
use Rattle.std.proofs.Common.{◌≡◌, ℕ, ◌+◌, ◌<◌, ◌≤◌, false, List, [], ◌∷◌, ◌++◌, Option, Ok, refl, sym, ap, subst, ◌∙◌, append_assoc, length, drop, get_or}
use Rattle.std.specs.Io.KnownBytes.{Appends}
use Rattle.std.proofs.lemmas.List.{drop_more, drop_all}
use Rattle.std.proofs.lemmas.Option.{slice_get-get_or}
use Rattle.std.specs.List.{flat_map}
use Rattle.std.proofs.KnownBytes.{Appends-trans}
use Rattle.ctf_model.specs.format.Dictionary.{Dictionary}
use Rattle.ctf_model.specs.dumps.Dump.{dump, head_line, label_line, list_lines, symbol_line, type_line, types_from}
use Rattle.ctf_model.specs.spaces.Space.{Space, space_type}
use Rattle.ctf_model.specs.format.Term.{Term}
use Rattle.ctf_model.specs.format.Term as term
use Rattle.ctf_model.specs.spaces.TypeNumbers.{or_no_type, type_in}
use Rattle.ctf_model.specs.spaces.TypePlaces.{own_number}
use Rattle.ctf_model.proofs.OwnTypes.{place_of_own}
use Rattle.ctf_dump.specs.Progress.{HasBegun, HasWritten}
use Rattle.ctf_dump.specs.Words.{lines_of_type}
use Rattle.ctf_dump.proofs.Progress.{all_done, begun_behind, begun_front, begun_next, one_more}

-- the default for a missing type
abbrev nothing : Term
nothing = record { name = []; root = false; body = term.unknown }

abbrev pub own_at : Space → ℕ → Term
own_at s i = get_or s.own.terms i nothing

-- an own type is found by its number
pub own_found : (s : Space) (i : ℕ) → i < length s.own.terms → space_type s (own_number s.own.child i) ≡ Ok (own_at s i)
own_found s i below = ap (type_in s.own s.parent) (place_of_own s.own.child i) ∙ ap or_no_type (slice_get-get_or s.own.terms i nothing below)

lines_next : (s : Space) (i : ℕ) (x : Term) (xs : List Term) → types_from s i (x ∷ xs) ≡ lines_of_type s (own_number s.own.child i) x ++ types_from s (i + 1) xs
unfolding types_from
lines_next s i x xs = sym (append_assoc (type_line s (own_number s.own.child i) x) (list_lines x.body) (types_from s (i + 1) xs))

-- the lines of one more type are written
pub type_more : (s : Space) (i : ℕ) (a b c : Option (List ℕ)) (all : List ℕ) → i < length s.own.terms → HasWritten a b all (types_from s i (drop i s.own.terms)) → Appends b c (lines_of_type s (own_number s.own.child i) (own_at s i)) → HasWritten a c all (types_from s (i + 1) (drop (i + 1) s.own.terms))
type_more s i a b c all below so_far more =
    let terms = s.own.terms in
    let next = ap (types_from s i) (drop_more terms i nothing below) ∙ lines_next s i (own_at s i) (drop (i + 1) terms) in
    one_more a b c all (lines_of_type s (own_number s.own.child i) (own_at s i)) (types_from s (i + 1) (drop (i + 1) terms)) (subst (HasWritten a b all) next so_far) more

no_lines : (s : Space) (i : ℕ) → types_from s i [] ≡ []
unfolding types_from
no_lines s i = refl

-- the lines of all types are written
pub all_types : (s : Space) (i : ℕ) (a b : Option (List ℕ)) (all : List ℕ) → length s.own.terms ≤ i → HasWritten a b all (types_from s i (drop i s.own.terms)) → Appends a b all
all_types s i a b all past h = all_done a b all (subst (HasWritten a b all) (ap (types_from s i) (drop_all i s.own.terms past) ∙ no_lines s i) h)

-- the lines before the types, and those of all types
pub dump_is : (s : Space) (d : Dictionary) (a b c e f : Option (List ℕ)) → d ≡ s.own → Appends a b (head_line d) → Appends b c (flat_map label_line d.labels) → Appends c e (flat_map symbol_line d.entries) → Appends e f (types_from s 0 s.own.terms) → Appends a f (dump s)
dump_is s d a b c e f own head labels symbols types =
    Appends-trans a b f (head_line s.own) (flat_map label_line s.own.labels ++ (flat_map symbol_line s.own.entries ++ types_from s 0 s.own.terms)) (subst (λ (x : Dictionary). Appends a b (head_line x)) own head)
    (Appends-trans b c f (flat_map label_line s.own.labels) (flat_map symbol_line s.own.entries ++ types_from s 0 s.own.terms) (subst (λ (x : Dictionary). Appends b c (flat_map label_line x.labels)) own labels)
    (Appends-trans c e f (flat_map symbol_line s.own.entries) (types_from s 0 s.own.terms) (subst (λ (x : Dictionary). Appends c e (flat_map symbol_line x.entries)) own symbols) types))

-- the lines of some types are written, then a prefix of the next one's
pub types_begun : (s : Space) (i : ℕ) (a b c : Option (List ℕ)) (all : List ℕ) → i < length s.own.terms → HasWritten a b all (types_from s i (drop i s.own.terms)) → HasBegun b c (lines_of_type s (own_number s.own.child i) (own_at s i)) → HasBegun a c all
types_begun s i a b c all below so_far begun =
    let terms = s.own.terms in
    let next = ap (types_from s i) (drop_more terms i nothing below) ∙ lines_next s i (own_at s i) (drop (i + 1) terms) in
    begun_next a b c all (lines_of_type s (own_number s.own.child i) (own_at s i)) (types_from s (i + 1) (drop (i + 1) terms)) (subst (HasWritten a b all) next so_far) begun

-- ---- interrupted dumps

pub at_labels : (s : Space) (d : Dictionary) (a b c : Option (List ℕ)) → d ≡ s.own → Appends a b (head_line d) → HasBegun b c (flat_map label_line d.labels) → HasBegun a c (dump s)
at_labels s d a b c own head labels =
    begun_behind a b c (head_line s.own) (flat_map label_line s.own.labels ++ (flat_map symbol_line s.own.entries ++ types_from s 0 s.own.terms)) (subst (λ (x : Dictionary). Appends a b (head_line x)) own head)
    (begun_front b c (flat_map label_line s.own.labels) (flat_map symbol_line s.own.entries ++ types_from s 0 s.own.terms) (subst (λ (x : Dictionary). HasBegun b c (flat_map label_line x.labels)) own labels))

pub at_symbols : (s : Space) (d : Dictionary) (a b c e : Option (List ℕ)) → d ≡ s.own → Appends a b (head_line d) → Appends b c (flat_map label_line d.labels) → HasBegun c e (flat_map symbol_line d.entries) → HasBegun a e (dump s)
at_symbols s d a b c e own head labels symbols =
    begun_behind a b e (head_line s.own) (flat_map label_line s.own.labels ++ (flat_map symbol_line s.own.entries ++ types_from s 0 s.own.terms)) (subst (λ (x : Dictionary). Appends a b (head_line x)) own head)
    (begun_behind b c e (flat_map label_line s.own.labels) (flat_map symbol_line s.own.entries ++ types_from s 0 s.own.terms) (subst (λ (x : Dictionary). Appends b c (flat_map label_line x.labels)) own labels)
    (begun_front c e (flat_map symbol_line s.own.entries) (types_from s 0 s.own.terms) (subst (λ (x : Dictionary). HasBegun c e (flat_map symbol_line x.entries)) own symbols)))

pub at_types : (s : Space) (d : Dictionary) (a b c e f : Option (List ℕ)) → d ≡ s.own → Appends a b (head_line d) → Appends b c (flat_map label_line d.labels) → Appends c e (flat_map symbol_line d.entries) → HasBegun e f (types_from s 0 s.own.terms) → HasBegun a f (dump s)
at_types s d a b c e f own head labels symbols types =
    begun_behind a b f (head_line s.own) (flat_map label_line s.own.labels ++ (flat_map symbol_line s.own.entries ++ types_from s 0 s.own.terms)) (subst (λ (x : Dictionary). Appends a b (head_line x)) own head)
    (begun_behind b c f (flat_map label_line s.own.labels) (flat_map symbol_line s.own.entries ++ types_from s 0 s.own.terms) (subst (λ (x : Dictionary). Appends b c (flat_map label_line x.labels)) own labels)
    (begun_behind c e f (flat_map symbol_line s.own.entries) (types_from s 0 s.own.terms) (subst (λ (x : Dictionary). Appends c e (flat_map symbol_line x.entries)) own symbols) types))
