-- Names one after another.
use Rattle.std.proofs.Common.{◌≡◌, ℕ, suc, ◌+◌, ◌-◌, ◌*◌, ◌/◌, ◌<◌, ◌≤◌, Bool, true, false, cond, drop, List, [], ◌∷◌, ◌++◌, Option, Some, None, Result, Ok, refl, sym, ap, ◌∙◌, arith}
use Rattle.std.specs.Prelude.{is_none}
use Rattle.std.proofs.Math.Nat.{mul-suc}
use Rattle.std.proofs.lemmas.List.{drop-drop}
use Rattle.std.specs.Option.{option_or}
use Rattle.ctf_model.specs.format.Bytes.{u32_at}
use Rattle.ctf_model.specs.rules.Faults.{Site, label_sites, item_sites, record_sites, first_nameless, sites, types}
use Rattle.ctf_model.specs.format.Header.{Fields, fields, range_of}
use Rattle.ctf_model.specs.format.Name.{Tables, name}
use Rattle.ctf_model.specs.format.Section.{Piece}
use Rattle.ctf_check.specs.Stages.{header_sites, own_sites}
use Rattle.ctf_model.specs.declared.faults.Fault.{Fault}
use Rattle.ctf_model.specs.declared.sections.Section.TheVariants.{SLabels, STypes}

pub label_sites_next : (ctf : List ℕ) (start count i : ℕ) → i < count
    → label_sites ctf (start + 8 * i) (count - i) ≡ record { place = start + 8 * i; reference = u32_at ctf (start + 8 * i) } ∷ label_sites ctf (start + 8 * (i + 1)) (count - (i + 1))
unfolding label_sites
label_sites_next ctf start count i lt =
    let k : count - i ≡ suc (count - (i + 1)) = omega arith in
    let next : start + 8 * i + 8 ≡ start + 8 * (i + 1) = omega arith in
    rw k (ap (λ (at : ℕ). record { place = start + 8 * i; reference = u32_at ctf (start + 8 * i) } ∷ label_sites ctf at (count - (i + 1))) next)

pub label_sites_end : (ctf : List ℕ) (start count i : ℕ) → count ≤ i → label_sites ctf (start + 8 * i) (count - i) ≡ []
unfolding label_sites
label_sites_end ctf start count i le = let k : count - i ≡ 0 = omega arith in rw k refl

pub item_sites_next : (start len count i : ℕ) (b : List ℕ) → i < count
    → item_sites (start + len * i) len (count - i) (drop (len * i) b) ≡ record { place = start + len * i; reference = u32_at b (len * i) } ∷ item_sites (start + len * (i + 1)) len (count - (i + 1)) (drop (len * (i + 1)) b)
unfolding item_sites
item_sites_next start len count i b lt =
    let k : count - i ≡ suc (count - (i + 1)) = omega arith in
    let next_is : suc i ≡ i + 1 = omega arith in
    let step : len * i + len ≡ len * (i + 1) = sym (mul-suc len i) ∙ ap (λ (m : ℕ). len * m) next_is in
    let next : start + len * i + len ≡ start + len * (i + 1) = omega (arith, step) in
    let behind : drop len (drop (len * i) b) ≡ drop (len * (i + 1)) b = drop-drop len (len * i) b ∙ ap (λ (m : ℕ). drop m b) step in
    rw (k, next, behind) refl

pub item_sites_end : (start len count i : ℕ) (b : List ℕ) → count ≤ i → item_sites (start + len * i) len (count - i) (drop (len * i) b) ≡ []
unfolding item_sites
item_sites_end start len count i b le = let k : count - i ≡ 0 = omega arith in rw k refl

-- ---- the first bad name, part by part

pub nameless_append : (t : Tables) (xs ys : List Site) → first_nameless t (xs ++ ys) ≡ option_or (first_nameless t xs) (first_nameless t ys)
unfolding first_nameless
nameless_append t [] ys = refl
nameless_append t (x ∷ xs) ys = at (is_none (name t x.reference)) (nameless_append t xs ys)
  where
    at : (b : Bool) → first_nameless t (xs ++ ys) ≡ option_or (first_nameless t xs) (first_nameless t ys) → cond b (Some x.place) (first_nameless t (xs ++ ys)) ≡ option_or (cond b (Some x.place) (first_nameless t xs)) (first_nameless t ys)
    at true ih = refl
    at false ih = ih

-- the first bad name is that of the header, else of the labels, else of the records
pub sites_parts : (t : Tables) (ctf : List ℕ) (a b c : Option ℕ)
    → a ≡ first_nameless t (header_sites (fields ctf))
    → b ≡ first_nameless t (label_sites ctf (36 + (fields ctf).lbloff) (((fields ctf).objtoff - (fields ctf).lbloff) / 8))
    → c ≡ first_nameless t (record_sites (36 + (fields ctf).typeoff) (types ctf))
    → first_nameless t (sites ctf) ≡ option_or a (option_or b c)
unfolding sites
sites_parts t ctf a b c p q r =
    let labels = label_sites ctf (36 + (fields ctf).lbloff) (((fields ctf).objtoff - (fields ctf).lbloff) / 8) in
    let of_records = record_sites (36 + (fields ctf).typeoff) (types ctf) in
    let front = header_sites (fields ctf) in
    nameless_append t front (labels ++ of_records) ∙ rw (p, q, r) (ap (option_or (first_nameless t front)) (nameless_append t labels of_records))

-- ---- the same with the parts that a header gives

pub header_part : (t : Tables) (ctf : List ℕ) (h : Fields) → h ≡ fields ctf
    → first_nameless t (header_sites h) ≡ first_nameless t (header_sites (fields ctf))
header_part t ctf h e = rw e refl

pub label_part : (t : Tables) (ctf : List ℕ) (h : Fields) (r : ℕ × ℕ) → h ≡ fields ctf → r ≡ range_of h SLabels
    → first_nameless t (label_sites ctf r.0 ((r.1 - r.0) / 8)) ≡ first_nameless t (label_sites ctf (36 + (fields ctf).lbloff) (((fields ctf).objtoff - (fields ctf).lbloff) / 8))
label_part t ctf h r e f =
    let less : (36 + (fields ctf).objtoff) - (36 + (fields ctf).lbloff) ≡ (fields ctf).objtoff - (fields ctf).lbloff = omega arith in
    rw (f, e, less) refl

pub record_part : (t : Tables) (ctf : List ℕ) (h : Fields) (r : ℕ × ℕ) (rs : List (Result Piece Fault)) → h ≡ fields ctf → r ≡ range_of h STypes → rs ≡ types ctf
    → first_nameless t (record_sites r.0 rs) ≡ first_nameless t (record_sites (36 + (fields ctf).typeoff) (types ctf))
record_part t ctf h r rs e f g = rw (f, e, g) refl

-- ---- records, one after another

pub record_then_rest : (t : Tables) (start : ℕ) (p : Piece) (rest : List (Result Piece Fault))
    → first_nameless t (record_sites start (Ok p ∷ rest)) ≡ option_or (first_nameless t (own_sites (start + p.at) p.bytes)) (first_nameless t (record_sites start rest))
unfolding record_sites
record_then_rest t start p rest = nameless_append t (own_sites (start + p.at) p.bytes) (record_sites start rest)

pub no_more_records : (t : Tables) (start : ℕ) → first_nameless t (record_sites start []) ≡ None
unfolding record_sites first_nameless
no_more_records t start = refl
