-- A draft's content, part by part: its types fit, its names are kept, and its bytes are its parts.
use Rattle.std.proofs.Common.{◌≡◌, ℕ, ◌+◌, ◌<◌, ◌≤◌, zero, suc, List, [], ◌∷◌, ◌++◌, length, map, take, drop, Option, Some, None, Ok, Err, refl, sym, ap, subst, ◌∙◌, arith, ◌⊎◌, inl, inr, true, false, ltb}
use Rattle.std.specs.List.{flat_map, All, AllByRecursion}
use Rattle.std.proofs.lemmas.Bool.{le-ltb, lt-ltb}
use Rattle.std.proofs.lemmas.Grind.{flat_map-append}
use Rattle.std.proofs.lemmas.List.{append_assoc, drop-map, length-append, take-append-drop, take-map}
use Rattle.std.proofs.lemmas.List.Elements.{All-from_recursion}
use Rattle.std.proofs.lemmas.List.Folds.{flat_map-map}
use Rattle.ctf_draft.specs.TypeView.{type_of}
use Rattle.ctf_draft.specs.declared.types.DraftType.{DraftType}
use Rattle.ctf_model.proofs.Alls.{all_split}
use Rattle.ctf_model.proofs.KeptNames.{all_flat, kept_of}
use Rattle.ctf_model.specs.rules.Chains.{by_value, declarator}
use Rattle.ctf_model.specs.format.Dictionary.{Dictionary, Label}
use Rattle.ctf_model.specs.rules.Faults.{or_later}
use Rattle.ctf_model.specs.drafts.Fitting.{Fits}
use Rattle.ctf_model.specs.rules.Refusals.{placeless, out_of_memory}
use Rattle.ctf_model.specs.writing.WritingLaws.{IsKept}
use Rattle.ctf_model.specs.writing.Written.{bytes_of, deep_by, fields_over, header_bytes, label_bytes, labels_written, most_written, records_written, dictionary_too_big, unwritten, written}
use Rattle.ctf_model.specs.writing.WrittenNames.{names_of, name_reference, string_bytes, strings_of}
use Rattle.ctf_model.specs.writing.WrittenRecords.{record_bytes}
use Rattle.ctf_model.specs.declared.faults.Fault.{Fault}
use Rattle.ctf_model.specs.declared.faults.TheConstants.Fault.{DICT_TOO_BIG}
use Rattle.ctf_writer.specs.Before.{IsBefore, later_uses}
use Rattle.ctf_writer.specs.declared.before.Before.{Before}
use Rattle.ctf_writer.specs.DraftContentView.{dictionary_of, uses, written_type}
use Rattle.ctf_writer.specs.Uses.{IsRefused, with_names}
use Rattle.ctf_writer.specs.declared.draft_view.DraftContent.{DraftContent}
use Rattle.ctf_writer.proofs.Distinct.{each_once}
use Rattle.ctf_writer.proofs.Header.{four_joined}
use Rattle.ctf_writer.proofs.Joining.{all_mapped}
use Rattle.ctf_writer.proofs.Lengths.{bytes_len}

-- ---- types behind those of before

all_dropped : {A : Type 0} (P : A → Type 0) (n : ℕ) (xs : List A) → AllByRecursion P xs → AllByRecursion P (drop n xs)
all_dropped P zero xs h = h
all_dropped P (suc n) [] h = tt
all_dropped P (suc n) (x ∷ xs) h = all_dropped P n xs h.1

pub fits_later : (h : DraftContent) (count : ℕ) → AllByRecursion Fits (dictionary_of h).terms → All (λ t. Fits (type_of t)) (drop count h.types.now)
fits_later h count fits = All-from_recursion (λ (t : DraftType). Fits (type_of t)) (drop count h.types.now) (all_dropped (λ (t : DraftType). Fits (type_of t)) count h.types.now (all_mapped Fits type_of h.types.now fits))

pub later_are : (h : DraftContent) (count : ℕ) → flat_map uses (drop count h.types.now) ≡ flat_map names_of (drop count (dictionary_of h).terms)
later_are h count = sym (flat_map-map names_of type_of (drop count h.types.now)) ∙ ap (flat_map names_of) (sym (drop-map type_of count h.types.now))

-- ---- names in use

module _ (h : DraftContent) (count : ℕ) (us : List (List ℕ)) (e : us ≡ with_names [] (later_uses (dictionary_of h) count)) where
  kept_by : AllByRecursion (IsKept us) (later_uses (dictionary_of h) count)
  kept_by = subst (λ (n : List (List ℕ)). AllByRecursion (IsKept n) (later_uses (dictionary_of h) count)) (sym (e ∙ each_once (later_uses (dictionary_of h) count))) (kept_of (later_uses (dictionary_of h) count))

  pub kept_label : IsKept us h.parlabel.now
  kept_label = kept_by.0

  pub kept_name : IsKept us h.parname.now
  kept_name = kept_by.1.0

  kept_rest : AllByRecursion (IsKept us) (map (λ l. l.name) h.labels.now) × AllByRecursion (IsKept us) (flat_map names_of (drop count (map type_of h.types.now)))
  kept_rest = all_split (IsKept us) (map (λ l. l.name) h.labels.now) (flat_map names_of (drop count (map type_of h.types.now))) kept_by.1.1

  pub kept_labels : All (λ l. IsKept us l.name) h.labels.now
  kept_labels = All-from_recursion (λ (l : Label). IsKept us l.name) h.labels.now (all_mapped (IsKept us) (λ (l : Label). l.name) h.labels.now kept_rest.0)

  pub kept_later : All (λ t. AllByRecursion (IsKept us) (uses t)) (drop count h.types.now)
  kept_later = All-from_recursion (λ (t : DraftType). AllByRecursion (IsKept us) (uses t)) (drop count h.types.now)
      (all_flat (IsKept us) uses (drop count h.types.now) (subst (AllByRecursion (IsKept us)) (sym (later_are h count)) kept_rest.1))

-- ---- bytes

module _ (h : DraftContent) (ns : List (List ℕ)) (e : ns ≡ strings_of (dictionary_of h)) where
  pub labels_are : flat_map (label_bytes ns) h.labels.now ≡ labels_written (dictionary_of h)
  unfolding labels_written
  labels_are = ap (λ (n : List (List ℕ)). flat_map (label_bytes n) h.labels.now) e

  pub records_are : flat_map (written_type ns) h.types.now ≡ records_written (dictionary_of h)
  unfolding records_written
  records_are = sym (flat_map-map (record_bytes ns) type_of h.types.now) ∙ ap (λ (n : List (List ℕ)). flat_map (record_bytes n) (map type_of h.types.now)) e

  pub held_len : length (bytes_of (dictionary_of h)) ≡ 36 + (length (flat_map (label_bytes ns) h.labels.now) + (length (flat_map (written_type ns) h.types.now) + length (string_bytes ns)))
  held_len =
      let whole = bytes_len (dictionary_of h) in
      let labels = ap length labels_are in
      let records = ap length records_are in
      let strings = ap (λ (n : List (List ℕ)). length (string_bytes n)) e in
      omega (arith, whole, labels, records, strings)

  pub held_joined : (parlabel parname labels records strings : ℕ) (o o1 o2 o3 o4 : List ℕ) → parlabel ≡ name_reference ns h.parlabel.now → parname ≡ name_reference ns h.parname.now
      → labels ≡ length (labels_written (dictionary_of h)) → records ≡ length (records_written (dictionary_of h)) → strings ≡ length (string_bytes ns)
      → o1 ≡ o ++ header_bytes (fields_over parlabel parname labels records strings) → o2 ≡ o1 ++ flat_map (label_bytes ns) h.labels.now → o3 ≡ o2 ++ flat_map (written_type ns) h.types.now → o4 ≡ o3 ++ string_bytes ns → o4 ≡ o ++ bytes_of (dictionary_of h)
  unfolding bytes_of
  held_joined parlabel parname labels records strings o o1 o2 o3 o4 a b l c d p q r s =
      four_joined o o1 o2 o3 o4 (header_bytes (fields_over parlabel parname labels records strings)) (flat_map (label_bytes ns) h.labels.now) (flat_map (written_type ns) h.types.now) (string_bytes ns) p q r s
      ∙ rw (a, b, l, c, d, labels_are, records_are, ← e) refl

  -- the records of before, and the others
  pub records_parted : (b : Before) → IsBefore (dictionary_of h) b → flat_map (written_type ns) h.types.now ≡ b.records.now ++ flat_map (written_type ns) (drop b.count h.types.now)
  records_parted b is =
      let first : flat_map (written_type ns) (take b.count h.types.now) ≡ b.records.now =
      sym (flat_map-map (record_bytes ns) type_of (take b.count h.types.now)) ∙ ap (flat_map (record_bytes ns)) (sym (take-map type_of b.count h.types.now))
      ∙ ap (λ (n : List (List ℕ)). flat_map (record_bytes n) (take b.count (map type_of h.types.now))) e ∙ sym is.records in
      ap (flat_map (written_type ns)) (sym (take-append-drop b.count h.types.now)) ∙ flat_map-append (written_type ns) (take b.count h.types.now) (drop b.count h.types.now)
      ∙ ap (λ (r : List ℕ). r ++ flat_map (written_type ns) (drop b.count h.types.now)) first

  pub parted_len : (b : Before) → IsBefore (dictionary_of h) b → length (flat_map (written_type ns) h.types.now) ≡ length b.records.now + length (flat_map (written_type ns) (drop b.count h.types.now))
  parted_len b is = ap length (records_parted b is) ∙ length-append b.records.now (flat_map (written_type ns) (drop b.count h.types.now))

  pub records_joined : (b : Before) → IsBefore (dictionary_of h) b → (o o1 o2 : List ℕ) → o1 ≡ o ++ b.records.now → o2 ≡ o1 ++ flat_map (written_type ns) (drop b.count h.types.now) → o2 ≡ o ++ flat_map (written_type ns) h.types.now
  records_joined b is o o1 o2 p q =
      q ∙ ap (λ (r : List ℕ). r ++ flat_map (written_type ns) (drop b.count h.types.now)) p ∙ append_assoc o b.records.now (flat_map (written_type ns) (drop b.count h.types.now))
      ∙ ap (λ (r : List ℕ). o ++ r) (sym (records_parted b is))

-- ---- refusals

pub refused_deep : (d : Dictionary) (f : Fault) → ((later : Option Fault) → or_later 15 (deep_by by_value d) (or_later 16 (deep_by declarator d) later) ≡ Some f) → written d ≡ Err f
unfolding written unwritten
refused_deep d f h = let e = h (or_later 47 (dictionary_too_big d) None) in rw e refl

module _ (d : Dictionary) (v : deep_by by_value d ≡ None) (w : deep_by declarator d ≡ None) where
  pub refused_long : most_written < length (bytes_of d) → written d ≡ Err (placeless DICT_TOO_BIG)
  unfolding written unwritten
  refused_long lt = let long : ltb most_written (length (bytes_of d)) ≡ true = lt-ltb most_written (length (bytes_of d)) lt in rw (v, w, long) refl

  pub accepted : length (bytes_of d) ≤ most_written → written d ≡ Ok (bytes_of d)
  unfolding written unwritten
  accepted le = let few : ltb most_written (length (bytes_of d)) ≡ false = le-ltb most_written (length (bytes_of d)) le in rw (v, w, few) refl

  pub refused_strings : (f : Fault) → IsRefused (strings_of d) f → (f ≡ out_of_memory) ⊎ (written d ≡ Err f)
  refused_strings f (inl none) = inl none
  refused_strings f (inr long) =
      let whole = bytes_len d in
      let far = long.1 in
      let lt : most_written < length (bytes_of d) = omega (arith, whole, far) in
      inr (refused_long lt ∙ ap (λ (g : Fault). Err g) (sym long.0))
