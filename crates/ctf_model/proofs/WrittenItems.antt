-- Reading back the written items of a list.
use Rattle.std.proofs.Common.{◌≡◌, ℕ, ◌+◌, ◌*◌, ◌/◌, ◌%◌, ◌^◌, ◌<◌, Bool, true, false, ltb, List, [], ◌∷◌, ◌++◌, length, drop, Option, Some, refl, ap, arith}
use Rattle.std.specs.List.{flat_map, AllByRecursion}
use Rattle.std.specs.Int.{cast_signed, cast_unsigned, w32}
use Rattle.std.proofs.lemmas.Int.{to_z-of_z}
use mir.ValLaws.{of_z_fits}
use Rattle.std.proofs.lemmas.Bool.{ltb-true}
use Rattle.std.proofs.lemmas.List.{drop_at, append_assoc, length-append}
use Rattle.std.proofs.Math.Nat.{mul-suc}
use Rattle.ctf_model.specs.format.Bytes.{number}
use Rattle.ctf_model.specs.format.Record.{member_len}
use Rattle.ctf_model.specs.format.Spelling.{items, member_of, enumerator_of, argument_of}
use Rattle.ctf_model.specs.format.Term.{Member, Enumerator}
use Rattle.ctf_model.proofs.Items.{items_more}
use Rattle.ctf_model.specs.drafts.Fitting.{FitsMember, FitsEnumerator}
use Rattle.ctf_model.specs.writing.WritingLaws.{IsFound, table_of}
use Rattle.ctf_model.specs.writing.WrittenNames.{name_reference}
use Rattle.ctf_model.specs.writing.WrittenRecords.{u16, u32, member_bytes, enumerator_bytes}
use Rattle.ctf_model.proofs.WrittenHeads.{number_u16, number_u32}

-- the bytes are an item of this length, whatever follows
pub record IsItem {A : Type 0} (item : List ℕ → Option A) (size : ℕ) (bytes : List ℕ) (x : A) : Type 0 where
  pub len : length bytes ≡ size
  pub reads : (rest : List ℕ) → item (bytes ++ rest) ≡ Some x

-- a sequence of items is read back
pub items_read : {A : Type 0} (item : List ℕ → Option A) (write : A → List ℕ) (size : ℕ) (xs : List A) (rest : List ℕ) → AllByRecursion (λ x. IsItem item size (write x) x) xs → items item size (length xs) (flat_map write xs ++ rest) ≡ Some xs
items_read item write size [] rest all = refl
items_read item write size (x ∷ xs) rest all =
    let behind = flat_map write xs ++ rest in
    let joined : flat_map write (x ∷ xs) ++ rest ≡ write x ++ behind = append_assoc (write x) (flat_map write xs) rest in
    let later : drop size (write x ++ behind) ≡ behind = drop_at (write x) behind size all.0.len in
    rw joined (items_more item size (length xs) (write x ++ behind) x xs (all.0.reads behind) (rw later (items_read item write size xs rest all.1)))

-- items have this length
pub items_len : {A : Type 0} (item : List ℕ → Option A) (write : A → List ℕ) (size : ℕ) (xs : List A) → AllByRecursion (λ x. IsItem item size (write x) x) xs → length (flat_map write xs) ≡ size * length xs
items_len item write size [] all = omega arith
items_len item write size (x ∷ xs) all =
    let more = mul-suc size (length xs) in
    omega (arith, length-append (write x) (flat_map write xs), all.0.len, items_len item write size xs all.1)

-- an argument is read back
pub argument_read : (t : ℕ) → t < 2 ^ 16 → IsItem argument_of 2 (u16 t) t
argument_read t low = record { len = refl; reads = λ rest. ap (λ (n : ℕ). Some n) (number_u16 t low) }

-- an enumerator is read back
pub enumerator_read : (names : List (List ℕ)) (e : Enumerator) → FitsEnumerator e → IsFound names e.name → IsItem (enumerator_of (table_of names)) 8 (enumerator_bytes names e) e
enumerator_read names e fits found =
    let low = found.low in
    let word : number (u32 (name_reference names e.name)) ≡ name_reference names e.name = number_u32 (name_reference names e.name) (omega arith) in
    let value : number (u32 (cast_unsigned w32 e.value)) ≡ cast_unsigned w32 e.value = number_u32 (cast_unsigned w32 e.value) (of_z_fits w32 e.value fits.value).fits in
    let back : cast_signed w32 (cast_unsigned w32 e.value) ≡ e.value = to_z-of_z w32 e.value fits.value in
    record { len = refl; reads = λ rest. rw (word, found.found, value, back) refl }

-- a member is read back, in either form
pub member_read : (names : List (List ℕ)) (size : ℕ) (m : Member) → FitsMember size m → m.tnum < 0xffff → IsFound names m.name → IsItem (member_of size (table_of names)) (member_len size) (member_bytes names size m) m
member_read names size m fits low found = at (ltb size 8192) refl
  where
    low_r : name_reference names m.name < 2 ^ 32
    low_r = let low_r = found.low in omega arith

    word : number (u32 (name_reference names m.name)) ≡ name_reference names m.name
    word = number_u32 (name_reference names m.name) low_r

    type : number (u16 m.tnum) ≡ m.tnum
    type = number_u16 m.tnum (omega arith)

    at : (t : Bool) → ltb size 8192 ≡ t → IsItem (member_of size (table_of names)) (member_len size) (member_bytes names size m) m
    at true e =
        let lt = ltb-true size 8192 e in
        let inside = fits.inside in
        let offset : number (u16 m.offset) ≡ m.offset = number_u16 m.offset (omega arith) in
        record { len = rw e refl; reads = λ rest. rw (e, word, found.found, type, offset) refl }
    at false e =
        let low_o = fits.offset in
        let high : number (u32 (m.offset / 2 ^ 32)) ≡ m.offset / 2 ^ 32 = number_u32 (m.offset / 2 ^ 32) (omega arith) in
        let rest_low : number (u32 (m.offset % 2 ^ 32)) ≡ m.offset % 2 ^ 32 = number_u32 (m.offset % 2 ^ 32) (omega arith) in
        let whole : 2 ^ 32 * (m.offset / 2 ^ 32) + m.offset % 2 ^ 32 ≡ m.offset = omega arith in
        record { len = rw e refl; reads = λ rest. rw (e, word, found.found, type, high, rest_low, whole) refl }
