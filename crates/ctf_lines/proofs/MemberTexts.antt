-- Rows of lists and their lengths.
use Rattle.std.proofs.Common.{◌≡◌, ℕ, ◌+◌, ◌<◌, ◌≤◌, ◌^◌, List, [], ◌∷◌, ◌++◌, length, length-append, append_assoc, codes, decimal, sym, ap, ◌∙◌, arith}
use Rattle.std.specs.Prelude.{Vec}
use Rattle.std.specs.List.{concat}
use Rattle.std.specs.declared.alloc.Global.{Global}
use Rattle.ctf_model.specs.dumps.Texts.{with_commas, signed_decimal}
use Rattle.ctf_model.specs.format.Dictionary.{Label}
use Rattle.ctf_model.specs.format.Term.{Enumerator, Member}
use Rattle.ctf_protocol.specs.lines.Text.{text_of}
use Rattle.ctf_protocol.specs.lines.ReplyLines.{item_text, key_text, quote}
use Rattle.ctf_protocol.specs.answers.Questions.{enumerator_item, member_item}
use Rattle.ctf_protocol.specs.answers.SlotAnswers.{label_item}
use Rattle.ctf_lines.specs.Appending.{Appended}
use Rattle.ctf_lines.specs.Rows.{member_row}
use Rattle.ctf_lines.proofs.Objects.{three_parts, two_parts}
use Rattle.ctf_lines.proofs.Short.{decimal_64}

pub numbered_short : (front back : List ℕ) (n : ℕ) → n < 2 ^ 64 → length (front ++ (decimal n ++ back)) ≤ length front + length back + 20
numbered_short front back n fits =
    let digits = decimal_64 n fits in
    let all = length-append front (decimal n ++ back) in
    let rest = length-append (decimal n) back in
    omega (arith, digits, all, rest)

pub member_short : (name : List ℕ) (offset number : ℕ) → offset < 2 ^ 64 → number < 2 ^ 64 → length (member_row name offset number) ≤ length name + 69
member_short name offset number fits small =
    let first = decimal_64 offset fits in
    let second = decimal_64 number small in
    let end = length-append (decimal number) (codes "}") in
    let behind = length-append (decimal offset) (codes ",\"type\":" ++ (decimal number ++ codes "}")) in
    let all = length-append name (codes "\",\"offset\":" ++ (decimal offset ++ (codes ",\"type\":" ++ (decimal number ++ codes "}")))) in
    omega (arith, first, second, end, behind, all)

-- a member whose name needs no escapes
row_text : (text : List ℕ) (offset number : ℕ) → member_row text offset number ≡ concat (codes "{" ∷ with_commas ((key_text (codes "name") ++ quote text) ∷ (key_text (codes "offset") ++ decimal offset) ∷ (key_text (codes "type") ++ decimal number) ∷ []) ∷ codes "}" ∷ [])
row_text text offset number =
    let behind = codes ",\"offset\":" ++ (decimal offset ++ (codes ",\"type\":" ++ (decimal number ++ codes "}"))) in
    ap (λ (t : List ℕ). codes "{\"name\":\"" ++ t) (sym (append_assoc text (codes "\"") behind))
    ∙ ap (λ (t : List ℕ). 123 ∷ t) (three_parts (key_text (codes "name") ++ quote text) (key_text (codes "offset") ++ decimal offset) (key_text (codes "type") ++ decimal number))

pub member_text : (m : Member) → text_of m.name ≡ m.name → member_row m.name m.offset m.tnum ≡ item_text (member_item m)
member_text m same = ap (λ (t : List ℕ). member_row t m.offset m.tnum) (sym same) ∙ row_text (text_of m.name) m.offset m.tnum

-- items part by part
pub member_parts : (m : Member) → codes "{\"name\":" ++ (quote (text_of m.name) ++ ((codes ",\"offset\":" ++ (decimal m.offset ++ codes ",\"type\":")) ++ (codes "" ++ (decimal m.tnum ++ codes "}")))) ≡ item_text (member_item m)
member_parts m =
    let name = quote (text_of m.name) in
    let end = decimal m.tnum ++ codes "}" in
    ap (λ (t : List ℕ). codes "{\"name\":" ++ (name ++ (codes ",\"offset\":" ++ t))) (append_assoc (decimal m.offset) (codes ",\"type\":") end)
    ∙ ap (λ (t : List ℕ). 123 ∷ t) (three_parts (key_text (codes "name") ++ name) (key_text (codes "offset") ++ decimal m.offset) (key_text (codes "type") ++ decimal m.tnum))

pub enumerator_parts : (e : Enumerator) → codes "{\"name\":" ++ (quote (text_of e.name) ++ (codes ",\"value\":" ++ (signed_decimal e.value ++ codes "}"))) ≡ item_text (enumerator_item e)
enumerator_parts e = ap (λ (t : List ℕ). 123 ∷ t) (two_parts (key_text (codes "name") ++ quote (text_of e.name)) (key_text (codes "value") ++ signed_decimal e.value))

pub label_parts : (x : Label) → (codes "{\"last\":" ++ (decimal x.last ++ codes ",\"name\":")) ++ (quote (text_of x.name) ++ codes "}") ≡ item_text (label_item x)
label_parts x =
    let name = quote (text_of x.name) in
    ap (λ (t : List ℕ). codes "{\"last\":" ++ t) (append_assoc (decimal x.last) (codes ",\"name\":") (name ++ codes "}"))
    ∙ ap (λ (t : List ℕ). 123 ∷ t) (two_parts (key_text (codes "last") ++ decimal x.last) (key_text (codes "name") ++ name))

-- the pieces of a member in sequence
pub pieces : (front name back digits more last : List ℕ) → (front ++ (name ++ back)) ++ ((digits ++ more) ++ last) ≡ front ++ (name ++ (back ++ (digits ++ (more ++ last))))
pieces front name back digits more last =
    append_assoc front (name ++ back) ((digits ++ more) ++ last)
    ∙ ap (λ (t : List ℕ). front ++ t)
    (append_assoc name back ((digits ++ more) ++ last)
    ∙ ap (λ (t : List ℕ). name ++ (back ++ t)) (append_assoc digits more last))

pub two_appended : {old mid new : Vec ℕ Global} {a b : List ℕ} → Appended old mid a → Appended mid new b → Appended old new (a ++ b)
two_appended {old} {mid} {new} {a} {b} one two =
    let both = length-append a b in
    let len = one.len in
    let more = two.len in
    record {
      items = two.items ∙ ap (λ (t : List ℕ). t ++ b) one.items ∙ append_assoc old.items a b;
      len = omega (arith, both, len, more);
      capacity = two.capacity ∙ one.capacity;
    }
