-- Properties of whole records.
use Rattle.std.proofs.Common.{◌≡◌, ℕ, ◌-◌, ◌≤◌, true, List, [], ltb, length, take, drop, Option, Some, None, refl, sym, ap, subst, ◌∙◌, arith}
use Rattle.std.specs.Prelude.{MatchOption, is_some}
use Rattle.std.proofs.lemmas.Bool.{lt-ltb}
use Rattle.std.proofs.lemmas.List.{append-nil, length-drop, take_all}
use Rattle.ctf_model.specs.format.Record.{IsWhole, IsWholeAt, head_len, variant_len, size, vlen, kind, behind_head}
use Rattle.ctf_model.specs.format.Section.{front_len}
use Rattle.ctf_model.specs.declared.kinds.Kind.{Kind}
use Rattle.ctf_model.proofs.Cut.{front_len-whole, front_whole}
use Rattle.ctf_records.specs.ByKind.{at_kind, len_behind}

-- the record at the front, cut out, has its own length
pub taken_whole : (b : List ℕ) (n : ℕ) → front_len b ≡ Some n → front_len (take n b) ≡ Some (length (take n b))
taken_whole b n e = ap front_len (sym (append-nil (take n b))) ∙ front_len-whole (take n b) [] (front_whole b n e)

-- bytes as long as the record at their front are a whole record
pub whole : (b : List ℕ) → front_len b ≡ Some (length b) → IsWhole b
whole b e = subst IsWhole (take_all (length b) b (omega arith)) (front_whole b (length b) e)

-- properties of every whole record
pub record WholeFacts (b : List ℕ) : Type 0 where
  pub has_head : 8 ≤ length b
  pub head_inside : head_len b ≤ length b
  pub is_known : is_some (kind b) ≡ true
  pub behind : length (behind_head b) ≡ len_behind b

facts : (b : List ℕ) → IsWhole b → WholeFacts b
unfolding IsWhole
facts b w = record { has_head = low (kind b) w; head_inside = inside (kind b) w; is_known = known (kind b) w; behind = length-drop (head_len b) b ∙ left (kind b) w }
  where
    low : (o : Option Kind) → MatchOption o ⊥ (IsWholeAt b) → 8 ≤ length b
    low None w = absurd w
    low (Some k) w = w.has_head

    inside : (o : Option Kind) → MatchOption o ⊥ (IsWholeAt b) → head_len b ≤ length b
    inside None w = absurd w
    inside (Some k) w = omega (arith, w.ends)

    known : (o : Option Kind) → MatchOption o ⊥ (IsWholeAt b) → is_some o ≡ true
    known None w = absurd w
    known (Some k) w = refl

    left : (o : Option Kind) → MatchOption o ⊥ (IsWholeAt b) → length b - head_len b ≡ at_kind (λ k. variant_len k (size b) (vlen b)) o
    left None w = absurd w
    left (Some k) w = omega (arith, w.ends)

pub whole_facts : (b : List ℕ) → front_len b ≡ Some (length b) → WholeFacts b
whole_facts b e = facts b (whole b e)

-- the number of bytes after the head
pub behind_is : (b : List ℕ) → front_len b ≡ Some (length b) → length (behind_head b) ≡ len_behind b
behind_is b e = (whole_facts b e).behind

-- no record begins beyond the end
pub none_past : (b : List ℕ) (at : ℕ) → length b ≤ at → front_len (drop at b) ≡ None
unfolding front_len
none_past b at h = let short : ltb (length (drop at b)) 8 ≡ true = lt-ltb _ _ (omega (arith, length-drop at b)) in rw short refl
