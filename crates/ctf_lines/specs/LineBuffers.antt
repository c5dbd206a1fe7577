-- What is appended to a buffer: the spare room of a list, which never grows.
use Rattle.std.proofs.Common.{◌≡◌, ℕ, ◌+◌, ◌++◌, false, List, [], length, length-append, append_assoc, append-nil, refl, sym, ap, ◌∙◌, arith}
use Rattle.std.specs.Prelude.{vec_capacity, vec_len}
use Rattle.ctf_lines.specs.declared.line_buffers.LineBuffer.{LineBuffer}

-- the text was appended unless the buffer is full afterwards; a full buffer stays full, and the
-- list was not moved
pub record TakesIn (old : LineBuffer) (text : List ℕ) (new : LineBuffer) : Type 0 where
  pub capacity : vec_capacity new.out ≡ vec_capacity old.out
  pub end : new.end ≡ old.end
  pub behind : List ℕ
  pub kept : new.out.items ≡ old.out.items ++ behind
  pub len : vec_len new.out ≡ vec_len old.out + length behind
  pub open_before : new.is_full ≡ false → old.is_full ≡ false
  pub written : new.is_full ≡ false → behind ≡ text

pub none_taken : (buffer : LineBuffer) → TakesIn buffer [] buffer
none_taken buffer = record {
  capacity = refl;
  end = refl;
  behind = [];
  kept = sym (append-nil buffer.out.items);
  len = omega arith;
  open_before = λ e. e;
  written = λ e. refl;
}

pub both_taken : (old mid new : LineBuffer) (a b : List ℕ) → TakesIn old a mid → TakesIn mid b new
    → TakesIn old (a ++ b) new
both_taken old mid new a b first second = record {
  capacity = second.capacity ∙ first.capacity;
  end = second.end ∙ first.end;
  behind = first.behind ++ second.behind;
  kept =
      second.kept ∙ ap (λ (t : List ℕ). t ++ second.behind) first.kept
      ∙ append_assoc old.out.items first.behind second.behind;
  len =
      let both = length-append first.behind second.behind in
      let one = first.len in
      let other = second.len in
      omega (arith, both, one, other);
  open_before = λ e. first.open_before (second.open_before e);
  written = λ e.
      ap (λ (t : List ℕ). t ++ second.behind) (first.written (second.open_before e))
      ∙ ap (λ (t : List ℕ). a ++ t) (second.written e);
}
