use Rattle.std.proofs.Common.{ℕ, List, [], ◌∷◌, ◌+◌, ◌/◌, ◌%◌, length, length-append, refl, ap, arith, decimal}
use Rattle.std.specs.Prelude.{Vec}
use Rattle.std.specs.declared.alloc.Global.{Global}
use Rattle.ctf_lines.specs.Appending.{Appended}
use Rattle.ctf_lines.proofs.Decimals.{digit_more}
use Rattle.ctf_lines.proofs.MemberTexts.{two_appended}
use Rattle.ctf_lines.proofs.Walks.{as_text}
use Rattle.ctf_lines.proofs.appending.with_four_digits.Goals as goal

pub with_three_digits-requires-clause-room : goal.with_three_digits-requires-clause-room
with_three_digits-requires-clause-room c =
    let last = 48 + c.args.number % 10 in
    let all = ap length (digit_more c.args.number last (omega (arith, c.requires.number.0)) (omega (arith, c.requires.number.1)) refl) in
    let parts = length-append (decimal (c.args.number / 10)) (last ∷ []) in
    let room = c.requires.room in
    omega (arith, all, parts, room)

pub append_bytes-requires : goal.append_bytes-requires
append_bytes-requires c =
    let all = ap length (digit_more c.args.number c.digit.result (omega (arith, c.requires.number.0)) (omega (arith, c.requires.number.1)) c.digit.ensures) in
    let parts = length-append (decimal (c.args.number / 10)) (c.digit.result ∷ []) in
    let room = c.requires.room in
    let len = c.with_three_digits.ensures.len in
    let capacity = c.with_three_digits.ensures.capacity in
    omega (arith, all, parts, room, len, capacity)

pub returns : goal.returns
returns c =
    let digits = digit_more c.args.number c.digit.result (omega (arith, c.requires.number.0)) (omega (arith, c.requires.number.1)) c.digit.ensures in
    as_text (λ (old : Vec ℕ Global) (text : List ℕ) (new : Vec ℕ Global). Appended old new text) digits (two_appended c.with_three_digits.ensures c.append_bytes.ensures)
