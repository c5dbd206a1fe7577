use Rattle.std.proofs.Common.{ℕ, ◌++◌, List, ap, arith, length, sym, ◌∙◌}
use Rattle.std.specs.List.{flat_map}
use Rattle.std.proofs.lemmas.List.{append_assoc, length-append}
use Rattle.ctf_model.specs.writing.WrittenRecords.{u16}
use Rattle.ctf_writer.specs.DraftContentView.{written_argument}
use Rattle.ctf_writer.proofs.Joining.{even_bytes, odd_bytes, types_short}
use Rattle.ctf_writer.proofs.items.put_arguments.Goals as goal

pub put_types-requires : goal.put_types-requires
put_types-requires c = let room = c.requires.room in let short = types_short c.args.arguments.now in record { room = omega (arith, room, short) }

pub put_u16-requires : goal.put_u16-requires
put_u16-requires c =
    let room = c.requires.room in
    let odd = ap length (odd_bytes c.args.arguments.now c.if-arguments-gt0.true) in
    let whole = length-append (flat_map written_argument c.args.arguments.now) (u16 0) in
    let len = c.put_types.ensures.len in
    let capacity = c.put_types.ensures.capacity in
    omega (arith, room, odd, whole, len, capacity)

pub returns-then-arguments-gt0-clause-items : goal.returns-then-arguments-gt0-clause-items
returns-then-arguments-gt0-clause-items c =
    let before = c.put_types.ensures.items in
    let odd = odd_bytes c.args.arguments.now c.if-arguments-gt0.true in
    c.put_u16.ensures.items ∙ ap (λ (b : List ℕ). b ++ u16 0) before ∙ append_assoc c.args.out.now.items (flat_map written_argument c.args.arguments.now) (u16 0) ∙ ap (λ (b : List ℕ). c.args.out.now.items ++ b) (sym odd)

pub returns-then-arguments-gt0-clause-len : goal.returns-then-arguments-gt0-clause-len
returns-then-arguments-gt0-clause-len c =
    let odd = ap length (odd_bytes c.args.arguments.now c.if-arguments-gt0.true) in
    let whole = length-append (flat_map written_argument c.args.arguments.now) (u16 0) in
    let len = c.put_types.ensures.len in
    let put = c.put_u16.ensures.len in
    omega (arith, odd, whole, len, put)

pub returns-else-arguments-gt0-clause-items : goal.returns-else-arguments-gt0-clause-items
returns-else-arguments-gt0-clause-items c = c.put_types.ensures.items ∙ ap (λ (b : List ℕ). c.args.out.now.items ++ b) (sym (even_bytes c.args.arguments.now c.if-arguments-gt0.false))

pub returns-else-arguments-gt0-clause-len : goal.returns-else-arguments-gt0-clause-len
returns-else-arguments-gt0-clause-len c =
    let even = ap length (even_bytes c.args.arguments.now c.if-arguments-gt0.false) in
    let len = c.put_types.ensures.len in
    omega (arith, even, len)
