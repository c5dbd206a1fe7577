use Rattle.std.proofs.Common.{Some, sym, ap, ◌∙◌}
use Rattle.ctf_names.proofs.Pointing.{first_there, none_past, none_there}
use Rattle.ctf_names.proofs.pointers.first_outside.Goals as goal

pub returns-in_err-pointer : goal.returns-in_err-pointer
returns-in_err-pointer c = λ terms base slots has sorted without.
    let t = c.args.target in
    let ps = c.args.pointers.now in
    let from = c.begin-from.result in
    c.from_residual.ensures ∙ none_past t base slots from terms ps has sorted without (c.begin-from.ensures.low sorted) (c.begin-from.ensures.high sorted) c.in_err-pointer.ensures.lookup.3

pub returns-then-pointer-target : goal.returns-then-pointer-target
returns-then-pointer-target c = λ terms base slots has sorted without.
    let t = c.args.target in
    let ps = c.args.pointers.now in
    let from = c.begin-from.result in
    let seen = c.in_ok-pointer.ensures.lookup in
    let one = first_there t base slots from terms ps c.in_ok-pointer.pointer.now has sorted without (c.begin-from.ensures.low sorted) (c.begin-from.ensures.high sorted) seen.3.0 (sym seen.1) c.if-pointer-target.true in
    ap Some c.from.ensures ∙ one

pub returns-else-pointer-target : goal.returns-else-pointer-target
returns-else-pointer-target c = λ terms base slots has sorted without.
    let t = c.args.target in
    let ps = c.args.pointers.now in
    let from = c.begin-from.result in
    let seen = c.in_ok-pointer.ensures.lookup in
    none_there t base slots from terms ps c.in_ok-pointer.pointer.now has sorted without (c.begin-from.ensures.low sorted) (c.begin-from.ensures.high sorted) (sym seen.1) c.if-pointer-target.false
