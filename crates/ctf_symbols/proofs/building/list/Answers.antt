use Rattle.std.proofs.Common.{rules, ◌+◌, ◌≤◌, ◌^◌, refl, ap, arith, length}
use Rattle.std.proofs.lemmas.List.{length-drop}
use Rattle.ctf_model.specs.symbols.Entries.{entry_len}
use Rattle.ctf_model.specs.symbols.Symbols.{with_types, symbols_of}
use Rattle.ctf_entries.proofs.Considering.{considered_end, considered_less, considered_more}
use Rattle.ctf_entries.specs.NamesView.{strings_of}
use Rattle.ctf_entries.specs.SymbolView.{symbol}
use Rattle.ctf_symbols.specs.Named.{called_symbol, program_names}
use Rattle.ctf_symbols.proofs.Itemizing.{all_there, considered_named, one_more, passed}
use Rattle.ctf_symbols.proofs.Passing.{past_other, past_object, past_function, good_function, at_end}
use Rattle.ctf_symbols.proofs.building.list.Goals as goal
use Rattle.ctf_symbols.proofs.building.list.Goals.{then-not-is_considered+in_ok-push, else-not-is_considered+then-is_object+in_ok-push-2+in_ok-push-3, else-not-is_considered+else-is_object+in_ok-push-4+in_ok-push-5}

pub behind_function-functions-requires : goal.behind_function-functions-requires
behind_function-functions-requires c = record { good = good_function (strings_of c.args.names) _ _ c.symbols.number _ _ _ _ _ c.behind_symbol-rest.ensures c.symbols-test.true c.read-symbol.ensures (search rules) (search rules) c.symbols.invariant.0 }

pub symbols-preserved : goal.symbols-preserved
symbols-preserved c =
    let strs = strings_of c.args.names in
    let n = c.symbols.number in
    let x = symbol c.read-symbol.result in
    let b = c.symbols.rest.now in
    let behind = c.behind_symbol-rest.result.now in
    let all = with_types (symbols_of strs c.args.sym.now) in
    let left : n + 1 + length behind ≤ 2 ^ 63 = omega (arith, ap length c.behind_symbol-rest.ensures, length-drop 24 b, c.symbols.invariant.2, c.symbols-test.true) in
    elim c.if-not-is_considered.branch [
      | then-not-is_considered+in_ok-push w ↦ (
        rw (w.lefts-is, w.objects-is, w.functions-is, w.in_ok-push.ensures.items) (past_other strs _ _ n _ _ _ _ _ c.behind_symbol-rest.ensures c.symbols-test.true c.read-symbol.ensures (search rules) c.symbols.invariant.0),
        rw w.items-is (passed (program_names strs) called_symbol all _ _ _ (considered_less strs n b behind x c.behind_symbol-rest.ensures c.symbols-test.true c.read-symbol.ensures (search rules)) c.symbols.invariant.1),
        left,
        rw w.objects-is c.symbols.invariant.3,
        rw w.functions-is c.symbols.invariant.4,
      )
      | else-not-is_considered+then-is_object+in_ok-push-2+in_ok-push-3 w ↦ (
        rw (w.lefts-is, w.objects-is, w.functions-is, w.in_ok-push-3.ensures.items) (past_object strs _ _ n _ _ _ _ _ _ c.behind_symbol-rest.ensures c.symbols-test.true c.read-symbol.ensures (search rules) (search rules) w.behind_object-objects.ensures c.symbols.invariant.0),
        rw (w.items-is, w.in_ok-push-2.ensures.items, w.symbol_item.ensures) (one_more (program_names strs) called_symbol all _ _ _ (n, x) _ (considered_more strs n b behind x c.behind_symbol-rest.ensures c.symbols-test.true c.read-symbol.ensures (search rules)) refl (considered_named strs n b x c.read-symbol.ensures (search rules)) c.symbols.invariant.1),
        left,
        rw w.objects-is (omega (arith, ap length w.behind_object-objects.ensures, length-drop 2 c.symbols.objects.now, c.symbols.invariant.3)),
        rw w.functions-is c.symbols.invariant.4,
      )
      | else-not-is_considered+else-is_object+in_ok-push-4+in_ok-push-5 w ↦ (
        rw (w.lefts-is, w.objects-is, w.functions-is, w.in_ok-push-5.ensures.items) (past_function strs _ _ n _ _ _ _ _ _ c.behind_symbol-rest.ensures c.symbols-test.true c.read-symbol.ensures (search rules) (search rules) w.behind_function-functions.ensures c.symbols.invariant.0),
        rw (w.items-is, w.in_ok-push-4.ensures.items, w.symbol_item-else-is_object.ensures) (one_more (program_names strs) called_symbol all _ _ _ (n, x) _ (considered_more strs n b behind x c.behind_symbol-rest.ensures c.symbols-test.true c.read-symbol.ensures (search rules)) refl (considered_named strs n b x c.read-symbol.ensures (search rules)) c.symbols.invariant.1),
        left,
        rw w.objects-is c.symbols.invariant.3,
        rw w.functions-is (omega (arith, ap length w.behind_function-functions.ensures, length-drop (entry_len c.symbols.functions.now) c.symbols.functions.now, c.symbols.invariant.4)),
      )
    ]

pub returns-clause-lefts : goal.returns-clause-lefts
returns-clause-lefts c = at_end (strings_of c.args.names) _ _ c.symbols.number _ _ _ c.symbols-test.false c.symbols.invariant.0.kept

pub returns-clause-items : goal.returns-clause-items
returns-clause-items c =
    let strs = strings_of c.args.names in
    all_there (program_names strs) called_symbol (with_types (symbols_of strs c.args.sym.now)) _ _ (considered_end strs c.symbols.number c.symbols.rest.now c.symbols-test.false) c.symbols.invariant.1
