-- The model of a lexer. Only private clauses cite it.
use Rattle.std.specs.Prelude.{◌≤◌, ℕ, List, drop, length}
use Rattle.std.specs.Str.{IsUtf8}
use Rattle.ctf_json.specs.Plain.{HasNoEscape, BeginsOrEnds}
use Rattle.ctf_json.specs.declared.plain_lexer.Lexer.TheInside.{Inside}

abbrev pub lexer_view : Inside → List ℕ
lexer_view a = drop a.at a.text.now

pub record IsLexer (a : Inside) : Type 0 where
  pub utf8 : IsUtf8 a.text.now
  pub no_escape : HasNoEscape a.text.now
  pub within : a.at ≤ length a.text.now
  pub begins : BeginsOrEnds (drop a.at a.text.now)
