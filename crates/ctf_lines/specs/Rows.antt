-- The rows of lists, and the lines of refusals and of answers to changes.
use Rattle.std.specs.Prelude.{ℕ, ◌++◌, List, Option, None, Some, codes, decimal}
use Rattle.ctf_answers.specs.declared.count.Count.{Count}

-- a member whose name needs no escapes
abbrev pub member_row : List ℕ → ℕ → ℕ → List ℕ
member_row name offset number =
    codes "{\"name\":\"" ++ (name ++ (codes "\",\"offset\":" ++ (decimal offset
    ++ (codes ",\"type\":" ++ (decimal number ++ codes "}")))))

-- the line of a refusal to a session
abbrev pub fault_row : ℕ → ℕ → List ℕ → ℕ → List ℕ
fault_row s code name place =
    codes "{\"fault\":{\"code\":" ++ (decimal code ++ (codes ",\"name\":\""
    ++ (name ++ (codes "\",\"place\":" ++ (decimal place
    ++ (codes "},\"s\":" ++ (decimal s ++ codes "}\n")))))))

-- a number with its key
abbrev pub count_row : List ℕ → ℕ → List ℕ
count_row key n = codes "\"" ++ (key ++ (codes "\":" ++ decimal n))

-- the line for a completed change, and those with one and with two numbers
abbrev pub done_row : ℕ → List ℕ
done_row s = codes "{\"ok\":{},\"s\":" ++ (decimal s ++ codes "}\n")

abbrev pub one_row : ℕ → List ℕ → ℕ → List ℕ
one_row s key n =
    codes "{\"ok\":{" ++ (count_row key n ++ (codes "},\"s\":" ++ (decimal s ++ codes "}\n")))

abbrev pub two_row : ℕ → List ℕ → ℕ → List ℕ → ℕ → List ℕ
two_row s key n other m =
    codes "{\"ok\":{" ++ (count_row key n ++ (codes "," ++ (count_row other m
    ++ (codes "},\"s\":" ++ (decimal s ++ codes "}\n")))))

abbrev pub counts_row : ℕ → Option Count → Option Count → List ℕ
counts_row s None None = done_row s
counts_row s None (Some a) = one_row s a.key.now a.number
counts_row s (Some a) None = one_row s a.key.now a.number
counts_row s (Some a) (Some b) = two_row s a.key.now a.number b.key.now b.number
