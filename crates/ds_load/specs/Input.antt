-- The text of a load: the puts of its items, each a line of JSON; an empty line, which ends their round; and a settle and a query.
use Rattle.std.specs.Prelude.{ℕ, ◌+◌, ◌%◌, List, [], ◌∷◌, ◌++◌, codes, decimal, flat_map}
use Rattle.std.specs.List.{range_with_len}
use Rattle.ds_load.specs.Items.{client_of_item}

-- the put of item i
abbrev pub put_text : ℕ → List ℕ
put_text i =
    codes "{\"client\":" ++ decimal (client_of_item i)
    ++ codes ",\"entity\":{\"key\":[[\"Item\"," ++ decimal (i + 1)
    ++ codes "]],\"properties\":{\"a\":" ++ decimal (i % 10)
    ++ codes ",\"b\":" ++ decimal (i % 7)
    ++ codes ",\"c\":" ++ decimal i
    ++ codes "}},\"op\":\"put\"}"

abbrev pub settle_text : List ℕ
settle_text = codes "{\"op\":\"settle\"}"

-- the items whose `a` is 3 and whose `b` is 2, by `c`
abbrev pub query_text : List ℕ
query_text =
    codes "{\"filters\":[[\"a\",\"=\",3],[\"b\",\"=\",2]],\"kind\":\"Item\",\"op\":\"query\","
    ++ codes "\"orders\":[[\"c\",\"asc\"]],\"select\":[\"c\"]}"

-- a line with its newline
abbrev pub line_of : List ℕ → List ℕ
line_of text = text ++ 10 ∷ []

-- the lines of these items
abbrev pub puts_text : List ℕ → List ℕ
puts_text = flat_map (λ i. line_of (put_text i))

-- so many items, from 0 on, and what stands behind them
abbrev pub load_text : ℕ → List ℕ
load_text n = puts_text (range_with_len 0 n) ++ (line_of [] ++ (line_of settle_text ++ line_of query_text))
