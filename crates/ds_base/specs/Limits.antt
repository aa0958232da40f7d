-- The limits of the server, as numbers of the definitions' own. The code has its constants in one file, `src/limits`, and
-- `LimitLaws` shows that each is the number that stands here.
use Rattle.std.specs.Prelude.{ℕ}

-- ---- keys, values and entities

-- the most elements of a key's path
abbrev pub most_elements : ℕ
most_elements = 100

-- the greatest id of a key element, 2^63 - 1
abbrev pub greatest_id : ℕ
greatest_id = 9223372036854775807

-- the first id that is drawn automatically, 2^52
abbrev pub first_drawn_id : ℕ
first_drawn_id = 4503599627370496

-- the most bytes of a kind, a key name, a property name, and an indexed string or byte string
abbrev pub most_name_bytes : ℕ
most_name_bytes = 1500

-- the most bytes of a namespace
abbrev pub most_namespace_bytes : ℕ
most_namespace_bytes = 100

abbrev pub greatest_rating : ℕ
greatest_rating = 100

-- the greatest size of an entity
abbrev pub greatest_entity_size : ℕ
greatest_entity_size = 1048576

-- the greatest size or count that a refusal tells, 2^63 - 1
abbrev pub greatest_told : ℕ
greatest_told = 9223372036854775807

-- ---- indexes and queries

-- the most index rows of an entity
abbrev pub most_index_rows : ℕ
most_index_rows = 20000

-- the most composite index definitions
abbrev pub most_definitions : ℕ
most_definitions = 200

-- the most branches of a query
abbrev pub most_branches : ℕ
most_branches = 30

-- the greatest offset and the greatest limit of a query
abbrev pub most_results : ℕ
most_results = 2147483647

-- ---- commits and transactions

-- the most writes of a commit
abbrev pub most_writes : ℕ
most_writes = 500

-- the most entity groups of a transaction that may touch several
abbrev pub most_groups : ℕ
most_groups = 25

-- a journal with so many commits takes no further one, 2^48
abbrev pub most_commits : ℕ
most_commits = 281474976710656

-- ---- a run

-- the greatest number of a client; the first is 0
abbrev pub greatest_client : ℕ
greatest_client = 15

abbrev pub most_shards : ℕ
most_shards = 16

-- the most background appliers
abbrev pub most_appliers : ℕ
most_appliers = 8

-- the most kept versions of a shard, in entries
abbrev pub greatest_window : ℕ
greatest_window = 65536

-- ---- the outside

-- the most bytes of a line; a longer one is refused, whatever it says
abbrev pub most_line_bytes : ℕ
most_line_bytes = 2097152

-- the most lines of a round
abbrev pub most_round_lines : ℕ
most_round_lines = 65536

-- a round ends with the line with which its kept bytes reach this number
abbrev pub most_round_bytes : ℕ
most_round_bytes = 67108864

-- the most bytes that are taken of an input, 2^40
abbrev pub most_input_bytes : ℕ
most_input_bytes = 1099511627776

-- the most bytes of a file that is loaded, 2^30
abbrev pub most_file_bytes : ℕ
most_file_bytes = 1073741824
