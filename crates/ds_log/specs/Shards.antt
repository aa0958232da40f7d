-- Which shard an entity group belongs to: FNV-1a, 64 bits wide, of its root key's encoding, modulo the number of shards.
use Rattle.std.specs.Prelude.{ℕ, ◌*◌, ◌%◌, ◌^◌, List, fold, bit_xor}
use Rattle.ds_base.specs.Keys.{KeyParts}
use Rattle.ds_bytes.specs.Encoding.{key_bytes}

abbrev pub fnv1a_step : ℕ → ℕ → ℕ
fnv1a_step hash byte = bit_xor hash byte * 1099511628211 % 2 ^ 64

abbrev pub fnv1a : List ℕ → ℕ
fnv1a = fold fnv1a_step 14695981039346656037

abbrev pub shard_of : KeyParts → ℕ → ℕ
shard_of group shards = fnv1a (key_bytes group) % shards
