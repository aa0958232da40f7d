-- The test of the key's name tells exactly that name.
use Rattle.std.specs.Prelude.{◌≡◌, ℕ, List, true, refl}
use Rattle.std.proofs.lemmas.Slice.Eq.{bytes_eq-Decides}
use Rattle.ds_base.specs.KeyColumn.{key_name, is_key_name}

-- the name itself passes
pub key_name-is : is_key_name key_name ≡ true
key_name-is = refl

-- and no other does
pub key_name-alone : (n : List ℕ) → is_key_name n ≡ true → n ≡ key_name
key_name-alone n e = (bytes_eq-Decides n key_name).0 e
