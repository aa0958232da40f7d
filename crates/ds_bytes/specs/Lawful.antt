-- Which keys and values there are: what the types of the code keep, in the words of the definitions.
use Rattle.std.specs.Prelude.{◌≡◌, ◌≢◌, ℕ, ◌<◌, ◌^◌, List, [], All, IsTrue, IsUtf8, FitsSigned}
use Rattle.std.specs.Int.{w64}
use Rattle.ds_base.specs.Bytes.{AreBytes}
use Rattle.ds_base.specs.declared.key.Ident.{Ident}
use Rattle.ds_base.specs.declared.key.Ident.TheVariants.{Id, Name}
use Rattle.ds_base.specs.declared.key.Elem.{Elem}
use Rattle.ds_base.specs.declared.index_value.IndexValue.{IndexValue}
use Rattle.ds_base.specs.declared.index_value.IndexValue.TheVariants as class
use Rattle.ds_base.specs.Keys.{KeyParts, is_key}

-- ---- what has an encoding: bytes, and numbers of 64 bits

abbrev pub IsIdentOfBytes : Ident → Type 0
IsIdentOfBytes (Id n) = n < 2 ^ 64
IsIdentOfBytes (Name s) = AreBytes s

pub record IsElemOfBytes (e : Elem) : Type 0 where
  pub kind : AreBytes e.kind
  pub ident : IsIdentOfBytes e.ident

pub record IsKeyOfBytes (k : KeyParts) : Type 0 where
  pub namespace : AreBytes k.namespace
  pub elems : All IsElemOfBytes k.elems

abbrev pub IsValueOfBytes : IndexValue → Type 0
IsValueOfBytes class.Null = Unit {0}
IsValueOfBytes (class.Num n) = FitsSigned w64 n
IsValueOfBytes (class.Bool b) = Unit {0}
IsValueOfBytes (class.Bytes s) = AreBytes s
IsValueOfBytes (class.Key k) = IsKeyOfBytes k

-- ---- what is a key or a value: kinds, names and namespaces are also texts, and keys obey their rules

pub record IsText (s : List ℕ) : Type 0 where
  pub bytes : AreBytes s
  pub utf8 : IsUtf8 s

abbrev pub IsLawfulIdent : Ident → Type 0
IsLawfulIdent (Id n) = n < 2 ^ 64
IsLawfulIdent (Name s) = IsText s

pub record IsLawfulElem (e : Elem) : Type 0 where
  pub kind : IsText e.kind
  pub ident : IsLawfulIdent e.ident

pub record IsLawfulKey (k : KeyParts) : Type 0 where
  pub rules : IsTrue (is_key k)
  pub namespace : IsText k.namespace
  pub elems : All IsLawfulElem k.elems

abbrev pub IsLawfulValue : IndexValue → Type 0
IsLawfulValue class.Null = Unit {0}
IsLawfulValue (class.Num n) = FitsSigned w64 n
IsLawfulValue (class.Bool b) = Unit {0}
IsLawfulValue (class.Bytes s) = AreBytes s
IsLawfulValue (class.Key k) = IsLawfulKey k

-- a key of the default namespace, and one of another
pub record IsDefaultKey (k : KeyParts) : Type 0 where
  pub lawful : IsLawfulKey k
  pub default : k.namespace ≡ []

pub record IsNamedKey (k : KeyParts) : Type 0 where
  pub lawful : IsLawfulKey k
  pub named : k.namespace ≢ []
