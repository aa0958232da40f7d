-- What a line of an index file says: the words of the grammar, and which names stand in it.
use Rattle.std.specs.Prelude.{ℕ, Bool, true, false, not, ◌&&◌, ◌||◌, ◌==◌, nat_eq, cond, List, [], ◌∷◌, length, drop, bytes_eq, codes}
use Rattle.std.specs.Prelude.{Option, Some, None}
use Rattle.std.specs.List.{list_all, starts_with}
use Rattle.std.specs.Str.{is_utf8}
use Rattle.ds_base.specs.KeyColumn.{key_name}
use Rattle.ds_base.specs.Keys.{is_name, is_reserved}
use Rattle.ds_indexdef.specs.Lines.{is_blank, without_front, cut}
use Rattle.ds_indexdef.specs.declared.form.Form.{Form}
use Rattle.ds_indexdef.specs.declared.form.Form.TheVariants.{Blank, Indexes, Kind, Ancestor, Properties, Name, Direction, Wrong}

-- no space, tab, newline, carriage return, double quote, single quote or `#`
abbrev pub is_name_byte : ℕ → Bool
is_name_byte b = not ((b == 32) || (b == 9) || (b == 10) || (b == 13) || (b == 34) || (b == 39) || (b == 35))

-- 1 to 1,500 bytes of UTF-8, none of which ends a word, a line or a quotation, or begins a comment
abbrev pub is_plain : List ℕ → Bool
is_plain name = is_utf8 name && (is_name name && list_all is_name_byte name)

-- the name of a kind: it isn't reserved
abbrev pub is_kind : List ℕ → Bool
is_kind name = is_plain name && not (is_reserved name)

-- the name of a property, which isn't reserved, or `__key__`
abbrev pub is_property : List ℕ → Bool
is_property name = is_plain name && (not (is_reserved name) || bytes_eq name key_name)

-- what follows one or more spaces or tabs; none where there is no such
abbrev pub spaced : List ℕ → Option (List ℕ)
spaced [] = None
spaced (b ∷ bs) = cond (is_blank b) (Some (without_front is_blank bs)) None

-- what follows a word and one or more spaces or tabs; none where the line doesn't begin with these
abbrev pub behind : List ℕ → List ℕ → Option (List ℕ)
behind word line = cond (starts_with nat_eq line word) (spaced (drop (length word) line)) None

-- what is made of a thing, or another where there is none
abbrev pub either : {A B : Type 0} → Option A → (A → B) → B → B
either {A = A} {B = B} None f other = other
either {A = A} {B = B} (Some x) f other = f x

abbrev pub ancestor_form : List ℕ → Form
ancestor_form word = cond (bytes_eq word (codes "yes")) (Ancestor true) (cond (bytes_eq word (codes "no")) (Ancestor false) Wrong)

abbrev pub direction_form : List ℕ → Form
direction_form word = cond (bytes_eq word (codes "desc")) (Direction true) (cond (bytes_eq word (codes "asc")) (Direction false) Wrong)

abbrev pub kind_form : List ℕ → Form
kind_form name = cond (is_kind name) (Kind name) Wrong

abbrev pub name_form : List ℕ → Form
name_form name = cond (is_property name) (Name name) Wrong

-- what follows a `-`
abbrev pub item_form : List ℕ → Form
item_form rest = either (behind (codes "kind:") rest) kind_form (either (behind (codes "name:") rest) name_form Wrong)

-- what a line says that may begin with `-`
abbrev pub dash_form : List ℕ → Form
dash_form line = either (behind (codes "-") line) item_form Wrong

-- what a line says that may begin with a word that one of two words follows
abbrev pub choice_form : List ℕ → Form
choice_form line = either (behind (codes "ancestor:") line) ancestor_form
    (either (behind (codes "direction:") line) direction_form (dash_form line))

-- what a line says whose comment and outer blanks are cut
abbrev pub form_of_cut : List ℕ → Form
form_of_cut line = cond (bytes_eq line []) Blank (cond (bytes_eq line (codes "indexes:")) Indexes
    (cond (bytes_eq line (codes "properties:")) Properties (choice_form line)))

-- what a line says; one that isn't UTF-8 says nothing, in its comment either
unfoldable pub form_of : List ℕ → Form
form_of line = cond (is_utf8 line) (form_of_cut (cut line)) Wrong
