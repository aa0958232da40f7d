-- The statement that a sentence says, and its tokens up to the last.
use Rattle.std.proofs.Common.{◌≡◌, ℕ, Bool, true, false, cond, [], ◌∷◌, ◌++◌, map, Option, Some, None, sym, ap, ◌∙◌, append_assoc}
use Rattle.std.specs.Prelude.{option_map, option_and_then}
use Rattle.ds_gql.specs.declared.statement.Statement.{Statement}
use Rattle.ds_tokens.specs.declared.token.Mark.TheVariants as mark
use Rattle.ds_tokens.specs.Pieces.{fixed}
use Rattle.ds_gql.specs.Sentences.{Sentence, Conditions, comma, led_by, what_pieces, kind_pieces, condition_pieces, order_pieces}
use Rattle.ds_gql.specs.Sentences.{limits_pieces, pieces, sentence_pieces, select_of, column_of}
use Rattle.ds_gql.proofs.Choices.{chosen}

abbrev pub said_statement : Sentence → Conditions → ℕ × Option ℕ → Statement
said_statement s found bounds = record {
  query = record {
    namespace = [];
    kind = s.kind;
    ancestor = found.1;
    filters = found.0;
    orders = map column_of s.orders;
    select = select_of s.what;
    cursors = false;
  };
  offset = bounds.0;
  limit = bounds.1;
}

pub said_by : {A B C : Type 0} (c : Bool) (o : Option A) (b : Option B) (f : A → B → C) (x : A) (y : B) → c ≡ true → o ≡ Some x → b ≡ Some y → cond c (option_and_then (λ a. option_map (f a) b) o) None ≡ Some (f x y)
said_by c o b f x y c_is o_is b_is = chosen _ _ _ c_is ∙ ap (option_and_then (λ a. option_map (f a) b)) o_is ∙ ap (option_map (f x)) b_is

pub pieces_end : (s : Sentence) → pieces s ≡ fixed mark.Select ∷ sentence_pieces s ++ fixed mark.End ∷ []
pieces_end s =
    let e = fixed mark.End ∷ [] in
    let w = what_pieces s.what in
    let k = kind_pieces s.kind in
    let c = led_by (fixed mark.Where ∷ []) (fixed mark.And) condition_pieces s.conditions in
    let o = led_by (fixed mark.Order ∷ fixed mark.By ∷ []) comma order_pieces s.orders in
    let l = limits_pieces s.limits in
    ap (λ ps. fixed mark.Select ∷ (w ++ (k ++ (c ++ ps)))) (sym (append_assoc o l e))
    ∙ ap (λ ps. fixed mark.Select ∷ (w ++ (k ++ ps))) (sym (append_assoc c (o ++ l) e))
    ∙ ap (λ ps. fixed mark.Select ∷ (w ++ ps)) (sym (append_assoc k (c ++ (o ++ l)) e))
    ∙ ap (λ ps. fixed mark.Select ∷ ps) (sym (append_assoc w (k ++ (c ++ (o ++ l))) e))
