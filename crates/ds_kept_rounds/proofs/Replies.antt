-- What replies tell, and their text.
use Rattle.std.proofs.Common.{◌≡◌, ◌≤◌, List, [], ◌∷◌, ◌++◌, length, refl, ap, sym, ◌∙◌, arith, append_assoc}
use Rattle.ds_model.specs.Asked.{Reading}
use Rattle.ds_model.specs.Legal.{drawn_by, drawn_in}
use Rattle.ds_reply.specs.declared.reply.Reply.{Reply}
use Rattle.ds_reply.specs.Replies.{replies_text, reply_text}
use Rattle.ds_rounds.specs.Rounds.{NumberedLine}

-- of the lines behind those that were answered nothing is told
pub drawn_alone : (reading : Reading) (lines others : List NumberedLine) (replies : List Reply) → length replies ≤ length lines
    → drawn_in reading (lines ++ others) replies ≡ drawn_in reading lines replies
drawn_alone reading [] [] [] few = refl
drawn_alone reading [] (line ∷ others) [] few = refl
drawn_alone reading [] others (r ∷ replies) few = absurd (omega (arith, few))
drawn_alone reading (line ∷ lines) others [] few = refl
drawn_alone reading (line ∷ lines) others (r ∷ replies) few =
    ap (λ ns. drawn_by (reading line.content) r.body ++ ns) (drawn_alone reading lines others replies (omega (arith, few)))

pub replies_append : (xs ys : List Reply) → replies_text (xs ++ ys) ≡ replies_text xs ++ replies_text ys
replies_append [] ys = refl
replies_append (x ∷ xs) ys =
    ap (λ bs. reply_text x ++ bs) (replies_append xs ys) ∙ sym (append_assoc (reply_text x) (replies_text xs) (replies_text ys))
