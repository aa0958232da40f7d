-- What is read from the line of a reply is what was written for it.
use Rattle.std.proofs.Common.{◌≡◌, ℕ, List, [], ◌∷◌, ◌++◌, map, refl, ap, sym, ◌∙◌, Some, option_map, append_assoc}
use Rattle.serde_json.specs.Read.{max_depth}
use Rattle.serde_json.specs.Written.{compact_text}
use Rattle.ds_request.specs.Requests.{line_data}
use Rattle.ds_reply.specs.declared.reply.Reply.{Reply}
use Rattle.ds_reply.specs.declared.reply.Body.{Body}
use Rattle.ds_reply.specs.Replies.{reply_data, reply_text, replies_text}
use Rattle.ds_journal_text.proofs.CommitsBack.{text_back}
use Rattle.ds_journal_text.proofs.PlainData.{IsPlain}
use Rattle.ds_journal_text.proofs.PlainTexts.{whole}
use Rattle.ds_reply_lines.specs.ReplyLines.{IsSaid, reply_line, whole_lines}
use Rattle.ds_reply_lines.proofs.Splitting.{whole-newline}

ended_same : (xs ys : List ℕ) → xs ++ 10 ∷ [] ≡ ys ++ 10 ∷ [] → xs ≡ ys
ended_same [] [] same = refl
ended_same [] (y ∷ []) same = cc
ended_same [] (y ∷ z ∷ ys) same = cc
ended_same (x ∷ []) [] same = cc
ended_same (x ∷ z ∷ xs) [] same = cc
ended_same (x ∷ xs) (y ∷ ys) same =
    let first : x ≡ y = cc in
    let rest : xs ++ 10 ∷ [] ≡ ys ++ 10 ∷ [] = cc in
    ap (λ z. z ∷ xs) first ∙ ap (λ zs. y ∷ zs) (ended_same xs ys rest)

-- the members that are read from a line which is the text of a plain reply are those of the reply
pub reply_back : (r : Reply) (line : List ℕ) → IsPlain (reply_data r) max_depth → reply_text r ≡ line ++ 10 ∷ [] → line_data line ≡ Some (reply_data r)
reply_back r line plain is = ap line_data (sym (ended_same (compact_text (reply_data r)) line is)) ∙ text_back (reply_data r) plain

-- the line that says this is the reply's line
pub said_line : (client number : ℕ) (line : List ℕ) (b : Body) → IsSaid client number line b → reply_line (record { client = client; line = number; body = b }) ≡ line
said_line client number line b is = ended_same (reply_line (record { client = client; line = number; body = b })) line is

-- the lines of replies are found in their text
pub replies_lines : (rs : List Reply) → whole_lines (replies_text rs) ≡ Some (map reply_line rs)
replies_lines [] = refl
replies_lines (r ∷ rs) =
    ap whole_lines (append_assoc (reply_line r) (10 ∷ []) (replies_text rs))
    ∙ whole-newline (reply_line r) (replies_text rs) (whole (reply_data r))
    ∙ ap (option_map (λ lines. reply_line r ∷ lines)) (replies_lines rs)
