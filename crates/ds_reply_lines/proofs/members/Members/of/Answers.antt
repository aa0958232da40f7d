-- A line that is no JSON tells nothing.
use Rattle.std.proofs.Common.{◌≡◌, ℕ, List, Bool, true, false, cond, None, Some, refl, sym, ◌∙◌}
use Rattle.std.specs.Str.{is_utf8, IsUtf8}
use Rattle.std.proofs.lemmas.Str.{IsUtf8-from_is_utf8}
use Rattle.serde_json.specs.Read.{read}
use Rattle.ds_reply_lines.proofs.members.Members.of.Goals as goal

no_data_at : (line : List ℕ) (b : Bool) → is_utf8 line ≡ b → (IsUtf8 line → read line ≡ None) → cond b (read line) None ≡ None
no_data_at line true is none = none (IsUtf8-from_is_utf8 line is)
no_data_at line false is none = refl

pub returns-else-is_memory : goal.returns-else-is_memory
returns-else-is_memory c =
    let none = no_data_at c.args.line.now _ refl (c.in-Err.ensures.err (λ m. let t : c.is_memory.result ≡ true = c.is_memory.ensures.1 m in cc)) in
    λ d is. let never : None ≡ Some d = sym none ∙ is in cc
