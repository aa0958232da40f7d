-- The line of the id counter is read back.
use Rattle.std.proofs.Common.{◌≡◌, ℕ, ◌<◌, ◌^◌, List, Some, refl, sym, ap, ◌∙◌}
use Rattle.std.specs.Prelude.{Option, option_and_then, codes}
use Rattle.json.proofs.Printed.Utf8.{IsUtf8-are_ascii}
use Rattle.ds_json_printing.specs.Printing.{natural, tagged}
use Rattle.ds_request.specs.Requests.{line_data}
use Rattle.ds_rounds.specs.Drafts.{IsUnbroken}
use Rattle.ds_journal_text.proofs.PlainTexts.{whole}
use Rattle.ds_journal_text.proofs.CommitsPlain.{one_member}
use Rattle.ds_journal_text.proofs.CommitsBack.{text_back}
use Rattle.ds_kept_file.specs.Counters.{next_in}
use Rattle.ds_kept_file.specs.Files.{next_line}

pub next_whole : (n : ℕ) → IsUnbroken (next_line n)
next_whole n = whole (tagged (codes "next") (natural n))

next_back : (n : ℕ) → n < 2 ^ 64 → line_data (next_line n) ≡ Some (tagged (codes "next") (natural n))
next_back n small = text_back (tagged (codes "next") (natural n)) (one_member (codes "next") (natural n) 126 (IsUtf8-are_ascii (codes "next") refl) small)

-- the number of a line is found in it
pub found_next : (line : List ℕ) (n : ℕ) (found : Option ℕ) → n < 2 ^ 64 → found ≡ option_and_then next_in (line_data line) → line ≡ next_line n → found ≡ Some n
found_next line n found small is same = is ∙ ap (λ (l : List ℕ). option_and_then next_in (line_data l)) same ∙ ap (option_and_then next_in) (next_back n small)

pub next_alone : (m n : ℕ) → m < 2 ^ 64 → n < 2 ^ 64 → next_line m ≡ next_line n → m ≡ n
next_alone m n small_m small_n same =
    let both : Some m ≡ Some n = sym (found_next (next_line m) m (option_and_then next_in (line_data (next_line m))) small_m refl refl)
    ∙ found_next (next_line m) n (option_and_then next_in (line_data (next_line m))) small_n refl same in
    cc both
