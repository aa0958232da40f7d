use Rattle.std.proofs.Common.{◌≡◌, false, true, length}
use Rattle.std.proofs.lemmas.Bool.Decides.{Decides-eqb}
use Rattle.ds_cursor.proofs.RowLemmas.{key_alone, no_key}
use Rattle.ds_cursor.proofs.rows.is_key.Goals as goal

apart : false ≡ true → ⊥
apart e = cc

pub returns-in-None : goal.returns-in-None
returns-in-None c = (λ wrong. absurd (apart wrong), λ r. absurd (no_key c.args.descending c.args.bytes.now (rw c.in-None.is at c.in_ok-decode_key.ensures.none) r))

pub returns-in-Some : goal.returns-in-Some
returns-in-Some c =
    let n = c.in-Some.found.rest in
    let alone = key_alone c.args.descending c.args.bytes.now c.in-Some.found.key n
    (rw c.in-Some.is at c.in_ok-decode_key.ensures.lawful) (rw c.in-Some.is at c.in_ok-decode_key.ensures.found) in
    let tells = Decides-eqb n (length c.args.bytes.now) in
    (λ whole. alone.0 (tells.0 whole), λ r. tells.1 (alone.1 r))
