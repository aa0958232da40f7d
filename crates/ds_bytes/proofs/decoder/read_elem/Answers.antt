use Rattle.std.proofs.Common.{◌≡◌, List, ℕ, drop, ap, ◌∙◌, refl}
use Rattle.ds_bytes.specs.Encoding.{directed, escaped, ident_bytes}
use Rattle.ds_bytes.specs.Lawful.{IsText, IsLawfulIdent}
use Rattle.ds_bytes.specs.Reading.{Found, NoneBegins}
use Rattle.ds_bytes.proofs.Readings.{directed-drop}
use Rattle.ds_bytes.proofs.Elements.{no_ident_behind, elem_found}
use Rattle.ds_bytes.proofs.decoder.read_elem.Goals as goal

pub returns-in-None-2 : goal.returns-in-None-2
returns-in-None-2 c =
    let seen : List ℕ = directed c.args.descending c.args.bytes.now in
    let rest : List ℕ = directed c.args.descending c.behind.result.now in
    let kind : Found IsText escaped seen c.in-Some.kind c.in-Some.before = rw c.in-Some.is at c.in_ok-read_text.ensures in
    let at : rest ≡ drop c.in-Some.before seen = ap (directed c.args.descending) c.behind.ensures ∙ directed-drop c.args.descending c.in-Some.before c.args.bytes.now in
    let none : NoneBegins IsLawfulIdent ident_bytes rest = rw c.in-None-2.is at c.in_ok-read_ident-in-Some.ensures in
    no_ident_behind seen rest c.in-Some.kind c.in-Some.before kind at none

pub returns-in-Some-2 : goal.returns-in-Some-2
returns-in-Some-2 c =
    let seen : List ℕ = directed c.args.descending c.args.bytes.now in
    let rest : List ℕ = directed c.args.descending c.behind.result.now in
    let kind : Found IsText escaped seen c.in-Some.kind c.in-Some.before = rw c.in-Some.is at c.in_ok-read_text.ensures in
    let at : rest ≡ drop c.in-Some.before seen = ap (directed c.args.descending) c.behind.ensures ∙ directed-drop c.args.descending c.in-Some.before c.args.bytes.now in
    let ident : Found IsLawfulIdent ident_bytes rest c.in-Some-2.ident c.in-Some-2.taken = rw c.in-Some-2.is at c.in_ok-read_ident-in-Some.ensures in
    elem_found seen rest (record { kind = c.in-Some.kind; ident = c.in-Some-2.ident }) c.in-Some.before c.in-Some-2.taken _ refl kind at ident
