use Rattle.std.proofs.Common.{◌≡◌, ◌+◌, ◌-◌, ◌≤◌, List, ℕ, ◌∙◌, ap, arith, drop, length, subst, sym, take}
use Rattle.std.specs.Prelude.{slice_get}
use Rattle.ds_base.specs.Buffers.{BufferParts}
use Rattle.ds_io.proofs.WrittenLaws.{rest_from}
use Rattle.ds_output.proofs.TextLaws.{all_bytes, bytes-left, get-first, get-later, get-there}
use Rattle.ds_output.proofs.unsent.Unsent.byte.Goals as goal

pub returns-then-i-rest : goal.returns-then-i-rest
returns-then-i-rest c =
    let u = c.self.inside in
    let t = c.index-texts-self.result in
    let within : u.taken ≤ length t.bytes =
    subst (λ (v : BufferParts). u.taken ≤ length v.bytes) (sym c.index-texts-self.is) (c.self.invariant.within t) in
    let rest : take (length c.bytes.result.now - u.taken) (drop u.taken c.bytes.result.now) ≡ drop u.taken t.bytes =
    rest_from u.taken c.bytes.result.now ∙ ap (drop u.taken) c.bytes.ensures in
    sym (get-there (take (length c.bytes.result.now - u.taken) (drop u.taken c.bytes.result.now)) c.args.i c.if-i-rest.true)
    ∙ ap (λ bs. slice_get bs c.args.i) rest
    ∙ sym (get-first (drop u.taken t.bytes) (all_bytes (drop (u.client + 1) u.texts)) c.args.i
    (omega (arith, c.if-i-rest.true, ap (λ (bs : List ℕ). length bs) rest)))
    ∙ sym (ap (λ bs. slice_get bs c.args.i)
    (bytes-left u.texts u.client u.taken t c.self.invariant.there c.index-texts-self.is within))
    ∙ ap (λ bs. slice_get bs c.args.i) c.self.view_is

pub returns : goal.returns
returns c =
    let u = c.self.inside in
    let t = c.index-texts-self.result in
    let within : u.taken ≤ length t.bytes =
    subst (λ (v : BufferParts). u.taken ≤ length v.bytes) (sym c.index-texts-self.is) (c.self.invariant.within t) in
    let rest : take (length c.bytes.result.now - u.taken) (drop u.taken c.bytes.result.now) ≡ drop u.taken t.bytes =
    rest_from u.taken c.bytes.result.now ∙ ap (drop u.taken) c.bytes.ensures in
    let long : length (take (length c.bytes.result.now - u.taken) (drop u.taken c.bytes.result.now)) ≡ length (drop u.taken t.bytes) =
    ap (λ (bs : List ℕ). length bs) rest in
    c.byte_in.ensures ∙ ap (λ (bs : List BufferParts). slice_get (all_bytes bs)
    (c.args.i - length (take (length c.bytes.result.now - u.taken) (drop u.taken c.bytes.result.now)))) (rest_from (u.client + 1) u.texts)
    ∙ ap (λ n. slice_get (all_bytes (drop (u.client + 1) u.texts)) (c.args.i - n)) long
    ∙ sym (get-later (drop u.taken t.bytes) (all_bytes (drop (u.client + 1) u.texts)) c.args.i (omega (arith, c.if-i-rest.false, long)))
    ∙ sym (ap (λ bs. slice_get bs c.args.i)
    (bytes-left u.texts u.client u.taken t c.self.invariant.there c.index-texts-self.is within))
    ∙ ap (λ bs. slice_get bs c.args.i) c.self.view_is
