use Rattle.std.proofs.Common.{◌∙◌, ap, sym, refl}
use Rattle.ds_hub.specs.Logs.{queued}
use Rattle.ds_hub.proofs.Counting.{queued-none, taken, last_is, runs_published, unseen_none}
use Rattle.ds_hub.proofs.Publishing.{publishes}
use Rattle.ds_hub.proofs.writer.Writer.publish.Goals as goal

pub publish_as-requires : goal.publish_as-requires
publish_as-requires g c =
    let w = c.self.inside in
    let same = c.let_in.ensures.same in
    let log = sym (queued-none c.let_in.new.copies.log c.let_in.result (sym c.is_some.ensures ∙ c.if-is_some.false))
    ∙ (c.let_in.ensures.queued ∙ ap (λ p. queued w.copies.log p) c.take-parked.ensures.value) in
    rw (log, same.0, same.1, same.2)
    (λ next is. publishes g.S.Absorb.asks g.S.Absorb.applied g.S.Absorb.belongs g.S.Absorb.state w.head w.copies.knows w.copies.shown (queued w.copies.log w.parked) w.announced w.waiting w.copies.seat c.self.invariant next is)

pub invariant_of-self : goal.invariant_of-self
invariant_of-self g c =
    let w = c.self.inside in
    let same = c.let_in.ensures.same in
    let log = c.let_in.ensures.queued ∙ ap (λ p. queued w.copies.log p) c.take-parked.ensures.value in
    rw (log, same.1, same.2) c.self.invariant

pub invariant_of-self-in-Ok : goal.invariant_of-self-in-Ok
invariant_of-self-in-Ok g c =
    let w = c.self.inside in
    let queue = queued w.copies.log w.parked in
    let same = c.let_in.ensures.same in
    let none = sym c.is_some.ensures ∙ c.if-is_some.false in
    let log = sym (queued-none c.let_in.new.copies.log c.let_in.result none)
    ∙ (c.let_in.ensures.queued ∙ ap (λ p. queued w.copies.log p) c.take-parked.ensures.value) in
    let ok = rw (log, same.1, same.2) at c.in-Ok.ensures.ok in
    let is = ok.0 ∙ taken g.S.Absorb.asks g.S.Absorb.applied (g.S.Absorb.state w.copies.shown.state) w.copies.shown.prefix queue _ c.self.invariant.marked in
    rw (queued-none c.publish_as.new.self.log c.let_in.result none, ok.1)
    (runs_published g.S.Absorb.asks g.S.Absorb.applied g.S.Absorb.belongs w.head w.copies.knows _ _ _ w.copies.shown.prefix _ w.announced queue w.waiting c.self.invariant (ap (λ p. p.1) is) ok.2.0 ok.2.1)

pub returns-in-Ok-clause-lists : goal.returns-in-Ok-clause-lists
returns-in-Ok-clause-lists g c =
    let w = c.self.inside in
    let queue = queued w.copies.log w.parked in
    let same = c.let_in.ensures.same in
    let none = sym c.is_some.ensures ∙ c.if-is_some.false in
    let log = sym (queued-none c.let_in.new.copies.log c.let_in.result none)
    ∙ (c.let_in.ensures.queued ∙ ap (λ p. queued w.copies.log p) c.take-parked.ensures.value) in
    let ok = rw (log, same.1, same.2) at c.in-Ok.ensures.ok in
    let is = ok.0 ∙ taken g.S.Absorb.asks g.S.Absorb.applied (g.S.Absorb.state w.copies.shown.state) w.copies.shown.prefix queue _ c.self.invariant.marked in
    let list = ap (λ p. p.1.list) is ∙ (last_is g.S.Absorb.asks w.copies.shown.prefix queue _ c.self.invariant.marked).1 in
    rw (none, unseen_none c.publish_as.new.self.shown.prefix w.announced (c.self.invariant.whole ∙ sym list), ok.2.0, list, ← c.self.view_is) refl
