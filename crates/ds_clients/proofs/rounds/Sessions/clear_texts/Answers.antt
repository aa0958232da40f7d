use Rattle.std.proofs.Common.{ap, arith, length}
use Rattle.std.proofs.lemmas.List.{with_items_is}
use Rattle.ds_clients.proofs.ClientLaws.{cleared_alike, cleared_text, each_length}
use Rattle.ds_clients.proofs.RunLaws.{closed_alike, closed_written}
use Rattle.ds_clients.proofs.rounds.Sessions.clear_texts.Goals as goal

pub invariant_of-self : goal.invariant_of-self
invariant_of-self g c =
    (closed_alike (λ x. x.session) c.self.inside.clients.items c.deref_mut.result.now c.clear_texts.new.clients _ c.args.self.now
    c.deref_mut.ensures.value
    (with_items_is c.self.inside.clients c.clear_texts.new.clients
    (omega (arith, each_length _ _ _ c.clear_texts.ensures, ap length c.deref_mut.ensures.value, c.self.inside.clients.ok.0)))
    c.self.view_is (cleared_alike (λ x. x.session) _ _ c.clear_texts.ensures) c.self.invariant).0

pub returns-clause-alike : goal.returns-clause-alike
returns-clause-alike g c =
    (closed_alike (λ x. x.session) c.self.inside.clients.items c.deref_mut.result.now c.clear_texts.new.clients _ c.args.self.now
    c.deref_mut.ensures.value
    (with_items_is c.self.inside.clients c.clear_texts.new.clients
    (omega (arith, each_length _ _ _ c.clear_texts.ensures, ap length c.deref_mut.ensures.value, c.self.inside.clients.ok.0)))
    c.self.view_is (cleared_alike (λ x. x.session) _ _ c.clear_texts.ensures) c.self.invariant).1

pub returns-clause-written : goal.returns-clause-written
returns-clause-written g c =
    closed_written (λ x. x.session) c.deref_mut.result.now c.clear_texts.new.clients _
    (with_items_is c.self.inside.clients c.clear_texts.new.clients
    (omega (arith, each_length _ _ _ c.clear_texts.ensures, ap length c.deref_mut.ensures.value, c.self.inside.clients.ok.0)))
    (cleared_text (λ x. x.session) _ _ c.clear_texts.ensures)
