use Rattle.std.proofs.Common.{◌∙◌, ap, arith, drop, length}
use Rattle.std.proofs.lemmas.List.{with_items_is}
use Rattle.ds_clients.proofs.ClientLaws.{each_length, taken_alike, taken_text}
use Rattle.ds_clients.proofs.RunLaws.{closed_alike, closed_written}
use Rattle.ds_clients.proofs.TextLaws.{moved_texts, part_taken}
use Rattle.ds_clients.proofs.rounds.Sessions.take_unsent.Goals as goal

pub rest_of-requires : goal.rest_of-requires
rest_of-requires g c =
    part_taken (λ x. x.session) c.self.inside.clients.items c.deref_mut.result.now c.take_texts.new.texts c.args.self.now c.args.cut
    c.deref_mut.ensures.value c.self.view_is c.take_texts.ensures.texts c.requires

pub invariant_of-self : goal.invariant_of-self
invariant_of-self g c =
    (closed_alike (λ x. x.session) c.self.inside.clients.items c.deref_mut.result.now c.take_texts.new.clients _ c.args.self.now
    c.deref_mut.ensures.value
    (with_items_is c.self.inside.clients c.take_texts.new.clients
    (omega (arith, each_length _ _ _ c.take_texts.ensures.clients, ap length c.deref_mut.ensures.value, c.self.inside.clients.ok.0)))
    c.self.view_is (taken_alike (λ x. x.session) _ _ c.take_texts.ensures.clients) c.self.invariant).0

pub returns-clause-alike : goal.returns-clause-alike
returns-clause-alike g c =
    (closed_alike (λ x. x.session) c.self.inside.clients.items c.deref_mut.result.now c.take_texts.new.clients _ c.args.self.now
    c.deref_mut.ensures.value
    (with_items_is c.self.inside.clients c.take_texts.new.clients
    (omega (arith, each_length _ _ _ c.take_texts.ensures.clients, ap length c.deref_mut.ensures.value, c.self.inside.clients.ok.0)))
    c.self.view_is (taken_alike (λ x. x.session) _ _ c.take_texts.ensures.clients) c.self.invariant).1

pub returns-clause-written : goal.returns-clause-written
returns-clause-written g c =
    closed_written (λ x. x.session) c.deref_mut.result.now c.take_texts.new.clients _
    (with_items_is c.self.inside.clients c.take_texts.new.clients
    (omega (arith, each_length _ _ _ c.take_texts.ensures.clients, ap length c.deref_mut.ensures.value, c.self.inside.clients.ok.0)))
    (taken_text (λ x. x.session) _ _ c.take_texts.ensures.clients)

pub returns-clause-unsent : goal.returns-clause-unsent
returns-clause-unsent g c =
    c.rest_of.ensures
    ∙ ap (drop c.args.cut.taken) (moved_texts (λ x. x.session) c.self.inside.clients.items c.deref_mut.result.now c.take_texts.new.texts
    c.args.self.now c.args.cut.client c.deref_mut.ensures.value c.self.view_is c.take_texts.ensures.texts)
