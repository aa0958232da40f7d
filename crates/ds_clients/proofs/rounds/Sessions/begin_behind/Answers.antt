use Rattle.std.proofs.Common.{◌≡◌, ◌∙◌, [], ap, arith, length, subst, sym}
use Rattle.std.specs.Prelude.{All}
use Rattle.std.proofs.lemmas.List.{with_items_is}
use Rattle.ds_model.specs.Sessions.{first_session, saw_next, saw_place}
use Rattle.ds_client.specs.Meeting.{HasTaken}
use Rattle.ds_clients.specs.Runs.{AreWritten}
use Rattle.ds_clients.proofs.ClientLaws.{each_length, each_weaker, written_each}
use Rattle.ds_clients.proofs.KeptLaws.{all_behind, numbered_behind}
use Rattle.ds_clients.proofs.rounds.Sessions.begin_behind.Goals as goal

pub meet_all-requires : goal.meet_all-requires
meet_all-requires g c =
    subst (All (λ x. x.session.text ≡ [])) (sym c.deref_mut.ensures.value)
    (written_each (λ x. x.session) c.self.inside.clients.items (subst AreWritten (sym c.self.view_is) c.requires.new.written))

pub invariant_of-self : goal.invariant_of-self
invariant_of-self g c =
    numbered_behind (λ x. x.session) c.self.inside.clients.items c.deref_mut.result.now c.meet_all.new.clients _ c.see_next.new.self
    c.deref_mut.ensures.value
    (with_items_is c.self.inside.clients c.meet_all.new.clients
    (omega (arith, each_length _ _ _ c.meet_all.ensures, ap length c.deref_mut.ensures.value, c.self.inside.clients.ok.0)))
    (each_weaker _ (λ x y. HasTaken c.see_next.new.self x.session y.session) (λ x y h. h.0) _ _ c.meet_all.ensures)
    ∙ c.self.invariant

pub returns-clause-seen : goal.returns-clause-seen
returns-clause-seen g c =
    (all_behind (λ x. x.session) c.self.inside.clients.items c.deref_mut.result.now c.meet_all.new.clients _ c.args.self.now
    c.args.store.now.shards c.args.place c.args.next c.see_next.new.self c.deref_mut.ensures.value
    (with_items_is c.self.inside.clients c.meet_all.new.clients
    (omega (arith, each_length _ _ _ c.meet_all.ensures, ap length c.deref_mut.ensures.value, c.self.inside.clients.ok.0)))
    c.self.view_is c.requires.new c.requires.next
    (c.see_next.ensures ∙ ap (saw_next c.args.next) (c.see_place.ensures ∙ ap (saw_place c.args.place) (c.in_ok-seen.ensures
    ∙ ap first_session c.shards.ensures.value)))
    (each_weaker _ (λ x y. HasTaken c.see_next.new.self x.session y.session) (λ x y h. h.0) _ _ c.meet_all.ensures)).seen

pub returns-clause-idle : goal.returns-clause-idle
returns-clause-idle g c =
    (all_behind (λ x. x.session) c.self.inside.clients.items c.deref_mut.result.now c.meet_all.new.clients _ c.args.self.now
    c.args.store.now.shards c.args.place c.args.next c.see_next.new.self c.deref_mut.ensures.value
    (with_items_is c.self.inside.clients c.meet_all.new.clients
    (omega (arith, each_length _ _ _ c.meet_all.ensures, ap length c.deref_mut.ensures.value, c.self.inside.clients.ok.0)))
    c.self.view_is c.requires.new c.requires.next
    (c.see_next.ensures ∙ ap (saw_next c.args.next) (c.see_place.ensures ∙ ap (saw_place c.args.place) (c.in_ok-seen.ensures
    ∙ ap first_session c.shards.ensures.value)))
    (each_weaker _ (λ x y. HasTaken c.see_next.new.self x.session y.session) (λ x y h. h.0) _ _ c.meet_all.ensures)).idle

pub returns-clause-written : goal.returns-clause-written
returns-clause-written g c =
    (all_behind (λ x. x.session) c.self.inside.clients.items c.deref_mut.result.now c.meet_all.new.clients _ c.args.self.now
    c.args.store.now.shards c.args.place c.args.next c.see_next.new.self c.deref_mut.ensures.value
    (with_items_is c.self.inside.clients c.meet_all.new.clients
    (omega (arith, each_length _ _ _ c.meet_all.ensures, ap length c.deref_mut.ensures.value, c.self.inside.clients.ok.0)))
    c.self.view_is c.requires.new c.requires.next
    (c.see_next.ensures ∙ ap (saw_next c.args.next) (c.see_place.ensures ∙ ap (saw_place c.args.place) (c.in_ok-seen.ensures
    ∙ ap first_session c.shards.ensures.value)))
    (each_weaker _ (λ x y. HasTaken c.see_next.new.self x.session y.session) (λ x y h. h.0) _ _ c.meet_all.ensures)).written
