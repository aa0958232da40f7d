use Rattle.std.proofs.Common.{◌≡◌, ◌∙◌, ◌++◌, ◌∷◌, [], ap, append_assoc, length, rules, subst, sym}
use Rattle.std.specs.Prelude.{All}
use Rattle.std.proofs.lemmas.List.{append-nil, nil_from_length}
use Rattle.std.proofs.lemmas.List.Elements.{All-nil, All-push}
use Rattle.ds_feeding.specs.Feeding.{HasCaughtUp, HaveRead}
use Rattle.ds_feeding.proofs.CatchingUpLaws.{read_more}
use Rattle.ds_feeding.proofs.catching_up.all_caught_up.Goals as goal

pub loop-pass-init : goal.loop-pass-init
loop-pass-init g c =
    let caught_up = HasCaughtUp c.args.store.now.shards c.args.old.now in
    record {
      done = [];
      whole = c.into_iter-pass-iterator.ensures.into_iter_gives.0 ∙ c.into_vec-pass-items.ensures;
      read = subst (HaveRead []) (sym c.new-later.ensures) tt;
      caught_up = subst (All caught_up) (sym c.new-later.ensures) (All-nil caught_up);
    }

pub loop-pass-preserved : goal.loop-pass-preserved
loop-pass-preserved g c =
    let caught_up = HasCaughtUp c.args.store.now.shards c.args.old.now in
    let before = c.loop-pass.invariant in
    let pass = c.in-Some.pass in
    let more = c.next.new.self.rest.items in
    let later = c.in_ok-pass.pass in
    let pushed : c.push.new.self ≡ c.loop-pass.later ++ later ∷ [] = c.in-Ok.ensures.ok in
    record {
      done = before.done ++ pass ∷ [];
      whole = append_assoc before.done (pass ∷ []) more ∙ ap (λ ps. before.done ++ ps) (sym c.in-Some.ensures.steps.0) ∙ before.whole;
      read = subst (HaveRead (before.done ++ pass ∷ [])) (sym pushed)
          (read_more before.done c.loop-pass.later pass later before.read c.in_ok-pass.ensures.read);
      caught_up = subst (All caught_up) (sym pushed)
          (All-push caught_up c.loop-pass.later later before.caught_up c.in_ok-pass.ensures.caught_up);
    }

pub returns-clause-read : goal.returns-clause-read
returns-clause-read g c =
    let before = c.loop-pass.invariant in
    let none : length c.loop-pass.pass-iterator.rest.items ≡ 0 = search rules in
    let all : before.done ≡ c.args.passes = sym (append-nil before.done)
    ∙ ap (λ ps. before.done ++ ps) (sym (nil_from_length c.loop-pass.pass-iterator.rest.items none)) ∙ before.whole in
    subst (λ ps. HaveRead ps c.loop-pass.later) all before.read
