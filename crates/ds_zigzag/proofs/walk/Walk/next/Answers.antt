use Rattle.std.proofs.Common.{rules, ◌≡◌, refl, ap}
use Rattle.ds_zigzag.specs.Walks.{standing_at}
use Rattle.ds_zigzag.proofs.walk.Walk.next.Goals as goal

pub returns-in_err-leapfrog_on : goal.returns-in_err-leapfrog_on
returns-in_err-leapfrog_on g c =
    let last : standing_at c.self.inside.stands c.self.inside.at.items ≡ c.args.self.now.last = ap (λ v. v.last) c.self.view_is in (
      (refl, (λ v. tt), (search rules, search rules)),
      record {
        next_common = search rules;
        none_is_left = search rules;
        same_strings = search rules;
        same_passed = search rules;
        stands = tt;
        walks_on = search rules;
        walk_within = rw (last, c.requires.as_many) at c.in_err-leapfrog_on.ensures.walk_within;
        agrees_by_steps = search rules;
        takes_a_step = search rules;
        steps_stay_counted = search rules;
      },
    )

pub returns-then-branch : goal.returns-then-branch
returns-then-branch g c =
    let last : standing_at c.self.inside.stands c.self.inside.at.items ≡ c.args.self.now.last = ap (λ v. v.last) c.self.view_is in (
      (refl, (λ v. tt), (search rules, search rules)),
      record {
        next_common = rw c.as_slice.ensures.value (rw last at (c.in_ok-leapfrog_on.ensures.next_common c.if-branch.true));
        none_is_left = tt;
        same_strings = search rules;
        same_passed = search rules;
        stands = tt;
        walks_on = rw c.as_slice.ensures.value (rw (last, c.requires.as_many) at (c.in_ok-leapfrog_on.ensures.walks_on c.if-branch.true));
        walk_within = rw (last, c.requires.as_many) at c.in_ok-leapfrog_on.ensures.walk_within;
        agrees_by_steps = rw c.requires.as_many at (c.in_ok-leapfrog_on.ensures.agrees_by_steps c.if-branch.true);
        takes_a_step = c.in_ok-leapfrog_on.ensures.takes_a_step;
        steps_stay_counted = search rules;
      },
    )

pub returns-else-branch : goal.returns-else-branch
returns-else-branch g c =
    let last : standing_at c.self.inside.stands c.self.inside.at.items ≡ c.args.self.now.last = ap (λ v. v.last) c.self.view_is in (
      (refl, (λ v. tt), (search rules, tt)),
      record {
        next_common = tt;
        none_is_left = rw last at (c.in_ok-leapfrog_on.ensures.none_is_left c.if-branch.false);
        same_strings = search rules;
        same_passed = search rules;
        stands = tt;
        walks_on = tt;
        walk_within = rw (last, c.requires.as_many) at c.in_ok-leapfrog_on.ensures.walk_within;
        agrees_by_steps = tt;
        takes_a_step = c.in_ok-leapfrog_on.ensures.takes_a_step;
        steps_stay_counted = search rules;
      },
    )
