use Rattle.std.proofs.Common.{◌≡◌, subst, sym, ap, ◌∙◌}
use Rattle.ds_disk.specs.Memory.{StateParts, IsImage, state_of, image_by}
use Rattle.ds_disk.specs.MomentLaws.{contents_may_stay}
use Rattle.ds_disk.specs.HonestLaws.{image_by_is, image_by_same}
use Rattle.ds_disk.proofs.memory_disk.MemoryDisk.image.Goals as goal

pub returns-clause-may_be_left : goal.returns-clause-may_be_left
returns-clause-may_be_left c =
    let d = c.args.self.now in
    let nearest : c.in_ok-image.image ≡ image_by (state_of d) c.args.wish.now =
    c.in_ok-image.ensures ∙ ap (λ (s : StateParts). image_by s c.args.wish.now) (c.state.ensures ∙ ap state_of c.self.view_is) in
    subst (IsImage (state_of d)) (sym nearest) (image_by_is (state_of d) c.args.wish.now (contents_may_stay d))

pub returns-clause-any_image : goal.returns-clause-any_image
returns-clause-any_image c is =
    let d = c.args.self.now in
    c.in_ok-image.ensures
    ∙ ap (λ (s : StateParts). image_by s c.args.wish.now) (c.state.ensures ∙ ap state_of c.self.view_is)
    ∙ image_by_same (state_of d) c.args.wish.now is
