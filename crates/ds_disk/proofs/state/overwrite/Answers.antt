use Rattle.std.proofs.Common.{◌≡◌, ◌+◌, ◌-◌, ◌++◌, replicate, length, take, arith, ap, ◌∙◌}
use Rattle.std.proofs.lemmas.List.{append-nil, take_all, drop_all}
use Rattle.ds_disk.proofs.StateLaws.{put_grown}
use Rattle.ds_disk.proofs.state.overwrite.Goals as goal

pub returns-clause-ok : goal.returns-clause-ok
returns-clause-ok c =
    let grown = c.grow.new.contents.items in
    let put = c.put.new.contents in
    let value = c.deref_mut.ensures.value in
    let long : length put ≡ length grown = c.put.auto.contents ∙ ap length value in
    let is_grown : c.deref_mut.result.now ≡ c.args.contents.now.items ++ replicate (c.args.at + length c.args.piece.now - length
    c.args.contents.now.items) 0 =
    value ∙ c.in_ok-grow.ensures.ok in
    ap (λ xs. take c.grow.new.contents.len (put ++ xs)) (drop_all (length put) grown (omega (arith, long)))
    ∙ ap (take c.grow.new.contents.len) (append-nil put)
    ∙ take_all c.grow.new.contents.len put (omega (arith, c.put.auto.contents, c.deref_mut.ensures.len))
    ∙ c.put.ensures
    ∙ put_grown c.args.contents.now.items c.args.piece.now c.deref_mut.result.now c.args.at c.requires.some is_grown
