use Rattle.std.proofs.Common.{◌≡◌, ◌≤◌, length, refl, ap, sym, subst, ◌∙◌, arith}
use Rattle.std.specs.Prelude.{IfSome}
use Rattle.ds_shard.specs.Shards.{ShardParts, shard_of_entries}
use Rattle.ds_shard.specs.States.{StateParts}
use Rattle.ds_store_reads.proofs.KeptStamps.{gone_by}
use Rattle.ds_store_reads.proofs.looking_up.found_in.Goals as goal

pub shard_in-requires : goal.shard_in-requires
shard_in-requires g c =
    record { ledger = subst (λ o. IfSome o (λ (s : StateParts). s.ledger ≡ g.L.Ledger.parts)) (sym c.requires.start.1) refl }

pub keeps_stamp-requires-clause-window : goal.keeps_stamp-requires-clause-window
keeps_stamp-requires-clause-window g c =
    let known = c.args.slot.now.known in
    let whole = shard_of_entries g.J.Names.definitions g.J.Names.window known in
    let is : c.in_ok-shard.shard ≡ whole = c.in_ok-shard.ensures g.J.Names.definitions g.J.Names.window c.requires.start in
    let stands = c.entries_are_kept.ensures g.J.Names.definitions g.J.Names.window c.requires.window.1 known in
    ap (λ (s : ShardParts). s.window) is ∙ stands.window ∙ sym c.requires.window.0

pub keeps_stamp-requires-clause-stamp : goal.keeps_stamp-requires-clause-stamp
keeps_stamp-requires-clause-stamp g c =
    let known = c.args.slot.now.known in
    let whole = shard_of_entries g.J.Names.definitions g.J.Names.window known in
    let is : c.in_ok-shard.shard ≡ whole = c.in_ok-shard.ensures g.J.Names.definitions g.J.Names.window c.requires.start in
    let stands = c.entries_are_kept.ensures g.J.Names.definitions g.J.Names.window c.requires.window.1 known in
    let count = ap (λ (s : ShardParts). s.count) is ∙ stands.count in
    subst (λ n. c.args.entries ≤ n) (sym count) c.requires.entries

pub returns-then-not-keeps_stamp-clause-found : goal.returns-then-not-keeps_stamp-clause-found
returns-then-not-keeps_stamp-clause-found g c =
    let known = c.args.slot.now.known in
    let shard = c.in_ok-shard.shard in
    let whole = shard_of_entries g.J.Names.definitions g.J.Names.window known in
    let is : shard ≡ whole = c.in_ok-shard.ensures g.J.Names.definitions g.J.Names.window c.requires.start in
    let stands = c.entries_are_kept.ensures g.J.Names.definitions g.J.Names.window c.requires.window.1 known in
    let count : shard.count ≡ length known = ap (λ (s : ShardParts). s.count) is ∙ stands.count in
    let window : shard.window ≡ g.J.Names.window = ap (λ (s : ShardParts). s.window) is ∙ stands.window in
    let within : c.args.entries ≤ shard.count = subst (λ n. c.args.entries ≤ n) (sym count) c.requires.entries in
    let gone = gone_by shard c.args.entries within (sym c.keeps_stamp.ensures ∙ c.if-not-keeps_stamp.true) in
    (refl, c.count.ensures ∙ count, c.last.ensures ∙ ap (λ (s : ShardParts). s.last) is ∙ stands.last, omega (arith, gone, window, count))

pub returns-clause-found : goal.returns-clause-found
returns-clause-found g c =
    let known = c.args.slot.now.known in
    c.in_ok-entity.ensures.found g.J.Names.definitions g.J.Names.window known c.requires.window.1
    (c.in_ok-shard.ensures g.J.Names.definitions g.J.Names.window c.requires.start)
