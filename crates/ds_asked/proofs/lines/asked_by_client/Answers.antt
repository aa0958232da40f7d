use Rattle.std.proofs.Common.{◌≡◌, ◌+◌, ◌++◌, [], ◌∷◌, ◌∙◌, ap, length, refl, rules, subst}
use Rattle.std.proofs.lemmas.List.{nil_from_length}
use Rattle.ds_base.specs.Limits.{most_input_bytes}
use Rattle.ds_rounds.specs.Lines.{lines_of_chunks}
use Rattle.ds_asked.proofs.Asking.{AsksOn, asks-last, asks-more, asks-none, fits-front, fits-last, fits-more}
use Rattle.ds_asked.proofs.lines.asked_by_client.Goals as goal

pub loop-chunk-init : goal.loop-chunk-init
loop-chunk-init c = asks-none c.args.shards c.args.round.first _ _ c.in_ok-lists.lists.items refl c.in_ok-lists.ensures

pub ask_chunk-requires-clause-clients : goal.ask_chunk-requires-clause-clients
ask_chunk-requires-clause-clients c = c.loop-chunk.invariant.asked_by.clients

pub ask_chunk-requires-clause-numbers : goal.ask_chunk-requires-clause-numbers
ask_chunk-requires-clause-numbers c =
    let initial : c.into_iter-chunk-iterator.result.rest.items ≡ c.into_chunks-chunks.result.0.items = search rules in
    let rest : c.loop-chunk.chunk-iterator.rest.items ≡ c.in-Some.chunk ∷ c.next.new.self.rest.items = search rules in
    fits-more c.args.shards c.args.round.first (most_input_bytes + 1) (lines_of_chunks c.into_iter-chunk-iterator.result.rest.items)
    c.loop-chunk.number c.in-Some.chunk _ (lines_of_chunks c.next.new.self.rest.items) c.loop-chunk.lists.items
    (ap lines_of_chunks rest) c.loop-chunk.invariant
    (fits-front c.args.round.first (most_input_bytes + 1) (lines_of_chunks c.into_iter-chunk-iterator.result.rest.items)
    c.into_chunks-chunks.result.1 c.args.round.lines
    (ap (λ cs. lines_of_chunks cs ++ c.into_chunks-chunks.result.1) initial ∙ c.into_chunks-chunks.ensures) c.requires.numbers)

pub loop-chunk-preserved : goal.loop-chunk-preserved
loop-chunk-preserved c =
    let rest : c.loop-chunk.chunk-iterator.rest.items ≡ c.in-Some.chunk ∷ c.next.new.self.rest.items = search rules in
    asks-more c.args.shards c.args.round.first _ c.loop-chunk.number c.len.result c.in-Some.chunk _
    (lines_of_chunks c.next.new.self.rest.items) c.loop-chunk.lists.items c.ask_chunk.new.lists.items c.len.ensures
    (ap lines_of_chunks rest) c.loop-chunk.invariant c.in_ok-ask_chunk.ensures

pub ask_chunk-requires-2-clause-clients : goal.ask_chunk-requires-2-clause-clients
ask_chunk-requires-2-clause-clients c = c.loop-chunk.invariant.asked_by.clients

pub ask_chunk-requires-2-clause-numbers : goal.ask_chunk-requires-2-clause-numbers
ask_chunk-requires-2-clause-numbers c =
    let initial : c.into_iter-chunk-iterator.result.rest.items ≡ c.into_chunks-chunks.result.0.items = search rules in
    let none : length c.loop-chunk.chunk-iterator.rest.items ≡ 0 = search rules in
    let front = lines_of_chunks c.into_iter-chunk-iterator.result.rest.items in
    fits-last c.args.shards c.args.round.first (most_input_bytes + 1) front c.into_chunks-chunks.result.1 c.args.round.lines
    c.loop-chunk.number c.loop-chunk.lists.items
    (ap (λ cs. lines_of_chunks cs ++ c.into_chunks-chunks.result.1) initial ∙ c.into_chunks-chunks.ensures)
    (subst (λ cs. AsksOn c.args.shards c.args.round.first front c.loop-chunk.number (lines_of_chunks cs) c.loop-chunk.lists.items)
    (nil_from_length c.loop-chunk.chunk-iterator.rest.items none) c.loop-chunk.invariant) c.requires.numbers

pub returns : goal.returns
returns c =
    let initial : c.into_iter-chunk-iterator.result.rest.items ≡ c.into_chunks-chunks.result.0.items = search rules in
    let none : length c.loop-chunk.chunk-iterator.rest.items ≡ 0 = search rules in
    let front = lines_of_chunks c.into_iter-chunk-iterator.result.rest.items in
    asks-last c.args.shards c.args.round.first front c.into_chunks-chunks.result.1 c.args.round.lines c.loop-chunk.number
    c.loop-chunk.lists.items c.ask_chunk-2.new.lists.items
    (ap (λ cs. lines_of_chunks cs ++ c.into_chunks-chunks.result.1) initial ∙ c.into_chunks-chunks.ensures)
    (subst (λ cs. AsksOn c.args.shards c.args.round.first front c.loop-chunk.number (lines_of_chunks cs) c.loop-chunk.lists.items)
    (nil_from_length c.loop-chunk.chunk-iterator.rest.items none) c.loop-chunk.invariant) c.in_ok-ask_chunk-2.ensures
