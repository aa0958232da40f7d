use Rattle.std.proofs.Common.{◌≡◌, Some, None, Ok, subst, sym, ap, ◌∙◌, rules}
use Rattle.ds_gql.specs.declared.draft.Draft.{Draft}
use Rattle.ds_tokens.specs.Pieces.{seen}
use Rattle.ds_gql.specs.Steps.{step}
use Rattle.ds_gql.proofs.ReadingLemmas.{LeftToRead, left-start, left-refused, left-ended, left-further, taken_not, taken_to}
use Rattle.ds_gql.proofs.parser.read.Goals as goal

pub tokens-init : goal.tokens-init
tokens-init c =
    (c.utf8.text, subst (λ (d : Draft). LeftToRead c.args.arguments.now c.args.text.now d c.args.text.now) (sym c.new-draft.ensures) (left-start c.args.arguments.now c.args.text.now))

pub returns-then-not-taken : goal.returns-then-not-taken
returns-then-not-taken c =
    let found = c.first-found.result in
    let none : step c.args.arguments.now c.tokens.draft (seen found.piece) ≡ None = taken_not _ _ _ c.in_ok-taken.ensures c.if-not-taken.true in
    left-refused c.tokens.invariant.1 c.skip_blanks-here.result.now c.skip_blanks-here.ensures (seen found.piece) found.rest.now c.first-found.ensures none

pub returns-then-is : goal.returns-then-is
returns-then-is c =
    let found = c.first-found.result in
    let some : step c.args.arguments.now c.tokens.draft (seen found.piece) ≡ Some c.step.new.self = taken_to _ _ _ c.in_ok-taken.ensures c.if-not-taken.false in
    left-ended c.tokens.invariant.1 c.skip_blanks-here.result.now c.skip_blanks-here.ensures (seen found.piece) found.rest.now c.first-found.ensures c.step.new.self some (sym c.is.ensures ∙ c.if-is.true)
    ∙ ap Ok (sym c.into_statement.ensures)

pub tokens-smaller : goal.tokens-smaller
tokens-smaller c =
    let found = c.first-found.result in
    let some : step c.args.arguments.now c.tokens.draft (seen found.piece) ≡ Some c.step.new.self = taken_to _ _ _ c.in_ok-taken.ensures c.if-not-taken.false in
    (left-further c.tokens.invariant.1 c.skip_blanks-here.result.now c.skip_blanks-here.ensures (seen found.piece) found.rest.now c.first-found.ensures c.step.new.self some (sym c.is.ensures ∙ c.if-is.false)).1

pub tokens-preserved : goal.tokens-preserved
tokens-preserved c =
    let found = c.first-found.result in
    let some : step c.args.arguments.now c.tokens.draft (seen found.piece) ≡ Some c.step.new.self = taken_to _ _ _ c.in_ok-taken.ensures c.if-not-taken.false in (
      search rules,
      (left-further c.tokens.invariant.1 c.skip_blanks-here.result.now c.skip_blanks-here.ensures (seen found.piece) found.rest.now c.first-found.ensures c.step.new.self some (sym c.is.ensures ∙ c.if-is.false)).0,
    )
