-- Replies that tell of no commit and of no id.
use Rattle.std.specs.Prelude.{◌≡◌, []}
use Rattle.ds_reply.specs.declared.reply.Body.{Body}
use Rattle.ds_model.specs.Legal.{acknowledged_in, accepted_in, printed_next_in}

-- what a reply says acknowledges no commit, accepts no id and prints no id counter
pub record IsQuiet (b : Body) : Type 0 where
  pub acknowledges : acknowledged_in b ≡ []
  pub accepts : accepted_in b ≡ []
  pub prints : printed_next_in b ≡ []
